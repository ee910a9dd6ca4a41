use Rattle.std.proofs.Common.{◌≡◌, ◌<◌, length, sym, ap, ◌∙◌, subst}
use Rattle.std.specs.List.{AllByRecursion}
use Rattle.cc_emit.specs.Emission.{framed_items}
use Rattle.cc_emit.specs.Function.{items_with}
use Rattle.cc_emit.specs.Scratch.{nothing, addressed}
use Rattle.cc_emit.specs.internal.Bases.{base_in}
use Rattle.cc_emit.specs.internal.Behind.{LeadsBelow}
use Rattle.cc_emit.proofs.Bridging.{leads_all}
use Rattle.cc_emit.proofs.emission.whole_items.Goals as goal

pub put_code-requires-clause-leads : goal.put_code-requires-clause-leads
put_code-requires-clause-leads c =
    let code = c.args.code.now in
    let sets_pointer = c.in_ok-steps.sets_pointer in
    let count = length c.in_ok-places.places.first.items in
    let all : AllByRecursion (λ label. label < count) c.requires.fit.1 = subst (λ n. AllByRecursion (λ label. label < n) c.requires.fit.1) (sym c.in_ok-places.ensures.labels) c.requires.fit.2 in
    let steps : c.as_slice-2.result.now ≡ addressed (base_in c.args.bases.now) sets_pointer nothing code = c.as_slice-2.ensures.value ∙ c.in_ok-steps.ensures.steps in
    subst (AllByRecursion (LeadsBelow count)) (sym steps) (leads_all count c.args.slots c.requires.fit.0 c.requires.fit.1 (base_in c.args.bases.now) sets_pointer nothing code all c.requires.fit.3)

pub returns : goal.returns
returns c =
    let base = base_in c.args.bases.now in
    let code = c.args.code.now in
    let frame = c.in_ok-frame.frame in
    let sets_pointer = c.in_ok-steps.sets_pointer in
    let steps : c.as_slice-2.result.now ≡ addressed base sets_pointer nothing code = c.as_slice-2.ensures.value ∙ c.in_ok-steps.ensures.steps in
    c.in_ok-put_code.ensures ∙ ap (framed_items base frame) steps ∙ ap (λ f. framed_items base f (addressed base sets_pointer nothing code)) c.in_ok-frame.ensures
    ∙ ap (λ b. items_with base b c.args.slots code) c.in_ok-steps.ensures.gains
