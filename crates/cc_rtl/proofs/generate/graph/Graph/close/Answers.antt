-- The place is there, and gets its node.
use Rattle.std.proofs.Common.{◌≡◌, ◌∙◌, ap, sym, subst, length, set, Some, arith}
use Rattle.cc_rtl_language.specs.Rtl as rtl
use Rattle.cc_rtl_language.specs.declared.node.Node.TheVariants.{Nop}
use Rattle.cc_rtl.specs.internal.Generate.{Places}
use Rattle.cc_rtl.specs.internal.Generating.{places_of, AreCountedDown}
use Rattle.cc_rtl.proofs.Making.{length_places, place_there, place_set, counted_with_item, length_with_item}
use Rattle.cc_rtl.proofs.generate.graph.Graph.close.Goals as goal

pub replace-requires : goal.replace-requires
replace-requires c =
    let es = c.self.inside.places.entries in
    let long : length es ≡ length c.args.self.now = sym (length_places es) ∙ ap (λ (g : Places). length g) c.self.view_is in
    place_there es c.args.head c.self.invariant.1 (let r = c.requires in omega (arith, r, long))

pub invariant_of-self : goal.invariant_of-self
invariant_of-self c =
    let es = c.self.inside.places.entries in
    subst (λ l. (l.given ≡ length l.entries) × AreCountedDown l.entries) (sym c.replace.ensures.list)
    (c.self.invariant.0 ∙ sym (length_with_item es c.args.head (Some (Nop c.args.first))), counted_with_item es c.args.head (Some (Nop c.args.first)) c.self.invariant.1)

pub returns : goal.returns
returns c =
    let es = c.self.inside.places.entries in
    let long : length es ≡ length c.args.self.now = sym (length_places es) ∙ ap (λ (g : Places). length g) c.self.view_is in
    ap (λ l. places_of l.entries) c.replace.ensures.list
    ∙ place_set es c.args.head (Some (Nop c.args.first)) c.self.invariant.1 (let r = c.requires in omega (arith, r, long))
    ∙ ap (λ (g : Places). set g c.args.head (Some (rtl.Nop c.args.first))) c.self.view_is
