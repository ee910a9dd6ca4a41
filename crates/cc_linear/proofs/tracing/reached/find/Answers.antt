use Rattle.std.proofs.Common.{arith, sym, ◌∙◌, subst, ◌≡◌, get_or}
use Rattle.std.specs.Prelude.{true, false, set}
use Rattle.std.specs.List.{Contains}
use Rattle.std.proofs.lemmas.List.{get_or_default}
use Rattle.std.proofs.lemmas.List.Elements.{Contains-push}
use Rattle.cc_linear.specs.internal.Reached.{Found}
use Rattle.cc_linear.proofs.Finding.{found_more}
use Rattle.cc_linear.proofs.tracing.reached.find.Goals as goal

pub returns-in_ok-push-clause-found : goal.returns-in_ok-push-clause-found
returns-in_ok-push-clause-found c =
    let seen = c.args.seen.now.items in
    let label = c.args.label in
    let fresh : get_or seen label false ≡ false = sym (c.index.ensures ∙ get_or_default seen label c.index.result.now false (omega arith)) ∙ c.if-not-index.true in
    subst (Found (set seen label true)) (sym c.in_ok-push.ensures.items) (found_more seen c.args.found.now.items label c.requires.label fresh c.requires.found)

pub returns-in_ok-push-clause-there : goal.returns-in_ok-push-clause-there
returns-in_ok-push-clause-there c = subst (λ xs. Contains xs c.args.label) (sym c.in_ok-push.ensures.items) (Contains-push c.args.found.now.items c.args.label)
