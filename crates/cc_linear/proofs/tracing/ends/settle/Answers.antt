use Rattle.std.proofs.Common.{arith, sym, ◌∙◌, subst, ◌≡◌, ◌<◌, length, get_or}
use Rattle.std.specs.Prelude.{set, true, false}
use Rattle.std.proofs.lemmas.List.{get_or_default}
use Rattle.cc_linear.specs.internal.Ends.{Sound}
use Rattle.cc_linear.proofs.Settling.{settled}
use Rattle.cc_linear.proofs.tracing.ends.settle.Goals as goal

pub returns-then-index-clause-sound : goal.returns-then-index-clause-sound
returns-then-index-clause-sound c =
    let ends = c.args.ends.now.items in
    let known = c.args.known.now.items in
    let label = c.args.label in
    let after = get_or c.args.next.now label 0 in
    let inside : after < length c.args.next.now = c.requires.inside label 0 c.requires.label in
    let end_is = c.index-then-index.ensures ∙ get_or_default ends after c.index-then-index.result.now 0 (omega arith) in
    let fresh : get_or known label false ≡ false = sym (c.index.ensures ∙ get_or_default known label c.index.result.now false (omega arith)) ∙ c.if-not-index.true in
    let nearer : get_or known after false ≡ true = sym (c.index-then-not-index.ensures ∙ get_or_default known after c.index-then-not-index.result.now false (omega arith)) ∙ c.if-index.true in
    subst (λ v. Sound c.args.next.now (set known label true) (set ends label v)) (sym end_is) (settled c.args.next.now known ends label (omega arith) (omega arith) fresh nearer c.requires.sound)
