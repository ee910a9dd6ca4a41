use Rattle.std.proofs.Common.{◌+◌, refl, sym, subst}
use Rattle.cc_emit.proofs.Kept.{Found, found_first, found_more, found_none, found_all}
use Rattle.cc_emit.proofs.frame.written.Goals.{in-Some, in_default}
use Rattle.cc_emit.proofs.frame.written.Goals as goal

pub loop-step-init : goal.loop-step-init
loop-step-init c = found_first c.args.code.now _ refl

pub loop-step-preserved : goal.loop-step-preserved
loop-step-preserved c =
    let code = c.args.code.now in
    let i = c.loop-step.step-index in
    elim c.match-target.branch [
      | in-Some w ↦
          subst (λ xs. Found code (i + 1) xs) (sym w.written-is)
          (found_more code i _ c.step-item.result c.target.result c.loop-step.written c.loop-step-test.true c.step-item.is w.in-Some.is c.target.ensures c.loop-step.invariant)
      | in_default w ↦
          subst (λ xs. Found code (i + 1) xs) (sym w.written-is)
          (found_none code i c.step-item.result c.target.result c.loop-step.written c.loop-step-test.true c.step-item.is w.in_default.not-Some c.target.ensures c.loop-step.invariant)
    ]

pub returns : goal.returns
returns c = found_all c.args.code.now c.loop-step.step-index c.loop-step.written c.loop-step-test.false c.loop-step.invariant
