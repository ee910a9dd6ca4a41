-- One more zero is tested.
use Rattle.std.proofs.Common.{◌≡◌, ◌+◌, ◌-◌, ◌∙◌, ℕ, suc, sym, ap, arith}
use Rattle.std.specs.Prelude.{◌&&◌, replicate}
use Rattle.cc_range_check.specs.Checking.{is_in, each_in}
use Rattle.cc_range_check.proofs.Lists.{held_true, held_false}
use Rattle.cc_range_check.proofs.initial.zeros_in.Goals as goal
use Rattle.cc_range_check.proofs.initial.zeros_in.Goals.{then-within, else-within}

pub loop-preserved : goal.loop-preserved
loop-preserved c =
    let r = c.args.range in
    let n = c.args.count - c.loop.counter in
    let m = c.args.count - (c.loop.counter + 1) in
    let a = c.loop.within in
    let more : n ≡ suc m = omega (arith, c.loop-test.true) in
    let e = ap (λ (k : ℕ). a && each_in r (replicate k 0)) more in
    let rest = each_in r (replicate m 0) in
    let whole = each_in r (replicate c.args.count 0) in
    elim c.if-within.branch [
      | then-within w ↦ held_true a (is_in r 0) rest whole c.if-within.within (w.within-is ∙ w.is_in-within.ensures) w.if-within.true (sym e ∙ c.loop.invariant)
      | else-within w ↦ held_false a (is_in r 0) rest whole c.if-within.within (w.within-is ∙ w.if-within.false) w.if-within.false (sym e ∙ c.loop.invariant)
    ]
