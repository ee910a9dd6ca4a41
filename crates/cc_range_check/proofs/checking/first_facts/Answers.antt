-- One more variable that is 0.
use Rattle.std.proofs.Common.{◌≡◌, ◌+◌, ◌-◌, ◌++◌, ◌∙◌, ◌∷◌, [], ℕ, suc, ap, arith}
use Rattle.std.specs.Prelude.{replicate}
use Rattle.cc_range.specs.declared.range.Range.{Range}
use Rattle.cc_range.specs.Range.{only}
use Rattle.cc_range_check.proofs.Lists.{one_more}
use Rattle.cc_range_check.proofs.checking.first_facts.Goals as goal

pub loop-preserved : goal.loop-preserved
loop-preserved c =
    let row = c.args.row.now in
    let n = row.locals - c.loop.counter in
    let m = row.locals - (c.loop.counter + 1) in
    let more : n ≡ suc m = omega (arith, c.loop-test.true) in
    one_more c.loop.variables.items c.push.new.self.items (only 0) (replicate n (only 0)) (replicate m (only 0)) (row.parameters.items ++ replicate row.locals (only 0))
    (c.in_ok-push.ensures.items ∙ ap (λ (r : Range). c.loop.variables.items ++ r ∷ []) c.only.ensures) (ap (λ (k : ℕ). replicate k (only 0)) more) c.loop.invariant
