-- Bisection keeps the invariant.
use Rattle.std.proofs.Common.{rules, arith, ◌≡◌, ◌+◌, ◌≤◌}
use Rattle.cc_ast.specs.Source.{source}
use Rattle.cc_c_semantics.specs.Meaning.{source_behavior}
use Rattle.cc_c_semantics.specs.Outcome as outcome
use Rattle.cc_steps.proofs.Counting.{counted, goes_until}
use Rattle.cc_steps.proofs.count.least.Goals as goal

pub loop-low-preserved-then-branch : goal.loop-low-preserved-then-branch
loop-low-preserved-then-branch c =
    let i = c.loop-low.invariant in
    let tried = c.loop-low.low + c.min.result in
    let here : (source_behavior (source c.args.unit.now) c.args.input.now tried).stop ≡ outcome.Going = search rules in
    let next : tried + 1 ≤ c.loop-low.high = search rules in record {
      in_order = next;
      within = i.within;
      before = λ n less. goes_until c.runs_go_on.ensures (source c.args.unit.now) c.args.input.now tried here n less;
      over = i.over;
    }

pub returns : goal.returns
returns c =
    let i = c.loop-low.invariant in
    let top : c.loop-low.high ≤ c.loop-low.low = search rules in
    counted c.runs_go_on.ensures (source c.args.unit.now) c.args.input.now c.args.bound c.loop-low.high i.within (λ n less. i.before n (omega (arith, less, top))) i.over
