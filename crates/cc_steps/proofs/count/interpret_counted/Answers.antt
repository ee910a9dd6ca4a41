-- If the run is still going, the count is the bound.
use Rattle.std.proofs.Common.{rules, ◌≡◌}
use Rattle.cc_ast.specs.Source.{source}
use Rattle.cc_c_semantics.specs.Meaning.{source_behavior}
use Rattle.cc_c_semantics.specs.Outcome as outcome
use Rattle.cc_steps.proofs.Counting.{unended}
use Rattle.cc_steps.proofs.count.interpret_counted.Goals as goal

pub returns-then-is_going-clause-count : goal.returns-then-is_going-clause-count
returns-then-is_going-clause-count c =
    let going : (source_behavior (source c.args.unit.now) c.args.input.now c.args.steps).stop ≡ outcome.Going = search rules in
    unended c.runs_go_on.ensures (source c.args.unit.now) c.args.input.now c.args.steps going
