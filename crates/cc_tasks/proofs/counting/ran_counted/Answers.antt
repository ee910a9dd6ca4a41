use Rattle.std.proofs.Common.{subst}
use Rattle.std.specs.Arc.{arc_value}
use Rattle.cc_ast.specs.Source.{source}
use Rattle.cc_ast.specs.declared.unit.Unit as parsed
use Rattle.cc_steps.specs.Count.{IsStepCount}
use Rattle.cc_tasks.proofs.counting.ran_counted.Goals as goal

pub returns-in-Ok-interpret_counted-clause-answer : goal.returns-in-Ok-interpret_counted-clause-answer
returns-in-Ok-interpret_counted-clause-answer c = (
  record {
    program = source (arc_value c.in-Ok.program);
    whose = c.in-Ok.ensures.text;
    is = c.in-Ok.ensures.program;
  },
  (let done = c.in-Ok-interpret_counted.ensures.outcome in let same = c.deref.ensures in cc),
  subst (λ (u : parsed.Unit). IsStepCount (source u) c.args.steps c.args.words.now c.in-Ok-interpret_counted.outcome.steps) c.deref.ensures c.in-Ok-interpret_counted.ensures.count,
)
