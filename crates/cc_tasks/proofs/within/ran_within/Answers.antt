use Rattle.std.specs.Arc.{arc_value}
use Rattle.cc_ast.specs.Source.{source}
use Rattle.cc_tasks.proofs.within.ran_within.Goals as goal

pub returns-in-Ok-interpret_within-clause-answer : goal.returns-in-Ok-interpret_within-clause-answer
returns-in-Ok-interpret_within-clause-answer c = (
  record {
    program = source (arc_value c.in-Ok.program);
    whose = c.in-Ok.ensures.text;
    is = c.in-Ok.ensures.program;
  },
  (let done = c.in-Ok-interpret_within.ensures.outcome in let same = c.deref.ensures in cc),
)
