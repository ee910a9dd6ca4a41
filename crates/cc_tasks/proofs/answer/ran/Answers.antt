use Rattle.std.specs.Arc.{arc_value}
use Rattle.cc_ast.specs.Source.{source}
use Rattle.cc_tasks.proofs.answer.ran.Goals as goal

pub returns-in-Ok-interpret-clause-answer : goal.returns-in-Ok-interpret-clause-answer
returns-in-Ok-interpret-clause-answer c = (
  record {
    program = source (arc_value c.in-Ok.program);
    whose = c.in-Ok.ensures.text;
    is = c.in-Ok.ensures.program;
  },
  (let done = c.in-Ok-interpret.ensures in let same = c.deref.ensures in cc),
)
