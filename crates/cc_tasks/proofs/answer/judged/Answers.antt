use Rattle.std.specs.Arc.{arc_value}
use Rattle.cc_ast.specs.Source.{source}
use Rattle.cc_tasks.proofs.answer.judged.Goals as goal

pub returns-in-Ok-judge-clause-answer : goal.returns-in-Ok-judge-clause-answer
returns-in-Ok-judge-clause-answer c = (
  record {
    program = source (arc_value c.in-Ok.program);
    whose = c.in-Ok.ensures.text;
    is = c.in-Ok.ensures.program;
  },
  c.in-Ok-judge.ensures,
)
