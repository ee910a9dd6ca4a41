use Rattle.std.specs.Arc.{arc_value}
use Rattle.cc_ast.specs.Source.{source}
use Rattle.cc_tasks.proofs.answer.accepted.Goals as goal

pub returns-clause-answer : goal.returns-clause-answer
returns-clause-answer c = record {
  program = source (arc_value c.in-Ok.program);
  whose = c.in-Ok.ensures.text;
  is = c.in-Ok.ensures.program;
}
