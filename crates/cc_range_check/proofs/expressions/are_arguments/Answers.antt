-- With another number of arguments they are not the parameters'.
use Rattle.cc_range_check.specs.Values.{facts_of}
use Rattle.cc_range_check.proofs.Lists.{other_count}
use Rattle.cc_range_check.proofs.expressions.are_arguments.Goals as goal

pub returns-then-es-parameters : goal.returns-then-es-parameters
returns-then-es-parameters c = other_count (facts_of c.args.facts.now) c.args.es.now c.args.parameters.now c.if-es-parameters.true
