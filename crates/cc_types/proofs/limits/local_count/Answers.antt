-- No local is past the largest number that a `usize` can hold.
use Rattle.cc_ast.specs.Erase.{statements_of}
use Rattle.cc_types.specs.Limits.{locals}
use Rattle.cc_types.proofs.Counting.{count-is}
use Rattle.cc_types.proofs.limits.local_count.Goals as goal

pub returns-in-None : goal.returns-in-None
returns-in-None c = count-is _ c.count_locals.new.count c.new-count.result (locals (statements_of c.args.body.now)) c.new-count.ensures c.count_locals.ensures c.in-None.is
