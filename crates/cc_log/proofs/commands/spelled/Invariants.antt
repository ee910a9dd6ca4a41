-- The bodies so far spell the commands so far.
use Rattle.std.proofs.Common.{take}
use Rattle.cc_library.specs.Recovered.{AreSpelled}
use Rattle.cc_log.proofs.commands.spelled.Given as goal

abbrev pub invariant-loop-body : goal.invariant-loop-body
invariant-loop-body l = AreSpelled (take l.body-index l.bodies) l.commands.items
