-- No spool was asked for a script or handed an answer.
use Rattle.std.proofs.Common.{◌≡◌, map}
use Rattle.cc_session.specs.Spooling.{given_by}
use Rattle.cc_session.proofs.generations.rest.Given as goal

abbrev pub invariant-loop : goal.invariant-loop
invariant-loop g l = map (given_by g.S.Spool.taken g.S.Spool.ended) l.spools ≡ map (given_by g.S.Spool.taken g.S.Spool.ended) l.initial.spools
