-- No spool was asked for a script or handed an answer, and each so far is over.
use Rattle.std.proofs.Common.{◌≡◌, map}
use Rattle.std.specs.List.{AllWithin}
use Rattle.cc_session.specs.Spooling.{given_by}
use Rattle.cc_session.proofs.generations.are_over.Given as goal

abbrev pub invariant-loop-i : goal.invariant-loop-i
invariant-loop-i g l = record {
  over : AllWithin g.S.Spool.over l.spools 0 l.i;
  given : map (given_by g.S.Spool.taken g.S.Spool.ended) l.spools ≡ map (given_by g.S.Spool.taken g.S.Spool.ended) l.initial.spools;
}
