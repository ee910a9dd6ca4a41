-- The generations so far ended as `ServesOn` says, the first one well. Nothing is written.
use Rattle.std.proofs.Common.{◌≡◌, ℕ, map}
use Rattle.cc_session.specs.Generations.{ServesOn}
use Rattle.cc_session.specs.Spooling.{ServingEnds, given_by}
use Rattle.cc_session.proofs.Chains.{BeginsWell}
use Rattle.cc_session.proofs.generations.serve_on.Given as goal

abbrev pub invariant-loop : goal.invariant-loop
invariant-loop g l =
    let D = g.D.Disk in
    let by = given_by g.S.Spool.taken g.S.Spool.ended in
    (earlier : ℕ)
    × ServesOn (ServingEnds l.mode D) earlier (map by l.fn.spools.items) (map by l.left.spools.items) l.fn.disk l.left.disk l.left.end
    × BeginsWell earlier l.left.end
    × (g.W.Write.contents l.writer ≡ g.W.Write.contents l.initial.writer)
