-- The scripts taken so far are done and answered.
use Rattle.cc_session.specs.Spooling.{HasDone, given_by}
use Rattle.cc_session.proofs.attending.attend.Given as goal

abbrev pub invariant-loop : goal.invariant-loop
invariant-loop g l =
    HasDone l.mode (given_by g.S.Spool.taken g.S.Spool.ended l.initial.spool) l.initial.client.member (given_by g.S.Spool.taken g.S.Spool.ended l.spool) l.client.member
