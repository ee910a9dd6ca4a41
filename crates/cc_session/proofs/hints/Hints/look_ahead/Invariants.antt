-- The client has made no call.
use Rattle.std.proofs.Common.{◌≡◌}
use Rattle.cc_session.proofs.hints.Hints.look_ahead.Given as goal

abbrev pub invariant-loop : goal.invariant-loop
invariant-loop g l = l.client.member ≡ l.fn.client.member
