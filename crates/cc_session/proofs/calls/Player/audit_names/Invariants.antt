-- If the names from here on are audited, then, with those that were audited before, all are audited.
use Rattle.std.proofs.Common.{Bool, drop}
use Rattle.cc_session.specs.Playing.{AuditsEach, Talk, talk}
use Rattle.cc_session.proofs.calls.Player.audit_names.Given as goal

abbrev pub invariant-loop-name : goal.invariant-loop-name
invariant-loop-name g l = record {
  onward : (all : Bool) (new : Talk) → AuditsEach l.self.mode (drop l.name-index l.names) all (talk l.client.member (g.W.Write.contents l.answers)) new
      → AuditsEach l.self.mode l.names all (talk l.initial.client.member (g.W.Write.contents l.initial.answers)) new;
}
