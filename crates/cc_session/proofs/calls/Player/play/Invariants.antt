-- The lines so far are done and their answers written; each has at least one byte, and there are no more than
-- allowed. The receipts were counted up to the last line.
use Rattle.cc_history.specs.History.{MemberView}
use Rattle.cc_script.specs.Reading.{Between}
use Rattle.cc_session.specs.Playing.{Grows, talk}
use Rattle.cc_session.specs.internal.Steps.{CountsSince}
use Rattle.cc_session.proofs.Lines.{Played}
use Rattle.cc_session.proofs.calls.Player.play.Given as goal

abbrev pub invariant-loop-lines : goal.invariant-loop-lines
invariant-loop-lines g l = record {
  played : Between l.initial.script l.script (Played l.self.mode l.dialect l.self.most l.lines (talk l.initial.client.member (g.W.Write.contents l.initial.answers)) (talk l.client.member (g.W.Write.contents l.answers)));
  grows : Grows l.initial.client.member l.client.member;
  counts : (old : MemberView) × CountsSince l.initial.client.member.receipts old.receipts l.held × Grows old l.client.member;
}
