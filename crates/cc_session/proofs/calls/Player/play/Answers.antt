-- Each line is a step. If the script stopped, its client is as these steps left it, or has made one more call, whose answer could
-- not be written.
use Rattle.std.proofs.Common.{rules, ◌<◌, refl}
use Rattle.cc_session.specs.Playing.{talk}
use Rattle.cc_session.proofs.Growing.{grows_on, grows_same}
use Rattle.cc_session.proofs.Lines.{IsHaltedBy, begins, line_follows, line_on, lines_end, no_line_ends, obey_ends, script_ends, skip_ends, skip_on}
use Rattle.cc_session.proofs.calls.Player.play.Goals.{in-Line+in_ok-obey-in-Line, in-TooLong+in_ok-refuse_and_skip-in-TooLong}
use Rattle.cc_session.proofs.calls.Player.play.Goals as goal

pub returns-in_err-length-clause-halted : goal.returns-in_err-length-clause-halted
returns-in_err-length-clause-halted g c =
    let before = c.loop-lines.invariant.counts in
    let counted = c.count.ensures c.args.client.now.member before.0 before.1 before.2 in
    let limit = c.limit-limit.ensures c.args.client.now.member c.loop-lines.client.member counted in
    let start = (talk c.args.client.now.member (g.W.Write.contents c.args.answers.now)) in
    let now = (talk c.loop-lines.client.member (g.W.Write.contents c.loop-lines.answers)) in
    let why : IsHaltedBy c.args.self.now.mode c.args.dialect c.args.self.now.most c.args.script.now.rest start now c.in_err-length.field-0.0 =
    no_line_ends c.args.self.now.mode c.args.dialect c.args.self.now.most c.args.script.now c.loop-lines.script c.loop-lines.lines start now c.next_line.new.self.left c.limit-limit.result _ c.requires c.loop-lines.invariant.played limit c.in_err-length.ensures.refused in
    search (rules, why)

pub returns-in_err-length-clause-grows : goal.returns-in_err-length-clause-grows
returns-in_err-length-clause-grows g c = c.loop-lines.invariant.grows

pub returns-in_err-obey-in-Line-clause-halted : goal.returns-in_err-obey-in-Line-clause-halted
returns-in_err-obey-in-Line-clause-halted g c =
    let before = c.loop-lines.invariant.counts in
    let counted = c.count.ensures c.args.client.now.member before.0 before.1 before.2 in
    let limit = c.limit-limit.ensures c.args.client.now.member c.loop-lines.client.member counted in
    let next = rw c.in-Line.is at c.in_ok-length.ensures.bytes in
    let few = rw c.in-Line.is at c.in_ok-length.ensures.within in
    let more = line_follows c.args.self.now.most c.args.client.now.member c.loop-lines.lines c.loop-lines.client.member c.limit-limit.result limit (rw c.in-Line.is at c.in_ok-length.ensures.few) in
    let start = (talk c.args.client.now.member (g.W.Write.contents c.args.answers.now)) in
    let now = (talk c.loop-lines.client.member (g.W.Write.contents c.loop-lines.answers)) in
    let last = (talk c.obey.new.client.member (g.W.Write.contents c.obey.new.answers)) in
    let why : IsHaltedBy c.args.self.now.mode c.args.dialect c.args.self.now.most c.args.script.now.rest start last c.in_err-obey-in-Line.field-0.0 =
    obey_ends c.args.self.now.mode c.args.dialect c.args.self.now.most c.args.script.now c.loop-lines.script c.next_line.new.self c.loop-lines.lines start now last c.in-Line.length c.next_line.new.line _
    few more c.requires c.loop-lines.invariant.played next c.in_err-obey-in-Line.ensures.done in
    search (rules, why)

pub returns-in_err-obey-in-Line-clause-grows : goal.returns-in_err-obey-in-Line-clause-grows
returns-in_err-obey-in-Line-clause-grows g c = grows_on c.args.client.now.member c.loop-lines.client.member c.obey.new.client.member c.loop-lines.invariant.grows c.obey.ensures.grows

pub returns-in_err-refuse_and_skip-in-TooLong-clause-halted : goal.returns-in_err-refuse_and_skip-in-TooLong-clause-halted
returns-in_err-refuse_and_skip-in-TooLong-clause-halted g c =
    let next = rw c.in-TooLong.is at c.in_ok-length.ensures.bytes in
    let start = (talk c.args.client.now.member (g.W.Write.contents c.args.answers.now)) in
    let now = (talk c.loop-lines.client.member (g.W.Write.contents c.loop-lines.answers)) in
    let last = (talk c.loop-lines.client.member (g.W.Write.contents c.refuse_and_skip.new.answers)) in
    let why : IsHaltedBy c.args.self.now.mode c.args.dialect c.args.self.now.most c.args.script.now.rest start last c.in_err-refuse_and_skip-in-TooLong.field-0.0 =
    skip_ends c.args.self.now.mode c.args.dialect c.args.self.now.most c.args.script.now c.loop-lines.script c.next_line.new.self c.loop-lines.lines start now last c.next_line.new.line c.refuse_and_skip.new.self.left _
    c.requires refl c.loop-lines.invariant.played next c.in_err-refuse_and_skip-in-TooLong.ensures.refused in
    search (rules, why)

pub returns-in_err-refuse_and_skip-in-TooLong-clause-grows : goal.returns-in_err-refuse_and_skip-in-TooLong-clause-grows
returns-in_err-refuse_and_skip-in-TooLong-clause-grows g c = c.loop-lines.invariant.grows

pub returns-in-End-clause-halted : goal.returns-in-End-clause-halted
returns-in-End-clause-halted g c =
    let next = rw c.in-End.is at c.in_ok-length.ensures.bytes in
    script_ends c.args.self.now.mode c.args.dialect c.args.self.now.most c.args.script.now c.loop-lines.script c.next_line.new.self c.loop-lines.lines (talk c.args.client.now.member (g.W.Write.contents c.args.answers.now)) (talk c.loop-lines.client.member (g.W.Write.contents c.loop-lines.answers)) c.next_line.new.line c.loop-lines.invariant.played next

pub returns-in-End-clause-grows : goal.returns-in-End-clause-grows
returns-in-End-clause-grows g c = c.loop-lines.invariant.grows

pub returns-clause-halted : goal.returns-clause-halted
returns-clause-halted g c =
    let many : 16777216 < c.loop-lines.lines = search rules in
    lines_end c.args.self.now.mode c.args.dialect c.args.self.now.most c.args.script.now c.loop-lines.script c.loop-lines.lines (talk c.args.client.now.member (g.W.Write.contents c.args.answers.now)) (talk c.loop-lines.client.member (g.W.Write.contents c.loop-lines.answers)) many c.loop-lines.invariant.played

pub returns-clause-grows : goal.returns-clause-grows
returns-clause-grows g c = c.loop-lines.invariant.grows

pub loop-lines-init : goal.loop-lines-init
loop-lines-init g c = record {
  played = begins c.args.self.now.mode c.args.dialect c.args.self.now.most c.args.script.now (talk c.args.client.now.member (g.W.Write.contents c.args.answers.now));
  grows = grows_same c.args.client.now.member c.args.client.now.member refl;
  counts = (c.args.client.now.member, c.new-held.ensures, grows_same c.args.client.now.member c.args.client.now.member refl);
}

pub loop-lines-preserved : goal.loop-lines-preserved
loop-lines-preserved g c =
    let before = c.loop-lines.invariant.counts in
    let counted = c.count.ensures c.args.client.now.member before.0 before.1 before.2 in
    let limit = c.limit-limit.ensures c.args.client.now.member c.loop-lines.client.member counted in
    record {
      played = elim c.match-branch-2.branch [
        | in-Line+in_ok-obey-in-Line w ↦
            let next = rw w.in-Line.is at c.in_ok-length.ensures.bytes in
            let few = rw w.in-Line.is at c.in_ok-length.ensures.within in
            let none = rw w.in-Line.is at c.in_ok-length.ensures.few in
            let more = line_follows c.args.self.now.most c.args.client.now.member c.loop-lines.lines c.loop-lines.client.member c.limit-limit.result limit none in
            rw (w.client-is, w.script-is, w.answers-is)
            (line_on c.args.self.now.mode _ _ _ _ _ _ c.loop-lines.lines _ (talk c.loop-lines.client.member (g.W.Write.contents c.loop-lines.answers)) _ w.in-Line.length c.next_line.new.line few more c.loop-lines.invariant.played next w.in_ok-obey-in-Line.ensures.done)
        | in-TooLong+in_ok-refuse_and_skip-in-TooLong w ↦
            let next = rw w.in-TooLong.is at c.in_ok-length.ensures.bytes in
            let none = rw w.in-TooLong.is at c.in_ok-length.ensures.few in
            let more = line_follows c.args.self.now.most c.args.client.now.member c.loop-lines.lines c.loop-lines.client.member c.limit-limit.result limit none in
            rw (w.client-is, w.script-is, w.answers-is)
            (skip_on c.args.self.now.mode _ _ _ _ _ _ c.loop-lines.lines _ (talk c.loop-lines.client.member (g.W.Write.contents c.loop-lines.answers)) _ c.next_line.new.line more c.loop-lines.invariant.played next w.in_ok-refuse_and_skip-in-TooLong.ensures.bytes
            (refl, w.in_ok-refuse_and_skip-in-TooLong.ensures.written))
      ];
      grows = elim c.match-branch-2.branch [
        | in-Line+in_ok-obey-in-Line w ↦
            rw w.client-is (grows_on c.args.client.now.member c.loop-lines.client.member _ c.loop-lines.invariant.grows w.obey.ensures.grows)
        | in-TooLong+in_ok-refuse_and_skip-in-TooLong w ↦ rw w.client-is c.loop-lines.invariant.grows
      ];
      counts = (
        c.loop-lines.client.member,
        counted,
        elim c.match-branch-2.branch [
          | in-Line+in_ok-obey-in-Line w ↦ rw w.client-is w.obey.ensures.grows
          | in-TooLong+in_ok-refuse_and_skip-in-TooLong w ↦ rw w.client-is (grows_same c.loop-lines.client.member c.loop-lines.client.member refl)
        ],
      );
    }
