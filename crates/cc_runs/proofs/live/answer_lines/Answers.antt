-- One more line is answered; what follows depends on its answer.
use Rattle.std.proofs.Common.{◌≡◌, ◌∙◌, ℕ, ◌-◌, ◌^◌, List, Some, None, sym, subst, arith}
use Rattle.std.proofs.lemmas.Option.{IfSome_then}
use Rattle.cc_runs.specs.Live.{GoesLive}
use Rattle.cc_runs.specs.Reading.{IsNextLine}
use Rattle.cc_runs.specs.declared.live.LiveEnd.{LiveEnd}
use Rattle.cc_runs.specs.internal.Turning.{AnswersLive}
use Rattle.cc_runs.proofs.Turns.{ends_here, ends_input, ends_uncounted, ends_unread, gone_known, gone_more}
use Rattle.cc_runs.proofs.live.answer_lines.Goals as goal

pub loop-number-init : goal.loop-number-init
loop-number-init g c = gone_known (g.R.Read.remaining c.args.reader.now) c.args.steps c.args.left c.args.machine.now (g.W.Write.contents c.args.writer.now)

pub loop-number-preserved : goal.loop-number-preserved
loop-number-preserved g c =
    let R = g.R.Read in
    let W = g.W.Write in
    let bytes = c.next_line.new.line.items in
    let there : IsNextLine (R.remaining c.loop-number.reader) (R.remaining c.next_line.new.reader) bytes (Some c.in-Ok-Some.read) = rw c.in-Ok-Some.field-0-is at c.in-Ok-Some.ensures in
    let one : AnswersLive c.loop-number.left c.in-Ok-Some.read bytes c.loop-number.machine c.tell_line.new.machine (W.contents c.loop-number.writer) (W.contents c.tell_line.new.writer) c.in-Ok.turn =
    subst (λ (l : List ℕ). AnswersLive c.loop-number.left c.in-Ok-Some.read l c.loop-number.machine c.tell_line.new.machine (W.contents c.loop-number.writer) (W.contents c.tell_line.new.writer) c.in-Ok.turn)
    c.as_slice-bytes.ensures.value c.in-Ok.ensures in
    IfSome_then (R.remaining c.args.reader.now) c.loop-number.invariant (λ input gone image b.
    gone_more image c.args.steps input (W.contents c.args.writer.now) c.loop-number.number c.loop-number.machine c.loop-number.left c.loop-number.has_bad_line (R.remaining c.loop-number.reader) (W.contents c.loop-number.writer) (gone image b)
    (R.remaining c.next_line.new.reader) (W.contents c.tell_line.new.writer) c.in-Ok-Some.read bytes c.tell_line.new.machine c.in-Ok.turn c.in-Some.next c.in-Some.bad there one c.in-Some.ensures)

pub returns-in-None : goal.returns-in-None
returns-in-None g c =
    let R = g.R.Read in
    let W = g.W.Write in
    let bytes = c.next_line.new.line.items in
    let there : IsNextLine (R.remaining c.loop-number.reader) (R.remaining c.next_line.new.reader) bytes (Some c.in-Ok-Some.read) = rw c.in-Ok-Some.field-0-is at c.in-Ok-Some.ensures in
    let one : AnswersLive c.loop-number.left c.in-Ok-Some.read bytes c.loop-number.machine c.tell_line.new.machine (W.contents c.loop-number.writer) (W.contents c.tell_line.new.writer) c.in-Ok.turn =
    subst (λ (l : List ℕ). AnswersLive c.loop-number.left c.in-Ok-Some.read l c.loop-number.machine c.tell_line.new.machine (W.contents c.loop-number.writer) (W.contents c.tell_line.new.writer) c.in-Ok.turn)
    c.as_slice-bytes.ensures.value c.in-Ok.ensures in
    IfSome_then (R.remaining c.args.reader.now) c.loop-number.invariant (λ input gone image b.
    subst (λ (e : LiveEnd). GoesLive image c.args.steps c.args.reads_zeros input (W.contents c.args.writer.now) (W.contents c.tell_line.new.writer) e) (sym c.end_after.ensures)
    (ends_here image c.args.steps input (W.contents c.args.writer.now) c.loop-number.number c.loop-number.machine c.loop-number.left c.loop-number.has_bad_line (R.remaining c.loop-number.reader) (W.contents c.loop-number.writer) (gone image b)
    c.args.reads_zeros (R.remaining c.next_line.new.reader) (W.contents c.tell_line.new.writer) c.in-Ok-Some.read bytes c.tell_line.new.machine c.in-Ok.turn there one (sym c.after_turn.ensures ∙ c.in-None.is)))

pub returns-in-Ok-None : goal.returns-in-Ok-None
returns-in-Ok-None g c =
    let R = g.R.Read in
    let W = g.W.Write in
    let bytes = c.next_line.new.line.items in
    let none : IsNextLine (R.remaining c.loop-number.reader) (R.remaining c.next_line.new.reader) bytes None = rw c.in-Ok-None.field-0-is at c.in-Ok-None.ensures in
    IfSome_then (R.remaining c.args.reader.now) c.loop-number.invariant (λ input gone image b.
    ends_input image c.args.steps input (W.contents c.args.writer.now) c.loop-number.number c.loop-number.machine c.loop-number.left c.loop-number.has_bad_line (R.remaining c.loop-number.reader) (W.contents c.loop-number.writer) (gone image b)
    c.args.reads_zeros (R.remaining c.next_line.new.reader) (W.contents c.end_input.new.writer) bytes c.end_input.result none c.end_input.ensures)

pub returns-in-Err : goal.returns-in-Err
returns-in-Err g c =
    let R = g.R.Read in
    let W = g.W.Write in
    IfSome_then (R.remaining c.args.reader.now) c.loop-number.invariant (λ input gone image b.
    ends_unread image c.args.steps input (W.contents c.args.writer.now) c.loop-number.number c.loop-number.machine c.loop-number.left c.loop-number.has_bad_line (R.remaining c.loop-number.reader) (W.contents c.loop-number.writer) (gone image b)
    c.args.reads_zeros (W.contents c.tell_unread.new.writer) c.tell_unread.result c.tell_unread.ensures)

pub returns : goal.returns
returns g c =
    let R = g.R.Read in
    let W = g.W.Write in
    let all : c.loop-number.number ≡ 2 ^ 64 - 1 = omega (arith, c.loop-number.auto.number-end, c.loop-number-test.false) in
    IfSome_then (R.remaining c.args.reader.now) c.loop-number.invariant (λ input gone image b.
    ends_uncounted image c.args.steps input (W.contents c.args.writer.now) c.loop-number.number c.loop-number.machine c.loop-number.left c.loop-number.has_bad_line (R.remaining c.loop-number.reader) (W.contents c.loop-number.writer) (gone image b)
    c.args.reads_zeros all)
