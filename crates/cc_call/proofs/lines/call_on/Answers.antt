-- One more line is answered; what follows depends on its answer.
use Rattle.std.proofs.Common.{ℕ, ◌∙◌, List, Some, sym, subst}
use Rattle.std.proofs.lemmas.Option.{IfSome_then}
use Rattle.cc_runs.specs.Reading.{IsNextLine}
use Rattle.cc_call.specs.internal.Reading.{AnswersRead}
use Rattle.cc_call.proofs.Turns.{called_more, ends_here}
use Rattle.cc_call.proofs.lines.call_on.Goals as goal

pub loop-number-preserved : goal.loop-number-preserved
loop-number-preserved g c =
    let R = g.R.Read in
    let W = g.W.Write in
    let bytes = c.next_line.new.line.items in
    let there : IsNextLine (R.remaining c.loop-number.reader) (R.remaining c.next_line.new.reader) bytes (Some c.in-Ok-Some.read) = rw c.in-Ok-Some.field-0-is at c.in-Ok-Some.ensures in
    let one : AnswersRead c.args.image.now c.args.is_counted c.args.steps c.args.most c.in-Ok-Some.read bytes (W.contents c.loop-number.writer) (W.contents c.tell_line.new.writer) c.in-Ok.answered =
    subst (λ (l : List ℕ). AnswersRead c.args.image.now c.args.is_counted c.args.steps c.args.most c.in-Ok-Some.read l (W.contents c.loop-number.writer) (W.contents c.tell_line.new.writer) c.in-Ok.answered)
    c.as_slice-bytes.ensures.value c.in-Ok.ensures in
    IfSome_then (R.remaining c.args.reader.now) c.loop-number.invariant (λ input called.
    called_more c.args.image.now c.args.is_counted c.args.steps c.args.most input (W.contents c.args.writer.now) c.loop-number.number c.loop-number.end (R.remaining c.loop-number.reader) (W.contents c.loop-number.writer) called
    (R.remaining c.next_line.new.reader) (W.contents c.tell_line.new.writer) c.in-Ok-Some.read bytes c.in-Ok.answered c.in-Some.next there one c.in-Some.ensures)

pub returns-in-None : goal.returns-in-None
returns-in-None g c =
    let R = g.R.Read in
    let W = g.W.Write in
    let bytes = c.next_line.new.line.items in
    let there : IsNextLine (R.remaining c.loop-number.reader) (R.remaining c.next_line.new.reader) bytes (Some c.in-Ok-Some.read) = rw c.in-Ok-Some.field-0-is at c.in-Ok-Some.ensures in
    let one : AnswersRead c.args.image.now c.args.is_counted c.args.steps c.args.most c.in-Ok-Some.read bytes (W.contents c.loop-number.writer) (W.contents c.tell_line.new.writer) c.in-Ok.answered =
    subst (λ (l : List ℕ). AnswersRead c.args.image.now c.args.is_counted c.args.steps c.args.most c.in-Ok-Some.read l (W.contents c.loop-number.writer) (W.contents c.tell_line.new.writer) c.in-Ok.answered)
    c.as_slice-bytes.ensures.value c.in-Ok.ensures in
    record {
      lines = IfSome_then (R.remaining c.args.reader.now) c.loop-number.invariant (λ input called.
          ends_here c.args.image.now c.args.is_counted c.args.steps c.args.most input (W.contents c.args.writer.now) c.loop-number.number c.loop-number.end (R.remaining c.loop-number.reader) (W.contents c.loop-number.writer) called
          (R.remaining c.next_line.new.reader) (W.contents c.tell_line.new.writer) c.in-Ok-Some.read bytes c.in-Ok.answered there one (sym c.end_after.ensures ∙ c.in-None.is));
    }
