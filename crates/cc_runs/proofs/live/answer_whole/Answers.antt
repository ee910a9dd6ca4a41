-- The words that are fed are those of the line.
use Rattle.std.proofs.Common.{◌≡◌, Some, sym, ap, ◌∙◌}
use Rattle.cc_runs.specs.Words.{input_in}
use Rattle.cc_runs.specs.internal.Turning.{AnswersTurn, AnswersWhole}
use Rattle.cc_runs.proofs.Counting.{on_ok}
use Rattle.cc_runs.proofs.Turns.{turn_whole}
use Rattle.cc_runs.proofs.live.answer_whole.Goals as goal

pub returns : goal.returns
returns g c =
    let W = g.W.Write in
    let old = W.contents c.args.writer.now in
    let new = W.contents c.answer_words.new.writer in
    let read = rw c.in-Ok-Some.field-0-is at c.in-Ok-Some.ensures in
    let words : input_in c.args.line.now ≡ Some c.as_slice.result.now = sym read ∙ ap Some (sym c.as_slice.ensures.value) in
    on_ok (AnswersTurn c.args.steps c.as_slice.result.now c.args.machine.now c.answer_words.new.machine old new) (AnswersWhole c.args.steps c.args.line.now c.args.machine.now c.answer_words.new.machine old new)
    (λ end h. turn_whole c.args.steps c.args.line.now c.as_slice.result.now c.args.machine.now c.answer_words.new.machine old new end words h)
    c.answer_words.result c.answer_words.ensures
