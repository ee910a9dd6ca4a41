-- The words that are run are those of the line.
use Rattle.std.proofs.Common.{◌≡◌, Some, refl, sym, ap, ◌∙◌}
use Rattle.cc_runs.specs.Words.{input_in}
use Rattle.cc_call.proofs.lines.answer_line.Goals as goal

pub returns-in-Ok : goal.returns-in-Ok
returns-in-Ok g c =
    let read = rw c.in-Ok-Some.field-0-is at c.in-Ok-Some.ensures in
    let words : input_in c.args.line.now ≡ Some c.as_slice.result.now = sym read ∙ ap Some (sym c.as_slice.ensures.value) in
    (c.as_slice.result.now, words, (c.in-Ok.run', c.in-Ok.ensures, c.in_ok-write_answer-in-Ok.ensures, refl))
