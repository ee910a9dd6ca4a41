use Rattle.std.proofs.Common.{◌∙◌, sym, arith}
use Rattle.cc_wide_text.proofs.Written.{plain_length}
use Rattle.cc_wide_text.proofs.Answered.{plain_refused, text_goes}
use Rattle.cc_wide_text.proofs.reading.read.Goals as goal

pub returns-in-Err-clause-refused : goal.returns-in-Err-clause-refused
returns-in-Err-clause-refused c =
    plain_refused c.tokens_are_determined.ensures.no_error c.args.text.now c.as_slice.result.now c.in-Err.fault c.fault_in_plain.result (c.as_slice.ensures.value ∙ c.in-Ok.ensures) (omega arith)
    (omega (arith, plain_length c.args.text.now)) c.fault_in_plain.ensures c.in-Err.ensures.refused

pub returns-clause-read : goal.returns-clause-read
returns-clause-read c =
    (
    text_goes c.tokens_are_determined.ensures.one c.args.text.now c.as_slice.result.now c.as_slice-3.result.now c.in-Ok-tokens.words.items c.as_slice-4.result.now
    (c.as_slice.ensures.value ∙ c.in-Ok.ensures) (c.as_slice-3.ensures.value ∙ sym c.as_slice.ensures.value) c.as_slice-4.ensures.value (omega arith) c.in-Ok-tokens.ensures.answer
    c.read_words.result c.read_words.ensures).0

pub returns-clause-refused : goal.returns-clause-refused
returns-clause-refused c =
    (
    text_goes c.tokens_are_determined.ensures.one c.args.text.now c.as_slice.result.now c.as_slice-3.result.now c.in-Ok-tokens.words.items c.as_slice-4.result.now
    (c.as_slice.ensures.value ∙ c.in-Ok.ensures) (c.as_slice-3.ensures.value ∙ sym c.as_slice.ensures.value) c.as_slice-4.ensures.value (omega arith) c.in-Ok-tokens.ensures.answer
    c.read_words.result c.read_words.ensures).1
