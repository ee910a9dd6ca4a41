use Rattle.std.proofs.Common.{◌∙◌, inl, sym}
use Rattle.cc_tokens.specs.Token.{lexemes}
use Rattle.cc_wide_text.specs.Macros.{expanded}
use Rattle.cc_wide_text.specs.Program.{GrowWords, IsReplacedTree}
use Rattle.cc_wide_text.proofs.Refusals.{too_long}
use Rattle.cc_wide_text.proofs.Answered.{words_refused, replaced_goes}
use Rattle.cc_wide_text.proofs.reading.Reader.read_words.Goals as goal

pub returns-in-Err : goal.returns-in-Err
returns-in-Err c =
    let ts = lexemes c.args.self.text.now c.args.self.tokens.now in
    too_long (GrowWords ts) (λ tree. IsReplacedTree ts tree) (expanded ts) c.in-Err.fault (λ long. inl long) c.in-Err.ensures

pub returns-in-Err-tokens : goal.returns-in-Err-tokens
returns-in-Err-tokens c =
    words_refused c.tokens_are_determined.ensures.no_error (lexemes c.args.self.text.now c.args.self.tokens.now) c.as_slice.result.now c.in-Err-tokens.fault c.fault_in.result
    (c.as_slice.ensures.value ∙ c.in-Ok.ensures.0) c.in-Ok.ensures.1 c.fault_in.ensures c.in-Err-tokens.ensures.refused

pub returns : goal.returns
returns c =
    replaced_goes c.tokens_are_determined.ensures.one (lexemes c.args.self.text.now c.args.self.tokens.now) c.as_slice.result.now c.as_slice-3.result.now c.in-Ok-tokens.replaced.items
    c.as_slice-4.result.now (c.as_slice.ensures.value ∙ c.in-Ok.ensures.0) (c.as_slice-3.ensures.value ∙ sym c.as_slice.ensures.value) c.as_slice-4.ensures.value c.in-Ok.ensures.1
    c.in-Ok-tokens.ensures.answer c.read_replaced.result c.read_replaced.ensures
