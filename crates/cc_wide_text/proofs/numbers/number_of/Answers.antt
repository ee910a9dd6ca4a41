use Rattle.std.proofs.Common.{List, map, sym, subst}
use Rattle.cc_tokens.specs.declared.token.Token.{Token}
use Rattle.cc_tokens.specs.Token.{lexemes}
use Rattle.cc_tokens.specs.Tokens.{IsTokens}
use Rattle.cc_wide_text.specs.internal.Views.{enumerator, number}
use Rattle.cc_wide_text.proofs.Values.{number_answer, number_none}
use Rattle.cc_wide_text.proofs.numbers.number_of.Goals as goal

pub returns-in_ok-bytes-in-Ok : goal.returns-in_ok-bytes-in-Ok
returns-in_ok-bytes-in-Ok c =
    let value = c.as_slice-value.result.now in
    number_answer c.tokens_are_determined.ensures.one (map number c.args.numbers.now) (enumerator c.args.one.now) value c.in_ok-bytes-in-Ok.bytes.items c.as_slice-in-Ok.result.now
    (lexemes value c.as_slice.result.now) c.constant_of.result c.as_slice-value.ensures.value c.in-Ok.ensures.fits
    (subst (λ (ts : List Token). IsTokens value (lexemes value ts)) (sym c.as_slice.ensures.value) c.in-Ok.ensures.answer) c.in_ok-bytes-in-Ok.ensures c.as_slice-in-Ok.ensures.value
    c.constant_of.ensures

pub returns-in-Err : goal.returns-in-Err
returns-in-Err c =
    number_none c.tokens_are_determined.ensures.no_error (map number c.args.numbers.now) (enumerator c.args.one.now) c.as_slice-value.result.now c.in-Err.fault c.no_number.result
    c.as_slice-value.ensures.value c.in-Err.ensures.refused c.no_number.ensures
