use Rattle.cc_tokens.proofs.Cuts.{tokens_are_one, tokens_have_no_error, first_error_is_one}
use Rattle.cc_tokens.proofs.Total.{tokens_or_error}
use Rattle.cc_tokens.proofs.lexer.tokens_are_determined.Goals as goal

pub returns : goal.returns
returns c = record { one = tokens_are_one; no_error = tokens_have_no_error; one_error = first_error_is_one; either = tokens_or_error }
