-- The rest of the tokens leads on from the state so far.
use Rattle.std.proofs.Common.{◌≡◌, [], take, drop}
use Rattle.cc_tokens.specs.Token.{lexemes}
use Rattle.cc_wide_text.specs.Lexing.{led}
use Rattle.cc_wide_text.specs.Macros.{expand_token, start}
use Rattle.cc_wide_text.specs.internal.Views.{expansion}
use Rattle.cc_wide_text.proofs.macros.expanded.Given as goal

abbrev pub invariant-loop-i : goal.invariant-loop-i
invariant-loop-i l = led expand_token (expansion l.expander) (take l.i (lexemes l.text l.tokens)) (drop l.i (lexemes l.text l.tokens)) ≡ led expand_token start [] (lexemes l.text l.tokens)
