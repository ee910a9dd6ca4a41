-- The rest of the tokens leads on from the state so far.
use Rattle.std.proofs.Common.{◌≡◌, [], take, drop}
use Rattle.cc_tokens.specs.Token.{lexemes}
use Rattle.cc_wide_text.specs.Lexing.{led}
use Rattle.cc_wide_text.specs.Names.{name_token, start}
use Rattle.cc_wide_text.specs.internal.Views.{naming}
use Rattle.cc_wide_text.proofs.names.name_all.Given as goal

abbrev pub invariant-loop-n : goal.invariant-loop-n
invariant-loop-n l = led name_token (naming l.namer) (take l.n (lexemes l.text l.tokens)) (drop l.n (lexemes l.text l.tokens)) ≡ led name_token start [] (lexemes l.text l.tokens)
