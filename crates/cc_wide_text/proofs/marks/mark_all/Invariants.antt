-- The rest of the tokens leads on from the state so far.
use Rattle.std.proofs.Common.{◌≡◌, [], take, drop, map}
use Rattle.cc_tokens.specs.Token.{lexemes}
use Rattle.cc_wide_text.specs.Lexing.{led}
use Rattle.cc_wide_text.specs.Marks.{mark_token, start}
use Rattle.cc_wide_text.specs.internal.Views.{marking, number}
use Rattle.cc_wide_text.proofs.marks.mark_all.Given as goal

abbrev pub invariant-loop-i : goal.invariant-loop-i
invariant-loop-i l =
    led (mark_token (map number l.numbers)) (marking l.marker) (take l.i (lexemes l.text l.tokens)) (drop l.i (lexemes l.text l.tokens))
    ≡ led (mark_token (map number l.numbers)) start [] (lexemes l.text l.tokens)
