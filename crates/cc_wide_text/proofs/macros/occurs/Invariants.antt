-- None of the tokens so far is the name.
use Rattle.std.proofs.Common.{◌≡◌, false, take}
use Rattle.cc_tokens.specs.Token.{lexemes}
use Rattle.cc_wide_text.specs.Macros.{occurs}
use Rattle.cc_wide_text.proofs.macros.occurs.Given as goal

abbrev pub invariant-loop-i : goal.invariant-loop-i
invariant-loop-i l = occurs (take l.i (lexemes l.text l.tokens)) l.name ≡ false
