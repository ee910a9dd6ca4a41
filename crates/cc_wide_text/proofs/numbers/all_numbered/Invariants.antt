-- The tokens so far have been written.
use Rattle.std.proofs.Common.{◌≡◌, take, map}
use Rattle.std.specs.List.{flat_map}
use Rattle.cc_tokens.specs.Token.{lexemes}
use Rattle.cc_wide_text.specs.Numbers.{numbered}
use Rattle.cc_wide_text.specs.internal.Views.{number}
use Rattle.cc_wide_text.proofs.numbers.all_numbered.Given as goal

abbrev pub invariant-loop-i : goal.invariant-loop-i
invariant-loop-i l = l.written.items ≡ flat_map (numbered (map number l.numbers)) (take l.i (lexemes l.text l.tokens))
