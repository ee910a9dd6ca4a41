use Rattle.std.proofs.Common.{◌≤◌, ◌-◌, List, length}
use Rattle.cc_tokens.specs.declared.token.Token.{Token}
use Rattle.cc_tokens.specs.Reading.{FoundBefore}
use Rattle.cc_tokens.proofs.lexer.next_token.Given as goal

-- there is no token between the first offset and the current one
abbrev pub invariant-loop-at : goal.invariant-loop-at
invariant-loop-at l = record {
  found : (ts : List Token) → FoundBefore l.text ts l.initial.at → FoundBefore l.text ts l.at;
  later : l.initial.at ≤ l.at;
  within : l.at ≤ length l.text;
}

abbrev pub decreases-loop-at : goal.decreases-loop-at
decreases-loop-at l = length l.text - l.at
