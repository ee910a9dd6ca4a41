use Rattle.std.proofs.Common.{◌≡◌, ◌+◌, ◌*◌, ◌≤◌, take, min}
use Rattle.std.specs.List.{fold}
use Rattle.std.specs.Char.{digit_value}
use Rattle.cc_tokens.proofs.scan.value_of.Given as goal

abbrev pub invariant-loop-b : goal.invariant-loop-b
invariant-loop-b l = record {
  capped : l.value ≤ 4294967296;
  folded : l.value ≡ fold (λ v b. min (v * l.base + digit_value b) 4294967296) 0 (take l.b-index l.digits);
}
