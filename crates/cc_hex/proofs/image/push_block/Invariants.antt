-- The rows so far, with those of the rest, are all rows.
use Rattle.std.proofs.Common.{◌≡◌, ◌+◌, ◌-◌, ◌*◌, ◌/◌, ◌++◌, length}
use Rattle.cc_hex.specs.Layout.{rows}
use Rattle.cc_hex.proofs.image.push_block.Given as goal

abbrev pub invariant-loop : goal.invariant-loop
invariant-loop l = record {
  address : l.address ≡ l.from + 16 * l.counter;
  rest : length l.rest ≡ length l.bytes - 16 * l.counter;
  end : l.end ≡ (length l.bytes + 15) / 16;
  rows : l.text.items ++ rows (l.end - l.counter) l.address l.rest ≡ l.initial.text.items ++ rows l.end l.from l.bytes;
}
