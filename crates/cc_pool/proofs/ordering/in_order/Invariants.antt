use Rattle.std.proofs.Common.{◌≡◌, length}
use Rattle.std.specs.Prelude.{All}
use Rattle.cc_link.specs.Made.{IsCompiled}
use Rattle.cc_link.specs.Pieces.{AreFromIn}
use Rattle.cc_pool.proofs.ordering.in_order.Given as goal

-- the pieces so far are those of the functions so far, in order
abbrev pub invariant-loop-function : goal.invariant-loop-function
invariant-loop-function l = record {
  count : length l.pieces.items ≡ l.function;
  own : AreFromIn l.mode l.text 0 l.pieces.items;
  compiled : All IsCompiled l.pieces.items;
}
