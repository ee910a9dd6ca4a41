use Rattle.std.proofs.Common.{◌≡◌, ℕ, ◌<◌, length}
use Rattle.std.specs.Prelude.{All}
use Rattle.cc_link.specs.Compile.{HasPieceIn}
use Rattle.std.specs.Arc.{arc_value}
use Rattle.cc_ast.specs.Source.{source}
use Rattle.cc_link.specs.Made.{IsCompiled}
use Rattle.cc_link.specs.Pieces.{AreFromIn}
use Rattle.cc_link.proofs.compiling.pieces_by.Given as goal

-- the pieces so far are those of the functions so far, in order
abbrev pub invariant-loop-function : goal.invariant-loop-function
invariant-loop-function l = record {
  own : AreFromIn l.mode (source (arc_value l.unit)).text 0 l.pieces.items;
  count : length l.pieces.items ≡ l.function;
  compiled : All IsCompiled l.pieces.items;
  made : (g : ℕ) → g < l.function → HasPieceIn l.mode (source (arc_value l.unit)).text g;
}
