-- The bits of the rows before r have moved, and the next word to look at is in row r.
use Rattle.std.proofs.Common.{ℕ, ◌-◌}
use Rattle.cc_bits.specs.Rows.{most_words}
use Rattle.cc_bits.proofs.Lines.{MovedTo}
use Rattle.cc_bits.proofs.row.BitRow.move_column.Given as goal

abbrev pub invariant-loop-at : goal.invariant-loop-at
invariant-loop-at l = (r : ℕ) × MovedTo r l.width l.from l.to l.at l.target l.initial.self l.self

abbrev pub decreases-loop-at : goal.decreases-loop-at
decreases-loop-at l = most_words - l.at
