use Rattle.std.proofs.Common.{◌≡◌, ℕ, length, false}
use Rattle.std.specs.Prelude.{get_or}
use Rattle.cc_link.specs.Linked.{all_items, lent_pieces}
use Rattle.cc_size.specs.internal.Reached.{reaches}
use Rattle.cc_size.proofs.recursion.leading.Given as goal

-- the table is the one for this many calls
abbrev pub invariant-loop-call : goal.invariant-loop-call
invariant-loop-call l = record {
  long : length l.table.items ≡ length l.pieces;
  each : (f : ℕ) → get_or l.table.items f false ≡ reaches (all_items (lent_pieces l.pieces)) l.target l._call f;
}
