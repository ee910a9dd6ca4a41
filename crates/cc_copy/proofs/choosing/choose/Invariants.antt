-- The units chosen are those of the names so far, and each of these names has a unit.
use Rattle.std.proofs.Common.{ℕ, List, take, IsTrue}
use Rattle.std.specs.Prelude.{All}
use Rattle.std.specs.FinMap as map
use Rattle.cc_copy.specs.Choice.{is_among}
use Rattle.cc_copy.proofs.Chosen.{Chosen}
use Rattle.cc_copy.proofs.choosing.choose.Given as goal

abbrev pub invariant-loop-i : goal.invariant-loop-i
invariant-loop-i l = record {
  there : All (λ name. IsTrue (map.contains_key l.units name)) (take l.i l.names);
  chosen : (q : List ℕ) → Chosen l.units (is_among (take l.i l.names) q) q (map.get l.chosen q);
}
