-- The map's names are those of the left map, and those of the right one so far.
use Rattle.std.proofs.Common.{◌≡◌, ℕ, List, take, ◌||◌}
use Rattle.std.specs.List.{list_any}
use Rattle.std.specs.Ordering.{eq_by_cmp}
use Rattle.std.specs.FinMap as map
use Rattle.cc_diff.proofs.Names.{R}
use Rattle.cc_diff.proofs.maps.with_names_of.Given as goal

abbrev pub invariant-loop-name : goal.invariant-loop-name
invariant-loop-name l = (q : List ℕ) → map.contains_key l.both q ≡ (map.contains_key l.left q || list_any (eq_by_cmp R q) (take l.name-index l.name-items))
