-- A map with one more name.
use Rattle.std.specs.Prelude.{◌≡◌, ℕ, ◌||◌, List}
use Rattle.std.specs.Ordering.{eq_by_cmp, nat_cmp}
use Rattle.std.specs.Cmp.Lexicographic.{slice_cmp}
use Rattle.std.specs.FinMap.{contains_key}
use Rattle.cc_library.specs.Apply.{Units}

-- the new map has the names of the old one, and also this name
pub record HasNameToo (old : Units) (name : List ℕ) (new : Units) : Type 0 where
  pub has : (q : List ℕ) → contains_key new q ≡ (contains_key old q || eq_by_cmp (slice_cmp nat_cmp) q name)
