-- How the code keeps the numbers of names.
use Rattle.std.specs.Prelude.{ℕ, ◌≡◌, ◌<◌, ◌≤◌, true, List, length, map, Option, Some, None, if◌then◌else◌}
use Rattle.std.specs.Borrow.{Bor}
use Rattle.std.specs.Map.{lookup}
use Rattle.cc_types.specs.Names.{same_name}

-- the names with their numbers, from the map's entries
abbrev pub numbered_in : List (Bor (List ℕ) × ℕ) → List (List ℕ × ℕ)
numbered_in entries = map (λ (e : Bor (List ℕ) × ℕ). (e.0.now, e.1)) entries

-- the number of a name, if it has one
abbrev pub number_of_name : List (List ℕ × ℕ) → List ℕ → Option ℕ
number_of_name names x = lookup (same_name x) names

-- no two names have the same number, and each number is less than how many names there are
pub record AreNumbers (names : List (List ℕ × ℕ)) : Type 0 where
  pub one : (x y : List ℕ) (n : ℕ) → number_of_name names x ≡ Some n → number_of_name names y ≡ Some n → same_name x y ≡ true
  pub below : (x : List ℕ) (n : ℕ) → number_of_name names x ≡ Some n → n < length names

-- the number that a name gets: its own if it has one, otherwise the next
abbrev pub number_or_next : List (List ℕ × ℕ) → List ℕ → ℕ
number_or_next names x = elim (number_of_name names x) [ None ↦ length names | Some n ↦ n ]

-- the name has its own number or gets the next, and every other name keeps its number
pub record IsNumbered (old new : List (List ℕ × ℕ)) (x : List ℕ) (n : ℕ) : Type 0 where
  pub number : n ≡ number_or_next old x
  pub found : (y : List ℕ) → number_of_name new y ≡ (if same_name x y then Some n else number_of_name old y)
  pub numbers : AreNumbers new
  pub longer : length old ≤ length new

-- what a table has at the number of a name, if the name has one
abbrev pub at_number : {A : Type 0} → (ℕ → Option A) → Option ℕ → Option A
at_number table None = None
at_number table (Some n) = table n
