-- Marks for variables: one for each variable below a number.
use Rattle.std.specs.Prelude.{◌≡◌, ℕ, ◌<◌, Bool, false, ◌||◌, List, length, get_or}

-- the marks of changed variables are set, in addition to those that were set before
pub record Marks (changed : ℕ → Bool) (old new : List Bool) : Type 0 where
  pub long : length new ≡ length old
  pub marks : (x : ℕ) → x < length old → get_or new x false ≡ (get_or old x false || changed x)

-- exactly the changed variables below n are marked
pub record IsMarked (n : ℕ) (changed : ℕ → Bool) (marks : List Bool) : Type 0 where
  pub long : length marks ≡ n
  pub marked : (x : ℕ) → x < n → get_or marks x false ≡ changed x
