-- What a bounded run shows, and when one behavior follows another. A behavior is a function from a bound to an outcome. A bound
-- is a number of steps of the source, a number of instructions, or a number of moves with a number of steps in calls.
use Rattle.std.specs.Prelude.{◌≡◌, ℕ, ◌^◌, ◌<◌, ◌≤◌, List, [], ◌∷◌, ◌++◌}
use Rattle.cc_words.specs.Observed.{written_words}

-- each number is a word
abbrev pub AreWords : List ℕ → Type 0
AreWords [] = Unit {0}
AreWords (w ∷ ws) = (w < 2 ^ 32) × AreWords ws

-- the state of a run at its bound: it is still going, it has ended with a result, or it went wrong, for any cause
pub data Stop (R : Type 0) : Type 0 where
  Going : Stop R
  Ended : R → Stop R
  Wrong : Stop R

-- what a run has reached within its bound, and its output so far: what it wrote, and its reads, in their order
pub record Outcome (R : Type 0) : Type 0 where
  pub stop : Stop R
  pub output : List ℕ

-- an outcome without the marks of reads
abbrev pub in_words : {R : Type 0} → Outcome R → Outcome R
in_words o = record { stop = o.stop; output = written_words o.output }

-- the run has not gone wrong
abbrev pub IsRight : {R : Type 0} → Stop R → Type 0
IsRight Going = Unit {0}
IsRight (Ended r) = Unit {0}
IsRight Wrong = ⊥

-- the first list is a prefix of the second
abbrev pub IsPrefixOf : List ℕ → List ℕ → Type 0
IsPrefixOf xs ys = (rest : List ℕ) × (xs ++ rest ≡ ys)

-- if the first has ended, the second has ended with the same result
abbrev pub EndsAlike : {R : Type 0} → Stop R → Stop R → Type 0
EndsAlike {R} a z = (r : R) → a ≡ Ended r → z ≡ Ended r

-- z shows what a right outcome a shows: it is right, has the same output, and has the same end if a has ended
abbrev pub Shows : {R : Type 0} → Outcome R → Outcome R → Type 0
Shows a z = IsRight z.stop × (z.output ≡ a.output) × EndsAlike a.stop z.stop

-- z follows a. Each right outcome of a is reached by z. If a is wrong at no bound, then z is wrong at none, and each output of z
-- begins an output of a; if z has ended there, a has ended with the same result.
pub record Follows {B C R : Type 0} (a : B → Outcome R) (z : C → Outcome R) : Type 0 where
  pub reaches : (n : B) → IsRight (a n).stop → (m : C) × Shows (a n) (z m)
  pub never_wrong : ((n : B) → IsRight (a n).stop) → (m : C) → IsRight (z m).stop
  pub no_more : ((n : B) → IsRight (a n).stop) → (m : C) → (n : B) × IsPrefixOf (z m).output (a n).output × EndsAlike (z m).stop (a n).stop

-- z, a run that depends on unknown words, follows a for every list of words, and for each bound of a there are two limits that
-- are the same for all lists
pub record FollowsForAll {B R : Type 0} (a : B → Outcome R) (z : List ℕ → ℕ × ℕ → Outcome R) : Type 0 where
  pub each : (words : List ℕ) → AreWords words → Follows a (z words)
  pub within : (n : B) → IsRight (a n).stop → (most : ℕ × ℕ) × ((words : List ℕ) → AreWords words → (m : ℕ × ℕ) × (m.0 ≤ most.0) × (m.1 ≤ most.1) × Shows (a n) (z words m))
