-- Inputs that never end, what a run shows on one, and when one run follows another there. An input without end is a function from the
-- number of a word to the word. A run is only ever known on a list. What it shows there, without having read past the list, it shows
-- on every input that begins with the list (`programs_stay_within`, `images_stay_within`): so also on the endless one.
use Rattle.std.specs.Prelude.{◌≡◌, ℕ, zero, suc, ◌^◌, ◌<◌, List, [], ◌∷◌}
use Rattle.cc_simulation.specs.Behavior.{Outcome, IsRight, IsPrefixOf, EndsAlike, Shows}
use Rattle.cc_endless.specs.Within.{IsWithin}

-- the first k words of an endless input
abbrev pub first : (k : ℕ) → (words : ℕ → ℕ) → List ℕ
first zero words = []
first (suc k) words = words 0 ∷ first k (λ i. words (suc i))

-- each number of an endless input is a word
abbrev pub AreAllWords : (words : ℕ → ℕ) → Type 0
AreAllWords words = (i : ℕ) → words i < 2 ^ 32

-- within the bound n a run shows this outcome on an endless input: it does so on some number of its first words, and has not read past
-- them
pub record ShowsOn {R : Type 0} (run : List ℕ → ℕ → Outcome R) (words : ℕ → ℕ) (n : ℕ) (o : Outcome R) : Type 0 where
  pub given : ℕ
  pub shows : run (first given words) n ≡ o
  pub within : IsWithin (first given words) o.output

-- within each bound the run shows one outcome on the endless input, and no other
abbrev pub HasOneOutcome : {R : Type 0} → (run : List ℕ → ℕ → Outcome R) → (words : ℕ → ℕ) → Type 0
HasOneOutcome {R} run words = (n : ℕ) → (o : Outcome R) × ShowsOn run words n o × ((p : Outcome R) → ShowsOn run words n p → p ≡ o)

-- on the endless input the run goes wrong at no bound
abbrev pub IsNeverWrong : {R : Type 0} → (run : List ℕ → ℕ → Outcome R) → (words : ℕ → ℕ) → Type 0
IsNeverWrong {R} run words = (n : ℕ) (o : Outcome R) → ShowsOn run words n o → IsRight o.stop

-- z follows a on an endless input, as `Follows` says for a list. Each right outcome of a is reached by z. If a goes wrong at no bound, z
-- goes wrong at none, and each output of z begins an output of a; if z has ended there, a has ended with the same result. Such an output
-- of a is shown to exist by contradiction, so `no_more` does not say at which bound.
pub record FollowsEndless {R : Type 0} (a z : List ℕ → ℕ → Outcome R) (words : ℕ → ℕ) : Type 0 where
  pub reaches : (n : ℕ) (o : Outcome R) → ShowsOn a words n o → IsRight o.stop → (m : ℕ) × (p : Outcome R) × ShowsOn z words m p × Shows o p
  pub never_wrong : IsNeverWrong a words → IsNeverWrong z words
  pub no_more : IsNeverWrong a words → (m : ℕ) (p : Outcome R) → ShowsOn z words m p
      → ((n : ℕ) (o : Outcome R) → ShowsOn a words n o → IsPrefixOf p.output o.output → EndsAlike p.stop o.stop → ⊥) → ⊥
