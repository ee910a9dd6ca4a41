-- What a layer's moves satisfy together with the effects of its calls: `IsLayer`, with the facts of the meaning applied to it.
use Rattle.std.specs.Prelude.{◌≡◌, ℕ, ◌+◌, ◌≤◌, List}
use Rattle.cc_simulation.specs.Behavior.{IsPrefixOf}
use Rattle.cc_simulation.specs.World.{Question, Answer, Effect, Gives, Unfinished, Failed}
use Rattle.cc_simulation.specs.Run.{Move, Goes, Calls}

-- what is written after a call begins with what was written before it
abbrev pub After : {C : Type 0} → (C → List ℕ) → (Answer → C) → List ℕ → Effect → Type 0
After output resume o (Gives a left) = IsPrefixOf o (output (resume a))
After output resume o (Unfinished p) = IsPrefixOf o p
After output resume o (Failed p) = IsPrefixOf o p

-- the effect of d more steps, if a call was unfinished with fewer steps
abbrev pub UnfinishedThen : {C : Type 0} → (C → List ℕ) → (Answer → C) → List ℕ → ℕ → Effect → Type 0
UnfinishedThen output resume o d (Gives a left) = (left ≤ d) × IsPrefixOf o (output (resume a))
UnfinishedThen output resume o d (Unfinished p) = IsPrefixOf o p
UnfinishedThen output resume o d (Failed p) = IsPrefixOf o p

-- the second effect is the first one with d more steps
abbrev pub LaterAt : {C : Type 0} → (C → List ℕ) → (Answer → C) → Effect → ℕ → Effect → Type 0
LaterAt output resume (Gives a left) d e = e ≡ Gives a (left + d)
LaterAt output resume (Unfinished o) d e = UnfinishedThen output resume o d e
LaterAt output resume (Failed o) d e = e ≡ Failed o

-- the effect leaves no more steps than there were
abbrev pub Within : ℕ → Effect → Type 0
Within j (Gives a left) = left ≤ j
Within j (Unfinished o) = Unit {0}
Within j (Failed o) = Unit {0}

-- a layer with the effects of its calls
pub record HasEffects {C : Type 0} (move : C → Move C) (output : C → List ℕ) (effect : ℕ → Question → Effect) : Type 0 where
  pub grows : (c d : C) → move c ≡ Goes d → IsPrefixOf (output c) (output d)
  pub answers : (c : C) (q : Question) (resume : Answer → C) → move c ≡ Calls q resume → (j : ℕ) → After output resume (output c) (effect j q)
  pub later : (c : C) (q : Question) (resume : Answer → C) → move c ≡ Calls q resume → (j d : ℕ) → LaterAt output resume (effect j q) d (effect (j + d) q)
  pub within : (c : C) (q : Question) (resume : Answer → C) → move c ≡ Calls q resume → (j : ℕ) → Within j (effect j q)
