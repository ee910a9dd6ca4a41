-- A simulation from what is required at each configuration, by cases on the old language's move; no case of another kind has to
-- be excluded.
use Rattle.std.proofs.Common.{◌≡◌, ℕ, ◌<◌, ◌≤◌, List, refl, subst, ◌⊎◌, Option, Some, None}
use Rattle.cc_simulation.specs.Run.{Move, Goes, Calls, Returns, Fails, tried}
use Rattle.cc_simulation.specs.internal.Simulation.{Advances, Asks, Ending, Simulation}

module _ {C D : Type 0} (old : C → Move C) (old_output : C → List ℕ) (new : D → Move D) (new_output : D → List ℕ) where
  -- what the new run must do if the old one makes this move
  abbrev pub Owes : (Related : C → D → Type 0) (measure : C → ℕ) (wide top : ℕ) → List ℕ → Move C → D → Type 0
  Owes Related measure wide top o (Goes c) d = Advances old old_output new new_output Related wide c d ⊎ (Related c d × (measure c < top))
  Owes Related measure wide top o (Calls q resume) d = Asks old old_output new new_output Related wide q resume d
  Owes Related measure wide top o (Returns r) d = Ending old old_output new new_output wide r o d
  Owes Related measure wide top o Fails d = Unit {0}

  pub simulation_of : (Related : C → D → Type 0) (measure : C → ℕ) (deep wide : ℕ) → ((c : C) (d : D) → Related c d → measure c ≤ deep) → ((c : C) (d : D) → Related c d → new_output d ≡ old_output c)
      → ((c : C) (d : D) → Related c d → Owes Related measure wide (measure c) (old_output c) (old c) d) → Simulation old old_output new new_output Related measure deep wide
  simulation_of Related measure deep wide low outputs owes = record {
    low = low;
    outputs = outputs;
    goes = λ c c' d rel e. subst (λ m. Owes Related measure wide (measure c) (old_output c) m d) e (owes c d rel);
    asks = λ c q resume d rel e. subst (λ m. Owes Related measure wide (measure c) (old_output c) m d) e (owes c d rel);
    ends = λ c r d rel e. subst (λ m. Owes Related measure wide (measure c) (old_output c) m d) e (owes c d rel);
  }

  -- `Owes` for a move that goes wrong if a value is missing
  pub owes_tried : {X : Type 0} (Related : C → D → Type 0) (measure : C → ℕ) (wide top : ℕ) (o : List ℕ) (x : Option X) (go : X → Move C) (d : D)
      → ((a : X) → x ≡ Some a → Owes Related measure wide top o (go a) d) → Owes Related measure wide top o (tried x go) d
  owes_tried Related measure wide top o None go d f = tt
  owes_tried Related measure wide top o (Some a) go d f = f a refl
