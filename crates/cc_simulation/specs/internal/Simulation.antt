-- From one language to the next, in terms of their moves only: the effects of calls, the source's steps and the unknown words
-- play no part here.
use Rattle.std.specs.Prelude.{◌≡◌, ℕ, zero, suc, ◌<◌, ◌≤◌, ◌⊎◌, List}
use Rattle.cc_simulation.specs.World.{Question, Answer}
use Rattle.cc_simulation.specs.Run.{Move, Goes, Calls, Returns, Fails}

-- this many moves lead from d to where the next move and the output are those of e (a label of Linear is not a move)
abbrev pub Way : {D : Type 0} → (D → Move D) → (D → List ℕ) → ℕ → D → D → Type 0
Way {D} move output zero d e = (move d ≡ move e) × (output d ≡ output e)
Way {D} move output (suc n) d e = (u : D) × (move d ≡ Goes u) × Way move output n u e

module _ {C D : Type 0} (old : C → Move C) (old_output : C → List ℕ) (new : D → Move D) (new_output : D → List ℕ) where
  -- one or more moves of the new language, but at most `suc wide`, lead to a related configuration
  pub record Advances (Related : C → D → Type 0) (wide : ℕ) (c : C) (d : D) : Type 0 where
    pub moves : ℕ
    pub to : D
    pub one : 1 ≤ moves
    pub few : moves ≤ suc wide
    pub way : Way new new_output moves d to
    pub related : Related c to

  -- at most `wide` moves of the new language lead to the same call, and after every answer the two runs are related
  pub record Asks (Related : C → D → Type 0) (wide : ℕ) (q : Question) (resume : Answer → C) (d : D) : Type 0 where
    pub moves : ℕ
    pub to : D
    pub resume' : Answer → D
    pub few : moves ≤ wide
    pub way : Way new new_output moves d to
    pub calls : new to ≡ Calls q resume'
    pub related : (a : Answer) → Related (resume a) (resume' a)

  -- at most `wide` moves of the new language lead to the same return, with the same output
  pub record Ending (wide : ℕ) (r : Answer) (o : List ℕ) (d : D) : Type 0 where
    pub moves : ℕ
    pub to : D
    pub few : moves ≤ wide
    pub way : Way new new_output moves d to
    pub returns : new to ≡ Returns r
    pub output : new_output to ≡ o

  -- Each move of the old language is matched by one or more moves of the new one, but at most `suc wide`; or by none, while a
  -- measure of at most `deep` decreases. An end is matched by an end after at most `wide` moves. So the new run ends if the old
  -- one does, and a loop that does nothing remains a loop. If the old run fails, nothing is required.
  pub record Simulation (Related : C → D → Type 0) (measure : C → ℕ) (deep wide : ℕ) : Type 0 where
    pub low : (c : C) (d : D) → Related c d → measure c ≤ deep
    pub outputs : (c : C) (d : D) → Related c d → new_output d ≡ old_output c
    pub goes : (c c' : C) (d : D) → Related c d → old c ≡ Goes c' → Advances Related wide c' d ⊎ (Related c' d × (measure c' < measure c))
    pub asks : (c : C) (q : Question) (resume : Answer → C) (d : D) → Related c d → old c ≡ Calls q resume → Asks Related wide q resume d
    pub ends : (c : C) (r : Answer) (d : D) → Related c d → old c ≡ Returns r → Ending wide r (old_output c) d

-- two moves are of one kind, and lead to related configurations
abbrev pub Alike : {C D : Type 0} → (C → D → Type 0) → Move C → Move D → Type 0
Alike Same (Goes c) (Goes d) = Same c d
Alike Same (Calls q f) (Calls p g) = (q ≡ p) × ((a : Answer) → Same (f a) (g a))
Alike Same (Returns r) (Returns s) = r ≡ s
Alike Same Fails Fails = Unit {0}
Alike Same m n = ⊥

-- in lockstep: each move of one language is a move of the other
pub record Lockstep {C D : Type 0} (old : C → Move C) (old_output : C → List ℕ) (new : D → Move D) (new_output : D → List ℕ) (Same : C → D → Type 0) : Type 0 where
  pub outputs : (c : C) (d : D) → Same c d → new_output d ≡ old_output c
  pub alike : (c : C) (d : D) → Same c d → Alike Same (old c) (new d)
