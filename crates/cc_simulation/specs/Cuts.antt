-- What a language's moves must satisfy so that two cuts of one run can be compared, and what comparable means.
use Rattle.std.specs.Prelude.{◌≡◌, ℕ, ◌≤◌, ◌⊎◌, List}
use Rattle.cc_simulation.specs.Behavior.{Stop, Going, Ended, Wrong, Outcome, IsPrefixOf}
use Rattle.cc_simulation.specs.World.{Question, Answer}
use Rattle.cc_simulation.specs.Run.{Move, Goes, Calls}

-- all that a language must satisfy for its runs to be comparable: outputs grow; a call passes on the output so far, and the run
-- continues from the answer's output
pub record IsLayer {C : Type 0} (move : C → Move C) (output : C → List ℕ) : Type 0 where
  pub grows : (c d : C) → move c ≡ Goes d → IsPrefixOf (output c) (output d)
  pub hands_over : (c : C) (q : Question) (resume : Answer → C) → move c ≡ Calls q resume → q.world.output ≡ output c
  pub resumes : (c : C) (q : Question) (resume : Answer → C) → move c ≡ Calls q resume → (a : Answer) → output (resume a) ≡ a.world.output

-- if the run has stopped at x, y equals x
abbrev pub StaysBy : {R : Type 0} → Stop R → Outcome R → Outcome R → Type 0
StaysBy Going x y = Unit {0}
StaysBy (Ended r) x y = y ≡ x
StaysBy Wrong x y = y ≡ x

-- a cut with v of work is the beginning of one with w of work
pub record Below {R : Type 0} (x : Outcome R) (v : ℕ) (y : Outcome R) (w : ℕ) : Type 0 where
  pub work_le : v ≤ w
  pub output : IsPrefixOf x.output y.output
  pub stays : StaysBy x.stop x y

-- one of two cuts is the beginning of the other, and did no more work
abbrev pub Comparable : {R : Type 0} → Outcome R → ℕ → Outcome R → ℕ → Type 0
Comparable x v y w = Below x v y w ⊎ Below y w x v
