-- What holds of a run of a function, from a call in the table's ranges on.
use Rattle.std.specs.Prelude.{◌≡◌, ℕ, suc, ◌<◌, ◌^◌, Bool, true, false, List, [], ◌∷◌, Some, None}
use Rattle.cc_simulation.specs.Behavior.{AreWords}
use Rattle.cc_simulation.specs.World.{Size, World, Answer, object_words}
use Rattle.cc_simulation.specs.Run.{Move, Goes, Calls, Returns, Fails}
use Rattle.cc_cminor_language.specs.Cminor.{Statement, Continuation, Ends, Then, Again, Leaving, Variables, Config}
use Rattle.cc_range.specs.Range.{Has, only}
use Rattle.cc_range.specs.Laws.{WordsAreInRange, WithinIsSound, JoinedIsSound, MetIsSound, UnaryIsSound, BinaryIsSound, KeptIsSound, CoveredHasValue, IndexIsInside, LearnedIsSound}
use Rattle.cc_range_table.specs.Table.{Facts, State, Row, Table, at, row_of, is_written, HoldObjects}
use Rattle.cc_range_table.specs.Calls.{Enters, Leaves}
use Rattle.cc_range_table.specs.Inductive.{then_facts, known_after, is_inductive_at, covers_at, ends_well}

-- what holds for ranges of words
pub record RangesAreSound : Type 0 where
  pub words : WordsAreInRange
  pub within : WithinIsSound
  pub joined : JoinedIsSound
  pub met : MetIsSound
  pub unary : UnaryIsSound
  pub binary : BinaryIsSound
  pub kept : KeptIsSound
  pub covered : CoveredHasValue
  pub indexes : IndexIsInside
  pub learned : LearnedIsSound

-- each variable and each element is in its range
pub record Holds (F : Facts) (l : Variables) (h : World) : Type 0 where
  pub variables : (x : ℕ) → Has (at F.variables x) (l x)
  pub objects : HoldObjects F.objects h

-- the same of a state: a place that is never reached is not reached
abbrev pub HoldsIn : State → Variables → World → Type 0
HoldsIn None l h = ⊥
HoldsIn (Some F) l h = Holds F l h

-- the facts of a state, if it has any, have a property
abbrev pub ForFacts : State → (Facts → Type 0) → Type 0
ForFacts None P = Unit {0}
ForFacts (Some F) P = P F

-- all variables and elements are words
abbrev pub AllWords : Variables → World → Type 0
AllWords l h = ((x : ℕ) → l x < 2 ^ 32) × ((o : ℕ) → AreWords (object_words h o))

-- wherever the first state holds, the second does
abbrev pub Entails : State → State → Type 0
Entails s t = (l : Variables) (h : World) → AllWords l h → HoldsIn s l h → HoldsIn t l h

-- a run of a function of a unit, whose first world is `start`. If `quiet` is true, each operation of its code is covered.
module _ (sizes : List Size) (table : Table) (f : ℕ) (start : World) (quiet : Bool) where
  abbrev pub row : Row
  row = row_of table f

  -- the table is inductive at a statement, and if asked for, its operations are covered
  abbrev pub Fits : List State → ℕ → Facts → Statement → Type 0
  Fits X k F s = (is_inductive_at sizes table row X k F s ≡ true) × (quiet ≡ true → covers_at sizes table row.notes k F s ≡ true)

  abbrev pub after : ℕ → Facts → Statement → State
  after k F s = known_after sizes table row.notes k F s

  -- what remains to be done fits to what is known before it, inside blocks at whose ends this is known
  abbrev pub Continues : State → List State → Continuation → Type 0
  Continues s X Ends = (X ≡ []) × ForFacts s (λ F. ends_well table row F (only 0) ≡ true)
  Continues s X (Then t κ) = (k : ℕ) × (after_it : State) × ForFacts s (λ F. Fits X k F t) × Entails (then_facts s (λ F. after k F t)) after_it × Continues after_it X κ
  Continues s X (Again t κ) = (k : ℕ) × (head : State) × Entails s head × ForFacts head (λ G. Fits X (suc k) G t × Entails (after (suc k) G t) head) × Continues None X κ
  Continues s X (Leaving κ) = (n : State) × (Y : List State) × (end : State) × (X ≡ n ∷ Y) × Entails s end × Entails n end × Continues end Y κ

  -- what is known at a configuration
  pub record Known (c : Config) : Type 0 where
    pub facts : Facts
    pub place : ℕ
    pub exits : List State
    pub holds : Holds facts c.variables c.world
    pub fits : Fits exits place facts c.statement
    pub next : State
    pub leads : Entails (after place facts c.statement) next
    pub continues : Continues next exits c.next
    pub changed : (o : ℕ) → is_written row.writes o ≡ false → object_words c.world o ≡ object_words start o

  -- what is known after a move: calls are in the table, and if each operation is covered, the run does not go wrong by itself
  abbrev pub Onward : Move Config → Type 0
  Onward (Goes c) = Known c
  Onward (Calls q resume) = ((row_of table q.function).is_called ≡ true) × Enters table q.function q.arguments q.world × ((a : Answer) → a.value < 2 ^ 32 → ((o : ℕ) → AreWords (object_words a.world o)) → Leaves table q.function q.world a → Known (resume a))
  Onward (Returns r) = Leaves table f start r
  Onward Fails = quiet ≡ true → ⊥
