-- What a walk has found after a part of the code.
use Rattle.std.specs.Prelude.{◌≡◌, ℕ, suc, ◌+◌, ◌++◌, ◌&&◌, Bool, List, map, reverse}
use Rattle.cc_words.specs.declared.operators.Width.{Width}
use Rattle.cc_simulation.specs.World.{Size}
use Rattle.cc_cminor_language.specs.Cminor.{Expression, Statement}
use Rattle.cc_range.specs.declared.range.Range.{Range}
use Rattle.cc_range_table.specs.Table.{Facts, State, Row, Table, note_at}
use Rattle.cc_range_table.specs.Inductive.{then_facts, for_facts, places, known_after, is_inductive_at}
use Rattle.cc_range_check.specs.declared.places.Place.{Place}
use Rattle.cc_range_check.specs.declared.places.Found.{Found}
use Rattle.cc_range_check.specs.declared.walk.Walk.{Walk}
use Rattle.cc_range_check.specs.Places.{operations_of, operations_of_all, operations_in, uncovered, uncovered_all, unless_inside, from_facts, uncovered_at}

-- this many operations were seen, and these are not covered
pub record Finds (count : ℕ) (ps : List Place) (old new : Found) : Type 0 where
  pub operation : new.operation ≡ old.operation + count
  pub uncovered : new.uncovered.items ≡ old.uncovered.items ++ ps

abbrev pub FindsIndex : List Size → Width → (object : ℕ) → Range → Found → Found → Type 0
FindsIndex sizes width o r old new = Finds 1 (unless_inside sizes old.operation width o r) old new

abbrev pub FindsIn : List Size → Facts → Expression → Found → Found → Type 0
FindsIn sizes F e old new = Finds (operations_of e) (uncovered sizes old.operation F e) old new

abbrev pub FindsInAll : List Size → Facts → List Expression → Found → Found → Type 0
FindsInAll sizes F es old new = Finds (operations_of_all es) (uncovered_all sizes old.operation F es) old new

-- those of a statement
abbrev pub FindsAt : List Size → Table → List State → (place : ℕ) → Facts → Statement → Found → Found → Type 0
FindsAt sizes table notes k F s old new = Finds (operations_in s) (uncovered_at sizes table notes k old.operation F s) old new

-- what is noted at the ends of the blocks that are open, the innermost first
abbrev pub ends_of : List State → (blocks : List ℕ) → List State
ends_of notes ks = map (note_at notes) (reverse ks)

-- the walk has passed this many loops and blocks, and this was tested
pub record Passes (count : ℕ) (test : Bool) (old new : Walk) : Type 0 where
  pub place : new.place ≡ old.place + count
  pub exits : new.exits.items ≡ old.exits.items
  pub inductive : new.is_inductive ≡ (old.is_inductive && test)

abbrev pub PassesAt : List Size → Table → Row → Facts → Statement → Walk → Walk → Type 0
PassesAt sizes table row F s old new = Passes (places s) (is_inductive_at sizes table row (ends_of row.notes old.exits.items) old.place F s) old new

-- the walk is in one more loop or block, inside these blocks
pub record Enters (blocks : List ℕ) (old new : Walk) : Type 0 where
  pub place : new.place ≡ suc old.place
  pub exits : new.exits.items ≡ blocks
  pub inductive : new.is_inductive ≡ old.is_inductive

-- the walk has skipped a statement that is never reached
pub record Skips (s : Statement) (old new : Walk) (before after : Found) : Type 0 where
  pub place : new.place ≡ old.place + places s
  pub exits : new.exits.items ≡ old.exits.items
  pub inductive : new.is_inductive ≡ old.is_inductive
  pub operation : after.operation ≡ before.operation + operations_in s
  pub uncovered : after.uncovered.items ≡ before.uncovered.items

-- the same if a statement is reached with the facts of a state, if it is reached at all
abbrev pub PassesFrom : List Size → Table → Row → State → Statement → Walk → Walk → Type 0
PassesFrom sizes table row S s old new = Passes (places s) (for_facts S (λ G. is_inductive_at sizes table row (ends_of row.notes old.exits.items) old.place G s)) old new

abbrev pub FindsFrom : List Size → Table → List State → (place : ℕ) → State → Statement → Found → Found → Type 0
FindsFrom sizes table notes k S s old new = Finds (operations_in s) (from_facts S (λ G. uncovered_at sizes table notes k old.operation G s)) old new

-- what is known after a statement that is reached with the facts of a state
abbrev pub known_from : List Size → Table → List State → (place : ℕ) → State → Statement → State
known_from sizes table notes k S s = then_facts S (λ G. known_after sizes table notes k G s)
