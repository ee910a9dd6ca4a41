-- What a spool gave, and what it was handed.
use Rattle.std.specs.Prelude.{ℕ, List, Option}

-- a script that was taken: its bytes, and the contents of the writer of its answer at that time, if these are known
pub record Taken : Type 0 where
  pub script : Option (List ℕ)
  pub begun : Option (List ℕ)

abbrev pub taken_as : (script begun : Option (List ℕ)) → Taken
taken_as script begun = record { script = script; begun = begun }

-- an answer handed over: its writer's contents, if known, and the number of the fault that ended its script (51 to 54, 61), if any
pub record Delivered : Type 0 where
  pub answer : Option (List ℕ)
  pub end : Option ℕ

abbrev pub delivered_as : (answer : Option (List ℕ)) (end : Option ℕ) → Delivered
delivered_as answer end = record { answer = answer; end = end }
