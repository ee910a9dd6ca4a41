-- The functions from which calls lead to a function, as the code finds them.
use Rattle.std.specs.Prelude.{◌≡◌, ℕ, zero, suc, ◌<◌, ◌≤◌, ◌⊎◌, Bool, true, false, ◌||◌, ◌==◌, List, [], ◌∷◌, Contains, length, get_or}
use Rattle.cc_emit.specs.declared.item.PieceItem.{PieceItem}
use Rattle.cc_emit.specs.declared.item.PieceItem.TheVariants.{Plain, Call, Go}
use Rattle.cc_size.specs.declared.recursion.Recursion.{Recursion}
use Rattle.cc_size.specs.Cycles.{IsCyclic}

-- an item calls one of the functions that `is` names
abbrev pub item_calls : (is : ℕ → Bool) → PieceItem → Bool
item_calls is (Plain i) = false
item_calls is (Call g) = is g
item_calls is (Go k) = false

-- one of the items calls one of the functions that `is` names
abbrev pub items_call : (is : ℕ → Bool) → List PieceItem → Bool
items_call is [] = false
items_call is (item ∷ items) = item_calls is item || items_call is items

-- at most this many calls lead from a function to the target
unfoldable pub reaches : (bodies : List (List PieceItem)) (target : ℕ) → (calls f : ℕ) → Bool
reaches bodies target zero f = f == target
reaches bodies target (suc calls) f = reaches bodies target calls f || items_call (reaches bodies target calls) (get_or bodies f [])

-- the functions that are in the table, and those that call one that `is` names
abbrev pub nearer : (is : ℕ → Bool) → (table : List Bool) → (bodies : List (List PieceItem)) → List Bool
nearer is [] bodies = []
nearer is (b ∷ bs) [] = []
nearer is (b ∷ bs) (items ∷ rest) = (b || items_call is items) ∷ nearer is bs rest

-- `found` has only calls that are part of cycles, and has all such calls by functions before `caller` and the calls of
-- `caller` to functions before `called`
pub record FoundUpTo (bodies : List (List PieceItem)) (caller called : ℕ) (found : List Recursion) : Type 0 where
  pub each : (it : Recursion) → Contains found it → IsCyclic bodies it
  pub all : (it : Recursion) (cycle : IsCyclic bodies it) → length cycle.way ≤ length bodies → (it.caller < caller) ⊎ ((it.caller ≡ caller) × (it.called < called)) → Contains found it

-- the list with this call alone, if it is part of a cycle; else the empty list
abbrev pub added : (is : Bool) → (caller called : ℕ) → List Recursion
added true f g = record { caller = f; called = g } ∷ []
added false f g = []
