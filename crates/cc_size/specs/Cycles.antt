-- Cycles of calls.
use Rattle.std.specs.Prelude.{◌≡◌, ℕ, List, [], ◌∷◌, Contains, get_or}
use Rattle.cc_emit.specs.declared.item.PieceItem.{PieceItem}
use Rattle.cc_emit.specs.declared.item.PieceItem.TheVariants.{Call}
use Rattle.cc_size.specs.declared.recursion.Recursion.{Recursion}

-- a function calls a function (another one or itself) in one of its items; `bodies` has the items of all functions
abbrev pub DoesCall : (bodies : List (List PieceItem)) → (caller called : ℕ) → Type 0
DoesCall bodies f g = Contains (get_or bodies f []) (Call g)

-- calls lead from a function to another through each function of the way in turn; the last of them is the other function.
-- Without a call, a function leads to itself
abbrev pub LeadsBy : (bodies : List (List PieceItem)) → (way : List ℕ) → (from to : ℕ) → Type 0
LeadsBy bodies [] f g = f ≡ g
LeadsBy bodies (h ∷ way) f g = DoesCall bodies f h × LeadsBy bodies way h g

-- this call is part of a cycle of calls
pub record IsCyclic (bodies : List (List PieceItem)) (it : Recursion) : Type 0 where
  pub calls : DoesCall bodies it.caller it.called
  pub way : List ℕ
  pub back : LeadsBy bodies way it.called it.caller

-- these calls, and no others, are part of cycles of calls
pub record AreCyclic (bodies : List (List PieceItem)) (found : List Recursion) : Type 0 where
  pub each : (it : Recursion) → Contains found it → IsCyclic bodies it
  pub all : (it : Recursion) → IsCyclic bodies it → Contains found it
