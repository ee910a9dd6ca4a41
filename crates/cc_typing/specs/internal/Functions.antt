-- How the code stores which functions are defined.
use Rattle.std.specs.Prelude.{ℕ, ◌≡◌, ◌≤◌, Bool, false, List, length, reverse, Option, Some, None}
use Rattle.std.specs.Borrow.{Bor}
use Rattle.cc_scope.specs.Numberings.{AreNumbers, number_of_name, at_number}
use Rattle.cc_types.specs.Scope.{has_name}
use Rattle.cc_scope.specs.Entities.{names_in}
use Rattle.cc_typing.specs.declared.functions.State.{State}

-- the functions that a unit defines, and those that are defined before a given place; both include the builtins
pub record Functions : Type 0 where
  pub defined : List (List ℕ)
  pub before : List (List ℕ)

-- names that the code stores newest last; the definitions have them newest first
abbrev pub newest_first : List (Bor (List ℕ)) → List (List ℕ)
newest_first keys = names_in (reverse keys)

-- what an entry says: defined, or defined before; if there is no entry, neither holds
abbrev pub is_defined : Option State → Bool
is_defined None = false
is_defined (Some s) = s.defined

abbrev pub stands_before : Option State → Bool
stands_before None = false
stands_before (Some s) = s.before

-- the table has the state of each function at the number of its name, and nothing at a number that no name has
pub record AreStates (names : List (List ℕ × ℕ)) (table : ℕ → Option State) (ds bs : List (List ℕ)) : Type 0 where
  pub numbers : AreNumbers names
  pub defined : (x : List ℕ) → is_defined (at_number table (number_of_name names x)) ≡ has_name ds x
  pub before : (x : List ℕ) → stands_before (at_number table (number_of_name names x)) ≡ has_name bs x
  pub rest : (n : ℕ) → length names ≤ n → table n ≡ None
