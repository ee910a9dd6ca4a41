-- How the code keeps the names in scope.
use Rattle.std.specs.Prelude.{ℕ, ◌≡◌, ◌≤◌, List, [], ◌∷◌, length, map, reverse, take, drop, Option, Some, None, if◌then◌else◌}
use Rattle.cc_types.specs.Names.{same_name}
use Rattle.cc_scope.specs.Numberings.{AreNumbers, number_of_name, at_number}
use Rattle.cc_types.specs.Scope as scope
use Rattle.cc_types.specs.Scope.{Visible}
use Rattle.cc_scope.specs.Entities.{entity_of}
use Rattle.cc_scope.specs.declared.bindings.Binding.{Binding}
use Rattle.cc_scope.specs.declared.bindings.Newest.{Newest}

-- a binding of the code, in terms of the definitions
abbrev pub binding_of : Binding → scope.Binding
binding_of b = record { name = b.name.now; entity = entity_of b.entity }

-- the bindings, newest first; the code keeps them oldest first
abbrev pub bindings_of : List Binding → List scope.Binding
bindings_of bs = map binding_of (reverse bs)

-- the number of the newest binding of a name: how many bindings are older
abbrev pub number_in : List scope.Binding → List ℕ → Option ℕ
number_in [] x = None
number_in (b ∷ behind) x = if same_name b.name x then Some (length behind) else number_in behind x

-- each binding has the number of its name, and records which binding of its name was the newest before it; the bindings are
-- given newest first
abbrev pub AreHidden : List (List ℕ × ℕ) → List Binding → Type 0
AreHidden names [] = Unit {0}
AreHidden names (b ∷ rest) = (number_of_name names b.name.now ≡ Some b.number) × (b.hidden ≡ number_in (map binding_of rest) b.name.now) × AreHidden names rest

-- the table has the newest binding at the number of each name, and nothing at a number that no name has
pub record IsTable (bs : List Binding) (names : List (List ℕ × ℕ)) (table : ℕ → Option ℕ) : Type 0 where
  pub numbers : AreNumbers names
  pub found : (x : List ℕ) → at_number table (number_of_name names x) ≡ number_in (bindings_of bs) x
  pub hidden : AreHidden names (reverse bs)
  pub rest : (n : ℕ) → length names ≤ n → table n ≡ None

-- the number that a look-up of a name finds
abbrev pub number_of : Option Newest → Option ℕ
number_of None = None
number_of (Some n) = Some n.number

abbrev pub entity_found : Option Newest → Option scope.Entity
entity_found None = None
entity_found (Some n) = Some (entity_of n.entity)

-- the scope made from some bindings, if the innermost scope has declared `inner` of them
abbrev pub scope_of : List scope.Binding → ℕ → Visible
scope_of all inner = record { inner = take inner all; outer = drop inner all }

-- the scope after the inner one is closed, if the scope around it has declared `around` names
abbrev pub closed : ℕ → Visible → Visible
closed around v = record { inner = take around v.outer; outer = drop around v.outer }

-- only file scope is open
abbrev pub file_level : List scope.Binding → Visible
file_level bs = record { inner = []; outer = bs }

-- file scope if no other scope is open: with these names of defined functions, or without such names
abbrev pub file_with : Visible → List (List ℕ) → scope.FileScope
file_with v defined = record { bindings = v.outer; defined = defined }

abbrev pub file_of : Visible → scope.FileScope
file_of v = file_with v []
