-- How the code stores the names of the objects and of the functions of a unit.
use Rattle.std.specs.Prelude.{ℕ, suc, ◌≡◌, ◌≤◌, List, [], ◌∷◌, length, map, Option, Some, None, if◌then◌else◌, option_map}
use Rattle.std.specs.Borrow.{Bor}
use Rattle.cc_types.specs.Names.{same_name}
use Rattle.cc_scope.specs.Numberings.{AreNumbers, number_of_name, at_number}
use Rattle.cc_scope.specs.Entities.{names_in}
use Rattle.cc_layout.specs.Layout.{LaidObject}
use Rattle.cc_types.specs.Scope as scope
use Rattle.cc_layout.specs.declared.layout.Extent.{Extent}

-- how many names precede the first place of a name in the list, or None if it is not in the list
abbrev pub first_of : List (List ℕ) → List ℕ → Option ℕ
first_of [] x = None
first_of (y ∷ rest) x = if same_name y x then Some 0 else option_map suc (first_of rest x)

-- the table has each name's first place at the name's number, and nothing at a number that no name has
pub record ArePlaces (list : List (Bor (List ℕ))) (names : List (List ℕ × ℕ)) (table : ℕ → Option ℕ) : Type 0 where
  pub numbers : AreNumbers names
  pub found : (x : List ℕ) → at_number table (number_of_name names x) ≡ first_of (names_in list) x
  pub rest : (n : ℕ) → length names ≤ n → table n ≡ None

-- objects, given their names and where their words are
abbrev pub laid_objects : List (List ℕ) → List Extent → List LaidObject
laid_objects (x ∷ names) (e ∷ extents) = record { name = x; extent = e } ∷ laid_objects names extents
laid_objects names extents = []

-- the names of the locals in scope
abbrev pub local_names : List scope.Binding → List (List ℕ)
local_names bs = map (λ (b : scope.Binding). b.name) bs
