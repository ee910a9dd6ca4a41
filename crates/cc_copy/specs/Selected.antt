-- Which units of the library on a disk are selected to be copied, and why none are.
use Rattle.std.specs.Prelude.{◌≡◌, ◌<◌, ℕ, Bool, true, false, IsTrue, All, List, [], ◌∷◌, length, get_or}
use Rattle.cc_library.specs.Apply.{Units}
use Rattle.cc_library.specs.Answers.{OpenFaults}
use Rattle.cc_library.specs.Name.{is_name}
use Rattle.cc_library.specs.Recovered.{Recovers}
use Rattle.cc_tasks.specs.declared.part.PartFault.{PartFault}
use Rattle.cc_tasks.specs.declared.part.PartFault.TheVariants.{BadName, Absent, Library, OutOfMemory}
use Rattle.cc_copy.specs.declared.choosing.ChooseFault.TheVariants as fault
use Rattle.cc_copy.specs.declared.judging.Selection.{Selection}
use Rattle.cc_copy.specs.Choice.{IsChosen, IsConfirmed, IsNotChosen}

-- the units with these names; all units, if no name is given
abbrev pub AreOf : Units → (names : List (List ℕ)) → (taken : Units) → Type 0
AreOf units [] taken = taken ≡ units
AreOf units (name ∷ names) taken = IsChosen units (name ∷ names) taken

-- all of these units, or those that an audit confirms
abbrev pub IsSelection : (confirmed : Bool) → (taken : Units) → Selection → Type 0
IsSelection false taken selection = (selection.units ≡ taken) × (selection.left_out.items ≡ [])
IsSelection true taken selection = IsConfirmed taken selection

-- all of the units with these names in a map, or those of them that an audit confirms
abbrev pub IsSelectedIn : Units → (names : List (List ℕ)) (confirmed : Bool) → Selection → Type 0
IsSelectedIn units names confirmed selection = (taken : Units) × AreOf units names taken × IsSelection confirmed taken selection

-- the text with this index is not a name
abbrev pub IsNoName : (names : List (List ℕ)) (number : ℕ) → Type 0
IsNoName names number = (number < length names) × (is_name (get_or names number []) ≡ false)

-- Why no units are selected: 33 exactly if one of the texts is not a name; else 32 exactly if one of the names has no unit, while
-- each before it has one; or memory ran out.
abbrev pub IsNotSelectedIn : Units → (names : List (List ℕ)) → PartFault → Type 0
IsNotSelectedIn units names BadName = (number : ℕ) × IsNoName names number
IsNotSelectedIn units names Absent = All (λ name. IsTrue (is_name name)) names × ((number : ℕ) × IsNotChosen units names (fault.Absent number))
IsNotSelectedIn units names (Library f) = ⊥
IsNotSelectedIn units names OutOfMemory = Unit {0}

-- what is selected from the map to which the disk's bytes recover
abbrev pub IsSelectedOn : (seen : List ℕ) (names : List (List ℕ)) (confirmed : Bool) → Selection → Type 0
IsSelectedOn seen names confirmed selection = (units : Units) × Recovers seen units × IsSelectedIn units names confirmed selection

-- why no units are selected: the library is not opened; or it is, and no units are selected from the map to which the disk recovers
abbrev pub IsNotSelectedOn : (honest : Bool) (seen : List ℕ) (before after : ℕ) (names : List (List ℕ)) → PartFault → Type 0
IsNotSelectedOn honest seen before after names (Library f) = OpenFaults honest seen before after f
IsNotSelectedOn honest seen before after names BadName = (after ≡ before) × (IsTrue honest → (units : Units) × Recovers seen units × IsNotSelectedIn units names BadName)
IsNotSelectedOn honest seen before after names Absent = (after ≡ before) × (IsTrue honest → (units : Units) × Recovers seen units × IsNotSelectedIn units names Absent)
IsNotSelectedOn honest seen before after names OutOfMemory = after ≡ before
