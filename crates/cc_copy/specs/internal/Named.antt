-- Why names are not read, or have no units.
use Rattle.std.specs.Prelude.{ℕ, List}
use Rattle.cc_library.specs.Apply.{Units}
use Rattle.cc_tasks.specs.declared.part.PartFault.{PartFault}
use Rattle.cc_tasks.specs.declared.part.PartFault.TheVariants.{BadName, Absent, Library, OutOfMemory}
use Rattle.cc_copy.specs.declared.choosing.ChooseFault.TheVariants as fault
use Rattle.cc_copy.specs.Choice.{IsNotChosen}
use Rattle.cc_copy.specs.Selected.{IsNoName}

-- 33 exactly if one of the texts is not a name; else memory ran out
abbrev pub IsUnnamed : (names : List (List ℕ)) → PartFault → Type 0
IsUnnamed names BadName = (number : ℕ) × IsNoName names number
IsUnnamed names OutOfMemory = Unit {0}
IsUnnamed names Absent = ⊥
IsUnnamed names (Library f) = ⊥

-- 32 exactly if one of the names has no unit; else memory ran out
abbrev pub IsNotTaken : Units → (names : List (List ℕ)) → PartFault → Type 0
IsNotTaken units names Absent = (number : ℕ) × IsNotChosen units names (fault.Absent number)
IsNotTaken units names OutOfMemory = Unit {0}
IsNotTaken units names BadName = ⊥
IsNotTaken units names (Library f) = ⊥
