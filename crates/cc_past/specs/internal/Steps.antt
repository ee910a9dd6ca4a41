-- What is stated elsewhere for a disk, stated for its commands and images.
use Rattle.std.specs.Prelude.{◌≡◌, ◌⊎◌, ℕ, false, List}
use Rattle.cc_library.specs.Change.{LibraryCommand}
use Rattle.cc_library.specs.Name.{is_name}
use Rattle.cc_library.specs.Apply.{Units}
use Rattle.cc_library.specs.Recovered.{RecoversOneOf}
use Rattle.cc_tasks.specs.declared.part.PartFault.{PartFault}
use Rattle.cc_tasks.specs.declared.part.PartFault.TheVariants.{BadName, Absent, Library, OutOfMemory}
use Rattle.cc_past.specs.Past.{StoresNone}

-- why the command with this number stored no unit under this name: 33 exactly if the bytes are not a name, 32 exactly if they are
-- a name under which the command stored nothing
abbrev pub IsNotStored : List LibraryCommand → (name : List ℕ) (number : ℕ) → PartFault → Type 0
IsNotStored commands name number BadName = is_name name ≡ false
IsNotStored commands name number Absent = StoresNone commands name number
IsNotStored commands name number (Library f) = ⊥
IsNotStored commands name number OutOfMemory = Unit {0}

-- the image could have been left before, or recovers to the earlier map or to the later one, and to no other map
abbrev pub MayBe : (before : List ℕ → Type 0) (old new : Units) → List ℕ → Type 0
MayBe before old new image = before image ⊎ RecoversOneOf old new image
