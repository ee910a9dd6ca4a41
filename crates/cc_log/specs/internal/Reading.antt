-- Why commands could not be read.
use Rattle.std.specs.Prelude.{ℕ, List}
use Rattle.cc_library.specs.Change.{LibraryCommand}
use Rattle.cc_library.specs.declared.fault.LibraryFault.{LibraryFault}
use Rattle.cc_library.specs.declared.fault.LibraryFault.TheVariants.{Exists, Absent, Full, DiskFault, Closed, Damaged, NotALibrary, OutOfMemory}
use Rattle.cc_library.specs.Recovered.{AreSpelled}

-- the fault is 37, and the bodies do not spell commands; or memory ran out
abbrev pub IsUnread : List (List ℕ) → LibraryFault → Type 0
IsUnread bodies Damaged = (commands : List LibraryCommand) → AreSpelled bodies commands → ⊥
IsUnread bodies OutOfMemory = Unit {0}
IsUnread bodies DiskFault = ⊥
IsUnread bodies NotALibrary = ⊥
IsUnread bodies Exists = ⊥
IsUnread bodies Absent = ⊥
IsUnread bodies Full = ⊥
IsUnread bodies Closed = ⊥
