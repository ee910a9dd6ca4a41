-- The shortest journal of a map: one Add per name, in the order of the names' bytes.
use Rattle.std.specs.Prelude.{ℕ, List, [], ◌∷◌, ◌++◌}
use Rattle.std.specs.FinMap.{entries}
use Rattle.cc_journal.specs.Format.{room_of}
use Rattle.cc_unit.specs.declared.unit.StoredUnit.{StoredUnit}
use Rattle.cc_library.specs.Change.{LibraryCommand}
use Rattle.cc_library.specs.declared.command.Change.TheVariants.{Add}
use Rattle.cc_library.specs.Apply.{Units}
use Rattle.cc_library.specs.Body.{body_of}

-- an Add for each of these names and units
abbrev pub adds : List (List ℕ × StoredUnit) → List LibraryCommand
adds [] = []
adds (entry ∷ others) = Add entry.0 entry.1 ∷ adds others

-- one Add per name of the map, in the order of the names
abbrev pub adds_of : Units → List LibraryCommand
adds_of units = adds (entries units)

-- the bodies of these commands
abbrev pub bodies_of : List LibraryCommand → List (List ℕ)
bodies_of [] = []
bodies_of (command ∷ commands) = body_of command ∷ bodies_of commands

-- the bodies of a compacted journal
abbrev pub compacted : Units → List (List ℕ)
compacted units = bodies_of (adds_of units)

-- the number of bytes of an area that a compacted journal would take with this command's record added
abbrev pub room_compacted : Units → LibraryCommand → ℕ
room_compacted units command = room_of (compacted units ++ body_of command ∷ [])
