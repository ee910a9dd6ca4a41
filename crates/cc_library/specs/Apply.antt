-- The library as a map from names to units, what one command does to it, and what many commands do.
use Rattle.std.specs.Prelude.{ℕ, List, [], ◌∷◌, Option, Some, None, Result, Ok, Err, IsOk, if◌then◌else◌}
use Rattle.std.specs.Ordering.{nat_cmp}
use Rattle.std.specs.Cmp.Lexicographic.{slice_cmp}
use Rattle.std.specs.FinMap.{FinMap, empty, contains_key, insert, remove}
use Rattle.cc_unit.specs.declared.unit.StoredUnit.{StoredUnit}
use Rattle.cc_library.specs.Change.{LibraryCommand}
use Rattle.cc_library.specs.declared.command.Change.TheVariants.{Add, Replace, Withdraw}

-- a finite map from names, in the order of their bytes, to units
abbrev pub Units : Type 0
Units = FinMap (slice_cmp nat_cmp) StoredUnit

-- the number with which a name that exists already is refused
abbrev pub exists : ℕ
exists = 31

-- the number with which a name that does not exist is refused
abbrev pub absent : ℕ
absent = 32

-- Add sets an absent name, Replace sets a present one, Withdraw removes a present one; otherwise a number says why the command is refused
abbrev pub apply : Units → LibraryCommand → Result Units ℕ
apply units (Add name unit) = if contains_key units name then Err exists else Ok (insert units name unit)
apply units (Replace name unit) = if contains_key units name then Ok (insert units name unit) else Err absent
apply units (Withdraw name) = if contains_key units name then Ok (remove units name) else Err absent

-- the new map, or the old one if the command was refused
abbrev pub kept : Units → Result Units ℕ → Units
kept units (Ok made) = made
kept units (Err number) = units

-- the map after a command; a refused command leaves it as it is
abbrev pub after : Units → LibraryCommand → Units
after units command = kept units (apply units command)

-- the map after these commands, one after the other, starting from a given map
abbrev pub after_all : Units → List LibraryCommand → Units
after_all units [] = units
after_all units (command ∷ commands) = after_all (after units command) commands

-- the map after these commands, starting from the empty map
abbrev pub library_of : List LibraryCommand → Units
library_of commands = after_all empty commands

-- the number of a refusal, if there is one
abbrev pub refusal : Result Units ℕ → Option ℕ
refusal (Ok units) = None
refusal (Err number) = Some number

-- each of these commands is accepted by the map after the commands before it
abbrev pub AreAccepted : Units → List LibraryCommand → Type 0
AreAccepted units [] = Unit {0}
AreAccepted units (command ∷ commands) = IsOk (apply units command) × AreAccepted (after units command) commands
