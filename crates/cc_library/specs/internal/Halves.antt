-- A change in two halves, as the code of a library makes it: what needs memory comes before the journal is asked, and the rest after the
-- journal has answered. `proofs/Changing` shows that the halves together are the whole change, or nothing.
use Rattle.std.specs.Prelude.{if◌then◌else◌}
use Rattle.std.specs.FinMap.{contains_key, insert, remove}
use Rattle.cc_library.specs.Change.{LibraryCommand}
use Rattle.cc_library.specs.declared.command.Change.TheVariants.{Add, Replace, Withdraw}
use Rattle.cc_library.specs.Apply.{Units}

-- the map once the memory that a command needs has been taken: an Add has set its name already
abbrev pub begun : Units → LibraryCommand → Units
begun units (Add name unit) = insert units name unit
begun units (Replace name unit) = units
begun units (Withdraw name) = units

-- the map once a command that was begun is finished
abbrev pub finished : Units → LibraryCommand → Units
finished units (Add name unit) = units
finished units (Replace name unit) = if contains_key units name then insert units name unit else units
finished units (Withdraw name) = remove units name

-- the map once a command that was begun is undone
abbrev pub undone : Units → LibraryCommand → Units
undone units (Add name unit) = remove units name
undone units (Replace name unit) = units
undone units (Withdraw name) = units
