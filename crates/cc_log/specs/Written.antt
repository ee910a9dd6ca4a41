-- The lines that are written for commands.
use Rattle.std.specs.Prelude.{ℕ, ◌+◌, Bool, true, false, List, [], ◌∷◌, ◌++◌, length, Option, Some, None, codes, if◌then◌else◌}
use Rattle.std.specs.Str.{bytes_eq}
use Rattle.std.specs.Fmt.{decimal}
use Rattle.hex.specs.Hex.{encode_lower}
use Rattle.sha2.specs.Sha256.{sha256}
use Rattle.cc_unit.specs.declared.unit.StoredUnit.{StoredUnit}
use Rattle.cc_library.specs.Change.{LibraryCommand}
use Rattle.cc_library.specs.declared.command.Change.TheVariants.{Add, Replace, Withdraw}

-- the name that a command is about
abbrev pub name_of : LibraryCommand → List ℕ
name_of (Add name unit) = name
name_of (Replace name unit) = name
name_of (Withdraw name) = name

-- the command was asked for: all commands were, or those about the name were
abbrev pub is_asked : Option (List ℕ) → LibraryCommand → Bool
is_asked None command = true
is_asked (Some name) command = bytes_eq (name_of command) name

-- the SHA-256 of a source in 64 digits, with small letters, after a space, if hashes were asked for
abbrev pub hash_text : (hashed : Bool) → (source : List ℕ) → List ℕ
hash_text true source = codes " " ++ encode_lower (sha256 source)
hash_text false source = []

-- a name, the number of bytes of its unit's source, and the number of words of its unit's code
abbrev pub lengths_text : (name : List ℕ) → StoredUnit → List ℕ
lengths_text name unit = name ++ (codes " " ++ (decimal (length unit.source) ++ (codes " " ++ decimal (length unit.image.code))))

-- ... and the hash of the source, if hashes were asked for
abbrev pub unit_text : (hashed : Bool) → (name : List ℕ) → StoredUnit → List ℕ
unit_text hashed name unit = lengths_text name unit ++ hash_text hashed unit.source ++ codes "\n"

-- what a command does
abbrev pub command_text : (hashed : Bool) → LibraryCommand → List ℕ
command_text hashed (Add name unit) = codes " add " ++ unit_text hashed name unit
command_text hashed (Replace name unit) = codes " replace " ++ unit_text hashed name unit
command_text hashed (Withdraw name) = codes " withdraw " ++ (name ++ codes "\n")

-- the line for the command with this number, if that command was asked for
abbrev pub line_text : (hashed : Bool) → Option (List ℕ) → (number : ℕ) → LibraryCommand → List ℕ
line_text hashed name number command = if is_asked name command then decimal number ++ command_text hashed command else []

-- the lines for commands, whose numbers begin at one more than this number
abbrev pub lines_after : (hashed : Bool) → Option (List ℕ) → ℕ → List LibraryCommand → List ℕ
lines_after hashed name number [] = []
lines_after hashed name number (command ∷ commands) = line_text hashed name (number + 1) command ++ lines_after hashed name (number + 1) commands

-- the lines for all commands that were asked for: the line with the number K is for the K-th command
abbrev pub log_text : (hashed : Bool) → Option (List ℕ) → List LibraryCommand → List ℕ
log_text hashed name commands = lines_after hashed name 0 commands
