-- A command as the body of a record, in two versions. Numbers are little-endian. Version 1 has no certificate. In version 2 a unit ends
-- with one. A command is written in version 1 if its unit has no certificate, otherwise in version 2; a Withdraw is read in both.
use Rattle.std.specs.Prelude.{ℕ, ◌≤◌, ◌<◌, ◌≡◌, ◌^◌, ◌⊎◌, List, [], ◌∷◌, ◌++◌, length, Option, Some, None, IsTrue}
use Rattle.std.specs.List.{flat_map, AllByRecursion}
use Rattle.std.specs.Int.{w32, to_le_bytes}
use Rattle.cc_unit.specs.declared.unit.StoredUnit.{StoredUnit}
use Rattle.cc_library.specs.declared.command.Kind.{Kind}
use Rattle.cc_library.specs.declared.command.Kind.TheVariants as kind
use Rattle.cc_library.specs.Change.{LibraryCommand}
use Rattle.cc_library.specs.declared.command.Change.TheVariants.{Add, Replace, Withdraw}
use Rattle.cc_library.specs.Name.{is_name}

-- the byte of a kind
abbrev pub kind_number : Kind → ℕ
kind_number kind.Add = 1
kind_number kind.Replace = 2
kind_number kind.Withdraw = 3

-- the number of bytes, as four bytes, and the bytes
abbrev pub bytes_field : List ℕ → List ℕ
bytes_field bytes = to_le_bytes w32 (length bytes) ++ bytes

-- the number of words, as four bytes, and each word as four bytes
abbrev pub words_field : List ℕ → List ℕ
words_field words = to_le_bytes w32 (length words) ++ flat_map (to_le_bytes w32) words

-- the length of a name as one byte, and the name
abbrev pub name_field : List ℕ → List ℕ
name_field name = length name ∷ name

-- the certificate's length and the certificate, if there is one; a certificate without bytes still has its length
abbrev pub certificate_part : Option (List ℕ) → List ℕ
certificate_part None = []
certificate_part (Some certificate) = bytes_field certificate

-- the source, the code, the globals, and the certificate if there is one
abbrev pub unit_fields : StoredUnit → List ℕ
unit_fields unit = bytes_field unit.source ++ (words_field unit.image.code ++ (words_field unit.image.globals ++ certificate_part unit.certificate))

-- the unit, if there is one
abbrev pub unit_part : Option StoredUnit → List ℕ
unit_part None = []
unit_part (Some unit) = unit_fields unit

-- the version that a certificate needs
abbrev pub certificate_version : Option (List ℕ) → ℕ
certificate_version None = 1
certificate_version (Some certificate) = 2

-- the version in which a body with this unit, or without a unit, is written
abbrev pub part_version : Option StoredUnit → ℕ
part_version None = 2
part_version (Some unit) = certificate_version unit.certificate

-- the version, the kind, the name, and the unit if there is one; nothing comes after them
abbrev pub body_in : (version : ℕ) → Kind → List ℕ → Option StoredUnit → List ℕ
body_in version kind name unit = version ∷ (kind_number kind ∷ (name_field name ++ unit_part unit))

-- the body with this kind, name and unit, in the version in which it is written
abbrev pub body_bytes : Kind → List ℕ → Option StoredUnit → List ℕ
body_bytes kind name unit = body_in (part_version unit) kind name unit

-- the one spelling of a command in a version
abbrev pub spelling : (version : ℕ) → LibraryCommand → List ℕ
spelling version (Add name unit) = body_in version kind.Add name (Some unit)
spelling version (Replace name unit) = body_in version kind.Replace name (Some unit)
spelling version (Withdraw name) = body_in version kind.Withdraw name None

-- the version in which a command is written
abbrev pub written_version : LibraryCommand → ℕ
written_version (Add name unit) = certificate_version unit.certificate
written_version (Replace name unit) = certificate_version unit.certificate
written_version (Withdraw name) = 2

-- the body of a command, as it is written
abbrev pub body_of : LibraryCommand → List ℕ
body_of command = spelling (written_version command) command

-- a command can be spelled in this version: an Add or Replace in the one that its certificate needs, a Withdraw in both
abbrev pub HasVersion : (version : ℕ) → LibraryCommand → Type 0
HasVersion version (Add name unit) = version ≡ certificate_version unit.certificate
HasVersion version (Replace name unit) = version ≡ certificate_version unit.certificate
HasVersion version (Withdraw name) = (version ≡ 1) ⊎ (version ≡ 2)

-- Add and Replace have a unit, Withdraw has none
abbrev pub HasUnit : Kind → Option StoredUnit → Type 0
HasUnit kind.Add None = ⊥
HasUnit kind.Add (Some unit) = Unit {0}
HasUnit kind.Replace None = ⊥
HasUnit kind.Replace (Some unit) = Unit {0}
HasUnit kind.Withdraw None = Unit {0}
HasUnit kind.Withdraw (Some unit) = ⊥

-- each number is below the limit
abbrev pub AreBelow : ℕ → List ℕ → Type 0
AreBelow limit numbers = AllByRecursion (λ n. n < limit) numbers

-- the length of the certificate, if there is one, fits in four bytes
abbrev pub IsShort : Option (List ℕ) → Type 0
IsShort None = Unit {0}
IsShort (Some certificate) = length certificate < 2 ^ 32

-- the length of the unit's certificate, if there are a unit and a certificate, fits in four bytes
abbrev pub HasShort : Option StoredUnit → Type 0
HasShort None = Unit {0}
HasShort (Some unit) = IsShort unit.certificate

-- the certificate, if there is one, is possible: a list of bytes whose length fits in four bytes
abbrev pub IsCertificate : Option (List ℕ) → Type 0
IsCertificate None = Unit {0}
IsCertificate (Some certificate) = (length certificate < 2 ^ 32) × AreBelow (2 ^ 8) certificate

-- a possible unit: a source of at most 65,536 bytes, 1 to 131,072 code words, at most 65,536 global words, a possible certificate if any
pub record IsUnit (unit : StoredUnit) : Type 0 where
  pub source : length unit.source ≤ 65536
  pub bytes : AreBelow (2 ^ 8) unit.source
  pub some : 1 ≤ length unit.image.code
  pub code : length unit.image.code ≤ 131072
  pub code_words : AreBelow (2 ^ 32) unit.image.code
  pub globals : length unit.image.globals ≤ 65536
  pub global_words : AreBelow (2 ^ 32) unit.image.globals
  pub certificate : IsCertificate unit.certificate

-- the unit, if there is one, is a possible one
abbrev pub HoldsUnit : Option StoredUnit → Type 0
HoldsUnit None = Unit {0}
HoldsUnit (Some unit) = IsUnit unit

-- a possible command
abbrev pub IsCommand : LibraryCommand → Type 0
IsCommand (Add name unit) = IsTrue (is_name name) × IsUnit unit
IsCommand (Replace name unit) = IsTrue (is_name name) × IsUnit unit
IsCommand (Withdraw name) = IsTrue (is_name name)

-- these bytes are a body of this command, in a version in which it can be spelled
pub record Spells (bytes : List ℕ) (command : LibraryCommand) : Type 0 where
  pub version : ℕ
  pub has_version : HasVersion version command
  pub spelled : bytes ≡ spelling version command
  pub command_is : IsCommand command
