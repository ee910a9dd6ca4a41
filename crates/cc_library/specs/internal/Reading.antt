-- Reading a body from left to right: each field gives a value and the bytes after it, or nothing.
use Rattle.std.specs.Prelude.{ℕ, zero, suc, ◌&&◌, ◌||◌, List, [], ◌∷◌, length, take, drop, Option, Some, None, nat_lt, nat_le, ◌==◌, if◌then◌else◌}
use Rattle.std.specs.Int.{w32, from_le_bytes}
use Rattle.cc_unit.specs.declared.unit.StoredUnit.{StoredUnit}
use Rattle.cc_library.specs.Change.{LibraryCommand}
use Rattle.cc_library.specs.declared.command.Change.TheVariants.{Add, Replace, Withdraw}
use Rattle.cc_library.specs.Name.{is_name}

infixl 10 ◌>>=◌
abbrev pub ◌>>=◌ : {A B : Type 0} → Option A → (A → Option B) → Option B
(Some x) >>= f = f x
None >>= f = None

-- one byte
abbrev pub byte_in : List ℕ → Option (ℕ × List ℕ)
byte_in [] = None
byte_in (byte ∷ rest) = Some (byte, rest)

-- the first `n` bytes
abbrev pub taken : ℕ → List ℕ → Option (List ℕ × List ℕ)
taken n bytes = if nat_lt (length bytes) n then None else Some (take n bytes, drop n bytes)

-- a number of four bytes
abbrev pub number_in : List ℕ → Option (ℕ × List ℕ)
number_in bytes = if nat_lt (length bytes) 4 then None else Some (from_le_bytes w32 (take 4 bytes), drop 4 bytes)

-- the first words of these bytes, as many as the number says
unfoldable pub words_in : ℕ → List ℕ → Option (List ℕ × List ℕ)
words_in zero bytes = Some ([], bytes)
words_in (suc n) bytes = do
  first ← number_in bytes
  others ← words_in n first.1
  Some (first.0 ∷ others.0, others.1)

-- a count of at least `least` and at most `most`, and that many words
unfoldable pub words_field_in : ℕ → ℕ → List ℕ → Option (List ℕ × List ℕ)
words_field_in least most bytes = do
  n ← number_in bytes
  if nat_le least n.0 && nat_le n.0 most then words_in n.0 n.1 else None

-- a length of at most 65,536, and that many bytes
unfoldable pub source_in : List ℕ → Option (List ℕ × List ℕ)
source_in bytes = do
  n ← number_in bytes
  if nat_le n.0 65536 then taken n.0 n.1 else None

-- a length as one byte, and that many bytes, which are a name
unfoldable pub name_in : List ℕ → Option (List ℕ × List ℕ)
name_in bytes = do
  n ← byte_in bytes
  name ← taken n.0 n.1
  if is_name name.0 then Some name else None

-- a certificate, or none: only version 2 has one
unfoldable pub certificate_in : (version : ℕ) → List ℕ → Option (Option (List ℕ) × List ℕ)
certificate_in version bytes =
    if version == 2 then (number_in bytes >>= λ n. taken n.0 n.1 >>= λ found. Some (Some found.0, found.1))
    else Some (None, bytes)

-- a unit
unfoldable pub unit_in : (version : ℕ) → List ℕ → Option (StoredUnit × List ℕ)
unit_in version bytes = do
  source ← source_in bytes
  code ← words_field_in 1 131072 source.1
  globals ← words_field_in 0 65536 code.1
  certificate ← certificate_in version globals.1
  Some (record { source = source.0; image = record { code = code.0; globals = globals.0 }; certificate = certificate.0 }, certificate.1)

-- the command with this kind and name
unfoldable pub kind_in : (version : ℕ) → ℕ → List ℕ → List ℕ → Option (LibraryCommand × List ℕ)
kind_in version kind name bytes =
    if kind == 1 then (unit_in version bytes >>= λ unit. Some (Add name unit.0, unit.1))
    else (if kind == 2 then (unit_in version bytes >>= λ unit. Some (Replace name unit.0, unit.1))
    else (if kind == 3 then Some (Withdraw name, bytes) else None))

-- the command that all these bytes spell
unfoldable pub command_in : List ℕ → Option LibraryCommand
command_in bytes = do
  version ← byte_in bytes
  kind ← byte_in version.1
  name ← name_in kind.1
  command ← kind_in version.0 kind.0 name.0 name.1
  if ((version.0 == 1) || (version.0 == 2)) && (length command.1 == 0) then Some command.0 else None
