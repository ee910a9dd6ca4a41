-- A byte that is read.
use Rattle.std.specs.Prelude.{ℕ, List, [], ◌∷◌, Option, Some, None}
use Rattle.std.specs.Io.KnownBytes.{Consumes, IsAtEnd}

-- the next of the bytes that are left; or none is left
abbrev pub IsNextByte : (before : Option (List ℕ)) → Option ℕ → (after : Option (List ℕ)) → Type 0
IsNextByte before None after = Consumes before after [] × IsAtEnd after
IsNextByte before (Some byte) after = Consumes before after (byte ∷ [])
