-- The next byte of what is left of a script.
use Rattle.std.specs.Prelude.{ℕ, ◌≡◌, ◌+◌, [], ◌∷◌, Option, Some, None}
use Rattle.std.specs.Io.KnownBytes.{Consumes, IsAtEnd, Keeps}
use Rattle.cc_script.specs.Reading.{Ahead}

-- what is left begins with this byte, which is then removed, and the count falls by one; or the end is reached, there is no
-- byte, and nothing changes
abbrev pub IsNextByte : (before : Ahead) → Option ℕ → (after : Ahead) → Type 0
IsNextByte before None after = Keeps before.rest after.rest × IsAtEnd after.rest × (after.left ≡ before.left)
IsNextByte before (Some byte) after = Consumes before.rest after.rest (byte ∷ []) × (after.left + 1 ≡ before.left)
