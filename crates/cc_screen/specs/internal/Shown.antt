-- How printed bytes are shown on a terminal: with a question mark for each control byte.
use Rattle.std.specs.Prelude.{ℕ, Bool, ◌&&◌, ◌||◌, ◌==◌, not, nat_le, nat_lt, if◌then◌else◌, List, [], ◌∷◌}

-- a control byte is 0 to 31 except tab and newline, 127, or 128 to 159 unless the byte before makes it part of another character
abbrev pub is_control : (before byte : ℕ) → Bool
is_control before byte =
    ((nat_lt byte 32 && not ((byte == 9) || (byte == 10))) || (byte == 127))
    || ((nat_le 128 byte && nat_lt byte 160) && (nat_lt before 128 || (before == 194)))

abbrev pub shown_byte : (before byte : ℕ) → ℕ
shown_byte before byte = if is_control before byte then 63 else byte

-- how the bytes are shown after the byte `before`
abbrev pub shown : (before : ℕ) → List ℕ → List ℕ
shown before [] = []
shown before (byte ∷ bytes) = shown_byte before byte ∷ shown byte bytes

-- the last of these bytes, or `before` if the list is empty
abbrev pub last_of : (before : ℕ) → List ℕ → ℕ
last_of before [] = before
last_of before (byte ∷ bytes) = last_of byte bytes
