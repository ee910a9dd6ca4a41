-- Names of units: 1 to 32 bytes, a small letter, then small letters, digits and `_`.
use Rattle.std.specs.Prelude.{ℕ, Bool, false, ◌&&◌, ◌||◌, ◌==◌, nat_le, nat_lt, List, [], ◌∷◌, length}
use Rattle.std.specs.List.{list_all}

-- a to z
abbrev pub is_small_letter : ℕ → Bool
is_small_letter byte = nat_le 97 byte && nat_le byte 122

-- a small letter, a digit or an underscore
abbrev pub is_name_byte : ℕ → Bool
is_name_byte byte = (is_small_letter byte || (nat_le 48 byte && nat_le byte 57)) || (byte == 95)

-- the bytes are a name
abbrev pub is_name : List ℕ → Bool
is_name [] = false
is_name (first ∷ later) = (is_small_letter first && nat_lt (length later) 32) && list_all is_name_byte later
