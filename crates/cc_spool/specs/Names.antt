-- Names of scripts: 1 to 64 letters, digits, `-` and `_`.
use Rattle.std.specs.Prelude.{ℕ, Bool, ◌&&◌, ◌||◌, ◌==◌, nat_le, List, length}
use Rattle.std.specs.List.{list_all}

-- A to Z, or a to z
abbrev pub is_letter : ℕ → Bool
is_letter byte = (nat_le 65 byte && nat_le byte 90) || (nat_le 97 byte && nat_le byte 122)

-- a letter, a digit, `-` or `_`
abbrev pub is_plain_byte : ℕ → Bool
is_plain_byte byte = ((is_letter byte || (nat_le 48 byte && nat_le byte 57)) || (byte == 45)) || (byte == 95)

-- the bytes are the name of a script
abbrev pub is_plain : List ℕ → Bool
is_plain bytes = (nat_le 1 (length bytes) && nat_le (length bytes) 64) && list_all is_plain_byte bytes
