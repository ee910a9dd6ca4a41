-- The layout of an image's text: its code's bytes, its globals' bytes and the end of file, with 16 bytes in a record and digits
-- in upper case.
use Rattle.std.specs.Prelude.{ℕ, zero, suc, ◌+◌, ◌-◌, ◌/◌, ◌%◌, ◌==◌, nat_lt, if◌then◌else◌, List, [], ◌∷◌, ◌++◌, length, take, drop, sum}
use Rattle.std.specs.List.{flat_map}
use Rattle.std.specs.Int.{w16, to_be_bytes}
use Rattle.cc_rv32.specs.declared.image.Image.{Image}
use Rattle.cc_rv32.specs.Machine.{code_from, globals_from}
use Rattle.cc_hex.specs.Contents.{bytes_of_words}

-- a hexadecimal digit, in upper case
abbrev pub digit : ℕ → ℕ
digit n = if nat_lt n 10 then 48 + n else 55 + n

abbrev pub two_digits : ℕ → List ℕ
two_digits b = digit (b / 16) ∷ digit (b % 16) ∷ []

-- the byte that makes the lowest byte of the sum 0
abbrev pub checksum : List ℕ → ℕ
checksum bytes = (256 - sum bytes % 256) % 256

-- the bytes of a record before its checksum
unfoldable pub unsummed : (record_type offset : ℕ) (data_bytes : List ℕ) → List ℕ
unsummed t offset bytes = length bytes ∷ to_be_bytes w16 offset ++ t ∷ bytes

-- the line of a record
unfoldable pub record_line : (record_type offset : ℕ) (data_bytes : List ℕ) → List ℕ
record_line t offset bytes =
    let unsummed_bytes = unsummed t offset bytes in
    58 ∷ flat_map two_digits (unsummed_bytes ++ checksum unsummed_bytes ∷ []) ++ 10 ∷ []

-- the line that moves the base address, if a block of 65,536 addresses begins at this address
unfoldable pub base_line : (a : ℕ) → List ℕ
base_line a = if a % 65536 == 0 then record_line 4 0 (to_be_bytes w16 (a / 65536)) else []

-- the lines of at most 16 bytes at an address
unfoldable pub row : (a : ℕ) (bytes : List ℕ) → List ℕ
row a bytes = base_line a ++ record_line 0 (a % 65536) bytes

-- this many rows of 16 bytes; the last one may have fewer
abbrev pub rows : (count a : ℕ) (bytes : List ℕ) → List ℕ
rows zero a bytes = []
rows (suc n) a bytes = row a (take 16 bytes) ++ rows n (a + 16) (drop 16 bytes)

-- all rows of these bytes, from an address on
abbrev pub block : (a : ℕ) (bytes : List ℕ) → List ℕ
block a bytes = rows ((length bytes + 15) / 16) a bytes

-- the text of an image
abbrev pub image_text : Image → List ℕ
image_text image = block code_from (bytes_of_words image.code) ++ block globals_from (bytes_of_words image.globals) ++ record_line 1 0 []
