-- The bytes of an image, each at its address, and what it means that a text gives these bytes.
use Rattle.std.specs.Prelude.{ℕ, ◌+◌, ◌-◌, ◌*◌, ◌/◌, ◌%◌, ◌^◌, ◌&&◌, ◌==◌, nat_le, nat_lt, if◌then◌else◌, List, [], ◌∷◌, ◌++◌, length, slice_index, Option, Some, None, ◌≡◌}
use Rattle.std.specs.List.{flat_map}
use Rattle.std.specs.Int.{w32, to_le_bytes}
use Rattle.cc_rv32.specs.declared.image.Image.{Image}
use Rattle.cc_rv32.specs.Machine.{code_from, globals_from}
use Rattle.cc_hex.specs.Format.{AddressedByte, cells_from, read}

-- ---- address by address

-- the byte at an address, given words that begin at another address, the lowest byte of each first: one byte, or none outside the words
abbrev pub byte_of_words : (from : ℕ) (words : List ℕ) (a : ℕ) → List ℕ
byte_of_words from words a =
    if nat_le from a && nat_lt a (from + 4 * length words)
    then slice_index words ((a - from) / 4) / 2 ^ (8 * ((a - from) % 4)) % 256 ∷ [] else []

-- the byte of an image at an address: one of its code or of its globals' initial values, or none
abbrev pub image_byte : Image → (a : ℕ) → List ℕ
image_byte image a = byte_of_words code_from image.code a ++ byte_of_words globals_from image.globals a

-- the bytes that cells have at an address
abbrev pub bytes_at : List AddressedByte → (a : ℕ) → List ℕ
bytes_at [] a = []
bytes_at (cell ∷ cells) a = (if cell.address == a then cell.byte ∷ [] else []) ++ bytes_at cells a

-- the text is valid, and at this address it gives these bytes
abbrev pub GivesAt : Option (List AddressedByte) → (a : ℕ) (bytes : List ℕ) → Type 0
GivesAt None a bytes = ⊥
GivesAt (Some cells) a bytes = bytes_at cells a ≡ bytes

-- at each address the text gives the image's byte once, and nothing if the image has none there
abbrev pub Holds : (text : List ℕ) → Image → Type 0
Holds text image = (a : ℕ) → GivesAt (read text) a (image_byte image a)

-- ---- in order

-- words as bytes, the lowest byte of each first
abbrev pub bytes_of_words : List ℕ → List ℕ
bytes_of_words words = flat_map (to_le_bytes w32) words

-- each byte of the code and of the globals' initial values, with its address
abbrev pub image_cells : Image → List AddressedByte
image_cells image = cells_from code_from (bytes_of_words image.code) ++ cells_from globals_from (bytes_of_words image.globals)

-- the text gives the image's bytes in order of address
abbrev pub Says : (text : List ℕ) → Image → Type 0
Says text image = read text ≡ Some (image_cells image)
