-- What an Intel HEX text says (Intel, Hexadecimal Object File Format Specification, revision A, 1988), defined by a reader that is total on
-- all bytes. It reads the records of data (type 00), end of file (01) and extended linear address (04). A text with anything else says
-- nothing: a record of another type, a wrong digit, length or checksum, no end of file, or anything after that.
use Rattle.std.specs.Prelude.{ℕ, ◌+◌, ◌-◌, ◌*◌, ◌%◌, ◌^◌, ◌&&◌, ◌==◌, nat_le, if◌then◌else◌, List, [], ◌∷◌, ◌++◌, length, take, sum, Option, Some, None}
use Rattle.cc_hex.specs.internal.Reading.{◌>>=◌}

-- ---- lines

-- puts a character before the first of these lines; a text whose last line has no end is invalid
abbrev pub put_first : ℕ → List (List ℕ) → Option (List (List ℕ))
put_first c [] = None
put_first c (line ∷ lines) = Some ((c ∷ line) ∷ lines)

-- the lines of a text, without the line feed (10) that ends each of them
abbrev pub lines_of : List ℕ → Option (List (List ℕ))
lines_of [] = Some []
lines_of (c ∷ cs) = lines_of cs >>= λ lines. if c == 10 then Some ([] ∷ lines) else put_first c lines

-- ---- digits

-- the value of a hexadecimal digit, in upper or lower case
abbrev pub digit_value : ℕ → Option ℕ
digit_value c =
    if nat_le 48 c && nat_le c 57 then Some (c - 48)
    else if nat_le 65 c && nat_le c 70 then Some (c - 55)
    else if nat_le 97 c && nat_le c 102 then Some (c - 87)
    else None

-- the bytes of these characters: two digits for each byte, the higher digit first; a carriage return (13) may follow
abbrev pub bytes_of : List ℕ → Option (List ℕ)
bytes_of [] = Some []
bytes_of (c ∷ []) = if c == 13 then Some [] else None
bytes_of (c ∷ d ∷ cs) = do
  high ← digit_value c
  low ← digit_value d
  bytes ← bytes_of cs
  Some ((16 * high + low) ∷ bytes)

-- ---- records

pub data Record : Type 0 where
  -- these bytes, the first of them at this offset from the base address
  Data : (offset : ℕ) (bytes : List ℕ) → Record
  EndOfFile : Record
  -- from here on, the base address is 65,536 times this number
  ExtendedLinearAddress : (upper : ℕ) → Record

-- an end of file has no data
abbrev pub end_of_file : (data_bytes : List ℕ) → Option Record
end_of_file [] = Some EndOfFile
end_of_file (b ∷ bs) = None

-- an extended linear address has two bytes of data, the higher byte first
abbrev pub extended_linear_address : (data_bytes : List ℕ) → Option Record
extended_linear_address (high ∷ low ∷ []) = Some (ExtendedLinearAddress (256 * high + low))
extended_linear_address bytes = None

-- the record of a type with this offset and data; only data may have an offset other than 0
abbrev pub typed_record : (record_type offset : ℕ) (data_bytes : List ℕ) → Option Record
typed_record t offset bytes =
    if t == 0 then Some (Data offset bytes)
    else if (t == 1) && (offset == 0) then end_of_file bytes
    else if (t == 4) && (offset == 0) then extended_linear_address bytes
    else None

-- the record of these bytes: the number of data bytes, the offset (higher byte first), the type, the data, and the checksum,
-- which makes the lowest byte of their sum 0
abbrev pub record_of : List ℕ → Option Record
record_of (count ∷ high ∷ low ∷ record_type ∷ rest) =
    if (length rest == count + 1) && (sum (count ∷ high ∷ low ∷ record_type ∷ rest) % 256 == 0)
    then typed_record record_type (256 * high + low) (take count rest) else None
record_of bytes = None

-- the record of a line: a colon (58) and the record's bytes
abbrev pub record_of_line : List ℕ → Option Record
record_of_line [] = None
record_of_line (c ∷ cs) = if c == 58 then (bytes_of cs >>= λ bytes. record_of bytes) else None

abbrev pub records_of : List (List ℕ) → Option (List Record)
records_of [] = Some []
records_of (line ∷ lines) = do
  r ← record_of_line line
  rs ← records_of lines
  Some (r ∷ rs)

-- ---- contents

-- a byte at an address
pub record AddressedByte : Type 0 where
  pub address : ℕ
  pub byte : ℕ

-- bytes from an address on; the highest address of 32 bits is followed by 0
abbrev pub cells_from : (a : ℕ) (bytes : List ℕ) → List AddressedByte
cells_from a [] = []
cells_from a (b ∷ bs) = record { address = a % 2 ^ 32; byte = b } ∷ cells_from (a + 1) bs

-- what records say from a base address on: the last one is the end of file, and no other is
abbrev pub contents_of : (base : ℕ) → List Record → Option (List AddressedByte)
contents_of base [] = None
contents_of base (Data offset bytes ∷ rs) = contents_of base rs >>= λ cells. Some (cells_from (base + offset) bytes ++ cells)
contents_of base (EndOfFile ∷ []) = Some []
contents_of base (EndOfFile ∷ r ∷ rs) = None
contents_of base (ExtendedLinearAddress upper ∷ rs) = contents_of (65536 * upper) rs

-- what a text says: each byte that it gives, with its address, in the order of the text; the base address is 0 at first
unfoldable pub read : (text : List ℕ) → Option (List AddressedByte)
read text = do
  lines ← lines_of text
  records ← records_of lines
  contents_of 0 records
