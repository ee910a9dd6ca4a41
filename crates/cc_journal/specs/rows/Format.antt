-- Bytes of a journal, and what fits in its smallest area, computed.
use Rattle.std.specs.Prelude.{◌≡◌, [], ◌∷◌, ◌++◌, replicate, refl}
use Rattle.cc_journal.specs.Format.{header, records, room_of}

-- areas of 64 bytes, with one record in area A, whose body is 01 03 01 61: bytes 0 to 25 of the disk
pub one_record : header 0 64 ++ (records ((1 ∷ 3 ∷ 1 ∷ 0x61 ∷ []) ∷ []) ++ 0 ∷ [])
    ≡ 0x00 ∷ 0x43 ∷ 0x43 ∷ 0x4c ∷ 0x49 ∷ 0x42 ∷ 0x30 ∷ 0x31 ∷ 0x40 ∷ 0x00 ∷ 0x00 ∷ 0x00 ∷ 0x00 ∷ 0x00 ∷ 0x00 ∷ 0x00
    ∷ 0xa5 ∷ 0x04 ∷ 0x00 ∷ 0x00 ∷ 0x00 ∷ 0x01 ∷ 0x03 ∷ 0x01 ∷ 0x61 ∷ 0x00 ∷ []
one_record = refl

-- a body of 58 bytes fills an area of 64 bytes
pub body_of_58 : room_of (replicate 58 7 ∷ []) ≡ 64
body_of_58 = refl

-- a body of 59 bytes does not fit in such an area
pub body_of_59 : room_of (replicate 59 7 ∷ []) ≡ 65
body_of_59 = refl

-- after a body of 58 bytes not even an empty body fits
pub bodies_of_58_and_0 : room_of (replicate 58 7 ∷ [] ∷ []) ≡ 69
bodies_of_58_and_0 = refl
