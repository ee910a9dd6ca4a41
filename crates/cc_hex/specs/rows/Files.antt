-- Worked texts, each by computation.
use Rattle.std.specs.Prelude.{ℕ, ◌≡◌, refl, List, [], ◌∷◌, ◌++◌, Some, None, codes}
use Rattle.cc_hex.specs.Format.{read, cells_from}
use Rattle.cc_hex.specs.Layout.{image_text, unsummed, record_line, base_line, row}

-- ---- texts that say something

-- only an end of file: no byte
nothing : read (codes ":00000001FF\n") ≡ Some []
unfolding read
nothing = refl

-- 20 bytes that GNU objcopy 2.40 wrote, with carriage returns: objcopy -I binary -O ihex --change-section-address .data=0x200000
abbrev twenty : List ℕ
twenty = 0 ∷ 1 ∷ 2 ∷ 3 ∷ 4 ∷ 5 ∷ 6 ∷ 7 ∷ 8 ∷ 9 ∷ 10 ∷ 11 ∷ 12 ∷ 13 ∷ 14 ∷ 15 ∷ 16 ∷ 17 ∷ 18 ∷ 19 ∷ []

written_by_objcopy :
    read (codes ":020000040020DA\r\n:10000000000102030405060708090A0B0C0D0E0F78\r\n:0400100010111213A6\r\n:00000001FF\r\n")
    ≡ Some (cells_from 0x00200000 twenty)
unfolding read
written_by_objcopy = refl

in_lower_case : read (codes ":020000040001f9\n:02001000fa0bE9\n:00000001ff\n") ≡ Some (cells_from 0x00010010 (250 ∷ 11 ∷ []))
unfolding read
in_lower_case = refl

-- the base address is 0 at first, and moves at each record that sets it
bases : read (codes ":01000700FFF9\n:020000040001F9\n:0100070001F7\n:020000040000FA\n:0100070002F6\n:00000001FF\n")
    ≡ Some (cells_from 7 (255 ∷ []) ++ cells_from 0x00010007 (1 ∷ []) ++ cells_from 7 (2 ∷ []))
unfolding read
bases = refl

-- past the highest offset, the next 65,536 bytes begin, and the highest address is followed by 0
past_ends : read (codes ":02FFFF000102FD\n:02000004FFFFFC\n:02FFFF000304F9\n:00000001FF\n")
    ≡ Some (cells_from 65535 (1 ∷ 2 ∷ []) ++ cells_from 0xFFFFFFFF (3 ∷ []) ++ cells_from 0 (4 ∷ []))
unfolding read
past_ends = refl

-- ---- texts that say nothing

wrong_checksum : read (codes ":020000040001F8\n:00000001FF\n") ≡ None
unfolding read
wrong_checksum = refl

no_end_of_file : read (codes ":020000040001F9\n:0100070001F7\n") ≡ None
unfolding read
no_end_of_file = refl

behind_the_end : read (codes ":00000001FF\n:0100070001F7\n") ≡ None
unfolding read
behind_the_end = refl

two_ends : read (codes ":00000001FF\n:00000001FF\n") ≡ None
unfolding read
two_ends = refl

no_line : read [] ≡ None
unfolding read
no_line = refl

empty_line_behind : read (codes ":00000001FF\n\n") ≡ None
unfolding read
empty_line_behind = refl

open_line : read (codes ":00000001FF") ≡ None
unfolding read
open_line = refl

wrong_digit : read (codes ":0000000G1FF\n") ≡ None
unfolding read
wrong_digit = refl

no_colon : read (codes "00000001FF\n") ≡ None
unfolding read
no_colon = refl

-- one byte fewer than the record says, and one more, each with the right checksum
too_short : read (codes ":0200070001F6\n:00000001FF\n") ≡ None
unfolding read
too_short = refl

too_long : read (codes ":0000070001F8\n:00000001FF\n") ≡ None
unfolding read
too_long = refl

-- a record of type 02, an extended segment address, as GNU objcopy writes it below 1 MiB
other_type : read (codes ":020000021000EC\n:00000001FF\n") ≡ None
unfolding read
other_type = refl

-- ---- an image's text

-- five words of code and one of globals
of_an_image : image_text (record { code = 0xfff00093 ∷ 0 ∷ 0x05d00893 ∷ 0x00000073 ∷ 0x12345678 ∷ []; globals = 0xcafef00d ∷ [] })
    ≡ codes ":020000040001F9\n:100000009300F0FF000000009308D005730000008B\n:0400100078563412D8\n:020000040020DA\n:040000000DF0FECA37\n:00000001FF\n"
unfolding record_line unsummed base_line row
of_an_image = refl
