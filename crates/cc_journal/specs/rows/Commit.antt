-- The commits of a rewrite in areas of 64 bytes, computed.
use Rattle.std.specs.Prelude.{◌≡◌, [], ◌∷◌, refl}
use Rattle.cc_journal.specs.Commit.{rewrite_commit}

-- from area A to area B, with one empty body: bytes 80 to 85 are written, and then byte 0 becomes 1
pub out_of_area_A : rewrite_commit 0 64 ([] ∷ []) ≡ record { offset = 80; bytes = 0xa5 ∷ 0 ∷ 0 ∷ 0 ∷ 0 ∷ 0 ∷ []; deciding_offset = 0; deciding_byte = 1 }
out_of_area_A = refl

-- from area B to area A, without a body: byte 16 is written, and then byte 0 becomes 0
pub out_of_area_B : rewrite_commit 1 64 [] ≡ record { offset = 16; bytes = 0 ∷ []; deciding_offset = 0; deciding_byte = 0 }
out_of_area_B = refl
