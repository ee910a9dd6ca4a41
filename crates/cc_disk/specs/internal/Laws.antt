-- Two of the laws of a disk, proved for the disk in memory.
use Rattle.std.specs.Prelude.{ℕ, List, [], ◌∷◌, length}
use Rattle.std.proofs.Common.{inl, inr, refl}
use Rattle.cc_disk.specs.Model.{Cell, bytes_of, IsImage}
use Rattle.cc_disk.specs.Past.{LeftSince}

-- since the last call only the present state may have left an image
pub only_now_left : {S : Type 0} (leaves : S → List ℕ → Type 0) (now : S) (past : List S) (image : List ℕ) → LeftSince leaves now past (length past) image → leaves now image
only_now_left leaves now past image (inl here) = here
only_now_left leaves now [] image (inr none) = absurd none
only_now_left leaves now (state ∷ past) image (inr earlier) = only_now_left leaves now past image (inr earlier)

-- the bytes that a read gives are an image
pub bytes_are_image : (cells : List Cell) → IsImage cells (bytes_of cells)
bytes_are_image [] = tt
bytes_are_image (cell ∷ cells) = (λ _. refl, bytes_are_image cells)
