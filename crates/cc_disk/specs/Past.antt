-- What a crash may have left, given the states that a disk or a file had before each of its calls.
use Rattle.std.specs.Prelude.{◌⊎◌, ℕ, List, [], ◌∷◌, drop}
use Rattle.cc_disk.specs.Model.{Cell}

-- what contracts see of a disk in memory: its cells, and the states that it had before each write and each sync
pub record DiskState : Type 0 where
  pub cells : List Cell
  pub past : List (List Cell)

-- one of these states may leave this image; `leaves` says what one state may leave
abbrev pub MayHaveLeft : {S : Type 0} → (S → List ℕ → Type 0) → List S → List ℕ → Type 0
MayHaveLeft leaves [] image = ⊥
MayHaveLeft leaves (state ∷ states) image = leaves state image ⊎ MayHaveLeft leaves states image

-- The state now, or one before a call since the t-th, may leave this image. During a write, the range that it writes already
-- counts as written; during a sync, nothing counts as settled yet. So this covers every moment.
abbrev pub LeftSince : {S : Type 0} → (S → List ℕ → Type 0) → S → List S → ℕ → List ℕ → Type 0
LeftSince leaves now past t image = leaves now image ⊎ MayHaveLeft leaves (drop t past) image
