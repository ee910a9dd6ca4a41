-- What every honest disk promises about its calls, in terms of what a read gives and of its images: what a crash may leave.
use Rattle.std.specs.Prelude.{◌≡◌, ◌⊎◌, ℕ, ◌+◌, ◌≤◌, List, ◌++◌, length, take, drop}

-- `new` is `old` with these bytes written from `offset` on
abbrev pub IsWritten : List ℕ → ℕ → List ℕ → List ℕ → Type 0
IsWritten old offset bytes new = new ≡ take offset old ++ (bytes ++ drop (offset + length bytes) old)

-- `new` is as long as `old`, and differs from it at most in the n bytes from `offset` on
pub record DiffersWithin (offset n : ℕ) (old new : List ℕ) : Type 0 where
  pub before : take offset new ≡ take offset old
  pub behind : drop (offset + n) new ≡ drop (offset + n) old
  pub size : length new ≡ length old

-- each image afterwards is an image from before, except for the n bytes from `offset` on
abbrev pub UnsettlesWithin : ℕ → ℕ → (List ℕ → Type 0) → (List ℕ → Type 0) → Type 0
UnsettlesWithin offset n before after = (image : List ℕ) → after image → (old : List ℕ) × before old × DiffersWithin offset n old image

-- each image afterwards was an image before
abbrev pub AddsNone : (List ℕ → Type 0) → (List ℕ → Type 0) → Type 0
AddsNone before after = (image : List ℕ) → after image → before image

-- a crash leaves exactly these bytes
abbrev pub LeavesAlone : List ℕ → (List ℕ → Type 0) → Type 0
LeavesAlone bytes images = (image : List ℕ) → images image → image ≡ bytes

-- Time passes: what a crash since a moment may have left is what it may have left before, and what it may leave now.
pub record Elapses (before now : ℕ) (past since : ℕ → List ℕ → Type 0) (may_leave : List ℕ → Type 0) : Type 0 where
  pub later : before ≤ now
  pub nothing_else : (t : ℕ) (image : List ℕ) → t ≤ before → since t image → past t image ⊎ may_leave image
  pub keeps : (t : ℕ) (image : List ℕ) → t ≤ before → past t image → since t image

-- A crash at any moment from `old` to `new` leaves an image with the property P.
pub record LeavesOnly {D : Type 0} (moment : D → ℕ) (left_since : D → ℕ → List ℕ → Type 0) (old new : D) (P : List ℕ → Type 0) : Type 0 where
  pub later : moment old ≤ moment new
  pub each : (image : List ℕ) → left_since new (moment old) image → P image
  -- since any earlier moment, a crash may have left what it may have left before `old`, or an image with P
  pub before : (t : ℕ) (image : List ℕ) → t ≤ moment old → left_since new t image → left_since old t image ⊎ P image

-- From `old` to `new` the disk was only read or synced: its bytes are the same, and a crash leaves only what it could have left before.
pub record OnlyReads {D : Type 0} (seen : D → List ℕ) (may_leave : D → List ℕ → Type 0) (moment : D → ℕ) (left_since : D → ℕ → List ℕ → Type 0) (old new : D) : Type 0 where
  pub same : seen new ≡ seen old
  pub images : AddsNone (may_leave old) (may_leave new)
  pub later : moment old ≤ moment new
  pub moments : (t : ℕ) (image : List ℕ) → t ≤ moment old → left_since new t image → left_since old t image
