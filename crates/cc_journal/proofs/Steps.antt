-- What a crash during a commit leaves, call by call: each write adds the images that it may leave, and a sync adds
-- none.
use Rattle.std.proofs.Common.{◌≡◌, inl, inr, ℕ, ◌+◌, List, length, take, drop, ap, subst}
use Rattle.cc_disk.specs.Images.{IsWritten, DiffersWithin, UnsettlesWithin, AddsNone, LeavesAlone, Elapses, LeavesOnly}
use Rattle.cc_journal.specs.Commit.{Commit, FailsIn}
use Rattle.cc_journal.specs.internal.Commit.{IsMidCommit}
use Rattle.cc_journal.proofs.Moments.{started, goes_on}

unchanged : (offset n : ℕ) (old image : List ℕ) → image ≡ old → DiffersWithin offset n old image
unchanged offset n old image same =
    record { before = ap (λ (l : List ℕ). take offset l) same; behind = ap (λ (l : List ℕ). drop (offset + n) l) same; size = ap length same }

module _ {D : Type 0} (seen : D → List ℕ) (may_leave : D → List ℕ → Type 0) (moment : D → ℕ) (left_since : D → ℕ → List ℕ → Type 0) (c : Commit) (d0 d1 d2 d3 : D)
    (only_now : (image : List ℕ) → left_since d0 (moment d0) image → may_leave d0 image)
    (alone : LeavesAlone (seen d0) (may_leave d0))
    (first_images : UnsettlesWithin c.offset (length c.bytes) (may_leave d0) (may_leave d1))
    (first_time : Elapses (moment d0) (moment d1) (left_since d0) (left_since d1) (may_leave d1))
    (first_bytes : IsWritten (seen d0) c.offset c.bytes (seen d1))
    (settled : LeavesAlone (seen d1) (may_leave d2))
    (second_images : AddsNone (may_leave d1) (may_leave d2))
    (second_time : Elapses (moment d1) (moment d2) (left_since d1) (left_since d2) (may_leave d2))
    (third_images : UnsettlesWithin c.deciding_offset 1 (may_leave d2) (may_leave d3))
    (third_time : Elapses (moment d2) (moment d3) (left_since d2) (left_since d3) (may_leave d3)) where
  abbrev P : List ℕ → Type 0
  P = IsMidCommit c (seen d0)

  -- each image that the first write may leave is one of the middle of the commit
  of_first : (image : List ℕ) → may_leave d1 image → P image
  of_first image now =
      let from = first_images image now in
      inl (subst (λ (old : List ℕ). DiffersWithin c.offset (length c.bytes) old image) (alone from.0 from.1) from.2)

  -- each image that the write of the deciding byte may leave is one of the middle of the commit
  of_last : (image : List ℕ) → may_leave d3 image → P image
  of_last image now =
      let from = third_images image now in
      inr (seen d1, first_bytes, subst (λ (old : List ℕ). DiffersWithin c.deciding_offset 1 old image) (settled from.0 from.1) from.2)

  -- up to the write of the deciding byte, a crash leaves only images of the middle of the commit
  pub through_last : LeavesOnly moment left_since d0 d3 P
  through_last =
      let begun = started moment left_since d0 P (λ image left. inl (unchanged c.offset (length c.bytes) (seen d0) image (alone image (only_now image left)))) in
      let first = goes_on moment left_since d0 d0 d1 P (may_leave d1) begun first_time of_first in
      let kept = goes_on moment left_since d0 d1 d2 P (may_leave d2) first second_time (λ image now. of_first image (second_images image now)) in
      goes_on moment left_since d0 d2 d3 P (may_leave d3) kept third_time of_last

  -- up to the sync after that write, a crash leaves only images of the middle of the commit
  pub through_sync : (d4 : D) → AddsNone (may_leave d3) (may_leave d4) → Elapses (moment d3) (moment d4) (left_since d3) (left_since d4) (may_leave d4) → LeavesOnly moment left_since d0 d4 P
  through_sync d4 images time = goes_on moment left_since d0 d3 d4 P (may_leave d4) through_last time (λ image now. of_last image (images image now))

-- if the first write or the sync after it failed, the disk is as a failed commit leaves it
pub failed_begun : {D : Type 0} (seen : D → List ℕ) (may_leave : D → List ℕ → Type 0) (c : Commit) (d0 d1 d : D) → LeavesAlone (seen d0) (may_leave d0)
    → UnsettlesWithin c.offset (length c.bytes) (may_leave d0) (may_leave d1) → AddsNone (may_leave d1) (may_leave d) → FailsIn c (seen d0) (may_leave d)
failed_begun seen may_leave c d0 d1 d alone first images = inl (λ image now.
    let from = first image (images image now) in
    subst (λ (old : List ℕ). DiffersWithin c.offset (length c.bytes) old image) (alone from.0 from.1) from.2)

-- if the last write or the sync after it failed, the disk is as a failed commit leaves it
pub failed_ended : {D : Type 0} (seen : D → List ℕ) (may_leave : D → List ℕ → Type 0) (c : Commit) (d0 d1 d2 d3 d : D) → IsWritten (seen d0) c.offset c.bytes (seen d1) → LeavesAlone (seen d1) (may_leave d2)
    → UnsettlesWithin c.deciding_offset 1 (may_leave d2) (may_leave d3) → AddsNone (may_leave d3) (may_leave d) → FailsIn c (seen d0) (may_leave d)
failed_ended seen may_leave c d0 d1 d2 d3 d first settled last images = inr (
  seen d1,
  first,
  λ image now.
      let from = last image (images image now) in
      subst (λ (old : List ℕ). DiffersWithin c.deciding_offset 1 old image) (settled from.0 from.1) from.2,
)
