-- What the images of the disk hold during a rewrite, one device step after the other: the old records or the new ones. The
-- reason: the journal's lemma says so for the middle of its commit; each state of the disk here is in that middle, or after the
-- commit.
use Rattle.std.proofs.Common.{◌≡◌, inl, inr, ℕ, ◌+◌, ◌*◌, ◌≤◌, List, [], ◌∷◌, ◌++◌, length, take, drop, sym, ◌∙◌, ap, subst, arith, length-append}
use Rattle.std.proofs.lemmas.List.{drop-take}
use Rattle.cc_disk.specs.Model.{bytes_of, IsImage, written}
use Rattle.cc_disk.specs.internal.Laws.{bytes_are_image}
use Rattle.cc_disk.specs.Images.{IsWritten, DiffersWithin, LeavesAlone}
use Rattle.cc_disk.proofs.Images.{written_images, bytes_of-written, synced_alone, bytes_of-synced, synced_adds_none}
use Rattle.cc_journal.specs.Commit.{Commit, area_begin, other_area, rewrite_commit, IsCommitted}
use Rattle.cc_journal.specs.Format.{header, records, room_of, HoldsOneOf}
use Rattle.cc_journal.specs.internal.Commit.{IsMidCommit}
use Rattle.cc_journal.proofs.Images.{length_written}
use Rattle.cc_journal.proofs.Rewriting.{rewriting, rewritten}
use Rattle.cc_core.specs.declared.contents.RewriteDue.{RewriteDue}
use Rattle.cc_core.specs.declared.contents.RewriteDue.TheVariants.{SyncAll, WriteArea, SyncArea}
use Rattle.cc_core.specs.StoreState.{StoreState}
use Rattle.cc_core.specs.Store.{first_written, rewrite_stepped, RewriteFailsTo}
use Rattle.cc_core.proofs.Held.{HoldsIn, IsAtRest, byte_of, holds_from, written_header, begin_most, begin_least, size_of, length-bytes_of}

-- ---- the journal's commit, by the area byte that the state knows

abbrev pub whole : List (List ℕ) → List ℕ
whole more = records more ++ 0 ∷ []

pub length-whole : (more : List (List ℕ)) → length (whole more) ≡ room_of more
length-whole more = length-append (records more) (0 ∷ [])

module _ (byte area : ℕ) (bodies more : List (List ℕ)) (old : List ℕ) (held : HoldsIn byte area bodies old) (room : room_of more ≤ area) where
  commit_at : rewrite_commit byte area more ≡ rewrite_commit held.holds.area_byte area more
  commit_at = ap (λ (b : ℕ). rewrite_commit b area more) (sym (byte_of byte area bodies old held))

  -- in the middle of the commit, an image holds the old records or the new ones
  mid_held : (image : List ℕ) → IsMidCommit (rewrite_commit byte area more) old image → HoldsOneOf area bodies more image
  mid_held image mid =
      rewriting old (area_begin byte area) area bodies (holds_from byte area bodies old held) more room image (subst (λ (c : Commit). IsMidCommit c old image) commit_at mid)

  -- after the commit, the disk holds the new records in the other area
  pub done_held : (new : List ℕ) → IsCommitted (rewrite_commit byte area more) old new → HoldsIn (other_area byte) area more new
  done_held new done =
      let there = rewritten old (area_begin byte area) area bodies (holds_from byte area bodies old held) more room new (subst (λ (c : Commit). IsCommitted c old new) commit_at done) in
      let staged = done.0 in
      let head : take 16 staged ≡ header byte area =
      written_header (area_begin (other_area byte) area) (whole more) old staged (header byte area) (begin_least (other_area byte) area)
      (omega (arith, held.holds.is_area.room, begin_most (other_area byte) area)) done.1 held.header_is in
      let behind : take 15 (drop 1 staged) ≡ drop 1 (header byte area) = sym (drop-take 1 15 staged) ∙ ap (λ (l : List ℕ). drop 1 l) head in
      record { holds = there.holds; header_is = ap (λ (l : List ℕ). take 16 l) done.2 ∙ ap (λ (l : List ℕ). other_area byte ∷ l) behind }

-- ---- the disk at each point of a rewrite

-- the new area was written
pub record IsAreaWritten (store : StoreState) (bodies more : List (List ℕ)) : Type 0 where
  pub images : (image : List ℕ) → IsImage store.cells image → HoldsOneOf store.area bodies more image
  pub before : List ℕ
  pub held : HoldsIn store.area_byte store.area bodies before
  pub long : length (bytes_of store.cells) ≡ length before
  pub seen : IsWritten before (area_begin (other_area store.area_byte) store.area) (whole more) (bytes_of store.cells)

-- the new area was written and is settled
pub record IsAreaSettled (store : StoreState) (bodies more : List (List ℕ)) : Type 0 where
  pub area_written : IsAreaWritten store bodies more
  pub alone : LeavesAlone (bytes_of store.cells) (IsImage store.cells)

-- the area byte was written
pub record IsByteWritten (store : StoreState) (bodies more : List (List ℕ)) : Type 0 where
  pub images : (image : List ℕ) → IsImage store.cells image → HoldsOneOf store.area bodies more image
  pub seen : HoldsIn (other_area store.area_byte) store.area more (bytes_of store.cells)

-- the point of the rewrite at which this step is due
abbrev pub InRewrite : RewriteDue → StoreState → List (List ℕ) → List (List ℕ) → Type 0
InRewrite SyncAll store bodies more = IsAreaWritten store bodies more
InRewrite WriteArea store bodies more = IsAreaSettled store bodies more
InRewrite SyncArea store bodies more = IsByteWritten store bodies more

-- every image holds the old records or the new ones
pub rewrite_images : (due : RewriteDue) (store : StoreState) (bodies more : List (List ℕ)) → room_of more ≤ store.area → InRewrite due store bodies more
    → (image : List ℕ) → IsImage store.cells image → HoldsOneOf store.area bodies more image
rewrite_images SyncAll store bodies more room r = r.images
rewrite_images WriteArea store bodies more room r = r.area_written.images
rewrite_images SyncArea store bodies more room r = r.images

-- the commit of a rewrite, given the state
abbrev pub commit_of : StoreState → List (List ℕ) → Commit
commit_of store more = rewrite_commit store.area_byte store.area more

-- the first write of a rewrite lies within the disk
pub first_within : (store : StoreState) (more : List (List ℕ)) → 16 + 2 * store.area ≤ length store.cells → room_of more ≤ store.area
    → area_begin (other_area store.area_byte) store.area + length (whole more) ≤ length store.cells
first_within store more size room = omega (arith, size, room, length-whole more, begin_most (other_area store.area_byte) store.area)

-- after the first write, the disk is at the point where the sync of the new area is due
pub rewrite_begins : (store : StoreState) (bodies more : List (List ℕ)) → IsAtRest store bodies → room_of more ≤ store.area → InRewrite SyncAll (first_written (commit_of store more) store) bodies more
rewrite_begins store bodies more rest room =
    let b = store.area_byte in
    let t = area_begin (other_area b) store.area in
    let now = bytes_of store.cells in
    let held = rest.images now (bytes_are_image store.cells) in
    let within = first_within store more (size_of store bodies held) room in
    let is = bytes_of-written store.cells t (whole more) in
    record {
      images = λ image at.
          let from = written_images store.cells t (whole more) within image at in
          mid_held b store.area bodies more from.0 (rest.images from.0 from.1) room image (inl from.2);
      before = now;
      held = held;
      long = length_written now _ t (whole more) (omega (arith, within, length-bytes_of store.cells)) is;
      seen = is;
    }

-- whatever byte is written as the area byte, each image holds the old records or the new ones
byte_images : (store : StoreState) (bodies more : List (List ℕ)) (byte : ℕ) → room_of more ≤ store.area → IsAreaSettled store bodies more
    → (image : List ℕ) → IsImage (written store.cells 0 (byte ∷ [])) image → HoldsOneOf store.area bodies more image
byte_images store bodies more byte room s image at =
    let w = s.area_written in
    let from = written_images store.cells 0 (byte ∷ []) (omega (arith, w.held.holds.is_area.room, w.long, length-bytes_of store.cells)) image at in
    let differs = subst (λ (old : List ℕ). DiffersWithin 0 1 old image) (s.alone from.0 from.1) from.2 in
    mid_held store.area_byte store.area bodies more w.before w.held room image (inr (bytes_of store.cells, w.seen, differs))

-- each step after the first write leads to the next point of the rewrite
pub all_synced : (store : StoreState) (bodies more : List (List ℕ)) (c : Commit) → InRewrite SyncAll store bodies more → InRewrite WriteArea (rewrite_stepped SyncAll c store) bodies more
all_synced store bodies more c r =
    let same = sym (bytes_of-synced store.cells) in
    record {
      area_written = record {
        images = λ image at. r.images image (synced_adds_none store.cells image at);
        before = r.before;
        held = r.held;
        long = subst (λ (l : List ℕ). length l ≡ length r.before) same r.long;
        seen = subst (λ (l : List ℕ). IsWritten r.before (area_begin (other_area store.area_byte) store.area) (whole more) l) same r.seen;
      };
      alone = λ image at. synced_alone store.cells image at ∙ same;
    }

pub byte_written : (store : StoreState) (bodies more : List (List ℕ)) → room_of more ≤ store.area → InRewrite WriteArea store bodies more → InRewrite SyncArea (rewrite_stepped WriteArea (commit_of store more) store) bodies more
byte_written store bodies more room r =
    let w = r.area_written in
    let x = other_area store.area_byte in
    record {
      images = byte_images store bodies more x room r;
      seen = done_held store.area_byte store.area bodies more w.before w.held room _ (bytes_of store.cells, w.seen, bytes_of-written store.cells 0 (x ∷ []));
    }

-- after the last step of a rewrite, the disk is at rest with the new records
pub rewrite_ends : (store : StoreState) (bodies more : List (List ℕ)) → InRewrite SyncArea store bodies more → IsAtRest (rewrite_stepped SyncArea (commit_of store more) store) more
rewrite_ends store bodies more r = record {
  taken = omega (arith, length-whole more);
  images = λ image at. subst (λ (l : List ℕ). HoldsIn (other_area store.area_byte) store.area more l) (sym (synced_alone store.cells image at)) r.seen;
}

-- after a failed step, each image holds the old records or the new ones
pub rewrite_failed_images : (due : RewriteDue) (store new : StoreState) (bodies more : List (List ℕ)) → room_of more ≤ store.area → InRewrite due store bodies more → RewriteFailsTo due (commit_of store more) store new
    → (image : List ℕ) → IsImage new.cells image → HoldsOneOf new.area bodies more image
rewrite_failed_images SyncAll store new bodies more room r f =
    subst (λ (s : StoreState). (image : List ℕ) → IsImage s.cells image → HoldsOneOf s.area bodies more image) (sym f) r.images
rewrite_failed_images WriteArea store new bodies more room r f =
    subst (λ (s : StoreState). (image : List ℕ) → IsImage s.cells image → HoldsOneOf s.area bodies more image) (sym f.1) (byte_images store bodies more f.0 room r)
rewrite_failed_images SyncArea store new bodies more room r f =
    subst (λ (s : StoreState). (image : List ℕ) → IsImage s.cells image → HoldsOneOf s.area bodies more image) (sym f) r.images
