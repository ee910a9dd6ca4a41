-- What the calls of a file do to its bytes and its images: a write that is short or reaches past the end, and a sync while the
-- length is settled or not.
use Rattle.std.proofs.Common.{◌≡◌, ℕ, zero, Bool, true, false, IsTrue, ◌+◌, ◌-◌, ◌≤◌, List, [], ◌∷◌, ◌++◌, map, length, take, drop, replicate, refl, sym, ◌∙◌, ap, subst, arith, length-append, append-nil}
use Rattle.std.proofs.lemmas.List.{length-map, length-replicate, take_all, drop_all, take-append-le, drop-drop, replicate-append-replicate}
use Rattle.std.proofs.lemmas.Bool.{false≢true}
use Rattle.cc_disk.specs.Model.{Cell, unsettled, bytes_of, IsImage, written, synced}
use Rattle.cc_disk.specs.Images.{IsWritten, DiffersWithin, UnsettlesWithin, AddsNone, LeavesAlone, Elapses}
use Rattle.cc_disk.specs.File.{resized}
use Rattle.cc_disk.specs.FileModel.{FileLeaves}
use Rattle.cc_disk.specs.declared.memory_file.FileState.{FileState}
use Rattle.cc_disk.specs.Past.{LeftSince}
use Rattle.cc_disk.proofs.Moments.{elapses_one}
use Rattle.cc_disk.proofs.Images.{bytes_of-unsettled, bytes_of-written, bytes_of-synced, written_images, synced_alone, synced_adds_none}

-- ---- the bytes

pub same_within : (offset n : ℕ) (bytes : List ℕ) → DiffersWithin offset n bytes bytes
same_within offset n bytes = record { before = refl; behind = refl; size = refl }

pub wider : (offset k n : ℕ) (old new : List ℕ) → k ≤ n → DiffersWithin offset k old new → DiffersWithin offset n old new
wider offset k n old new le is = record {
  before = is.before;
  behind = sym (further new) ∙ ap (λ (l : List ℕ). drop (n - k) l) is.behind ∙ further old;
  size = is.size;
}
  where
    further : (l : List ℕ) → drop (n - k) (drop (offset + k) l) ≡ drop (offset + n) l
    further l = drop-drop (n - k) (offset + k) l ∙ ap (λ (m : ℕ). drop m l) (omega (arith, le))

-- a file that is filled up to a write's end, and then written, has the bytes of the write
pub filled_write : (old : List ℕ) (offset : ℕ) (part new : List ℕ) → offset ≤ length old → length old ≤ offset + length part
    → IsWritten (resized old (offset + length part)) offset part new → IsWritten old offset part new
filled_write old offset part new within past is =
    is ∙ ap (λ (l : List ℕ). l ++ (part ++ drop end (resized old end))) first ∙ ap (λ (l : List ℕ). take offset old ++ (part ++ l)) last
  where
    end : ℕ
    end = offset + length part

    zeros : List ℕ
    zeros = replicate (end - length old) 0

    filled : resized old end ≡ old ++ zeros
    filled = ap (λ (l : List ℕ). l ++ zeros) (take_all end old past)

    first : take offset (resized old end) ≡ take offset old
    first = ap (λ (l : List ℕ). take offset l) filled ∙ take-append-le offset old zeros within

    long : length (resized old end) ≤ end
    long = omega (arith, past, ap length filled, length-append old zeros, length-replicate {A = ℕ} (end - length old) 0)

    last : drop end (resized old end) ≡ drop end old
    last = drop_all end (resized old end) long ∙ sym (drop_all end old past)

-- ---- the file in memory

pub filled_cells : (cells : List Cell) (offset : ℕ) (part : List ℕ) → offset ≤ length cells → length cells ≤ offset + length part
    → IsWritten (bytes_of cells) offset part (bytes_of (written (map unsettled (resized (bytes_of cells) (offset + length part))) offset part))
filled_cells cells offset part within past =
    filled_write (bytes_of cells) offset part (bytes_of (written filled offset part)) (omega (arith, within, long)) (omega (arith, past, long))
    (subst (λ (l : List ℕ). IsWritten l offset part (bytes_of (written filled offset part))) (bytes_of-unsettled (resized (bytes_of cells) (offset + length part)))
    (bytes_of-written filled offset part))
  where
    filled : List Cell
    filled = map unsettled (resized (bytes_of cells) (offset + length part))

    long : length (bytes_of cells) ≡ length cells
    long = length-map cells (λ (c : Cell). c.byte)

pub file_unsettles : (old : FileState) (new : FileState) (offset : ℕ) (part : List ℕ) (n : ℕ) → offset + length part ≤ length old.cells → length part ≤ n
    → new.cells ≡ written old.cells offset part → new.settled_length ≡ old.settled_length → UnsettlesWithin offset n (FileLeaves old) (FileLeaves new)
file_unsettles old new offset part n fits le is kept image now = by_length old.settled_length refl
  where
    by_length : (b : Bool) → old.settled_length ≡ b → (before : List ℕ) × FileLeaves old before × DiffersWithin offset n before image
    by_length false loose = (image, (λ settled. absurd (false≢true (sym loose ∙ settled))), same_within offset n image)
    by_length true tight =
        let before = written_images old.cells offset part fits image (subst (λ (l : List Cell). IsImage l image) is (now (kept ∙ tight))) in
        (before.0, (λ settled. before.1), wider offset (length part) n before.0 image le before.2)

-- a sync settles the bytes if the length is settled
pub file_settles : (old mid : FileState) (new : List Cell) → mid ≡ old → new ≡ synced mid.cells → IsTrue old.settled_length
    → LeavesAlone (bytes_of old.cells) (FileLeaves (record { cells = new; settled_length = mid.settled_length }))
file_settles old mid new same is kept image now =
    synced_alone old.cells image (subst (λ (l : List Cell). IsImage l image) (is ∙ ap (λ (s : FileState). synced s.cells) same)
    (now (ap (λ (s : FileState). s.settled_length) same ∙ kept)))

pub file_adds_none : (old mid : FileState) (new : List Cell) → mid ≡ old → new ≡ synced mid.cells
    → AddsNone (FileLeaves old) (FileLeaves (record { cells = new; settled_length = mid.settled_length }))
file_adds_none old mid new same is image now kept =
    synced_adds_none old.cells image (subst (λ (l : List Cell). IsImage l image) (is ∙ ap (λ (s : FileState). synced s.cells) same)
    (now (ap (λ (s : FileState). s.settled_length) same ∙ kept)))

pub file_bytes : (old mid : FileState) (new : List Cell) → mid ≡ old → new ≡ synced mid.cells → bytes_of new ≡ bytes_of old.cells
file_bytes old mid new same is = ap bytes_of is ∙ bytes_of-synced mid.cells ∙ ap (λ (s : FileState). bytes_of s.cells) same

-- a sync of the whole file settles the bytes and the length
pub whole_settles : (old mid : FileState) (new : List Cell) → mid ≡ old → new ≡ synced mid.cells
    → LeavesAlone (bytes_of old.cells) (FileLeaves (record { cells = new; settled_length = true }))
whole_settles old mid new same is image now =
    synced_alone old.cells image (subst (λ (l : List Cell). IsImage l image) (is ∙ ap (λ (s : FileState). synced s.cells) same) (now refl))

pub whole_adds_none : (old mid : FileState) (new : List Cell) → mid ≡ old → new ≡ synced mid.cells
    → AddsNone (FileLeaves old) (FileLeaves (record { cells = new; settled_length = true }))
whole_adds_none old mid new same is image now kept =
    synced_adds_none old.cells image (subst (λ (l : List Cell). IsImage l image) (is ∙ ap (λ (s : FileState). synced s.cells) same) (now refl))

-- each call adds the state before it to those that the file was in
pub file_elapses : (before past : List FileState) (old new : FileState) → past ≡ before ++ old ∷ []
    → Elapses (length before) (length past) (LeftSince FileLeaves old before) (LeftSince FileLeaves new past) (FileLeaves new)
file_elapses before past old new is =
    subst (λ (p : List FileState). Elapses (length before) (length p) (LeftSince FileLeaves old before) (LeftSince FileLeaves new p) (FileLeaves new)) (sym is)
    (elapses_one FileLeaves before old new)

-- zeros after zeros
pub more_zeros : (old part new : List ℕ) (done count : ℕ) → old ≡ replicate done 0 → part ≡ replicate count 0 → IsWritten old done part new → new ≡ replicate (done + count) 0
more_zeros old part new done count old-is part-is is =
    is ∙ ap (λ (l : List ℕ). l ++ (part ++ drop (done + length part) old)) (take_all done old (omega (arith, long)))
    ∙ ap (λ (l : List ℕ). old ++ (part ++ l)) (drop_all (done + length part) old (omega (arith, long)))
    ∙ ap (λ (l : List ℕ). old ++ l) (append-nil part)
    ∙ ap (λ (l : List ℕ). l ++ part) old-is ∙ ap (λ (l : List ℕ). replicate done zero ++ l) part-is
    ∙ replicate-append-replicate done count zero
  where
    long : length old ≡ done
    long = ap length old-is ∙ length-replicate done zero
