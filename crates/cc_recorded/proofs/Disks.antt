-- A store of the core that shows a library's disk still shows it after the steps of a commit, done or failed.
use Rattle.std.proofs.Common.{◌≡◌, ℕ, zero, suc, ◌+◌, ◌*◌, ◌%◌, ◌<◌, ◌≤◌, List, [], ◌∷◌, ◌++◌, length, take, drop, map, get_or, sym, ap, ◌∙◌, subst, arith, length-append, length-drop}
use Rattle.std.proofs.lemmas.Nat.{mod_below}
use Rattle.std.proofs.lemmas.List.{length-map, length-take-le, take-append-drop, drop-drop, take-map, drop-map}
use Rattle.cc_disk.specs.Model.{Cell, bytes_of, IsImage, unsettled, written, synced}
use Rattle.cc_disk.specs.Images.{DiffersWithin, IsWritten}
use Rattle.cc_disk.specs.internal.Laws.{bytes_are_image}
use Rattle.cc_disk.proofs.Images.{bytes_of-written, bytes_of-synced}
use Rattle.cc_journal.specs.Commit.{Commit, IsCommitted, area_begin}

-- ---- where an area begins: after the header, or after the first area

part_most : (b n : ℕ) → b < 2 → b * n ≤ n
part_most zero n below = omega arith
part_most (suc zero) n below = omega arith
part_most (suc (suc b)) n below = absurd (omega arith)

pub begin_most : (byte area : ℕ) → area_begin byte area ≤ 16 + area
begin_most byte area = let le = part_most (byte % 2) area (mod_below byte 2 (omega arith)) in omega arith

pub begin_least : (byte area : ℕ) → 16 ≤ area_begin byte area
begin_least byte area = omega arith

-- ---- images of a disk with a range unsettled

joined : (prefix back : List Cell) (x y : List ℕ) → IsImage prefix x → IsImage back y → IsImage (prefix ++ back) (x ++ y)
joined [] back [] y here there = there
joined [] back (b ∷ x) y here there = absurd here
joined (c ∷ prefix) back [] y here there = absurd here
joined (c ∷ prefix) back (b ∷ x) y here there = (here.0, joined prefix back x y here.1 there)

any_image : (bytes image : List ℕ) → length image ≡ length bytes → IsImage (map unsettled bytes) image
any_image [] [] long = tt
any_image [] (b ∷ image) long = absurd (omega (arith, long))
any_image (x ∷ bytes) [] long = absurd (omega (arith, long))
any_image (x ∷ bytes) (b ∷ image) long = ((λ settled. absurd (cc settled)), any_image bytes image (omega (arith, long)))

length-bytes : (cells : List Cell) → length (bytes_of cells) ≡ length cells
length-bytes cells = length-map cells (λ (c : Cell). c.byte)

-- if bytes differ from a disk's only in a range, they are an image of the disk with that range unsettled,
-- whatever is written there
pub within_is_image : (cells : List Cell) (offset : ℕ) (bytes image : List ℕ) → offset + length bytes ≤ length cells → DiffersWithin offset (length bytes) (bytes_of cells) image → IsImage (written cells offset bytes) image
within_is_image cells offset bytes image fits differs =
    let n = length bytes in
    let f = λ (c : Cell). c.byte in
    let long : length image ≡ length cells = differs.size ∙ length-bytes cells in
    let prefix : take offset image ≡ bytes_of (take offset cells) = differs.before ∙ take-map f offset cells in
    let behind : drop (offset + n) image ≡ bytes_of (drop (offset + n) cells) = differs.behind ∙ drop-map f (offset + n) cells in
    let middle : length (take n (drop offset image)) ≡ n = length-take-le n (drop offset image) (omega (arith, length-drop offset image, long)) in
    let parts : take offset image ++ (take n (drop offset image) ++ drop (offset + n) image) ≡ image =
    ap (λ (l : List ℕ). take offset image ++ (take n (drop offset image) ++ l)) (sym (drop-drop n offset image))
    ∙ ap (λ (l : List ℕ). take offset image ++ l) (take-append-drop n (drop offset image)) ∙ take-append-drop offset image in
    subst (λ (l : List ℕ). IsImage (written cells offset bytes) l) parts
    (joined (take offset cells) (map unsettled bytes ++ drop (offset + n) cells) (take offset image) (take n (drop offset image) ++ drop (offset + n) image)
    (subst (λ (l : List ℕ). IsImage (take offset cells) l) (sym prefix) (bytes_are_image (take offset cells)))
    (joined (map unsettled bytes) (drop (offset + n) cells) (take n (drop offset image)) (drop (offset + n) image) (any_image bytes (take n (drop offset image)) middle)
    (subst (λ (l : List ℕ). IsImage (drop (offset + n) cells) l) (sym behind) (bytes_are_image (drop (offset + n) cells)))))

-- if new bytes differ from the old ones only in a range, they are the old ones with some bytes written there
pub within_is_written : (old new : List ℕ) (offset n : ℕ) → offset + n ≤ length old → DiffersWithin offset n old new → (bytes : List ℕ) × (length bytes ≡ n) × IsWritten old offset bytes new
within_is_written old new offset n fits differs =
    let bytes = take n (drop offset new) in
    let long : length bytes ≡ n = length-take-le n (drop offset new) (omega (arith, length-drop offset new, differs.size)) in
    let parts : take offset new ++ (bytes ++ drop (offset + n) new) ≡ new =
    ap (λ (l : List ℕ). take offset new ++ (bytes ++ l)) (sym (drop-drop n offset new))
    ∙ ap (λ (l : List ℕ). take offset new ++ l) (take-append-drop n (drop offset new)) ∙ take-append-drop offset new in (
      bytes,
      long,
      sym parts ∙ ap (λ (l : List ℕ). l ++ (bytes ++ drop (offset + n) new)) differs.before
          ∙ ap (λ (l : List ℕ). take offset old ++ (bytes ++ l)) differs.behind
          ∙ ap (λ (k : ℕ). take offset old ++ (bytes ++ drop (offset + k) old)) (sym long),
    )

-- ---- the bytes

-- the same write to equal bytes gives equal bytes
pub written_same : (cells : List Cell) (old new : List ℕ) (offset : ℕ) (bytes : List ℕ) → bytes_of cells ≡ old → IsWritten old offset bytes new → bytes_of (written cells offset bytes) ≡ new
written_same cells old new offset bytes same is =
    bytes_of-written cells offset bytes ∙ ap (λ (l : List ℕ). take offset l ++ (bytes ++ drop (offset + length bytes) l)) same ∙ sym is

-- the cells after the four steps of a commit
abbrev pub committed_cells : Commit → List Cell → List Cell
committed_cells c cells = synced (written (synced (written cells c.offset c.bytes)) c.deciding_offset (c.deciding_byte ∷ []))

pub committed_same : (c : Commit) (cells : List Cell) (old new : List ℕ) → bytes_of cells ≡ old → IsCommitted c old new → bytes_of (committed_cells c cells) ≡ new
committed_same c cells old new same done =
    let first = bytes_of-synced (written cells c.offset c.bytes) ∙ written_same cells old done.0 c.offset c.bytes same done.1 in
    bytes_of-synced (written (synced (written cells c.offset c.bytes)) c.deciding_offset (c.deciding_byte ∷ []))
    ∙ written_same (synced (written cells c.offset c.bytes)) done.0 new c.deciding_offset (c.deciding_byte ∷ []) first done.2

-- a write after the first byte leaves that byte as it is
first_byte : (old new bytes : List ℕ) (offset : ℕ) → 1 ≤ offset → 1 ≤ length old → IsWritten old offset bytes new → get_or new 0 0 ≡ get_or old 0 0
first_byte [] new bytes offset some long is = absurd (omega (arith, long))
first_byte (b ∷ old) new bytes zero some long is = absurd (omega (arith, some))
first_byte (b ∷ old) new bytes (suc offset) some long is = ap (λ (l : List ℕ). get_or l 0 0) is

pub first_byte_kept : (c : Commit) (old new : List ℕ) → 1 ≤ c.offset → 1 ≤ c.deciding_offset → 1 ≤ length old → IsCommitted c old new → get_or new 0 0 ≡ get_or old 0 0
first_byte_kept c old new first last long done =
    let staged_long : length done.0 ≡ length (take c.offset old) + (length c.bytes + length (drop (c.offset + length c.bytes) old)) =
    ap length done.1 ∙ length-append (take c.offset old) (c.bytes ++ drop (c.offset + length c.bytes) old) ∙ ap (λ (k : ℕ). length (take c.offset old) + k) (length-append c.bytes (drop (c.offset + length c.bytes) old)) in
    first_byte done.0 new (c.deciding_byte ∷ []) c.deciding_offset last (omega (arith, staged_long, prefix_some c.offset old first long)) done.2 ∙ first_byte old done.0 c.bytes c.offset first long done.1
  where
    prefix_some : (k : ℕ) (l : List ℕ) → 1 ≤ k → 1 ≤ length l → 1 ≤ length (take k l)
    prefix_some zero l some long = absurd (omega (arith, some))
    prefix_some (suc k) [] some long = absurd (omega (arith, long))
    prefix_some (suc k) (x ∷ l) some long = omega arith
