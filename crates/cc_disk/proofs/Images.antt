-- What the calls of the disk in memory do to what a read gives and to what a crash may leave. A disk is split at the range of a
-- write into three parts, and so is each image.
use Rattle.std.proofs.Common.{◌≡◌, ℕ, ◌+◌, ◌≤◌, List, [], ◌∷◌, ◌++◌, map, length, take, drop, refl, sym, ◌∙◌, ap, subst, arith, length-append, length-drop, append_assoc, take-append-drop}
use Rattle.std.proofs.lemmas.List.{length-map, map-append, take-map, drop-map, take_at, drop_at, drop-drop, length-take-le}
use Rattle.cc_disk.specs.Model.{Cell, unsettled, bytes_of, IsImage, written, synced}
use Rattle.cc_disk.specs.Images.{IsWritten, UnsettlesWithin, AddsNone}
use Rattle.cc_disk.specs.internal.Laws.{bytes_are_image}

-- ---- reading, writing

pub bytes_of-unsettled : (bytes : List ℕ) → bytes_of (map unsettled bytes) ≡ bytes
bytes_of-unsettled [] = refl
bytes_of-unsettled (b ∷ bytes) = ap (λ (l : List ℕ). b ∷ l) (bytes_of-unsettled bytes)

pub bytes_of-written : (cells : List Cell) (offset : ℕ) (bytes : List ℕ) → IsWritten (bytes_of cells) offset bytes (bytes_of (written cells offset bytes))
bytes_of-written cells offset bytes =
    let f = λ (c : Cell). c.byte in
    map-append f (take offset cells) (map unsettled bytes ++ drop (offset + length bytes) cells)
    ∙ ap (λ (l : List ℕ). map f (take offset cells) ++ l) (map-append f (map unsettled bytes) (drop (offset + length bytes) cells))
    ∙ ap (λ (l : List ℕ). map f (take offset cells) ++ (l ++ map f (drop (offset + length bytes) cells))) (bytes_of-unsettled bytes)
    ∙ ap (λ (l : List ℕ). l ++ (bytes ++ map f (drop (offset + length bytes) cells))) (sym (take-map f offset cells))
    ∙ ap (λ (l : List ℕ). take offset (map f cells) ++ (bytes ++ l)) (sym (drop-map f (offset + length bytes) cells))

pub bytes_of-synced : (cells : List Cell) → bytes_of (synced cells) ≡ bytes_of cells
bytes_of-synced [] = refl
bytes_of-synced (c ∷ cells) = ap (λ (l : List ℕ). c.byte ∷ l) (bytes_of-synced cells)

-- ---- images

pub length-image : (cells : List Cell) (image : List ℕ) → IsImage cells image → length image ≡ length cells
length-image [] [] here = refl
length-image [] (b ∷ image) here = absurd here
length-image (c ∷ cells) [] here = absurd here
length-image (c ∷ cells) (b ∷ image) here = omega (arith, length-image cells image here.1)

prefix_image : (prefix back : List Cell) (image : List ℕ) → IsImage (prefix ++ back) image → IsImage prefix (take (length prefix) image)
prefix_image [] back image here = tt
prefix_image (c ∷ prefix) back [] here = absurd here
prefix_image (c ∷ prefix) back (b ∷ image) here = (here.0, prefix_image prefix back image here.1)

back_image : (prefix back : List Cell) (image : List ℕ) → IsImage (prefix ++ back) image → IsImage back (drop (length prefix) image)
back_image [] back image here = here
back_image (c ∷ prefix) back [] here = absurd here
back_image (c ∷ prefix) back (b ∷ image) here = back_image prefix back image here.1

join_images : (prefix back : List Cell) (x y : List ℕ) → IsImage prefix x → IsImage back y → IsImage (prefix ++ back) (x ++ y)
join_images [] back [] y here there = there
join_images [] back (b ∷ x) y here there = absurd here
join_images (c ∷ prefix) back [] y here there = absurd here
join_images (c ∷ prefix) back (b ∷ x) y here there = (here.0, join_images prefix back x y here.1 there)

-- the cells before a range, in it and after it are all the cells
in_parts : (cells : List Cell) (offset n : ℕ) → take offset cells ++ (take n (drop offset cells) ++ drop (offset + n) cells) ≡ cells
in_parts cells offset n =
    ap (λ (l : List Cell). take offset cells ++ (take n (drop offset cells) ++ l)) (sym (drop-drop n offset cells))
    ∙ ap (λ (l : List Cell). take offset cells ++ l) (take-append-drop n (drop offset cells))
    ∙ take-append-drop offset cells

-- an image after a write, with the range replaced by what a read gave there before, is an image from before
pub written_images : (cells : List Cell) (offset : ℕ) (bytes : List ℕ) → offset + length bytes ≤ length cells → UnsettlesWithin offset (length bytes) (IsImage cells) (IsImage (written cells offset bytes))
written_images cells offset bytes fits image now =
    let n = length bytes in
    let A = take offset cells in
    let M = take n (drop offset cells) in
    let B = drop (offset + n) cells in
    let a-long : length A ≡ offset = length-take-le offset cells (omega arith) in
    let prefix = prefix_image A (map unsettled bytes ++ B) image now in
    let rest = back_image A (map unsettled bytes ++ B) image now in
    let behind = back_image (map unsettled bytes) B (drop (length A) image) rest in
    let x = take (length A) image in
    let y = bytes_of M in
    let z = drop (length (map unsettled bytes)) (drop (length A) image) in
    let z-is : z ≡ drop (offset + n) image = drop-drop (length (map unsettled bytes)) (length A) image ∙ ap (λ (k : ℕ). drop k image) (omega (arith, a-long, length-map bytes unsettled)) in
    let old = x ++ (y ++ z) in
    let x-is : x ≡ take offset image = ap (λ (k : ℕ). take k image) a-long in
    let y-long : length y ≡ n = omega (arith, length-map M (λ (c : Cell). c.byte), length-take-le n (drop offset cells) (omega (arith, length-drop offset cells))) in
    let image-long = length-image (written cells offset bytes) image now in
    let total : length (written cells offset bytes) ≡ length cells = omega (arith, length-append A (map unsettled bytes ++ B), length-append (map unsettled bytes) B, length-map bytes unsettled, a-long, length-drop (offset + n) cells) in
    let x-long : length x ≡ offset = ap length x-is ∙ length-take-le offset image (omega (arith, image-long, total)) in
    let is_old : IsImage cells old = subst (λ (l : List Cell). IsImage l old) (in_parts cells offset n) (join_images A (M ++ B) x (y ++ z) prefix (join_images M B y z (bytes_are_image M) behind)) in (
      old,
      is_old,
      record {
        before = sym x-is ∙ sym (take_at x (y ++ z) offset x-long);
        behind = sym z-is ∙ sym (drop_two x y z (offset + n) (omega (arith, x-long, y-long)));
        size = image-long ∙ total ∙ sym (length-image cells old is_old);
      },
    )
  where
    drop_two : (x y z : List ℕ) (k : ℕ) → length x + length y ≡ k → drop k (x ++ (y ++ z)) ≡ z
    drop_two x y z k long = ap (λ (l : List ℕ). drop k l) (sym (append_assoc x y z)) ∙ drop_at (x ++ y) z k (length-append x y ∙ long)

-- after a sync a crash leaves what a read gives
pub synced_alone : (cells : List Cell) (image : List ℕ) → IsImage (synced cells) image → image ≡ bytes_of cells
synced_alone [] [] now = refl
synced_alone [] (b ∷ image) now = absurd now
synced_alone (c ∷ cells) [] now = absurd now
synced_alone (c ∷ cells) (b ∷ image) now = (λ i. now.0 refl i ∷ synced_alone cells image now.1 i)

pub synced_adds_none : (cells : List Cell) → AddsNone (IsImage cells) (IsImage (synced cells))
synced_adds_none cells image now = subst (λ (l : List ℕ). IsImage cells l) (sym (synced_alone cells image now)) (bytes_are_image cells)
