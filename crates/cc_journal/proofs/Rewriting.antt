-- What the images of a rewrite hold. How: the records depend only on the header and on the area that it names. The first write
-- does not touch the header or the area in use; the second changes only the area byte, and both areas then hold records.
use Rattle.std.proofs.Common.{◌≡◌, ◌⊎◌, inl, inr, ⊎_elim, ℕ, ◌+◌, ◌-◌, ◌*◌, ◌%◌, ◌<◌, ◌≤◌, List, [], ◌∷◌, ◌++◌, length, get_or, take, drop, sym, ◌∙◌, ap, subst, arith, length-append, append_assoc, take-append-drop}
use Rattle.std.proofs.lemmas.Bool.{cases_eq}
use Rattle.std.proofs.lemmas.List.{take_at, drop_at, drop_more, drop-drop, drop-take, length-take-le, take-append-le}
use Rattle.cc_disk.specs.Images.{IsWritten, DiffersWithin}
use Rattle.cc_journal.specs.Format.{header, records, room_of, IsArea, HoldsOneOf}
use Rattle.cc_journal.specs.Journal.{HoldsFrom}
use Rattle.cc_journal.specs.Commit.{area_begin, other_area, rewrite_commit, IsCommitted}
use Rattle.cc_journal.specs.internal.Commit.{IsMidCommit}
use Rattle.cc_journal.specs.internal.Reading.{BeginsWith, EndsClosed}
use Rattle.cc_journal.proofs.Records.{length-header, holds_alone}
use Rattle.cc_journal.proofs.Images.{written_differs}
use Rattle.cc_journal.proofs.Scan.{holds_from, ends_of}

-- ---- the two areas

at_zero : (k area : ℕ) → k ≡ 0 → 16 + k * area ≡ 16
at_zero k area e = ap (λ (n : ℕ). 16 + n * area) e ∙ omega arith

at_one : (k area : ℕ) → k ≡ 1 → 16 + k * area ≡ 16 + area
at_one k area e = ap (λ (n : ℕ). 16 + n * area) e ∙ omega arith

-- one area begins after the header, and the other right after that area
pub sides : (b area : ℕ) → ((area_begin b area ≡ 16) × (area_begin (other_area b) area ≡ 16 + area)) ⊎ ((area_begin b area ≡ 16 + area) × (area_begin (other_area b) area ≡ 16))
sides b area =
    ⊎_elim
    (λ even. inl (at_zero (b % 2) area even, at_one (other_area b % 2) area (omega (arith, even))))
    (λ odd. inr (at_one (b % 2) area (omega (arith, odd)), at_zero (other_area b % 2) area (omega (arith, odd))))
    (cases_eq (b % 2) 0)

-- area bytes of the same parity name the same area
pub same_side : (a b area : ℕ) → a % 2 ≡ b % 2 → area_begin a area ≡ area_begin b area
same_side a b area e = ap (λ (k : ℕ). 16 + k * area) e

-- ---- what stays of an image

take_prefix : (n t : ℕ) (l : List ℕ) → n ≤ t → t ≤ length l → take n (take t l) ≡ take n l
take_prefix n t l le within =
    sym (take-append-le n (take t l) (drop t l) (omega (arith, length-take-le t l within, le))) ∙ ap (λ (x : List ℕ). take n x) (take-append-drop t l)

module _ (old image : List ℕ) (long : length image ≡ length old) where
  same_prefix : (n t : ℕ) → n ≤ t → t ≤ length old → take t image ≡ take t old → take n image ≡ take n old
  same_prefix n t le within same =
      sym (take_prefix n t image le (omega (arith, within, long))) ∙ ap (λ (x : List ℕ). take n x) same ∙ take_prefix n t old le within

  same_behind : (e s : ℕ) → e ≤ s → drop e image ≡ drop e old → drop s image ≡ drop s old
  same_behind e s le same =
      let parts : e + (s - e) ≡ s = omega arith in
      ap (λ (n : ℕ). drop n image) (sym parts) ∙ sym (drop-drop (s - e) e image) ∙ ap (λ (x : List ℕ). drop (s - e) x) same ∙ drop-drop (s - e) e old ∙ ap (λ (n : ℕ). drop n old) parts

  -- if the first 16 bytes stay, the header stays
  header_stays : (start area : ℕ) → take 16 image ≡ take 16 old → BeginsWith old start area → BeginsWith image start area
  header_stays start area same b = record {
    area_byte = b.area_byte;
    rest = drop 16 image;
    is = sym (take-append-drop 16 image)
        ∙ ap (λ (l : List ℕ). l ++ drop 16 image) (same ∙ ap (λ (l : List ℕ). take 16 l) b.is ∙ take_at (header b.area_byte area) b.rest 16 (length-header b.area_byte area));
    begins = b.begins;
  }

  -- if the first t bytes stay, records that end before t stay
  records_stay : (s t : ℕ) (bodies : List (List ℕ)) → s + room_of bodies ≤ t → t ≤ length old → take t image ≡ take t old → EndsClosed (drop s old) bodies → EndsClosed (drop s image) bodies
  records_stay s t bodies le within same ends =
      let room = room_of bodies in
      let closed_prefix = records bodies ++ ends.gate ∷ [] in
      let long-prefix : length closed_prefix ≡ room = length-append (records bodies) (ends.gate ∷ []) in
      let prefix : take room (drop s image) ≡ closed_prefix =
      sym (drop-take s room image) ∙ ap (λ (l : List ℕ). drop s l) (same_prefix (s + room) t le within same) ∙ drop-take s room old
      ∙ ap (λ (l : List ℕ). take room l) (ends.is ∙ sym (append_assoc (records bodies) (ends.gate ∷ []) ends.behind)) ∙ take_at closed_prefix ends.behind room long-prefix in
      record {
        gate = ends.gate;
        behind = drop room (drop s image);
        is = sym (take-append-drop room (drop s image)) ∙ ap (λ (l : List ℕ). l ++ drop room (drop s image)) prefix ∙ append_assoc (records bodies) (ends.gate ∷ []) (drop room (drop s image));
        closed = ends.closed;
      }

abbrev begins_of : (image : List ℕ) (start area : ℕ) (bodies : List (List ℕ)) → HoldsFrom image start area bodies → BeginsWith image start area
begins_of image start area bodies from = record {
  area_byte = from.holds.area_byte;
  rest = from.holds.other ++ (records bodies ++ from.holds.gate ∷ from.holds.behind);
  is = from.holds.bytes;
  begins = from.begins ∙ ap (λ (n : ℕ). 16 + n) from.holds.offset;
}

-- a write into the other area does not change the records
pub old_area_stays : (old image : List ℕ) (start area n : ℕ) (bodies : List (List ℕ)) (from : HoldsFrom old start area bodies) → n ≤ area
    → DiffersWithin (area_begin (other_area from.holds.area_byte) area) n old image → HoldsFrom image start area bodies
old_area_stays old image start area n bodies from small differs =
    let b = from.holds.area_byte in
    let t = area_begin (other_area b) area in
    let begins = begins_of old start area bodies from in
    let size = from.holds.is_area in
    let ends = (ends_of old start area area bodies begins size.most from.holds).0 in
    let here : start ≡ area_begin b area = begins.begins in
    let least : 16 ≤ t = omega arith in
    let within : t ≤ length old =
    ⊎_elim (λ a. omega (arith, a.1, size.room)) (λ z. omega (arith, z.1, size.room)) (sides b area) in
    let head = header_stays old image differs.size start area (same_prefix old image differs.size 16 t least within differs.before) begins in
    let there : EndsClosed (drop start image) bodies =
    ⊎_elim
    (λ a. records_stay old image differs.size start t bodies (omega (arith, a.0, a.1, here, from.holds.fits)) within differs.before ends)
    (λ z. subst (λ (l : List ℕ). EndsClosed l bodies) (sym (same_behind old image differs.size (t + n) start (omega (arith, z.0, z.1, here, small)) differs.behind)) ends)
    (sides b area) in
    holds_from image start area bodies head (subst (λ (k : ℕ). IsArea k area) (sym differs.size) size) there from.holds.fits

-- an image that differs only in the area byte holds the records of the area that its area byte names
pub decided : (staged image : List ℕ) (start s area : ℕ) (bodies : List (List ℕ)) → BeginsWith staged start area → IsArea (length staged) area → DiffersWithin 0 1 staged image → 16 ≤ s → s ≡ area_begin (get_or image 0 0) area
    → EndsClosed (drop s staged) bodies → room_of bodies ≤ area → HoldsFrom image s area bodies
decided staged image start s area bodies b size differs least s_is ends room =
    let x = get_or image 0 0 in
    let within : 0 < length image = omega (arith, differs.size, size.room) in
    let whole : image ≡ x ∷ drop 1 staged = drop_more image 0 0 within ∙ ap (λ (l : List ℕ). x ∷ l) differs.behind in
    let head : BeginsWith image s area = record { area_byte = x; rest = b.rest; is = whole ∙ ap (λ (l : List ℕ). x ∷ drop 1 l) b.is; begins = s_is } in
    let there : EndsClosed (drop s image) bodies =
    subst (λ (l : List ℕ). EndsClosed l bodies) (sym (same_behind staged image differs.size 1 s (omega (arith, least)) differs.behind)) ends in
    holds_from image s area bodies head (subst (λ (k : ℕ). IsArea k area) (sym differs.size) size) there room

-- ---- the commit of a rewrite

module _ (old : List ℕ) (start area : ℕ) (bodies : List (List ℕ)) (from : HoldsFrom old start area bodies) (more : List (List ℕ)) (room : room_of more ≤ area) where
  abbrev b : ℕ
  b = from.holds.area_byte

  abbrev t : ℕ
  t = area_begin (other_area b) area

  abbrev whole : List ℕ
  whole = records more ++ 0 ∷ []

  length-whole : length whole ≡ room_of more
  length-whole = length-append (records more) (0 ∷ [])

  within : t + length whole ≤ length old
  within = ⊎_elim (λ a. omega (arith, a.1, from.holds.is_area.room, length-whole, room)) (λ z. omega (arith, z.1, from.holds.is_area.room, length-whole, room)) (sides b area)

  -- once the other area is written, the old records are still held
  staged_holds : (staged : List ℕ) → IsWritten old t whole staged → HoldsFrom staged start area bodies
  staged_holds staged is = old_area_stays old staged start area (length whole) bodies from (omega (arith, length-whole, room)) (written_differs old staged t whole within is)

  -- once the other area is written, it has the new records
  staged_ends : (staged : List ℕ) → IsWritten old t whole staged → EndsClosed (drop t staged) more
  staged_ends staged is =
      let Z = drop (t + length whole) old in
      let here : drop t staged ≡ whole ++ Z = ap (λ (l : List ℕ). drop t l) is ∙ drop_at (take t old) (whole ++ Z) t (length-take-le t old (omega (arith, within))) in
      record { gate = 0; behind = Z; is = here ∙ append_assoc (records more) (0 ∷ []) Z; closed = λ e. absurd (omega (arith, e)) }

  -- a crash in the middle of a rewrite leaves the old records or the new ones
  pub rewriting : (image : List ℕ) → IsMidCommit (rewrite_commit b area more) old image → HoldsOneOf area bodies more image
  rewriting image (inl differs) = inl (holds_alone image area bodies (old_area_stays old image start area (length whole) bodies from (omega (arith, length-whole, room)) differs).holds)
  rewriting image (inr (staged, is, differs)) =
      let kept = staged_holds staged is in
      let begins = begins_of staged start area bodies kept in
      let x = get_or image 0 0 in
      let y = kept.holds.area_byte in
      let old_begin : start ≡ area_begin b area = (begins_of old start area bodies from).begins in
      ⊎_elim
      (λ same. inl (holds_alone image area bodies
      (decided staged image start start area bodies begins kept.holds.is_area differs (omega (arith, old_begin)) (old_begin ∙ same_side b x area (sym same))
      (ends_of staged start area area bodies begins kept.holds.is_area.most kept.holds).0 from.holds.fits).holds))
      (λ other. inr (holds_alone image area more
      (decided staged image start t area more begins kept.holds.is_area differs (omega arith) (same_side (other_area b) x area (omega (arith, other))) (staged_ends staged is) room).holds))
      (cases_eq (x % 2) (b % 2))

  -- after the commit of a rewrite the disk holds the new records, in the other area
  pub rewritten : (new : List ℕ) → IsCommitted (rewrite_commit b area more) old new → HoldsFrom new t area more
  rewritten new done =
      let staged = done.0 in
      let kept = staged_holds staged done.1 in
      let begins = begins_of staged start area bodies kept in
      let differs = written_differs staged new 0 (other_area b ∷ []) (omega (arith, kept.holds.is_area.room)) done.2 in
      let byte : get_or new 0 0 ≡ other_area b = ap (λ (l : List ℕ). get_or l 0 0) done.2 in
      decided staged new start t area more begins kept.holds.is_area differs (omega arith) (same_side (other_area b) (get_or new 0 0) area (ap (λ (k : ℕ). k % 2) (sym byte))) (staged_ends staged done.1) room
