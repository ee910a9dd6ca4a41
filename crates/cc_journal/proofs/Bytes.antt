-- What bytes that were read show about the bytes of a disk. How: what is read is a part of the disk's bytes, and a header or a
-- record states its own length in its bytes.
use Rattle.std.proofs.Common.{◌≡◌, ℕ, ◌+◌, ◌*◌, ◌%◌, ◌^◌, ◌<◌, Bool, true, false, not, List, [], ◌∷◌, ◌++◌, length, get_or, take, drop, Option, Some, None, IfSome, refl, sym, ◌∙◌, ap, subst, arith, eqb, append_assoc, take-append-drop}
use Rattle.std.proofs.lemmas.Bool.{false≢true}
use Rattle.std.proofs.lemmas.Bool.Decides.{Decides-eqb}
use Rattle.std.proofs.lemmas.List.{append-nil, drop-drop}
use Rattle.std.proofs.lemmas.Nat.{from_le_bytes-to_le_bytes_4}
use Rattle.std.proofs.lemmas.Slice.Eq.{slice_eq-Decides}
use lib.Pointwise.{pointwise}
use Rattle.std.specs.Int.{w32, to_le_bytes, from_le_bytes}
use Rattle.cc_journal.specs.Format.{open_gate, header, record_bytes, IsArea, HoldsRecords}
use Rattle.cc_journal.specs.internal.Reading.{BeginsWith}

-- ---- `!=` on bytes

pub differ : (xs ys : List ℕ) (r : Bool) → r ≡ not (pointwise eqb xs ys) → r ≡ true → xs ≡ ys → ⊥
differ xs ys r is told same =
    let here : pointwise eqb xs ys ≡ true = (slice_eq-Decides Decides-eqb xs ys (pointwise eqb xs ys) refl).1 same in
    false≢true (sym (ap not here) ∙ sym is ∙ told)

pub agree : (xs ys : List ℕ) (r : Bool) → r ≡ not (pointwise eqb xs ys) → r ≡ false → xs ≡ ys
agree xs ys r is told = (slice_eq-Decides Decides-eqb xs ys (pointwise eqb xs ys) refl).0 (from_not (pointwise eqb xs ys) (sym is ∙ told))
  where
    from_not : (b : Bool) → not b ≡ false → b ≡ true
    from_not true e = refl
    from_not false e = absurd (false≢true (sym e))

-- ---- the header

pub header_area : (bytes : List ℕ) (area_byte area : ℕ) → bytes ≡ header area_byte area → area < 2 ^ 32
    → from_le_bytes w32 (get_or bytes 8 0 ∷ get_or bytes 9 0 ∷ get_or bytes 10 0 ∷ get_or bytes 11 0 ∷ []) ≡ area
header_area bytes area_byte area same small =
    ap (λ (l : List ℕ). from_le_bytes w32 (get_or l 8 0 ∷ get_or l 9 0 ∷ get_or l 10 0 ∷ get_or l 11 0 ∷ [])) same ∙ from_le_bytes-to_le_bytes_4 area small

pub begins_even : (bytes : List ℕ) (area_byte area : ℕ) → bytes ≡ header area_byte area → area_byte % 2 ≡ 0 → BeginsWith bytes 16 area
begins_even bytes area_byte area same even = record {
  area_byte = area_byte;
  rest = [];
  is = same ∙ sym (append-nil (header area_byte area));
  begins = omega arith ∙ ap (λ (k : ℕ). 16 + k * area) (sym even);
}

pub begins_odd : (bytes : List ℕ) (area_byte area : ℕ) → bytes ≡ header area_byte area → (area_byte % 2 ≡ 0 → ⊥) → BeginsWith bytes (16 + area) area
begins_odd bytes area_byte area same odd =
    let one : 1 ≡ area_byte % 2 = omega (arith, odd) in
    record {
      area_byte = area_byte;
      rest = [];
      is = same ∙ sym (append-nil (header area_byte area));
      begins = omega arith ∙ ap (λ (k : ℕ). 16 + k * area) one;
    }

-- if the first 16 bytes begin with a header, so do all bytes
pub begins_whole : (bytes : List ℕ) (start area : ℕ) → BeginsWith (take 16 bytes) start area → BeginsWith bytes start area
begins_whole bytes start area b = record {
  area_byte = b.area_byte;
  rest = b.rest ++ drop 16 bytes;
  is = sym (take-append-drop 16 bytes) ∙ ap (λ (l : List ℕ). l ++ drop 16 bytes) b.is ∙ append_assoc (header b.area_byte area) b.rest (drop 16 bytes);
  begins = b.begins;
}

pub each_found : {A : Type 0} (o : Option A) (P Q : A → Type 0) → ((x : A) → P x → Q x) → IfSome o P → IfSome o Q
each_found None P Q step here = here
each_found (Some x) P Q step here = step x here

-- ---- a record

module _ (bytes : List ℕ) where
  rest_of : (n : ℕ) → drop n bytes ≡ take 0 bytes ++ drop n bytes
  rest_of n = refl

  only_gate : (gate : List ℕ) → length gate ≡ 1 → get_or gate 0 0 ≡ open_gate → gate ≡ open_gate ∷ []
  only_gate [] long is = absurd (omega arith)
  only_gate (g ∷ []) long is = ap (λ (k : ℕ). k ∷ []) is
  only_gate (g ∷ h ∷ gate) long is = absurd (omega arith)

  -- if an open gate was read from the start of the bytes, they begin with an open gate
  pub gate_read : (gate : List ℕ) → gate ≡ take 1 bytes → length gate ≡ 1 → get_or gate 0 0 ≡ open_gate → bytes ≡ open_gate ∷ drop 1 bytes
  gate_read gate read long is = sym (take-append-drop 1 bytes) ∙ ap (λ (l : List ℕ). l ++ drop 1 bytes) (sym read ∙ only_gate gate long is)

  -- if a gate, a length and a body were read, the bytes begin with the record that these make up
  pub record_read : (gate four body : List ℕ) (n : ℕ) → gate ≡ take 1 bytes → length gate ≡ 1 → get_or gate 0 0 ≡ open_gate
      → four ≡ take 4 (drop 1 bytes) → to_le_bytes w32 n ≡ four
      → body ≡ take n (drop 5 bytes) → length body ≡ n → bytes ≡ record_bytes body ++ drop n (drop 5 bytes)
  record_read gate four body n read long is read-four four-is read-body long-body =
      let size : four ≡ to_le_bytes w32 (length body) = sym four-is ∙ ap (λ (k : ℕ). to_le_bytes w32 k) (sym long-body) in
      let tail : drop 1 bytes ≡ to_le_bytes w32 (length body) ++ (body ++ drop n (drop 5 bytes)) =
      sym (take-append-drop 4 (drop 1 bytes)) ∙ ap (λ (l : List ℕ). l ++ drop 4 (drop 1 bytes)) (sym read-four ∙ size)
      ∙ ap (λ (l : List ℕ). to_le_bytes w32 (length body) ++ l) (drop-drop 4 1 bytes ∙ sym (take-append-drop n (drop 5 bytes)) ∙ ap (λ (l : List ℕ). l ++ drop n (drop 5 bytes)) (sym read-body)) in
      gate_read gate read long is ∙ ap (λ (l : List ℕ). open_gate ∷ l) (tail ∙ sym (append_assoc (to_le_bytes w32 (length body)) body (drop n (drop 5 bytes))))

  -- the length that was read is the length of the body there
  pub length_read : (four body rest : List ℕ) (n : ℕ) → four ≡ take 4 (drop 1 bytes) → n ≡ from_le_bytes w32 four → bytes ≡ record_bytes body ++ rest → length body < 2 ^ 32 → n ≡ length body
  length_read four body rest n read n-is is small =
      n-is ∙ ap (λ (l : List ℕ). from_le_bytes w32 l) (read ∙ ap (λ (l : List ℕ). take 4 (drop 1 l)) is) ∙ from_le_bytes-to_le_bytes_4 (length body) small

-- ---- an empty journal

pub empty_holds : (image rest : List ℕ) (size area : ℕ) → image ≡ header 0 area ++ (0 ∷ rest) → length image ≡ size → IsArea size area → HoldsRecords image area []
empty_holds image rest size area is long is_area = record {
  area_byte = 0;
  other = [];
  gate = 0;
  behind = rest;
  bytes = is;
  offset = omega arith;
  closed = λ e. absurd (omega (arith, e));
  fits = omega (arith, is_area.least);
  is_area = subst (λ (n : ℕ). IsArea n area) (sym long) is_area;
}
