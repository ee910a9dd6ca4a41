-- Reading rows of bytes.
use Rattle.std.proofs.Common.{◌≡◌, ℕ, zero, suc, ◌+◌, ◌-◌, ◌*◌, ◌/◌, ◌%◌, ◌^◌, ◌<◌, ◌≤◌, ◌⊎◌, List, [], ◌∷◌, ◌++◌, length, take, drop, Some, refl, ap, sym, subst, ◌∙◌, arith, append_assoc, inl, inr, ⊎_elim}
use Rattle.std.proofs.lemmas.Bool.{cases_eq}
use Rattle.std.specs.Int.{w16, to_be_bytes}
use Rattle.std.proofs.lemmas.List.{length-drop, length-take, nil_from_length}
use Rattle.cc_hex.specs.internal.Reading.{◌>>=◌}
use Rattle.cc_hex.specs.Format.{Record, Data, ExtendedLinearAddress, AddressedByte, cells_from, contents_of}
use Rattle.cc_hex.specs.Layout.{base_line, record_line, row, rows}
use Rattle.cc_hex.proofs.Digits.{AreBytes, more_bytes, no_bytes, front_bytes, back_bytes}
use Rattle.cc_hex.proofs.Bases.{base_line_is, no_base_line}
use Rattle.cc_hex.proofs.Lines.{AreRecords, record_first}

-- a text says these cells from a base address on
pub record Tells (base : ℕ) (text : List ℕ) (cells : List AddressedByte) : Type 0 where
  pub records : List Record
  pub are : AreRecords text records
  pub contents : contents_of base records ≡ Some cells

-- the cells of the first k bytes, followed by those of the rest, are all cells
cells_cut : (k a : ℕ) (bytes : List ℕ) → cells_from a (take k bytes) ++ cells_from (a + k) (drop k bytes) ≡ cells_from a bytes
cells_cut zero a bytes = ap (λ n. cells_from n bytes) (let same : a + 0 ≡ a = omega arith in same)
cells_cut (suc k) a [] = refl
cells_cut (suc k) a (b ∷ bs) =
    let next : a + suc k ≡ a + 1 + k = omega arith in
    ap (λ n. record { address = a % 2 ^ 32; byte = b } ∷ (cells_from (a + 1) (take k bs) ++ cells_from n (drop k bs))) next
    ∙ ap (λ cells. record { address = a % 2 ^ 32; byte = b } ∷ cells) (cells_cut k (a + 1) bs)

-- a record of data before a text adds its cells to those of the text
data_first : (base offset : ℕ) (bytes text : List ℕ) (cells : List AddressedByte) → AreBytes bytes → length bytes < 256 → offset < 65536 → Tells base text cells →
    Tells base (record_line 0 offset bytes ++ text) (cells_from (base + offset) bytes ++ cells)
data_first base offset bytes text cells h few low others = record {
  records = Data offset bytes ∷ others.records;
  are = record_first 0 offset bytes text (Data offset bytes) others.records h few low (omega arith) refl others.are;
  contents = ap (λ found. found >>= λ rest. Some (cells_from (base + offset) bytes ++ rest)) others.contents;
}

-- a record of an upper half, put before a text, moves the base address of the text
base_first : (base upper : ℕ) (text : List ℕ) (cells : List AddressedByte) → upper < 65536 → Tells (65536 * upper) text cells →
    Tells base (record_line 4 0 (to_be_bytes w16 upper) ++ text) cells
base_first base upper text cells low others =
    let same : 256 * (upper / 256 % 256) + upper % 256 ≡ upper = omega arith in
    let bytes : AreBytes (to_be_bytes w16 upper) = more_bytes (upper / 256 % 256) (upper % 256 ∷ []) (omega arith) (more_bytes (upper % 256) [] (omega arith) no_bytes) in
    record {
      records = ExtendedLinearAddress (256 * (upper / 256 % 256) + upper % 256) ∷ others.records;
      are = record_first 4 0 (to_be_bytes w16 upper) text (ExtendedLinearAddress (256 * (upper / 256 % 256) + upper % 256)) others.records bytes (omega arith) (omega arith) (omega arith) refl others.are;
      contents = ap (λ u. contents_of (65536 * u) others.records) same ∙ others.contents;
    }

-- after a row's base line, the base address is that of the row
base_line_first : (base a : ℕ) (text : List ℕ) (cells : List AddressedByte) → a < 2 ^ 32 → (a % 65536 ≡ 0) ⊎ (base ≡ a - a % 65536) →
    Tells (a - a % 65536) text cells → Tells base (base_line a ++ text) cells
base_line_first base a text cells low set others =
    elim (cases_eq (a % 65536) 0) [
      | inl e ↦
          let same : 65536 * (a / 65536) ≡ a - a % 65536 = omega arith in
          subst (λ (line : List ℕ). Tells base (line ++ text) cells) (sym (base_line_is a e))
          (base_first base (a / 65536) text cells (omega arith) (subst (λ (b : ℕ). Tells b text cells) (sym same) others))
      | inr ne ↦
          let same : base ≡ a - a % 65536 = ⊎_elim (λ e. absurd (ne e)) (λ e. e) set in
          subst (λ (line : List ℕ). Tells base (line ++ text) cells) (sym (no_base_line a ne)) (subst (λ (b : ℕ). Tells b text cells) (sym same) others)
    ]

row_first : (base a : ℕ) (bytes text : List ℕ) (cells : List AddressedByte) → AreBytes bytes → length bytes ≤ 16 → a < 2 ^ 32 → (a % 65536 ≡ 0) ⊎ (base ≡ a - a % 65536) →
    Tells (a - a % 65536) text cells → Tells base (row a bytes ++ text) (cells_from a bytes ++ cells)
unfolding row
row_first base a bytes text cells h few low set others =
    let at : a - a % 65536 + a % 65536 ≡ a = omega arith in
    let data_line : List ℕ = record_line 0 (a % 65536) bytes in
    let told : Tells (a - a % 65536) (data_line ++ text) (cells_from (a - a % 65536 + a % 65536) bytes ++ cells) = data_first (a - a % 65536) (a % 65536) bytes text cells h (omega arith) (omega arith) others in
    let grouped : (base_line a ++ data_line) ++ text ≡ base_line a ++ (data_line ++ text) = append_assoc (base_line a) data_line text in
    subst (λ (t : List ℕ). Tells base t (cells_from a bytes ++ cells)) (sym grouped)
    (base_line_first base a (data_line ++ text) (cells_from a bytes ++ cells) low set (subst (λ (n : ℕ). Tells (a - a % 65536) (data_line ++ text) (cells_from n bytes ++ cells)) at told))

-- a row has the same base address as the next one, unless a block of 65,536 addresses begins there
next_base : (a : ℕ) → a % 16 ≡ 0 → ((a + 16) % 65536 ≡ 0) ⊎ (a - a % 65536 ≡ a + 16 - (a + 16) % 65536)
next_base a aligned =
    elim (cases_eq ((a + 16) % 65536) 0) [
      | inl e ↦ inl e
      | inr ne ↦ inr (omega arith)
    ]

pub rows_first : (n base a : ℕ) (bytes text : List ℕ) (cells : List AddressedByte) → AreBytes bytes → length bytes ≤ 16 * n → a % 16 ≡ 0 → a + 16 * n ≤ 2 ^ 32 → (a % 65536 ≡ 0) ⊎ (base ≡ a - a % 65536) →
    ((b : ℕ) → Tells b text cells) → Tells base (rows n a bytes ++ text) (cells_from a bytes ++ cells)
rows_first zero base a bytes text cells h few aligned within set others =
    let none : bytes ≡ [] = nil_from_length bytes (omega arith) in
    subst (λ (bs : List ℕ). Tells base text (cells_from a bs ++ cells)) (sym none) (others base)
rows_first (suc n) base a bytes text cells h few aligned within set others =
    let next : ((a + 16) % 65536 ≡ 0) ⊎ (a - a % 65536 ≡ a + 16 - (a + 16) % 65536) = next_base a aligned in
    let first : List ℕ = row a (take 16 bytes) in
    let rest : List ℕ = rows n (a + 16) (drop 16 bytes) in
    let told : Tells (a - a % 65536) (rest ++ text) (cells_from (a + 16) (drop 16 bytes) ++ cells) =
    rows_first n (a - a % 65536) (a + 16) (drop 16 bytes) text cells (back_bytes 16 bytes h) (omega (arith, length-drop 16 bytes)) (omega arith) (omega arith) next others in
    let all : Tells base (first ++ (rest ++ text)) (cells_from a (take 16 bytes) ++ (cells_from (a + 16) (drop 16 bytes) ++ cells)) =
    row_first base a (take 16 bytes) (rest ++ text) (cells_from (a + 16) (drop 16 bytes) ++ cells) (front_bytes 16 bytes h) (omega (arith, length-take 16 bytes)) (omega arith) set told in
    let grouped : (first ++ rest) ++ text ≡ first ++ (rest ++ text) = append_assoc first rest text in
    let cut : cells_from a (take 16 bytes) ++ (cells_from (a + 16) (drop 16 bytes) ++ cells) ≡ cells_from a bytes ++ cells =
    sym (append_assoc (cells_from a (take 16 bytes)) (cells_from (a + 16) (drop 16 bytes)) cells) ∙ ap (λ cs. cs ++ cells) (cells_cut 16 a bytes) in
    subst (λ (t : List ℕ). Tells base t (cells_from a bytes ++ cells)) (sym grouped)
    (subst (λ (cs : List AddressedByte). Tells base (first ++ (rest ++ text)) cs) cut all)
