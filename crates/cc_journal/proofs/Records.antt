-- An image holds at most one list of records. How: if the same bytes begin with two headers, or with two records, the two are
-- equal, since each states its own length. So if the same bytes begin with two lists of records, one list continues the
-- other.
use Rattle.std.proofs.Common.{◌≡◌, ◌≢◌, ℕ, zero, suc, ◌+◌, ◌*◌, ◌%◌, ◌^◌, ◌<◌, ◌≤◌, List, [], ◌∷◌, ◌++◌, length, get_or, take, drop, refl, sym, ◌∙◌, ap, arith, length-append, append_assoc, drop-cons}
use Rattle.std.proofs.lemmas.List.{take_at, drop_at}
use Rattle.std.proofs.lemmas.Nat.{from_le_bytes-to_le_bytes_4}
use Rattle.std.specs.Int.{w32, to_le_bytes, from_le_bytes}
use Rattle.cc_journal.specs.Format.{open_gate, header, record_bytes, records, HoldsRecords, HoldsAlone}

pub split_same : (xs ys us vs : List ℕ) → length xs ≡ length us → xs ++ ys ≡ us ++ vs → (xs ≡ us) × (ys ≡ vs)
split_same xs ys us vs long same = (
  sym (take_at xs ys (length xs) refl) ∙ ap (λ (l : List ℕ). take (length xs) l) same ∙ take_at us vs (length xs) (sym long),
  sym (drop_at xs ys (length xs) refl) ∙ ap (λ (l : List ℕ). drop (length xs) l) same ∙ drop_at us vs (length xs) (sym long),
)

pub four_bytes_same : (m n : ℕ) → m < 2 ^ 32 → n < 2 ^ 32 → to_le_bytes w32 m ≡ to_le_bytes w32 n → m ≡ n
four_bytes_same m n small-m small-n same =
    sym (from_le_bytes-to_le_bytes_4 m small-m) ∙ ap (λ (l : List ℕ). from_le_bytes w32 l) same ∙ from_le_bytes-to_le_bytes_4 n small-n

pub length-four_bytes : (n : ℕ) → length (to_le_bytes w32 n) ≡ 4
length-four_bytes n = refl

pub length-header : (area_byte area : ℕ) → length (header area_byte area) ≡ 16
length-header area_byte area = refl

-- two headers at the start of the same bytes have the same fields
pub header_same : (b a c d : ℕ) (rest others : List ℕ) → a < 2 ^ 32 → d < 2 ^ 32 → header b a ++ rest ≡ header c d ++ others → (b ≡ c) × (a ≡ d) × (rest ≡ others)
header_same b a c d rest others small-a small-d same =
    let parts = split_same (header b a) rest (header c d) others refl same in
    let byte : b ≡ c = ap (λ (l : List ℕ). first l) parts.0 in
    let size = four_bytes_same a d small-a small-d (ap (λ (l : List ℕ). take 4 (drop 8 l)) parts.0) in
    (byte, size, parts.1)
  where
    first : List ℕ → ℕ
    first [] = 0
    first (x ∷ xs) = x

pub length-record_bytes : (body : List ℕ) → length (record_bytes body) ≡ length body + 5
length-record_bytes body = omega (arith, length-append (to_le_bytes w32 (length body)) body, length-four_bytes (length body))

pub records-append : (bodies more : List (List ℕ)) → records (bodies ++ more) ≡ records bodies ++ records more
records-append [] more = refl
records-append (body ∷ bodies) more = ap (λ (l : List ℕ). record_bytes body ++ l) (records-append bodies more) ∙ sym (append_assoc (record_bytes body) (records bodies) (records more))

pub records_push : (bodies : List (List ℕ)) (body : List ℕ) → records (bodies ++ body ∷ []) ≡ records bodies ++ record_bytes body
records_push bodies body = records-append bodies (body ∷ []) ∙ ap (λ (l : List ℕ). records bodies ++ l) (append_nil (record_bytes body))
  where
    append_nil : (l : List ℕ) → l ++ [] ≡ l
    append_nil [] = refl
    append_nil (x ∷ l) = ap (λ (t : List ℕ). x ∷ t) (append_nil l)

pub length-records_push : (bodies : List (List ℕ)) (body : List ℕ) → length (records (bodies ++ body ∷ [])) ≡ length (records bodies) + (length body + 5)
length-records_push bodies body = ap length (records_push bodies body) ∙ length-append (records bodies) (record_bytes body) ∙ ap (λ (k : ℕ). length (records bodies) + k) (length-record_bytes body)

-- the records from index i on are record i and the records after it
pub next_body : (bodies : List (List ℕ)) (i : ℕ) (body : List ℕ) → i < length bodies → body ≡ get_or bodies i body → drop i bodies ≡ body ∷ drop (i + 1) bodies
next_body bodies i body within is =
    let k : suc i ≡ i + 1 = omega arith in
    drop-cons bodies i body within ∙ ap (λ (b : List ℕ). b ∷ drop (suc i) bodies) (sym is) ∙ ap (λ (n : ℕ). body ∷ drop n bodies) k

pub length-records_from : (i : ℕ) (bodies : List (List ℕ)) → length (records (drop i bodies)) ≤ length (records bodies)
length-records_from zero bodies = omega arith
length-records_from (suc i) [] = omega arith
length-records_from (suc i) (body ∷ bodies) = omega (arith, length-records_from i bodies, length-append (record_bytes body) (records bodies))

pub length-records_next : (bodies : List (List ℕ)) (i : ℕ) (body : List ℕ) → i < length bodies → body ≡ get_or bodies i body
    → length (records (drop i bodies)) ≡ length body + 5 + length (records (drop (i + 1) bodies))
length-records_next bodies i body within is =
    ap (λ (l : List (List ℕ)). length (records l)) (next_body bodies i body within is)
    ∙ length-append (record_bytes body) (records (drop (i + 1) bodies)) ∙ ap (λ (n : ℕ). n + length (records (drop (i + 1) bodies))) (length-record_bytes body)

-- two records at the start of the same bytes have the same body
pub record_same : (x y : List ℕ) (rest others : List ℕ) → length x < 2 ^ 32 → length y < 2 ^ 32 → record_bytes x ++ rest ≡ record_bytes y ++ others → (x ≡ y) × (rest ≡ others)
record_same x y rest others small-x small-y same =
    let whole : to_le_bytes w32 (length x) ++ (x ++ rest) ≡ to_le_bytes w32 (length y) ++ (y ++ others) =
    sym (append_assoc (to_le_bytes w32 (length x)) x rest) ∙ ap (λ (l : List ℕ). drop 1 l) same ∙ append_assoc (to_le_bytes w32 (length y)) y others in
    let parts = split_same (to_le_bytes w32 (length x)) (x ++ rest) (to_le_bytes w32 (length y)) (y ++ others) refl whole in
    split_same x rest y others (four_bytes_same (length x) (length y) small-x small-y parts.0) parts.1

first_same : (x y : ℕ) (xs ys : List ℕ) → x ∷ xs ≡ y ∷ ys → x ≡ y
first_same x y xs ys same = cc

-- if bytes begin with records, and also with other records and a closed gate, the other records continue the first ones
pub records_prefix : (bodies others : List (List ℕ)) (bytes : List ℕ) (gate : ℕ) (behind : List ℕ)
    → length (records bodies) < 2 ^ 32 → length (records others) < 2 ^ 32 → gate ≢ open_gate → records bodies ++ bytes ≡ records others ++ gate ∷ behind
    → (more : List (List ℕ)) × (others ≡ bodies ++ more) × (bytes ≡ records more ++ gate ∷ behind)
records_prefix [] others bytes gate behind small-b small-o closed same = (others, refl, same)
records_prefix (body ∷ bodies) [] bytes gate behind small-b small-o closed same =
    absurd (closed (sym (first_same open_gate gate _ behind same)))
records_prefix (body ∷ bodies) (other ∷ others) bytes gate behind small-b small-o closed same =
    let long-b = length-append (record_bytes body) (records bodies) in
    let long-o = length-append (record_bytes other) (records others) in
    let whole = sym (append_assoc (record_bytes body) (records bodies) bytes) ∙ same ∙ append_assoc (record_bytes other) (records others) (gate ∷ behind) in
    let parts = record_same body other (records bodies ++ bytes) (records others ++ gate ∷ behind) (omega (arith, long-b, length-record_bytes body, small-b)) (omega (arith, long-o, length-record_bytes other, small-o)) whole in
    let rest = records_prefix bodies others bytes gate behind (omega (arith, long-b, small-b)) (omega (arith, long-o, small-o)) closed parts.1 in
    let same_body = sym parts.0 in
    (rest.0, (λ i. same_body i ∷ rest.1 i), rest.2)

-- an image holds at most one list of records
pub holds_same : (image : List ℕ) (area size : ℕ) (bodies others : List (List ℕ)) → HoldsRecords image area bodies → HoldsRecords image size others → (size ≡ area) × (others ≡ bodies)
holds_same image area size bodies others a b =
    let heads = header_same b.area_byte size a.area_byte area _ _ (omega (arith, b.is_area.most)) (omega (arith, a.is_area.most)) (sym b.bytes ∙ a.bytes) in
    let offsets : length b.other ≡ length a.other = b.offset ∙ same_offset b.area_byte a.area_byte size area heads.0 heads.1 ∙ sym a.offset in
    let areas = split_same b.other (records others ++ b.gate ∷ b.behind) a.other (records bodies ++ a.gate ∷ a.behind) offsets heads.2 in
    let on = records_prefix bodies others (a.gate ∷ a.behind) b.gate b.behind (omega (arith, a.fits, a.is_area.most)) (omega (arith, b.fits, b.is_area.most)) b.closed (sym areas.1) in
    (heads.1, on.1 ∙ no_more on.0 a.gate a.behind b.gate b.behind a.closed bodies on.2)
  where
    same_offset : (b c s t : ℕ) → b ≡ c → s ≡ t → b % 2 * s ≡ c % 2 * t
    same_offset b c s t e f = (λ i. e i % 2 * f i)

    no_more : (more : List (List ℕ)) (gate : ℕ) (behind : List ℕ) (end : ℕ) (rest : List ℕ) → gate ≢ open_gate → (bodies : List (List ℕ)) → gate ∷ behind ≡ records more ++ end ∷ rest → bodies ++ more ≡ bodies
    no_more [] gate behind end rest closed bodies same = append_nil bodies
      where
        append_nil : (l : List (List ℕ)) → l ++ [] ≡ l
        append_nil [] = refl
        append_nil (x ∷ l) = ap (λ (t : List (List ℕ)). x ∷ t) (append_nil l)
    no_more (body ∷ more) gate behind end rest closed bodies same = absurd (closed (first_same gate open_gate behind _ same))

pub holds_alone : (image : List ℕ) (area : ℕ) (bodies : List (List ℕ)) → HoldsRecords image area bodies → HoldsAlone image area bodies
holds_alone image area bodies holds = record { holds = holds; alone = λ size others other. holds_same image area size bodies others holds other }
