-- The bytes of a record, written one after another, are its line.
use Rattle.std.proofs.Common.{◌≡◌, ℕ, ◌+◌, ◌-◌, ◌/◌, ◌%◌, ◌<◌, List, [], ◌∷◌, ◌++◌, length, sum, sym, ap, ◌∙◌, append_assoc, arith, Result, Ok, Err, is_ok, OnOk, if◌then◌else◌}
use Rattle.std.specs.List.{flat_map}
use Rattle.std.proofs.lemmas.List.Concat.{flat_map-append}
use Rattle.std.proofs.lemmas.List.Sums.{sum_by_from}
use Rattle.cc_hex.specs.Layout.{two_digits, checksum, unsummed, record_line}

-- if the last write succeeded, the text is complete
pub ended : {T E : Type 0} (r : Result T E) (old tail new all : List ℕ) → new ≡ (if is_ok r then old ++ tail else old) → old ++ tail ≡ all → OnOk r (new ≡ all)
ended (Ok x) old tail new all e f = e ∙ f
ended (Err x) old tail new all e f = tt

-- a checksum byte makes the lowest byte of the sum 0, and no other byte does
summed : (head rest head_total rest_total total c n : ℕ) → head_total ≡ head % 256 → rest_total ≡ rest % 256 →
    total ≡ (head_total + rest_total) % 256 → (c + total) % 256 ≡ 0 → c < 256 → n ≡ head + rest → c ≡ (256 - n % 256) % 256
summed head rest head_total rest_total total c n e f g z h k = omega arith

-- the parts of a line, written one after another, are the line
joined : (old data_bytes : List ℕ) (count high low t c : ℕ) →
    ((((old ++ 58 ∷ []) ++ flat_map two_digits (count ∷ high ∷ low ∷ t ∷ [])) ++ flat_map two_digits data_bytes) ++ flat_map two_digits (c ∷ [])) ++ 10 ∷ []
    ≡ old ++ (58 ∷ flat_map two_digits ((count ∷ high ∷ low ∷ t ∷ data_bytes) ++ c ∷ []) ++ 10 ∷ [])
joined old data_bytes count high low t c =
    let head : List ℕ = flat_map two_digits (count ∷ high ∷ low ∷ t ∷ []) in
    let last : List ℕ = flat_map two_digits (c ∷ []) in
    let digits : flat_map two_digits (data_bytes ++ c ∷ []) ≡ flat_map two_digits data_bytes ++ last = flat_map-append two_digits data_bytes (c ∷ []) in
    let grouped : ((((old ++ 58 ∷ []) ++ head) ++ flat_map two_digits data_bytes) ++ last) ++ 10 ∷ [] ≡ old ++ (58 ∷ (head ++ (flat_map two_digits data_bytes ++ last)) ++ 10 ∷ []) = simp append_assoc in
    grouped ∙ ap (λ x. old ++ (58 ∷ (head ++ x) ++ 10 ∷ [])) (sym digits)

pub record_written : (old t0 t1 t2 t3 data_bytes : List ℕ) (t offset high low number head_total rest_total total c : ℕ) →
    high ≡ offset / 256 % 256 → low ≡ offset % 256 → number ≡ t →
    head_total ≡ (0 + length data_bytes + high + low + number) % 256 → rest_total ≡ sum data_bytes % 256 →
    total ≡ (head_total + rest_total) % 256 → (c + total) % 256 ≡ 0 → c < 256 →
    t0 ≡ old ++ 58 ∷ [] → t1 ≡ t0 ++ flat_map two_digits (length data_bytes ∷ high ∷ low ∷ number ∷ []) →
    t2 ≡ t1 ++ flat_map two_digits data_bytes → t3 ≡ t2 ++ flat_map two_digits (c ∷ []) →
    t3 ++ 10 ∷ [] ≡ old ++ record_line t offset data_bytes
unfolding record_line unsummed
record_written old t0 t1 t2 t3 data_bytes t offset high low number head_total rest_total total c e_high e_low e_number e_head e_rest e_total zero_sum fits e0 e1 e2 e3 =
    let u : List ℕ = length data_bytes ∷ high ∷ low ∷ number ∷ data_bytes in
    let n : sum u ≡ (0 + length data_bytes + high + low + number) + sum data_bytes = sum_by_from (λ x. x) (0 + length data_bytes + high + low + number) data_bytes in
    let check : c ≡ checksum u = summed (0 + length data_bytes + high + low + number) (sum data_bytes) head_total rest_total total c (sum u) e_head e_rest e_total zero_sum fits n in
    let parts : t3 ++ 10 ∷ [] ≡ ((((old ++ 58 ∷ []) ++ flat_map two_digits (length data_bytes ∷ high ∷ low ∷ number ∷ [])) ++ flat_map two_digits data_bytes) ++ flat_map two_digits (c ∷ [])) ++ 10 ∷ [] = cc in
    let bytes : u ≡ unsummed t offset data_bytes = cc in
    parts ∙ joined old data_bytes (length data_bytes) high low number c
    ∙ ap (λ x. old ++ (58 ∷ flat_map two_digits (u ++ x ∷ []) ++ 10 ∷ [])) check
    ∙ ap (λ v. old ++ (58 ∷ flat_map two_digits (v ++ checksum v ∷ []) ++ 10 ∷ [])) bytes
