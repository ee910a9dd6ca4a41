-- Reading the line of a record.
use Rattle.std.proofs.Common.{◌≡◌, ℕ, ◌+◌, ◌*◌, ◌/◌, ◌%◌, ◌<◌, eqb, ◌&&◌, cond, true, List, [], ◌∷◌, ◌++◌, length, sum, take, Some, None, refl, ap, sym, ◌∙◌, arith, append_assoc, length-append}
use Rattle.std.specs.List.{flat_map}
use Rattle.std.proofs.lemmas.List.{take_at}
use Rattle.std.proofs.lemmas.List.Sums.{sum_by-append}
use Rattle.std.proofs.lemmas.Bool.Decides.{nat_tests}
use Rattle.cc_hex.specs.internal.Reading.{◌>>=◌}
use Rattle.cc_hex.specs.Format.{Record, lines_of, records_of, record_of, record_of_line, typed_record}
use Rattle.cc_hex.specs.Layout.{two_digits, checksum, unsummed, record_line}
use Rattle.cc_hex.proofs.Digits.{AreBytes, more_bytes, appended_bytes, no_bytes, digits_again, digits_no_end, NoEnd, Nothing, Before}

-- a text consists of these records, one on each line
pub record AreRecords (text : List ℕ) (records : List Record) : Type 0 where
  pub lines : List (List ℕ)
  pub split : lines_of text ≡ Some lines
  pub read : records_of lines ≡ Some records

pub no_records : AreRecords [] []
no_records = record { lines = []; split = refl; read = refl }

-- a line without an end in it, put before a text, is the text's first line
first_line : (line text : List ℕ) (lines : List (List ℕ)) → NoEnd line → lines_of text ≡ Some lines → lines_of (line ++ 10 ∷ text) ≡ Some (line ∷ lines)
first_line line text lines Nothing e = rw e refl
first_line line text lines (Before c cs ne h) e = rw (first_line cs text lines h e, ne) refl

equal_tests : (a b : ℕ) → a ≡ b → eqb a b ≡ true
equal_tests a b e = grind (arith, nat_tests)

-- with the checksum, the lowest byte of the sum is 0
sum_zero : (bytes : List ℕ) → sum (bytes ++ checksum bytes ∷ []) % 256 ≡ 0
sum_zero bytes =
    let parts : sum (bytes ++ checksum bytes ∷ []) ≡ sum bytes + (0 + checksum bytes) = sum_by-append (λ x. x) bytes (checksum bytes ∷ []) in
    omega arith

-- reading the bytes of a record, followed by its checksum, gives that record
record_again : (count high low t offset : ℕ) (data_bytes : List ℕ) (r : Record) → count ≡ length data_bytes → 256 * high + low ≡ offset → typed_record t offset data_bytes ≡ Some r →
    record_of ((count ∷ high ∷ low ∷ t ∷ data_bytes) ++ checksum (count ∷ high ∷ low ∷ t ∷ data_bytes) ∷ []) ≡ Some r
record_again count high low t offset data_bytes r e o typed =
    let check : List ℕ = checksum (count ∷ high ∷ low ∷ t ∷ data_bytes) ∷ [] in
    let long : length (data_bytes ++ check) ≡ count + 1 = omega (arith, length-append data_bytes check) in
    let counted : eqb (length (data_bytes ++ check)) (count + 1) ≡ true = equal_tests _ _ long in
    let checked : eqb (sum ((count ∷ high ∷ low ∷ t ∷ data_bytes) ++ check) % 256) 0 ≡ true = equal_tests _ _ (sum_zero (count ∷ high ∷ low ∷ t ∷ data_bytes)) in
    let front : take count (data_bytes ++ check) ≡ data_bytes = take_at data_bytes check count (sym e) in
    let passed : (eqb (length (data_bytes ++ check)) (count + 1) && eqb (sum ((count ∷ high ∷ low ∷ t ∷ data_bytes) ++ check) % 256) 0) ≡ true = cc in
    ap (λ b. cond b (typed_record t (256 * high + low) (take count (data_bytes ++ check))) None) passed
    ∙ ap (λ o. typed_record t o (take count (data_bytes ++ check))) o
    ∙ ap (λ d. typed_record t offset d) front
    ∙ typed

-- a record's line, put before the lines of others, adds that record at the beginning
pub record_first : (t offset : ℕ) (data_bytes text : List ℕ) (r : Record) (records : List Record) →
    AreBytes data_bytes → length data_bytes < 256 → offset < 65536 → t < 256 →
    typed_record t offset data_bytes ≡ Some r → AreRecords text records → AreRecords (record_line t offset data_bytes ++ text) (r ∷ records)
unfolding record_line unsummed
record_first t offset data_bytes text r records bytes few low_offset low_type typed others =
    let high : ℕ = offset / 256 % 256 in
    let low : ℕ = offset % 256 in
    let u : List ℕ = length data_bytes ∷ high ∷ low ∷ t ∷ data_bytes in
    let all : List ℕ = u ++ checksum u ∷ [] in
    let same : 256 * (offset / 256 % 256) + offset % 256 ≡ offset = omega arith in
    let u_bytes : AreBytes u = more_bytes (length data_bytes) (high ∷ low ∷ t ∷ data_bytes) few (more_bytes high (low ∷ t ∷ data_bytes) (omega arith) (more_bytes low (t ∷ data_bytes) (omega arith) (more_bytes t data_bytes low_type bytes))) in
    let are_bytes : AreBytes all = appended_bytes u (checksum u ∷ []) u_bytes (more_bytes (checksum u) [] (omega arith) no_bytes) in
    let line : List ℕ = 58 ∷ flat_map two_digits all in
    let grouped : (line ++ 10 ∷ []) ++ text ≡ line ++ 10 ∷ text = append_assoc line (10 ∷ []) text in
    let split : lines_of (line ++ 10 ∷ text) ≡ Some (line ∷ others.lines) = first_line line text others.lines (Before 58 (flat_map two_digits all) refl (digits_no_end all are_bytes)) others.split in
    let this : record_of_line line ≡ Some r = ap (λ found. found >>= λ b. record_of b) (digits_again all are_bytes) ∙ record_again (length data_bytes) high low t offset data_bytes r refl same typed in
    record {
      lines = line ∷ others.lines;
      split = ap lines_of grouped ∙ split;
      read = ap (λ found. found >>= λ first. records_of others.lines >>= λ rs. Some (first ∷ rs)) this ∙ ap (λ found. found >>= λ rs. Some (r ∷ rs)) others.read;
    }
