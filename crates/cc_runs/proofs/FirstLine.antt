-- The first line of an input, which is read byte by byte.
use Rattle.std.proofs.Common.{◌≡◌, ◌≢◌, ◌∙◌, ℕ, ◌+◌, ◌-◌, ◌<◌, ◌≤◌, Bool, true, false, ◌&&◌, cond, List, [], ◌∷◌, ◌++◌, length, take, get_or, Option, Some, None, refl, sym, ap, subst, arith, append_assoc, append-nil}
use Rattle.std.specs.Prelude.{All, nat_lt, ◌==◌, slice_index}
use Rattle.std.proofs.lemmas.Bool.{cond-false, cond-true, eq-eqb, lt-ltb, ne_eqb}
use Rattle.std.proofs.lemmas.List.{length-append, length-take}
use Rattle.std.proofs.Math.Bool.{and-false}
use Rattle.std.proofs.Math.Seq.{get_or-append_seam, take-append_seam}
use Rattle.std.proofs.BufReadLemmas.{drop_through-append, take_through-append}
use Rattle.std.proofs.KnownBytes.{Consumes-trans}
use Rattle.std.specs.Io.BufRead.{DropsThrough, drop_through, ends_with_byte, first_piece, strip_last, take_through}
use Rattle.std.specs.Io.KnownBytes.{Consumes, IsAtEnd, Keeps}
use Rattle.cc_runs.specs.Reading.{IsNextLine}
use Rattle.cc_runs.specs.internal.Bytes.{IsNextByte}
use Rattle.cc_runs.specs.declared.reading.ReadLine.TheVariants.{Whole, TooLong}

-- ---- bytes that are read

-- if known bytes stay, and then are read, just these were read
pub kept_consumes : (a b c : Option (List ℕ)) (bytes : List ℕ) → Keeps a b → Consumes b c bytes → Consumes a c bytes
kept_consumes None b c bytes kept read = tt
kept_consumes (Some x) None c bytes kept read = absurd kept
kept_consumes (Some x) (Some y) None bytes kept read = absurd read
kept_consumes (Some x) (Some y) (Some z) bytes kept read = sym kept ∙ read

-- if the bytes stay, and then the next byte is read, it is the next byte
pub next_on : (a b c : Option (List ℕ)) (next : Option ℕ) → Keeps a b → IsNextByte b next c → IsNextByte a next c
next_on a b c None kept read = (kept_consumes a b c [] kept read.0, read.1)
next_on a b c (Some byte) kept read = kept_consumes a b c (byte ∷ []) kept read

-- a read into one byte that gave any is a read of that byte
pub one_byte : (a c : Option (List ℕ)) (buf : List ℕ) (n : ℕ) → Consumes a c (take n buf) → n ≤ length buf → length buf ≡ 1 → n ≢ 0 → Consumes a c (get_or buf 0 0 ∷ [])
one_byte a c [] n read most long some = absurd (omega arith)
one_byte a c (x ∷ []) n read most long some =
    let one : n ≡ 1 = omega (arith, most, some) in
    subst (λ (k : ℕ). Consumes a c (take k (x ∷ []))) one read
one_byte a c (x ∷ y ∷ ys) n read most long some = absurd (omega (arith, long))

-- ---- the first line of a list of bytes

ends_none : (xs : List ℕ) → All (λ b. b ≢ 10) xs → ends_with_byte 10 xs ≡ false
ends_none [] plain = refl
ends_none (x ∷ xs) plain =
    ap (λ (b : Bool). nat_lt 0 (length (x ∷ xs)) && b) (ne_eqb (slice_index (x ∷ xs) (length (x ∷ xs) - 1)) 10 (plain (length (x ∷ xs) - 1) 0 (omega arith)))
    ∙ and-false (nat_lt 0 (length (x ∷ xs)))

strip_none : (xs : List ℕ) → All (λ b. b ≢ 10) xs → strip_last 10 xs ≡ xs
strip_none xs plain = cond-false (ends_with_byte 10 xs) (take (length xs - 1) xs) xs (ends_none xs plain)

strip_newline : (xs : List ℕ) → strip_last 10 (xs ++ 10 ∷ []) ≡ xs
strip_newline xs =
    let l = xs ++ 10 ∷ [] in
    let long : length l ≡ length xs + 1 = length-append xs (10 ∷ []) in
    let back : length l - 1 ≡ length xs = omega (arith, long) in
    let some : nat_lt 0 (length l) ≡ true = lt-ltb 0 (length l) (omega (arith, long)) in
    let last : slice_index l (length l - 1) ≡ 10 = ap (λ (n : ℕ). get_or l n 0) back ∙ get_or-append_seam xs 10 [] 0 in
    let ends : ends_with_byte 10 l ≡ true =
    ap (λ (b : Bool). b && (slice_index l (length l - 1) == 10)) some ∙ eq-eqb (slice_index l (length l - 1)) 10 last in
    cond-true (ends_with_byte 10 l) (take (length l - 1) l) l ends ∙ ap (λ (n : ℕ). take n l) back ∙ take-append_seam xs (10 ∷ [])

-- at most one byte is stripped
least_of : (b : Bool) (l : List ℕ) → length l ≤ length (cond b (take (length l - 1) l) l) + 1
least_of true l = omega (arith, length-take (length l - 1) l)
least_of false l = omega arith

long_strip : (xs ys : List ℕ) → All (λ b. b ≢ 10) xs → length xs ≤ length (strip_last 10 (xs ++ ys))
long_strip xs [] plain =
    let same : strip_last 10 (xs ++ []) ≡ xs = ap (strip_last 10) (append-nil xs) ∙ strip_none xs plain in
    omega (arith, ap (λ (l : List ℕ). length l) same)
long_strip xs (y ∷ ys) plain = omega (arith, least_of (ends_with_byte 10 (xs ++ y ∷ ys)) (xs ++ y ∷ ys), length-append xs (y ∷ ys))

module _ (line : List ℕ) (plain : All (λ b. b ≢ 10) line) where
  piece_before : (rest : List ℕ) → first_piece 10 (line ++ 10 ∷ rest) ≡ line
  piece_before rest = ap (strip_last 10) (take_through-append 10 line (10 ∷ rest) plain) ∙ strip_newline line

  drop_before : (rest : List ℕ) → drop_through 10 (line ++ 10 ∷ rest) ≡ rest
  drop_before rest = drop_through-append 10 line (10 ∷ rest) plain

  piece_all : first_piece 10 line ≡ line
  piece_all =
      let through : take_through 10 line ≡ line = ap (take_through 10) (sym (append-nil line)) ∙ take_through-append 10 line [] plain ∙ append-nil line in
      ap (strip_last 10) through ∙ strip_none line plain

  drop_all : drop_through 10 line ≡ []
  drop_all = ap (drop_through 10) (sym (append-nil line)) ∙ drop_through-append 10 line [] plain

  piece_longer : (rest : List ℕ) → length line ≤ length (first_piece 10 (line ++ rest))
  piece_longer rest = subst (λ (l : List ℕ). length line ≤ length (strip_last 10 l)) (sym (take_through-append 10 line rest plain)) (long_strip line (take_through 10 rest) plain)

  -- ---- the line that comes next

  -- if its bytes and then a newline were read, it is the next line
  ended : (before after : Option (List ℕ)) → length line ≤ 16777216 → Consumes before after (line ++ 10 ∷ []) → IsNextLine before after line (Some Whole)
  ended None after fits read = tt
  ended (Some input) None fits read = absurd read
  ended (Some input) (Some rest) fits read =
      let is : input ≡ line ++ 10 ∷ rest = read ∙ append_assoc line (10 ∷ []) rest in
      let piece : first_piece 10 input ≡ line = ap (first_piece 10) is ∙ piece_before rest in (
        λ (none : input ≡ []).
            omega (arith, ap (λ (l : List ℕ). length l) (sym none ∙ is), length-append line (10 ∷ rest)),
        sym piece,
        subst (λ (l : List ℕ). length l ≤ 16777216) (sym piece) fits,
        ap Some (sym (ap (drop_through 10) is ∙ drop_before rest)),
      )

  pub line_ended : (before mid after : Option (List ℕ)) → length line ≤ 16777216 → Consumes before mid line → IsNextByte mid (Some 10) after → IsNextLine before after line (Some Whole)
  line_ended before mid after fits read next = ended before after fits (Consumes-trans before mid after line (10 ∷ []) read next)

  -- if its bytes were read and none is left, it is the next line
  at_end : (before after : Option (List ℕ)) → length line ≤ 16777216 → 0 < length line → Consumes before after line → IsAtEnd after → IsNextLine before after line (Some Whole)
  at_end None after fits some read over = tt
  at_end (Some input) None fits some read over = absurd read
  at_end (Some input) (Some rest) fits some read over =
      let is : input ≡ line = read ∙ ap (λ (l : List ℕ). line ++ l) over ∙ append-nil line in
      let piece : first_piece 10 input ≡ line = ap (first_piece 10) is ∙ piece_all in (
        λ (none : input ≡ []).
            omega (arith, some, ap (λ (l : List ℕ). length l) (sym none ∙ is)),
        sym piece,
        subst (λ (l : List ℕ). length l ≤ 16777216) (sym piece) fits,
        ap Some (over ∙ sym (ap (drop_through 10) is ∙ drop_all)),
      )

  pub line_at_end : (before mid after : Option (List ℕ)) → length line ≤ 16777216 → length line ≢ 0 → Consumes before mid line → IsNextByte mid None after → IsNextLine before after line (Some Whole)
  line_at_end before mid after fits some read next =
      at_end before after fits (omega (arith, some)) (subst (Consumes before after) (append-nil line) (Consumes-trans before mid after line [] read next.0)) next.1

  -- if more bytes than a line may have were read, and the rest was skipped, the line is too long
  pub line_too_long : (before mid after : Option (List ℕ)) (bytes : List ℕ) → length line ≡ 16777217 → Consumes before mid line → DropsThrough mid after 10 → IsNextLine before after bytes (Some TooLong)
  line_too_long None mid after bytes long read skipped = tt
  line_too_long (Some input) None after bytes long read skipped = absurd read
  line_too_long (Some input) (Some rest) after bytes long read skipped =
      let longer : length line ≤ length (first_piece 10 input) = subst (λ (l : List ℕ). length line ≤ length (first_piece 10 l)) (sym read) (piece_longer rest) in
      (omega (arith, long, longer), skipped ∙ ap Some (sym (ap (drop_through 10) read ∙ drop_through-append 10 line rest plain)))

-- if no bytes were read and none is left, there is no line
pub no_line : (before mid after : Option (List ℕ)) (line bytes : List ℕ) → length line ≡ 0 → Consumes before mid line → IsNextByte mid None after → IsNextLine before after bytes None
no_line None mid after [] bytes none read next = tt
no_line (Some input) None after [] bytes none read next = absurd read
no_line (Some input) (Some rest) None [] bytes none read next = absurd next.0
no_line (Some input) (Some rest) (Some last) [] bytes none read next = read ∙ next.0 ∙ next.1
no_line before mid after (x ∷ xs) bytes none read next = absurd (omega (arith, none))
