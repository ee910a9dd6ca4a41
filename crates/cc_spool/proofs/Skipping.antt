-- A reader is in the same state after a source in an answer as before it.
use Rattle.std.proofs.Common.{◌≡◌, ◌∙◌, ℕ, ◌+◌, ◌*◌, ◌<◌, ◌≤◌, suc, List, [], ◌∷◌, ◌++◌, length, Option, Result, Ok, Err, Vec, Global, refl, sym, ap, subst, append_assoc, arith, codes}
use Rattle.std.specs.Prelude.{IfOk}
use Rattle.std.specs.Char.{digit_value}
use Rattle.std.specs.Fmt.{decimal}
use Rattle.std.specs.Str.Parse.{AllDigits, digits_value_after}
use Rattle.std.proofs.lemmas.Bool.Decides.{nat_tests}
use Rattle.std.proofs.lemmas.Fmt.{decimal_is_IsNumeral}
use Rattle.std.proofs.lemmas.Str.{digit_value_digit}
use Rattle.std.proofs.lemmas.Str.Parse.{digit_from_value}
use Rattle.cc_spool.specs.Answer.{between, framed, place_behind, read_byte, read_bytes, told_at, with_digit}
use Rattle.cc_spool.specs.declared.lines.Lines.{Lines}
use Rattle.cc_spool.specs.declared.lines.Place.{Place}
use Rattle.cc_spool.specs.declared.lines.Place.TheVariants.{Behind, Length, Source, Within}

abbrev pub at : Place → (last : Option ℕ) → Lines
at place last = record { place = place; last = last }

-- reading x and then y is the same as reading both at once
pub read_on : (lines : Lines) (x y : List ℕ) → read_bytes lines (x ++ y) ≡ read_bytes (read_bytes lines x) y
read_on lines [] y = refl
read_on lines (b ∷ x) y = read_on (read_byte lines b) x y

-- if a byte reports nothing, the rest is read from the place to which the byte leads
pub from_there : (place : Place) (last : Option ℕ) (byte : ℕ) (rest : List ℕ) (there : Place) → place_behind place byte ≡ there → told_at there last ≡ last
    → read_bytes (at place last) (byte ∷ rest) ≡ read_bytes (at there last) rest
from_there place last byte rest there is same =
    ap (λ (p : Place). read_bytes (record { place = p; last = told_at p last }) rest) is ∙ ap (λ (o : Option ℕ). read_bytes (record { place = there; last = o }) rest) same

-- ---- how many bytes the source has

one_more : (n c : ℕ) → digit_value c < 10 → n < 100000000 → with_digit n c ≡ n * 10 + digit_value c
one_more n c is small =
    let within = digit_from_value c is in
    let value = digit_value_digit c within in
    omega (arith, within, value, small)

digit_behind : (n c : ℕ) → digit_value c < 10 → n < 100000000 → place_behind (Length n) c ≡ Length (n * 10 + digit_value c)
digit_behind n c is small =
    let within = digit_from_value c is in
    let there : place_behind (Length n) c ≡ Length (with_digit n c) = grind (arith, nat_tests) in
    there ∙ ap (λ (m : ℕ). Length m) (one_more n c is small)

digit_first : (c : ℕ) → digit_value c < 10 → place_behind (Source 7) c ≡ Length (0 * 10 + digit_value c)
digit_first c is =
    let within = digit_from_value c is in
    let value = digit_value_digit c within in
    grind (arith, nat_tests)

no_less : (n : ℕ) (digits : List ℕ) → n ≤ digits_value_after 10 n digits
no_less n [] = omega arith
no_less n (c ∷ digits) = omega (arith, no_less (n * 10 + digit_value c) digits)

length_read : (n : ℕ) (digits rest : List ℕ) (last : Option ℕ) → AllDigits 10 digits → digits_value_after 10 n digits < 1000000000
    → read_bytes (at (Length n) last) (digits ++ rest) ≡ read_bytes (at (Length (digits_value_after 10 n digits)) last) rest
length_read n [] rest last are small = refl
length_read n (c ∷ digits) rest last are small =
    let more = no_less (n * 10 + digit_value c) digits in
    from_there (Length n) last c (digits ++ rest) (Length (n * 10 + digit_value c)) (digit_behind n c are.0 (omega arith)) refl
    ∙ length_read (n * 10 + digit_value c) digits rest last are.1 small

digits_read : (digits rest : List ℕ) (last : Option ℕ) → 0 < length digits → AllDigits 10 digits → digits_value_after 10 0 digits < 1000000000
    → read_bytes (at (Source 7) last) (digits ++ rest) ≡ read_bytes (at (Length (digits_value_after 10 0 digits)) last) rest
digits_read [] rest last some are small = absurd (omega arith)
digits_read (c ∷ digits) rest last some are small =
    from_there (Source 7) last c (digits ++ rest) (Length (0 * 10 + digit_value c)) (digit_first c are.0) refl
    ∙ length_read (0 * 10 + digit_value c) digits rest last are.1 small

number_read : (n : ℕ) (rest : List ℕ) (last : Option ℕ) → n < 1000000000 → read_bytes (at (Source 7) last) (decimal n ++ rest) ≡ read_bytes (at (Length n) last) rest
number_read n rest last small =
    let is = decimal_is_IsNumeral n (omega arith) in
    digits_read (decimal n) rest last is.0.0 is.0.1 (subst (λ (m : ℕ). m < 1000000000) (sym is.1) small)
    ∙ ap (λ (m : ℕ). read_bytes (at (Length m) last) rest) is.1

-- ---- the bytes of the source

pub byte_behind : (n c : ℕ) → place_behind (Within (suc (suc n))) c ≡ Within (suc n)
byte_behind n c = grind (arith, nat_tests)

source_read : (source rest : List ℕ) (last : Option ℕ) → 0 < length source → read_bytes (at (Within (length source)) last) (source ++ rest) ≡ read_bytes (at Behind last) rest
source_read [] rest last some = absurd (omega arith)
source_read (c ∷ []) rest last some = refl
source_read (c ∷ d ∷ source) rest last some =
    from_there (Within (suc (suc (length source)))) last c (d ∷ source ++ rest) (Within (suc (length source))) (byte_behind (length source) c) refl
    ∙ source_read (d ∷ source) rest last (omega arith)

pub bytes_read : (source rest : List ℕ) (last : Option ℕ) → read_bytes (at (Length (length source)) last) (10 ∷ source ++ rest) ≡ read_bytes (at Behind last) rest
bytes_read [] rest last = refl
bytes_read (c ∷ source) rest last =
    from_there (Length (suc (length source))) last 10 (c ∷ source ++ rest) (Within (suc (length source))) (grind (arith, nat_tests)) refl
    ∙ source_read (c ∷ source) rest last (omega arith)

-- ---- the whole source

head_read : (last : Option ℕ) → read_bytes (between last) (codes "source ") ≡ at (Source 7) last
head_read last = refl

grouped : (a b c d : List ℕ) → a ++ b ++ c ++ d ≡ a ++ (b ++ (c ++ d))
grouped a b c d = simp append_assoc

skipped : (source : List ℕ) (last : Option ℕ) → length source ≤ 65536 → read_bytes (between last) (framed source) ≡ between last
skipped source last few =
    let rest : List ℕ = (10 ∷ source) ++ 10 ∷ [] in
    ap (λ (bytes : List ℕ). read_bytes (between last) bytes) (grouped (codes "source ") (decimal (length source)) (10 ∷ source) (10 ∷ []))
    ∙ (read_on (between last) (codes "source ") (decimal (length source) ++ rest)
    ∙ (ap (λ (lines : Lines). read_bytes lines (decimal (length source) ++ rest)) (head_read last)
    ∙ (number_read (length source) rest last (omega arith)
    ∙ bytes_read source (10 ∷ []) last)))

-- if the text that was made is the framed source, a reader is in the same state after it as before it
pub skips : {E : Type 0} (made : Result (Vec ℕ Global) E) (source : List ℕ) → length source ≤ 65536 → IfOk made (λ text. text.items ≡ framed source)
    → IfOk made (λ text. (last : Option ℕ) → read_bytes (between last) text.items ≡ between last)
skips (Ok text) source few is = λ last. subst (λ (bytes : List ℕ). read_bytes (between last) bytes ≡ between last) (sym is) (skipped source last few)
skips (Err e) source few is = tt
