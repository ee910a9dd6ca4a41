-- Reading an answer gives a fault exactly if one of its lines reports one, or it ends within a source.
use Rattle.std.proofs.Common.{◌≡◌, ◌≢◌, ◌∙◌, inl, inr, ℕ, ◌+◌, ◌-◌, ◌*◌, ◌<◌, ◌≤◌, zero, suc, min, Bool, true, false, true≢false, ◌&&◌, ◌==◌, nat_lt, if◌then◌else◌, List, [], ◌∷◌, ◌++◌, length, get_or, take, Option, Some, None, refl, sym, ap, subst, add-one, append_assoc, append-nil, arith, codes}
use Rattle.std.specs.Prelude.{All, slice_index}
use Rattle.std.specs.Char.{digit_value, is_ascii_digit}
use Rattle.std.specs.Str.Parse.{AllDigits, digits_value, digits_value_after}
use Rattle.std.proofs.lemmas.Bool.{cases_eq, eq-eqb, eqb-true, ltb-true}
use Rattle.std.proofs.lemmas.Bool.Decides.{nat_tests}
use Rattle.std.proofs.lemmas.List.{append_cancel_left, length-append, length-take}
use Rattle.std.proofs.lemmas.List.Elements.{All-nil, All-push}
use Rattle.std.proofs.lemmas.Str.{digit_value_digit}
use Rattle.std.proofs.lemmas.Str.Parse.{digit_from_value}
use Rattle.cc_spool.specs.Answer.{between, in_fault, in_source, place_behind, read_bytes, told_at, with_digit}
use Rattle.cc_spool.specs.Parts.{AreParts, IsHeader, IsPart, IsSource, Part, TellsFault, Tells, part_text, parts_text}
use Rattle.cc_spool.specs.internal.Telling.{is_within, last_told}
use Rattle.cc_spool.specs.declared.lines.Lines.{Lines}
use Rattle.cc_spool.specs.declared.lines.Place.{Place}
use Rattle.cc_spool.specs.declared.lines.Place.TheVariants.{Behind, Broken, Fault, Length, Line, Number, Source, Within}
use Rattle.cc_spool.proofs.Skipping.{at, byte_behind, bytes_read, from_there}

abbrev IsOther : ℕ → Type 0
IsOther byte = byte ≢ 10

-- P holds of an `if` if it holds of the branch that is chosen
either : {A : Type 0} (P : A → Type 0) (b : Bool) (x y : A) → (b ≡ true → P x) → (b ≡ false → P y) → P (if b then x else y)
either P true x y so never = so refl
either P false x y so never = never refl

-- ---- the text since the last whole part, depending on the place to which it led

-- the text is a line and the beginning of the source that comes after it; `left` bytes of the source are still to come
record IsIn (text : List ℕ) (left : ℕ) : Type 0 where
  line : List ℕ
  count : ℕ
  header : IsHeader line count
  plain : All IsOther line
  rest : List ℕ
  text_is : text ≡ line ++ 10 ∷ rest
  left_is : length rest + left ≡ count

-- the text goes on after a source that no newline ended
record IsPast (text : List ℕ) : Type 0 where
  line : List ℕ
  count : ℕ
  header : IsHeader line count
  source : List ℕ
  all : length source ≡ count
  byte : ℕ
  other : IsOther byte
  rest : List ℕ
  text_is : text ≡ line ++ 10 ∷ (source ++ byte ∷ rest)

-- however the line goes on, no source comes after it
abbrev NoHeader : List ℕ → Type 0
NoHeader text = (more : List ℕ) (count : ℕ) → ¬ IsHeader (text ++ more) count

abbrev IsLinePlace : Place → Type 0
IsLinePlace (Within left) = ⊥
IsLinePlace Behind = ⊥
IsLinePlace Broken = ⊥
IsLinePlace place = Unit {0}

abbrev Reads : Place → List ℕ → Type 0
Reads (Fault count) text = (text ≡ take count (codes "fault ")) × (count < 6) × All IsOther text
Reads (Number number) text = ((rest : List ℕ) × (text ≡ codes "fault " ++ rest)) × All IsOther text
Reads (Source count) text = (text ≡ take count (codes "source ")) × (count ≤ 7) × All IsOther text
Reads (Length number) text = IsHeader text number × All IsOther text
Reads Line text = NoHeader text × All IsOther text
Reads (Within left) text = IsIn text left × (0 < left)
Reads Behind text = IsIn text 0
Reads Broken text = IsPast text

-- ---- lines after which a source comes

-- if two texts are equal, the second has the same byte at this place
same_at : (text : List ℕ) (byte : ℕ) (more whole rest : List ℕ) → text ++ byte ∷ more ≡ whole ++ rest → length text < length whole → byte ≡ get_or whole (length text) 0
same_at [] byte more [] rest e short = absurd (omega arith)
same_at [] byte more (w ∷ whole) rest e short = cc
same_at (t ∷ text) byte more [] rest e short = absurd (omega arith)
same_at (t ∷ text) byte more (w ∷ whole) rest e short =
    let tails : text ++ byte ∷ more ≡ whole ++ rest = cc in same_at text byte more whole rest tails (omega arith)

digit_at : (digits : List ℕ) (byte : ℕ) (more : List ℕ) → AllDigits 10 (digits ++ byte ∷ more) → digit_value byte < 10
digit_at [] byte more are = are.0
digit_at (d ∷ digits) byte more are = digit_at digits byte more are.1

digit_more : (digits : List ℕ) (byte : ℕ) → AllDigits 10 digits → digit_value byte < 10 → AllDigits 10 (digits ++ byte ∷ [])
digit_more [] byte are is = (is, tt)
digit_more (d ∷ digits) byte are is = (are.0, digit_more digits byte are.1 is)

value_more : (n : ℕ) (digits : List ℕ) (byte : ℕ) → digits_value_after 10 n (digits ++ byte ∷ []) ≡ digits_value_after 10 n digits * 10 + digit_value byte
value_more n [] byte = refl
value_more n (d ∷ digits) byte = value_more (n * 10 + digit_value d) digits byte

is_digit : (byte : ℕ) → is_ascii_digit byte ≡ true → digit_value byte < 10
is_digit byte is =
    let within : (48 ≤ byte) × (byte ≤ 57) = grind (arith, nat_tests) in
    let value = digit_value_digit byte within in omega (arith, value, within)

no_digit : (byte : ℕ) → is_ascii_digit byte ≡ false → ¬ (digit_value byte < 10)
no_digit byte is = λ small.
    let within = digit_from_value byte small in
    grind (arith, nat_tests, within)

-- no source comes after a line that differs from `source ` in one of its first seven bytes
no_header : (text : List ℕ) (byte : ℕ) → length text < 7 → byte ≢ get_or (codes "source ") (length text) 0 → NoHeader (text ++ byte ∷ [])
no_header text byte short other = λ more count h.
    other (same_at text byte more (codes "source ") h.digits (sym (append_assoc text (byte ∷ []) more) ∙ h.line_is) short)

-- no source comes after a line whose first byte is not `s`
no_header_first : (byte : ℕ) (text : List ℕ) → byte ≢ 115 → NoHeader (byte ∷ text)
no_header_first byte text other = λ more count h.
    let e : byte ∷ (text ++ more) ≡ codes "source " ++ h.digits = h.line_is in other (same_at [] byte (text ++ more) (codes "source ") h.digits e (omega arith))

-- no source comes after a line in which a byte other than a digit follows the digits
no_header_digits : (digits : List ℕ) (byte : ℕ) (text : List ℕ) → text ≡ codes "source " ++ digits → is_ascii_digit byte ≡ false → NoHeader (text ++ byte ∷ [])
no_header_digits digits byte text is other = λ more count h.
    let e : codes "source " ++ (digits ++ byte ∷ more) ≡ codes "source " ++ h.digits =
    sym (append_assoc (codes "source ") digits (byte ∷ more)) ∙ (ap (λ (l : List ℕ). l ++ byte ∷ more) (sym is) ∙ (sym (append_assoc text (byte ∷ []) more) ∙ h.line_is)) in
    let same = append_cancel_left (codes "source ") (digits ++ byte ∷ more) h.digits e in
    no_digit byte other (digit_at digits byte more (subst (λ (l : List ℕ). AllDigits 10 l) (sym same) h.are_digits))

no_header_more : (text : List ℕ) (byte : ℕ) → NoHeader text → NoHeader (text ++ byte ∷ [])
no_header_more text byte never = λ more count h. never (byte ∷ more) count (subst (λ (l : List ℕ). IsHeader l count) (append_assoc text (byte ∷ []) more) h)

first_digit : (text : List ℕ) (byte : ℕ) → text ≡ codes "source " → is_ascii_digit byte ≡ true → IsHeader (text ++ byte ∷ []) (byte - 48)
first_digit text byte is digit =
    let small = is_digit byte digit in
    let value = digit_value_digit byte (digit_from_value byte small) in
    record {
      digits = byte ∷ [];
      some = omega arith;
      are_digits = (small, tt);
      line_is = ap (λ (l : List ℕ). l ++ byte ∷ []) is;
      count_is = omega (arith, value, small);
    }

one_digit_more : (text : List ℕ) (number byte : ℕ) → IsHeader text number → is_ascii_digit byte ≡ true → IsHeader (text ++ byte ∷ []) (with_digit number byte)
one_digit_more text number byte h digit =
    let small = is_digit byte digit in
    let value = digit_value_digit byte (digit_from_value byte small) in
    let more = value_more 0 h.digits byte in
    let some = h.some in
    let count_is = h.count_is in
    record {
      digits = h.digits ++ byte ∷ [];
      some = omega (arith, length-append h.digits (byte ∷ []));
      are_digits = digit_more h.digits byte h.are_digits small;
      line_is = ap (λ (l : List ℕ). l ++ byte ∷ []) h.line_is ∙ append_assoc (codes "source ") h.digits (byte ∷ []);
      count_is = omega (arith, value, more, count_is, small);
    }

-- ---- one byte of a line

abbrev Onward : (text : List ℕ) (byte : ℕ) → Place → Type 0
Onward text byte place = Reads place (text ++ byte ∷ []) × IsLinePlace place

take_suc : (count byte : ℕ) (text whole : List ℕ) → text ≡ take count whole → count < length whole → byte ≡ get_or whole count 0 → text ++ byte ∷ [] ≡ take (suc count) whole
take_suc zero byte text [] is short same = absurd (omega arith)
take_suc zero byte text (w ∷ whole) is short same = cc
take_suc (suc count) byte text [] is short same = absurd (omega arith)
take_suc (suc count) byte text (w ∷ whole) is short same =
    ap (λ (l : List ℕ). l ++ byte ∷ []) is ∙ ap (λ (l : List ℕ). w ∷ l) (take_suc count byte (take count whole) whole refl (omega arith) same)

take_more : (count byte : ℕ) (text whole : List ℕ) → text ≡ take count whole → count < length whole → byte ≡ get_or whole count 0 → text ++ byte ∷ [] ≡ take (count + 1) whole
take_more count byte text whole is short same = take_suc count byte text whole is short same ∙ ap (λ (n : ℕ). take n whole) (sym (add-one count))

both : (a b : Bool) → (a && b) ≡ true → (a ≡ true) × (b ≡ true)
both true true e = (refl, refl)
both true false e = absurd (true≢false (sym e))
both false b e = absurd (true≢false (sym e))

is_not : (a b : ℕ) → (a == b) ≡ false → a ≢ b
is_not a b e = λ same. true≢false (sym (eq-eqb a b same) ∙ e)

in_fault_first : (byte : ℕ) (text : List ℕ) → text ≡ [] → All IsOther (text ++ byte ∷ []) → Onward text byte (in_fault zero byte)
in_fault_first byte text is on =
    let one : text ++ byte ∷ [] ≡ byte ∷ [] = ap (λ (l : List ℕ). l ++ byte ∷ []) is in
    either (Onward text byte) (byte == 115) (Source 1) (if 102 == byte then Fault 1 else Line)
    (λ t. ((one ∙ ap (λ (b : ℕ). b ∷ []) (eqb-true byte 115 t), omega arith, on), tt))
    (λ f. either (Onward text byte) (102 == byte) (Fault 1) Line
    (λ t. ((one ∙ ap (λ (b : ℕ). b ∷ []) (sym (eqb-true 102 byte t)), omega arith, on), tt))
    (λ g. ((subst NoHeader (sym one) (no_header_first byte [] (is_not byte 115 f)), on), tt)))

in_fault_later : (k byte : ℕ) (text : List ℕ) → text ≡ take (suc k) (codes "fault ") → suc k < 6 → All IsOther (text ++ byte ∷ []) → Onward text byte (in_fault (suc k) byte)
in_fault_later k byte text is few on =
    let starts : text ++ byte ∷ [] ≡ 102 ∷ (take k (codes "ault ") ++ byte ∷ []) = ap (λ (l : List ℕ). l ++ byte ∷ []) is in
    either (Onward text byte) ((suc k == 0) && (byte == 115)) (Source 1)
    (if nat_lt (suc k) 6 && (slice_index (codes "fault ") (suc k) == byte) then (if suc k == 5 then Number 0 else Fault (suc k + 1)) else Line)
    (λ z. let first = eqb-true (suc k) 0 (both _ _ z).0 in absurd (omega (arith, first)))
    (λ z. either (Onward text byte) (nat_lt (suc k) 6 && (slice_index (codes "fault ") (suc k) == byte)) (if suc k == 5 then Number 0 else Fault (suc k + 1)) Line
    (λ t.
    let same = eqb-true (slice_index (codes "fault ") (suc k)) byte (both _ _ t).1 in
    let grown = take_more (suc k) byte text (codes "fault ") is few (sym same) in
    either (Onward text byte) (suc k == 5) (Number 0) (Fault (suc k + 1))
    (λ five. ((([], grown ∙ ap (λ (n : ℕ). take (n + 1) (codes "fault ")) (eqb-true (suc k) 5 five)), on), tt))
    (λ four. let less = is_not (suc k) 5 four in ((grown, omega (arith, less, few), on), tt)))
    (λ f. ((subst NoHeader (sym starts) (no_header_first 102 (take k (codes "ault ") ++ byte ∷ []) (λ e. absurd (omega (arith, e)))), on), tt)))

in_fault_on : (count byte : ℕ) (text : List ℕ) → text ≡ take count (codes "fault ") → count < 6 → All IsOther (text ++ byte ∷ []) → Onward text byte (in_fault count byte)
in_fault_on zero byte text is few on = in_fault_first byte text is on
in_fault_on (suc k) byte text is few on = in_fault_later k byte text is few on

in_source_on : (count byte : ℕ) (text : List ℕ) → text ≡ take count (codes "source ") → count ≤ 7 → All IsOther (text ++ byte ∷ []) → Onward text byte (in_source count byte)
in_source_on count byte text is few on =
    let many : length text ≡ count = omega (arith, ap (λ (l : List ℕ). length l) is, length-take count (codes "source ")) in
    either (Onward text byte) (nat_lt count 7) (if slice_index (codes "source ") count == byte then Source (count + 1) else Line) (if is_ascii_digit byte then Length (byte - 48) else Line)
    (λ t.
    let short = ltb-true count 7 t in
    either (Onward text byte) (slice_index (codes "source ") count == byte) (Source (count + 1)) Line
    (λ same. ((take_more count byte text (codes "source ") is short (sym (eqb-true (slice_index (codes "source ") count) byte same)), omega (arith, short), on), tt))
    (λ other.
    let far = is_not (slice_index (codes "source ") count) byte other in
    ((no_header text byte (omega (arith, many, short)) (λ e. far (sym (e ∙ ap (λ (n : ℕ). get_or (codes "source ") n 0) many))), on), tt)))
    (λ f.
    let all : count ≡ 7 = grind (arith, nat_tests) in
    let whole : text ≡ codes "source " = is ∙ ap (λ (n : ℕ). take n (codes "source ")) all in
    either (Onward text byte) (is_ascii_digit byte) (Length (byte - 48)) Line
    (λ digit. ((first_digit text byte whole digit, on), tt))
    (λ other. ((no_header_digits [] byte text whole other, on), tt)))

number_on : (number byte : ℕ) (text rest : List ℕ) → text ≡ codes "fault " ++ rest → All IsOther (text ++ byte ∷ []) → Onward text byte (if is_ascii_digit byte then Number (with_digit number byte) else Line)
number_on number byte text rest is on =
    let grown : text ++ byte ∷ [] ≡ codes "fault " ++ (rest ++ byte ∷ []) = ap (λ (l : List ℕ). l ++ byte ∷ []) is ∙ append_assoc (codes "fault ") rest (byte ∷ []) in
    either (Onward text byte) (is_ascii_digit byte) (Number (with_digit number byte)) Line
    (λ digit. (((rest ++ byte ∷ [], grown), on), tt))
    (λ other. ((subst NoHeader (sym grown) (no_header_first 102 (codes "ault " ++ (rest ++ byte ∷ [])) (λ e. absurd (omega (arith, e)))), on), tt))

length_on : (number byte : ℕ) (text : List ℕ) → IsHeader text number → All IsOther (text ++ byte ∷ []) → Onward text byte (if is_ascii_digit byte then Length (with_digit number byte) else Line)
length_on number byte text h on =
    either (Onward text byte) (is_ascii_digit byte) (Length (with_digit number byte)) Line
    (λ digit. ((one_digit_more text number byte h digit, on), tt))
    (λ other. ((no_header_digits h.digits byte text h.line_is other, on), tt))

-- if the byte is not a newline, it leads to the place `there`
past_newline : (text : List ℕ) (byte : ℕ) → byte ≢ 10 → (here there : Place) → Onward text byte there → Onward text byte (if byte == 10 then here else there)
past_newline text byte other here there on = either (Onward text byte) (byte == 10) here there (λ t. absurd (other (eqb-true byte 10 t))) (λ f. on)

step : (place : Place) (text : List ℕ) (byte : ℕ) → byte ≢ 10 → IsLinePlace place → Reads place text → Onward text byte (place_behind place byte)
step (Fault count) text byte other line r =
    past_newline text byte other (Fault 0) (in_fault count byte) (in_fault_on count byte text r.0 r.1 (All-push IsOther text byte r.2 other))
step (Number number) text byte other line r =
    past_newline text byte other (Fault 0) (if is_ascii_digit byte then Number (with_digit number byte) else Line)
    (number_on number byte text r.0.0 r.0.1 (All-push IsOther text byte r.1 other))
step (Source count) text byte other line r =
    past_newline text byte other (Fault 0) (in_source count byte) (in_source_on count byte text r.0 r.1 (All-push IsOther text byte r.2 other))
step (Length number) text byte other line r =
    past_newline text byte other (if number == 0 then Behind else Within number) (if is_ascii_digit byte then Length (with_digit number byte) else Line)
    (length_on number byte text r.0 (All-push IsOther text byte r.1 other))
step Line text byte other line r = past_newline text byte other (Fault 0) Line ((no_header_more text byte r.0, All-push IsOther text byte r.1 other), tt)
step (Within left) text byte other line r = absurd line
step Behind text byte other line r = absurd line
step Broken text byte other line r = absurd line

-- ---- every fault that is found comes from a line or a source

abbrev Is : Option ℕ → Type 0
Is None = ⊥
Is (Some number) = Unit {0}

-- if an answer reports a fault, it still does with one more part before it
prepended : (part : Part) (answer : List ℕ) → IsPart part → TellsFault answer → TellsFault (part_text part ++ answer)
prepended part answer is (inl h) = inl (record {
  parts = part ∷ h.parts;
  are_parts = (is, h.are_parts);
  rest = h.rest;
  answer_is = ap (λ (l : List ℕ). part_text part ++ l) h.answer_is ∙ sym (append_assoc (part_text part) (parts_text h.parts) (codes "fault " ++ h.rest));
})
prepended part answer is (inr h) = inr (record {
  parts = part ∷ h.parts;
  are_parts = (is, h.are_parts);
  line = h.line;
  count = h.count;
  is_header = h.is_header;
  rest = h.rest;
  answer_is = ap (λ (l : List ℕ). part_text part ++ l) h.answer_is ∙ sym (append_assoc (part_text part) (parts_text h.parts) (h.line ++ 10 ∷ h.rest));
  unended = h.unended;
})

short_no_header : (text : List ℕ) → length text < 8 → (count : ℕ) → ¬ IsHeader text count
short_no_header text short = λ count h.
    let some = h.some in
    omega (arith, ap (λ (l : List ℕ). length l) h.line_is, length-append (codes "source ") h.digits, short, some)

-- no source comes after a line unless reading the line leads to a length
no_length : (place : Place) (text : List ℕ) → IsLinePlace place → ((number : ℕ) → place ≢ Length number) → Reads place text → (count : ℕ) → ¬ IsHeader text count
no_length (Fault n) text line never r = short_no_header text (let few = r.1 in omega (arith, ap (λ (l : List ℕ). length l) r.0, length-take n (codes "fault "), few))
no_length (Number n) text line never r = λ count h.
    no_header_first 102 (codes "ault " ++ r.0.0) (λ e. absurd (omega (arith, e))) [] count
    (subst (λ (l : List ℕ). IsHeader l count) (r.0.1 ∙ sym (append-nil (codes "fault " ++ r.0.0))) h)
no_length (Source n) text line never r = short_no_header text (let few = r.1 in omega (arith, ap (λ (l : List ℕ). length l) r.0, length-take n (codes "source "), few))
no_length (Length n) text line never r = absurd (never n refl)
no_length Line text line never r = λ count h. r.0 [] count (subst (λ (l : List ℕ). IsHeader l count) (sym (append-nil text)) h)
no_length (Within n) text line never r = absurd line
no_length Behind text line never r = absurd line
no_length Broken text line never r = absurd line

plain_of : (place : Place) (text : List ℕ) → IsLinePlace place → Reads place text → All IsOther text
plain_of (Fault n) text line r = r.2
plain_of (Number n) text line r = r.1
plain_of (Source n) text line r = r.2
plain_of (Length n) text line r = r.1
plain_of Line text line r = r.1
plain_of (Within n) text line r = absurd line
plain_of Behind text line r = absurd line
plain_of Broken text line r = absurd line

abbrev Finds : (bytes : List ℕ) (place : Place) (text : List ℕ) → Type 0
Finds bytes place text = Reads place text → Is (last_told (read_bytes (at place (told_at place None)) bytes)) → TellsFault (text ++ bytes)

nothing_read : Reads (Fault 0) []
nothing_read = (refl, omega arith, All-nil IsOther)

-- a newline ends a line without a source
line_ends : (place : Place) (text bytes : List ℕ) → IsLinePlace place → ((number : ℕ) → place ≢ Length number) → Reads place text → Finds bytes (Fault 0) []
    → Is (last_told (read_bytes (at (Fault 0) None) bytes)) → TellsFault (text ++ 10 ∷ bytes)
line_ends place text bytes line never r next told =
    subst TellsFault (append_assoc text (10 ∷ []) bytes)
    (prepended (record { line = text; source = None }) bytes (record { plain = plain_of place text line r; follows = no_length place text line never r }) (next nothing_read told))

-- the newline after a length begins a source
source_begins : (number : ℕ) (text : List ℕ) → Reads (Length number) text → (left : ℕ) → left ≡ number → IsIn (text ++ 10 ∷ []) left
source_begins number text r left is = record {
  line = text;
  count = number;
  header = r.0;
  plain = r.1;
  rest = [];
  text_is = refl;
  left_is = omega (arith, is);
}

ends_line : (place : Place) (text bytes : List ℕ) → IsLinePlace place → Reads place text → ((p : Place) (t : List ℕ) → Finds bytes p t)
    → Is (last_told (read_bytes (at (place_behind place 10) (told_at (place_behind place 10) None)) bytes)) → TellsFault (text ++ 10 ∷ bytes)
ends_line (Fault n) text bytes line r next told = line_ends (Fault n) text bytes line (λ m e. cc) r (next (Fault 0) []) told
ends_line (Number n) text bytes line r next told = line_ends (Number n) text bytes line (λ m e. cc) r (next (Fault 0) []) told
ends_line (Source n) text bytes line r next told = line_ends (Source n) text bytes line (λ m e. cc) r (next (Fault 0) []) told
ends_line Line text bytes line r next told = line_ends Line text bytes line (λ m e. cc) r (next (Fault 0) []) told
ends_line (Length n) text bytes line r next told =
    subst TellsFault (append_assoc text (10 ∷ []) bytes)
    (either (λ (p : Place). Is (last_told (read_bytes (at p (told_at p None)) bytes)) → TellsFault ((text ++ 10 ∷ []) ++ bytes)) (n == 0) Behind (Within n)
    (λ t i. next Behind (text ++ 10 ∷ []) (source_begins n text r 0 (sym (eqb-true n 0 t))) i)
    (λ f i. let some = is_not n 0 f in next (Within n) (text ++ 10 ∷ []) (source_begins n text r n refl, omega (arith, some)) i) told)
ends_line (Within n) text bytes line r next told = absurd line
ends_line Behind text bytes line r next told = absurd line
ends_line Broken text bytes line r next told = absurd line

line_on : (place : Place) (text : List ℕ) (byte : ℕ) (bytes : List ℕ) → IsLinePlace place → Reads place text → ((p : Place) (t : List ℕ) → Finds bytes p t)
    → Is (last_told (read_bytes (at (place_behind place byte) (told_at (place_behind place byte) None)) bytes)) → TellsFault (text ++ byte ∷ bytes)
line_on place text byte bytes line r next told =
    elim (cases_eq byte 10) [
      | inl is ↦
          subst (λ (b : ℕ). TellsFault (text ++ b ∷ bytes)) (sym is)
          (ends_line place text bytes line r next (subst (λ (b : ℕ). Is (last_told (read_bytes (at (place_behind place b) (told_at (place_behind place b) None)) bytes))) is told))
      | inr other ↦
          subst TellsFault (append_assoc text (byte ∷ []) bytes) (next (place_behind place byte) (text ++ byte ∷ []) (step place text byte other line r).0 told)
    ]

-- one more byte of a source is read
in_more : (text : List ℕ) (left byte now : ℕ) → IsIn text left → now + 1 ≡ left → IsIn (text ++ byte ∷ []) now
in_more text left byte now h one =
    let left_is = h.left_is in
    record {
      line = h.line;
      count = h.count;
      header = h.header;
      plain = h.plain;
      rest = h.rest ++ byte ∷ [];
      text_is = ap (λ (l : List ℕ). l ++ byte ∷ []) h.text_is ∙ append_assoc h.line (10 ∷ h.rest) (byte ∷ []);
      left_is = omega (arith, length-append h.rest (byte ∷ []), left_is, one);
    }

-- the newline after a source ends it
source_ends : (text bytes : List ℕ) → IsIn text 0 → TellsFault bytes → TellsFault (text ++ 10 ∷ bytes)
source_ends text bytes h told =
    let part : Part = record { line = h.line; source = Some h.rest } in
    let left_is = h.left_is in
    let whole : h.count ≡ length h.rest = omega (arith, left_is) in
    let is : part_text part ++ bytes ≡ text ++ 10 ∷ bytes =
    append_assoc h.line (10 ∷ (h.rest ++ 10 ∷ [])) bytes
    ∙ (ap (λ (l : List ℕ). h.line ++ 10 ∷ l) (append_assoc h.rest (10 ∷ []) bytes)
    ∙ (sym (append_assoc h.line (10 ∷ h.rest) (10 ∷ bytes)) ∙ ap (λ (l : List ℕ). l ++ 10 ∷ bytes) (sym h.text_is))) in
    subst TellsFault is (prepended part bytes (record { plain = h.plain; follows = subst (λ (n : ℕ). IsHeader h.line n) whole h.header }) told)

in_broken : (text : List ℕ) (byte : ℕ) → IsIn text 0 → byte ≢ 10 → IsPast (text ++ byte ∷ [])
in_broken text byte h other =
    let left_is = h.left_is in
    record {
      line = h.line;
      count = h.count;
      header = h.header;
      source = h.rest;
      all = omega (arith, left_is);
      byte = byte;
      other = other;
      rest = [];
      text_is = ap (λ (l : List ℕ). l ++ byte ∷ []) h.text_is ∙ append_assoc h.line (10 ∷ h.rest) (byte ∷ []);
    }

past_more : (text : List ℕ) (byte : ℕ) → IsPast text → IsPast (text ++ byte ∷ [])
past_more text byte h = record {
  line = h.line;
  count = h.count;
  header = h.header;
  source = h.source;
  all = h.all;
  byte = h.byte;
  other = h.other;
  rest = h.rest ++ byte ∷ [];
  text_is = ap (λ (l : List ℕ). l ++ byte ∷ []) h.text_is
      ∙ (append_assoc h.line (10 ∷ (h.source ++ h.byte ∷ h.rest)) (byte ∷ [])
      ∙ ap (λ (l : List ℕ). h.line ++ 10 ∷ l) (append_assoc h.source (h.byte ∷ h.rest) (byte ∷ [])));
}

-- an answer that ends within a source reports a fault
ends_in : (text : List ℕ) (left : ℕ) → IsIn text left → TellsFault (text ++ [])
ends_in text left h = inr (record {
  parts = [];
  are_parts = tt;
  line = h.line;
  count = h.count;
  is_header = h.header;
  rest = h.rest;
  answer_is = append-nil text ∙ h.text_is;
  unended = λ source after many e.
      let left_is = h.left_is in
      omega (arith, ap (λ (l : List ℕ). length l) e, length-append source (10 ∷ after), left_is, many);
})

after_same : (a b : List ℕ) (x y : ℕ) (r s : List ℕ) → length a ≡ length b → a ++ x ∷ r ≡ b ++ y ∷ s → x ≡ y
after_same [] [] x y r s many e = cc
after_same [] (c ∷ b) x y r s many e = absurd (omega arith)
after_same (d ∷ a) [] x y r s many e = absurd (omega arith)
after_same (d ∷ a) (c ∷ b) x y r s many e = let tails : a ++ x ∷ r ≡ b ++ y ∷ s = cc in after_same a b x y r s (omega arith) tails

ends_past : (text : List ℕ) → IsPast text → TellsFault (text ++ [])
ends_past text h = inr (record {
  parts = [];
  are_parts = tt;
  line = h.line;
  count = h.count;
  is_header = h.header;
  rest = h.source ++ h.byte ∷ h.rest;
  answer_is = append-nil text ∙ h.text_is;
  unended = λ source after many e. h.other (after_same h.source source h.byte 10 h.rest after (h.all ∙ sym many) e);
})

found : (bytes : List ℕ) (place : Place) (text : List ℕ) → Finds bytes place text
found bytes (Number n) text = λ r told. inl (record {
  parts = [];
  are_parts = tt;
  rest = r.0.0 ++ bytes;
  answer_is = ap (λ (l : List ℕ). l ++ bytes) r.0.1 ∙ append_assoc (codes "fault ") r.0.0 bytes;
})
found [] (Fault n) text = λ r told. absurd told
found [] (Source n) text = λ r told. absurd told
found [] (Length n) text = λ r told. absurd told
found [] Line text = λ r told. absurd told
found [] (Within n) text = λ r told. ends_in text n r.0
found [] Behind text = λ r told. ends_in text 0 r
found [] Broken text = λ r told. ends_past text r
found (byte ∷ bytes) (Fault n) text = λ r told. line_on (Fault n) text byte bytes tt r (λ p t. found bytes p t) told
found (byte ∷ bytes) (Source n) text = λ r told. line_on (Source n) text byte bytes tt r (λ p t. found bytes p t) told
found (byte ∷ bytes) (Length n) text = λ r told. line_on (Length n) text byte bytes tt r (λ p t. found bytes p t) told
found (byte ∷ bytes) Line text = λ r told. line_on Line text byte bytes tt r (λ p t. found bytes p t) told
found (byte ∷ bytes) (Within n) text = λ r told.
    subst TellsFault (append_assoc text (byte ∷ []) bytes)
    (either (λ (p : Place). Is (last_told (read_bytes (at p (told_at p None)) bytes)) → TellsFault ((text ++ byte ∷ []) ++ bytes)) (n == 1) Behind (Within (n - 1))
    (λ t i. found bytes Behind (text ++ byte ∷ []) (in_more text n byte 0 r.0 (sym (eqb-true n 1 t))) i)
    (λ f i. let many = is_not n 1 f in let some = r.1 in
    found bytes (Within (n - 1)) (text ++ byte ∷ []) (in_more text n byte (n - 1) r.0 (omega (arith, some)), omega (arith, many, some)) i) told)
found (byte ∷ bytes) Behind text = λ r told.
    either (λ (p : Place). Is (last_told (read_bytes (at p (told_at p None)) bytes)) → TellsFault (text ++ byte ∷ bytes)) (byte == 10) (Fault 0) Broken
    (λ t i. subst (λ (b : ℕ). TellsFault (text ++ b ∷ bytes)) (sym (eqb-true byte 10 t)) (source_ends text bytes r (found bytes (Fault 0) [] nothing_read i)))
    (λ f i. subst TellsFault (append_assoc text (byte ∷ []) bytes) (found bytes Broken (text ++ byte ∷ []) (in_broken text byte r (is_not byte 10 f)) i)) told
found (byte ∷ bytes) Broken text = λ r told.
    subst TellsFault (append_assoc text (byte ∷ []) bytes) (found bytes Broken (text ++ byte ∷ []) (past_more text byte r) told)

-- ---- every fault that lines and sources report is found

told_some : (place : Place) (number : ℕ) → (m : ℕ) × (told_at place (Some number) ≡ Some m)
told_some (Number n) number = (n, refl)
told_some (Fault n) number = (number, refl)
told_some (Source n) number = (number, refl)
told_some (Length n) number = (number, refl)
told_some Line number = (number, refl)
told_some (Within n) number = (number, refl)
told_some Behind number = (number, refl)
told_some Broken number = (number, refl)

stays_told : (bytes : List ℕ) (place : Place) (number : ℕ) → Is (read_bytes (at place (Some number)) bytes).last
stays_told [] place number = tt
stays_told (byte ∷ bytes) place number =
    let there = place_behind place byte in
    let more = told_some there number in
    subst (λ (o : Option ℕ). Is (read_bytes (at there o) bytes).last) (sym more.1) (stays_told bytes there more.0)

is_told : (lines : Lines) → Is lines.last → Is (last_told lines)
is_told lines some = either Is (is_within lines.place) (Some 55) lines.last (λ t. tt) (λ f. some)

is_cut : (lines : Lines) → is_within lines.place ≡ true → Is (last_told lines)
is_cut lines within = either Is (is_within lines.place) (Some 55) lines.last (λ t. tt) (λ f. absurd (true≢false (sym within ∙ f)))

-- reading the bytes leads to the beginning of a line; some fault, or none, is then the last one reported
abbrev Leads : (bytes : List ℕ) (last : Option ℕ) → Type 0
Leads bytes last = (later : Option ℕ) × ((rest : List ℕ) → read_bytes (between last) (bytes ++ rest) ≡ read_bytes (between later) rest)

-- reading `line` leads from `place` to another place within a line
record LeadsTo (place : Place) (last : Option ℕ) (text line : List ℕ) : Type 0 where
  pub there : Place
  pub later : Option ℕ
  pub is_line : IsLinePlace there
  pub reads : Reads there (text ++ line)
  pub read : (rest : List ℕ) → read_bytes (at place last) (line ++ rest) ≡ read_bytes (at there later) rest

tail_plain : (byte : ℕ) (line : List ℕ) → All IsOther (byte ∷ line) → All IsOther line
tail_plain byte line all = λ k d within. all (suc k) d (omega (arith, within))

line_read : (line : List ℕ) (place : Place) (last : Option ℕ) (text : List ℕ) → All IsOther line → IsLinePlace place → Reads place text → LeadsTo place last text line
line_read [] place last text plain is r = record {
  there = place;
  later = last;
  is_line = is;
  reads = subst (λ (l : List ℕ). Reads place l) (sym (append-nil text)) r;
  read = λ rest. refl;
}
line_read (byte ∷ line) place last text plain is r =
    let on = step place text byte (plain 0 byte (omega arith)) is r in
    let rest = line_read line (place_behind place byte) (told_at (place_behind place byte) last) (text ++ byte ∷ []) (tail_plain byte line plain) on.1 on.0 in
    record {
      there = rest.there;
      later = rest.later;
      is_line = rest.is_line;
      reads = subst (λ (l : List ℕ). Reads rest.there l) (append_assoc text (byte ∷ []) line) rest.reads;
      read = rest.read;
    }

-- a newline ends a line that does not say a length
newline : (place : Place) (last : Option ℕ) (rest : List ℕ) → IsLinePlace place → ((number : ℕ) → place ≢ Length number) → read_bytes (at place last) (10 ∷ rest) ≡ read_bytes (between last) rest
newline (Fault n) last rest is never = refl
newline (Number n) last rest is never = refl
newline (Source n) last rest is never = refl
newline (Length n) last rest is never = absurd (never n refl)
newline Line last rest is never = refl
newline (Within n) last rest is never = absurd is
newline Behind last rest is never = absurd is
newline Broken last rest is never = absurd is

-- a line that says a length leads to the place with that length
header_place : (place : Place) (line : List ℕ) (count : ℕ) → IsHeader line count → IsLinePlace place → Reads place line → place ≡ Length count
header_place (Fault n) line count h is r = absurd (no_length (Fault n) line is (λ m e. cc) r count h)
header_place (Number n) line count h is r = absurd (no_length (Number n) line is (λ m e. cc) r count h)
header_place (Source n) line count h is r = absurd (no_length (Source n) line is (λ m e. cc) r count h)
header_place Line line count h is r = absurd (no_length Line line is (λ m e. cc) r count h)
header_place (Length n) line count h is r =
    let one = r.0 in
    let same = append_cancel_left (codes "source ") one.digits h.digits (sym one.line_is ∙ h.line_is) in
    ap (λ (m : ℕ). Length m) (one.count_is ∙ (ap (λ (d : List ℕ). min (digits_value 10 d) 4294967295) same ∙ sym h.count_is))
header_place (Within n) line count h is r = absurd is
header_place Behind line count h is r = absurd is
header_place Broken line count h is r = absurd is

all_at : (byte : ℕ) (bytes : List ℕ) → byte ≢ 10 → All IsOther bytes → (k d : ℕ) → k < length (byte ∷ bytes) → get_or (byte ∷ bytes) k d ≢ 10
all_at byte bytes other all zero d within = other
all_at byte bytes other all (suc k) d within = all k d (omega (arith, within))

all_cons : (byte : ℕ) (bytes : List ℕ) → byte ≢ 10 → All IsOther bytes → All IsOther (byte ∷ bytes)
all_cons byte bytes other all = λ k d within. all_at byte bytes other all k d within

digits_plain : (digits : List ℕ) → AllDigits 10 digits → All IsOther digits
digits_plain [] are = All-nil IsOther
digits_plain (d ∷ digits) are =
    let within = digit_from_value d are.0 in
    all_cons d digits (λ e. absurd (omega (arith, e, within))) (digits_plain digits are.1)

abbrev AllBig : List ℕ → Type 0
AllBig [] = Unit {0}
AllBig (byte ∷ bytes) = (10 < byte) × AllBig bytes

bigger : (byte : ℕ) → 10 < byte → byte ≢ 10
bigger byte big = λ e. omega (arith, e, big)

plain_before : (front back : List ℕ) → AllBig front → All IsOther back → All IsOther (front ++ back)
plain_before [] back big all = all
plain_before (byte ∷ front) back big all = all_cons byte (front ++ back) (bigger byte big.0) (plain_before front back big.1 all)

header_plain : (line : List ℕ) (count : ℕ) → IsHeader line count → All IsOther line
header_plain line count h =
    let word : AllBig (codes "source ") = (omega arith, (omega arith, (omega arith, (omega arith, (omega arith, (omega arith, (omega arith, tt))))))) in
    subst (λ (l : List ℕ). All IsOther l) (sym h.line_is) (plain_before (codes "source ") h.digits word (digits_plain h.digits h.are_digits))

length_no : (place : Place) (line : List ℕ) → ((count : ℕ) → ¬ IsHeader line count) → Reads place line → (number : ℕ) → place ≢ Length number
length_no place line never r = λ number e. never number (subst (λ (p : Place). Reads p line) e r).0

-- reading a whole line, without its newline, leads to another place within a line
whole_line : (line : List ℕ) (last : Option ℕ) → All IsOther line → LeadsTo (Fault 0) last [] line
whole_line line last plain = line_read line (Fault 0) last [] plain tt nothing_read

part_read : (line : List ℕ) (source : Option (List ℕ)) (last : Option ℕ) → All IsOther line → IsSource line source → Leads (part_text (record { line = line; source = source })) last
part_read line None last plain follows =
    let h = whole_line line last plain in (
      h.later,
      λ rest.
          ap (λ (l : List ℕ). read_bytes (between last) l) (append_assoc line (10 ∷ []) rest)
          ∙ (h.read (10 ∷ rest) ∙ newline h.there h.later rest h.is_line (length_no h.there line follows h.reads)),
    )
part_read line (Some source) last plain follows =
    let h = whole_line line last plain in
    let there = header_place h.there line (length source) follows h.is_line h.reads in (
      h.later,
      λ rest.
          ap (λ (l : List ℕ). read_bytes (between last) l) (append_assoc line (10 ∷ (source ++ 10 ∷ [])) rest ∙ ap (λ (l : List ℕ). line ++ 10 ∷ l) (append_assoc source (10 ∷ []) rest))
          ∙ (h.read (10 ∷ (source ++ 10 ∷ rest))
          ∙ (ap (λ (p : Place). read_bytes (at p h.later) (10 ∷ (source ++ 10 ∷ rest))) there ∙ bytes_read source (10 ∷ rest) h.later)),
    )

parts_read : (parts : List Part) (last : Option ℕ) → AreParts parts → Leads (parts_text parts) last
parts_read [] last are = (last, λ rest. refl)
parts_read (part ∷ parts) last are =
    let one = part_read part.line part.source last are.0.plain are.0.follows in
    let more = parts_read parts one.0 are.1 in (
      more.0,
      λ rest.
          ap (λ (l : List ℕ). read_bytes (between last) l) (append_assoc (part_text part) (parts_text parts) rest)
          ∙ (one.1 (parts_text parts ++ rest) ∙ more.1 rest),
    )

-- ---- within a source that does not end

abbrev Cut : Lines → Type 0
Cut lines = is_within lines.place ≡ true

broken_cut : (rest : List ℕ) (last : Option ℕ) → Cut (read_bytes (at Broken last) rest)
broken_cut [] last = refl
broken_cut (byte ∷ rest) last = broken_cut rest last

behind_cut : (rest : List ℕ) (last : Option ℕ) → ((after : List ℕ) → rest ≢ 10 ∷ after) → Cut (read_bytes (at Behind last) rest)
behind_cut [] last unended = refl
behind_cut (byte ∷ rest) last unended =
    either (λ (p : Place). Cut (read_bytes (at p (told_at p last)) rest)) (byte == 10) (Fault 0) Broken
    (λ t. absurd (unended rest (ap (λ (b : ℕ). b ∷ rest) (eqb-true byte 10 t)))) (λ f. broken_cut rest last)

within_cut : (rest : List ℕ) (n : ℕ) (last : Option ℕ) → ((source after : List ℕ) → length source ≡ suc n → rest ≢ source ++ 10 ∷ after) → Cut (read_bytes (at (Within (suc n)) last) rest)
within_cut [] n last unended = refl
within_cut (byte ∷ rest) zero last unended = behind_cut rest last (λ after e. unended (byte ∷ []) after refl (ap (λ (l : List ℕ). byte ∷ l) e))
within_cut (byte ∷ rest) (suc n) last unended =
    ap (λ (lines : Lines). is_within lines.place) (from_there (Within (suc (suc n))) last byte rest (Within (suc n)) (byte_behind n byte) refl)
    ∙ within_cut rest n last (λ source after many e. unended (byte ∷ source) after (ap suc many) (ap (λ (l : List ℕ). byte ∷ l) e))

opened_cut : (count : ℕ) (rest : List ℕ) (last : Option ℕ) → ((source after : List ℕ) → length source ≡ count → rest ≢ source ++ 10 ∷ after)
    → Cut (read_bytes (at (Length count) last) (10 ∷ rest))
opened_cut zero rest last unended = behind_cut rest last (λ after e. unended [] after refl e)
opened_cut (suc n) rest last unended =
    either (λ (p : Place). Cut (read_bytes (at p (told_at p last)) rest)) (suc n == 0) Behind (Within (suc n))
    (λ z. let none = eqb-true (suc n) 0 z in absurd (omega (arith, none))) (λ z. within_cut rest n last unended)

told_whole : (answer : List ℕ) → TellsFault answer → Is (last_told (read_bytes (between None) answer))
told_whole answer (inl h) =
    let so_far = parts_read h.parts None h.are_parts in
    let read : read_bytes (between None) answer ≡ read_bytes (at (Number 0) (Some 0)) h.rest = ap (λ (l : List ℕ). read_bytes (between None) l) h.answer_is ∙ so_far.1 (codes "fault " ++ h.rest) in
    subst (λ (lines : Lines). Is (last_told lines)) (sym read) (is_told (read_bytes (at (Number 0) (Some 0)) h.rest) (stays_told h.rest (Number 0) 0))
told_whole answer (inr h) =
    let so_far = parts_read h.parts None h.are_parts in
    let l = whole_line h.line so_far.0 (header_plain h.line h.count h.is_header) in
    let there = header_place l.there h.line h.count h.is_header l.is_line l.reads in
    let end : Lines = read_bytes (at (Length h.count) l.later) (10 ∷ h.rest) in
    let read : read_bytes (between None) answer ≡ end =
    ap (λ (x : List ℕ). read_bytes (between None) x) h.answer_is
    ∙ (so_far.1 (h.line ++ 10 ∷ h.rest) ∙ (l.read (10 ∷ h.rest) ∙ ap (λ (p : Place). read_bytes (at p l.later) (10 ∷ h.rest)) there)) in
    subst (λ (lines : Lines). Is (last_told lines)) (sym read) (is_cut end (opened_cut h.count h.rest l.later h.unended))

tells_as : (answer : List ℕ) (told : Option ℕ) → last_told (read_bytes (between None) answer) ≡ told → Tells answer told
tells_as answer None is = λ fault. subst Is is (told_whole answer fault)
tells_as answer (Some number) is = found answer (Fault 0) [] nothing_read (subst Is (sym is) tt)

-- reading an answer gives a fault exactly if one of its lines reports one, or it ends within a source
pub tells_so : (answer : List ℕ) → Tells answer (last_told (read_bytes (between None) answer))
tells_so answer = tells_as answer (last_told (read_bytes (between None) answer)) refl
