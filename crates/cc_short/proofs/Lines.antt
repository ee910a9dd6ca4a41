-- What `cc_script` reads in the lines of short commands: their words, and the number.
use Rattle.std.proofs.Common.{◌≡◌, ◌≢◌, ◌≤◌, ℕ, ◌+◌, ◌*◌, ◌/◌, ◌%◌, ◌-◌, ◌<◌, ◌^◌, ◌==◌, List, [], ◌∷◌, ◌++◌, length, take, false, true, refl, ap, ◌∙◌, subst, arith, append_assoc}
use Rattle.std.specs.Prelude.{All, Some, codes}
use Rattle.std.specs.Char.{is_ascii_digit}
use Rattle.std.specs.Fmt.{decimal}
use Rattle.std.proofs.lemmas.Fmt.{decimal_by_steps, decimal_nonempty, length-decimal-le}
use Rattle.std.proofs.lemmas.List.Splits.{slice_split_at, slice_split_none}
use Rattle.std.proofs.lemmas.List.Elements.{All-append, All-cons, All-nil, All-from_recursion}
use Rattle.std.proofs.lemmas.List.{take_all}
use Rattle.std.proofs.lemmas.Grind.{common_steps}
use Rattle.cc_script.specs.Line.{Add, Replace, Withdraw, asked_of, asked_in, words, number_from, length_in}
use Rattle.cc_script.specs.declared.command.Dialect.TheVariants.{Plain}
use Rattle.cc_short.specs.declared.script.ShortCommand.{ShortCommand}
use Rattle.cc_short.specs.declared.script.ShortCommand.TheVariants as short
use Rattle.cc_short.specs.Short.{HasName, IsName, IsScriptOf, name_of, request_of, source_of}
use Rattle.cc_short.specs.internal.Text.{line_text}

-- ---- the number

is_digit : (d : ℕ) → d < 10 → is_ascii_digit (48 + d) ≡ true
is_digit d small = search (arith, small)

-- one digit more
more_digits : (k m digit : ℕ) (ds : List ℕ) → digit < 10 → number_from k ds ≡ Some m → number_from k (ds ++ (48 + digit) ∷ []) ≡ Some (10 * m + digit)
more_digits k m digit [] small e = grind (arith, common_steps, is_digit digit small, e)
more_digits k m digit (d ∷ ds) small e = grind (arith, common_steps, more_digits (10 * k + (d - 48)) m digit ds small, e)

one_digit : (n : ℕ) → n < 10 → number_from 0 ((48 + n) ∷ []) ≡ Some n
one_digit n small =
    let same : 10 * 0 + n ≡ n = omega arith in
    subst (λ x. number_from 0 ((48 + n) ∷ []) ≡ Some x) same (more_digits 0 0 n [] small refl)

-- the digits that are written for a number spell it
digits_spell : (n : ℕ) → n < 2 ^ 64 → number_from 0 (decimal n) ≡ Some n
digits_spell n small =
    decimal_by_steps (λ m ds. number_from 0 ds ≡ Some m) one_digit
    (λ m ds large e. subst (λ x. number_from 0 (ds ++ (48 + m % 10) ∷ []) ≡ Some x) (omega arith) (more_digits 0 (m / 10) (m % 10) ds (omega arith) e))
    n small

-- the length of a source is read back
pub length_spelled : (n : ℕ) → n ≤ 65536 → length_in (decimal n) ≡ Some n
length_spelled n few =
    let some : 0 < length (decimal n) = decimal_nonempty n (omega arith) in
    let short : length (decimal n) ≤ 6 = length-decimal-le 6 n (omega arith) (omega arith) (omega arith) in
    let spelled = digits_spell n (omega arith) in
    grind (arith, common_steps, some, short, spelled, few)

abbrev IsPlain : ℕ → Type 0
IsPlain byte = (byte ≢ 32) × (byte ≢ 10)

above : (byte : ℕ) → 48 ≤ byte → IsPlain byte
above byte high = (omega (arith, high), omega (arith, high))

-- no digit is a space or a newline
pub digits_plain : (n : ℕ) → n ≤ 65536 → All IsPlain (decimal n)
digits_plain n few =
    decimal_by_steps (λ m ds. All IsPlain ds)
    (λ m small. All-cons IsPlain (48 + m) [] (above (48 + m) (omega arith)) (All-nil IsPlain))
    (λ m ds large all. All-append IsPlain ds ((48 + m % 10) ∷ []) all (All-cons IsPlain (48 + m % 10) [] (above (48 + m % 10) (omega arith)) (All-nil IsPlain)))
    n (omega arith)

-- ---- the words

is_no_space : (byte : ℕ) → byte ≢ 32 → (byte == 32) ≡ false
is_no_space byte other = search (arith, other)

-- bytes that are no spaces fail the test for one
no_spaces : (bytes : List ℕ) → All (λ byte. (byte ≢ 32) × (byte ≢ 10)) bytes → All (λ byte. (byte == 32) ≡ false) bytes
no_spaces bytes all k d within = is_no_space _ (all k d within).0

no_newlines : (bytes : List ℕ) → All (λ byte. (byte ≢ 32) × (byte ≢ 10)) bytes → All (λ byte. byte ≢ 10) bytes
no_newlines bytes all k d within = (all k d within).1

one_word : (bytes : List ℕ) → All (λ byte. (byte == 32) ≡ false) bytes → words bytes ≡ bytes ∷ []
one_word bytes all = slice_split_none (λ b. b == 32) bytes all

word_more : (bytes rest : List ℕ) → All (λ byte. (byte == 32) ≡ false) bytes → words (bytes ++ 32 ∷ rest) ≡ bytes ∷ words rest
word_more bytes rest all = slice_split_at (λ b. b == 32) bytes 32 rest all refl

-- a verb and a name are two words
pub two_words_of : (verb name : List ℕ) → All (λ byte. (byte == 32) ≡ false) verb → IsName name → words (verb ++ 32 ∷ name) ≡ verb ∷ name ∷ []
two_words_of verb name plain is = word_more verb name plain ∙ ap (λ ws. verb ∷ ws) (one_word name (no_spaces name is.plain))

-- a verb, a name and a number are three words
pub three_words_of : (verb name : List ℕ) (n : ℕ) → All (λ byte. (byte == 32) ≡ false) verb → IsName name → n ≤ 65536
    → words (verb ++ 32 ∷ name ++ 32 ∷ decimal n) ≡ verb ∷ name ∷ decimal n ∷ []
three_words_of verb name n plain is few =
    ap words (append_assoc verb (32 ∷ name) (32 ∷ decimal n))
    ∙ word_more verb (name ++ 32 ∷ decimal n) plain
    ∙ ap (λ ws. verb ∷ ws) (word_more name (decimal n) (no_spaces name is.plain) ∙ ap (λ ws. name ∷ ws) (one_word (decimal n) (no_spaces (decimal n) (digits_plain n few))))

-- ---- what the lines ask for

added : (name : List ℕ) (n : ℕ) → 0 < length name → length_in (decimal n) ≡ Some n → asked_in Plain (codes "add" ∷ name ∷ decimal n ∷ []) ≡ Some (Add name n)
added name n some spelled = grind (arith, common_steps, some, spelled)

replaced : (name : List ℕ) (n : ℕ) → 0 < length name → length_in (decimal n) ≡ Some n → asked_in Plain (codes "replace" ∷ name ∷ decimal n ∷ []) ≡ Some (Replace name n)
replaced name n some spelled = grind (arith, common_steps, some, spelled)

withdrawn : (name : List ℕ) → 0 < length name → asked_in Plain (codes "withdraw" ∷ name ∷ []) ≡ Some (Withdraw name)
withdrawn name some = grind (arith, common_steps, some)

add_plain : All IsPlain (codes "add")
add_plain = All-from_recursion IsPlain (codes "add") ((omega arith, omega arith), ((omega arith, omega arith), ((omega arith, omega arith), tt)))

replace_plain : All IsPlain (codes "replace")
replace_plain = All-from_recursion IsPlain (codes "replace") ((omega arith, omega arith), ((omega arith, omega arith), ((omega arith, omega arith), ((omega arith, omega arith), ((omega arith, omega arith), ((omega arith, omega arith), ((omega arith, omega arith), tt)))))))

withdraw_plain : All IsPlain (codes "withdraw")
withdraw_plain = All-from_recursion IsPlain (codes "withdraw") ((omega arith, omega arith), ((omega arith, omega arith), ((omega arith, omega arith), ((omega arith, omega arith), ((omega arith, omega arith), ((omega arith, omega arith), ((omega arith, omega arith), ((omega arith, omega arith), tt))))))))

list_plain : All (λ byte. byte ≢ 10) (codes "list")
list_plain = All-from_recursion (λ byte. byte ≢ 10) (codes "list") (omega arith, (omega arith, (omega arith, (omega arith, tt))))

compact_plain : All (λ byte. byte ≢ 10) (codes "compact")
compact_plain = All-from_recursion (λ byte. byte ≢ 10) (codes "compact") (omega arith, (omega arith, (omega arith, (omega arith, (omega arith, (omega arith, (omega arith, tt)))))))

audit_plain : All (λ byte. byte ≢ 10) (codes "audit")
audit_plain = All-from_recursion (λ byte. byte ≢ 10) (codes "audit") (omega arith, (omega arith, (omega arith, (omega arith, (omega arith, tt)))))

abbrev IsInLine : ℕ → Type 0
IsInLine byte = byte ≢ 10

-- a line of plain words has no newline
named_plain : (verb name : List ℕ) → All IsPlain verb → IsName name → All IsInLine (verb ++ 32 ∷ name)
named_plain verb name plain is =
    let space : IsInLine 32 = omega arith in
    All-append IsInLine verb (32 ∷ name) (no_newlines verb plain) (All-cons IsInLine 32 name space (no_newlines name is.plain))

counted_plain : (verb name : List ℕ) (n : ℕ) → All IsPlain verb → IsName name → n ≤ 65536 → All IsInLine (verb ++ 32 ∷ name ++ 32 ∷ decimal n)
counted_plain verb name n plain is few =
    let space : IsInLine 32 = omega arith in
    All-append IsInLine (verb ++ 32 ∷ name) (32 ∷ decimal n) (named_plain verb name plain is) (All-cons IsInLine 32 (decimal n) space (no_newlines (decimal n) (digits_plain n few)))

-- the line of a command has no newline
line_plain : (command : ShortCommand) → HasName (name_of command) → length (source_of command) ≤ 65536 → All (λ byte. byte ≢ 10) (line_text command)
line_plain (short.Add name source) is few = counted_plain (codes "add") name.now (length source.now) add_plain is few
line_plain (short.Replace name source) is few = counted_plain (codes "replace") name.now (length source.now) replace_plain is few
line_plain (short.Withdraw name) is few = named_plain (codes "withdraw") name.now withdraw_plain is
line_plain short.List is few = list_plain
line_plain short.Compact is few = compact_plain
line_plain short.Audit is few = audit_plain

-- ... has at most 128 bytes
line_short : (command : ShortCommand) → HasName (name_of command) → length (source_of command) ≤ 65536 → length (line_text command) ≤ 128
line_short (short.Add name source) is few =
    let digits : length (decimal (length source.now)) ≤ 6 = length-decimal-le 6 (length source.now) (omega arith) (omega arith) (omega arith) in
    let short = is.few in grind (arith, common_steps, digits, short)
line_short (short.Replace name source) is few =
    let digits : length (decimal (length source.now)) ≤ 6 = length-decimal-le 6 (length source.now) (omega arith) (omega arith) (omega arith) in
    let short = is.few in grind (arith, common_steps, digits, short)
line_short (short.Withdraw name) is few = let short = is.few in grind (arith, common_steps, short)
line_short short.List is few = omega arith
line_short short.Compact is few = omega arith
line_short short.Audit is few = omega arith

-- ... asks for it
line_asks : (command : ShortCommand) → HasName (name_of command) → length (source_of command) ≤ 65536 → asked_of Plain (line_text command) ≡ Some (request_of command)
line_asks (short.Add name source) is few =
    ap (asked_in Plain) (three_words_of (codes "add") name.now (length source.now) (no_spaces (codes "add") add_plain) is few)
    ∙ added name.now (length source.now) is.some (length_spelled (length source.now) few)
line_asks (short.Replace name source) is few =
    ap (asked_in Plain) (three_words_of (codes "replace") name.now (length source.now) (no_spaces (codes "replace") replace_plain) is few)
    ∙ replaced name.now (length source.now) is.some (length_spelled (length source.now) few)
line_asks (short.Withdraw name) is few =
    ap (asked_in Plain) (two_words_of (codes "withdraw") name.now (no_spaces (codes "withdraw") withdraw_plain) is)
    ∙ withdrawn name.now is.some
line_asks short.List is few = refl
line_asks short.Compact is few = refl
line_asks short.Audit is few = refl

-- the line, a newline and the source are the script
pub is_script : (command : ShortCommand) (script : List ℕ) → HasName (name_of command) → length (source_of command) ≤ 65536
    → script ≡ line_text command ++ 10 ∷ source_of command → IsScriptOf command script
is_script command script is few whole = record {
  line = line_text command;
  short = line_short command is few;
  plain = line_plain command is few;
  whole = whole;
  asks = line_asks command is few;
  fits = few;
}

-- ---- names

pub name_is : (name : List ℕ) (n : ℕ) → length name ≤ n → 0 < length name → length name ≤ 32 → All (λ byte. (byte ≢ 32) × (byte ≢ 10)) (take n name) → IsName name
name_is name n all some few plain = record {
  some = some;
  few = few;
  plain = subst (λ (bytes : List ℕ). All (λ byte. (byte ≢ 32) × (byte ≢ 10)) bytes) (take_all n name all) plain;
}
