-- Ranges of words: which words a range has, and what is known of an operator's value from the ranges of its operands. A word counts
-- as the signed number that it represents. Unsigned operators are described too if their operands are known not to be negative.
use Rattle.std.specs.Prelude.{◌≡◌, ◌≢◌, ℕ, ◌-◌, ◌/◌, ◌^◌, nat_lt, Bool, true, false, not, ◌&&◌, ◌||◌, if◌then◌else◌, ℤ, pos, ◌+ℤ◌, ◌-ℤ◌, ◌*ℤ◌, ◌≤ℤ◌, int_lt, int_le, int_div, unsigned_abs}
use Rattle.std.specs.Int.{int_shr}
use Rattle.std.specs.Ordering.{int_eq}
use Rattle.cc_words.specs.declared.operators.Unary as one
use Rattle.cc_words.specs.declared.operators.Unary.TheVariants.{Neg, Complement, IsZero}
use Rattle.cc_words.specs.declared.operators.Binary as two
use Rattle.cc_words.specs.declared.operators.Binary.TheVariants.{Add, Sub, Mul, DivS, DivU, RemS, RemU, Shl, ShrS, ShrU, And, Or, Xor, Eq, Ne, LtS, LtU, LeS, LeU}
use Rattle.cc_words.specs.declared.operators.Width.{Width}
use Rattle.cc_words.specs.declared.operators.Width.TheVariants.{Byte, Word}
use Rattle.cc_words.specs.Words.{signed_value}
use Rattle.cc_range.specs.declared.range.Range.{Range}
use Rattle.cc_range.specs.declared.learning.Learned.{Learned}

-- ---- which words a range has

-- the word, as a signed number, is between the two limits, and it is not 0 if the range says so
pub record Has (r : Range) (w : ℕ) : Type 0 where
  pub low : r.low ≤ℤ signed_value w
  pub high : signed_value w ≤ℤ r.high
  pub nonzero : r.is_nonzero ≡ true → w ≢ 0

-- the least and the greatest signed number of 32 bits
abbrev pub least : ℤ
least = pos 0 -ℤ pos (2 ^ 31)

abbrev pub greatest : ℤ
greatest = pos (2 ^ 31 - 1)

abbrev pub minimum : ℤ → ℤ → ℤ
minimum x y = if int_le x y then x else y

abbrev pub maximum : ℤ → ℤ → ℤ
maximum x y = if int_le x y then y else x

-- the number is not negative; it is above 0
abbrev pub is_natural : ℤ → Bool
is_natural x = int_le (pos 0) x

abbrev pub is_positive : ℤ → Bool
is_positive x = int_lt (pos 0) x

abbrev pub is_negative : ℤ → Bool
is_negative x = int_lt x (pos 0)

-- the numbers between two limits; it is known that none is 0 only if both limits are on one side of 0
abbrev pub between : (low high : ℤ) → Range
between low high = record { low = low; high = high; is_nonzero = is_positive low || is_negative high }

-- all words; all but 0; the words of a comparison; the words of a byte
abbrev pub all_words : Range
all_words = record { low = least; high = greatest; is_nonzero = false }

abbrev pub nonzero_words : Range
nonzero_words = record { low = least; high = greatest; is_nonzero = true }

abbrev pub truth_words : Range
truth_words = record { low = pos 0; high = pos 1; is_nonzero = false }

abbrev pub byte_words : Range
byte_words = record { low = pos 0; high = pos 255; is_nonzero = false }

-- one word
abbrev pub only : (word : ℕ) → Range
only w = between (signed_value w) (signed_value w)

-- a signed number of 32 bits
abbrev pub is_int : ℤ → Bool
is_int x = int_le least x && int_le x greatest

-- the numbers between two limits if both are signed numbers of 32 bits, else all words
abbrev pub fitting : (low high : ℤ) → Range
fitting low high = if is_int low && is_int high then between low high else all_words

-- ---- two ranges

-- 0 is not in the range
abbrev pub excludes_zero : Range → Bool
excludes_zero r = r.is_nonzero || is_positive r.low || is_negative r.high

-- each word of the first range is in the second
abbrev pub is_within : Range → Range → Bool
is_within a b = int_le b.low a.low && int_le a.high b.high && (not b.is_nonzero || excludes_zero a)

-- the least range with the words of both
abbrev pub joined : Range → Range → Range
joined a b = record { low = minimum a.low b.low; high = maximum a.high b.high; is_nonzero = excludes_zero a && excludes_zero b }

-- The words that both ranges have. A limit that is 0 moves by one if 0 is excluded.
abbrev pub above_zero : Bool → ℤ → ℤ
above_zero nonzero x = if nonzero && int_eq x (pos 0) then pos 1 else x

abbrev pub below_zero : Bool → ℤ → ℤ
below_zero nonzero x = if nonzero && int_eq x (pos 0) then (pos 0 -ℤ pos 1) else x

abbrev pub trimmed : Range → Range
trimmed r = record { low = above_zero r.is_nonzero r.low; high = below_zero r.is_nonzero r.high; is_nonzero = r.is_nonzero }

abbrev pub overlap : Range → Range → Range
overlap a b = record { low = maximum a.low b.low; high = minimum a.high b.high; is_nonzero = a.is_nonzero || b.is_nonzero }

abbrev pub met : Range → Range → Range
met a b = trimmed (overlap a b)

-- ---- operators

abbrev pub sum : Range → Range → Range
sum a b = fitting (a.low +ℤ b.low) (a.high +ℤ b.high)

abbrev pub difference : Range → Range → Range
difference a b = fitting (a.low -ℤ b.high) (a.high -ℤ b.low)

-- a product of natural numbers
abbrev pub product : Range → Range → Range
product a b = if is_natural a.low && is_natural b.low then fitting (a.low *ℤ b.low) (a.high *ℤ b.high) else all_words

-- a quotient of natural numbers is at most the dividend; by a divisor above 0, at most the quotient of the limits
abbrev pub greatest_quotient : (dividend divisor : Range) → ℤ
greatest_quotient a b = if is_positive b.low then int_div a.high b.low else a.high

abbrev pub quotient_s : Range → Range → Range
quotient_s a b = if is_natural a.low && is_natural b.low then between (pos 0) (greatest_quotient a b) else all_words

abbrev pub quotient_u : Range → Range → Range
quotient_u a b = if is_natural a.low then between (pos 0) (if is_natural b.low then greatest_quotient a b else a.high) else all_words

-- A remainder has the sign of the dividend, or is 0. It is not farther from 0 than the dividend, and nearer to 0 than a divisor
-- above 0.
abbrev pub toward_zero : Range → Range
toward_zero a = between (minimum a.low (pos 0)) (maximum a.high (pos 0))

abbrev pub nearer : (to_zero divisor : Range) → Range
nearer t b = fitting (maximum t.low (pos 1 -ℤ b.high)) (minimum t.high (b.high -ℤ pos 1))

abbrev pub remainder_s : Range → Range → Range
remainder_s a b = if is_positive b.low then nearer (toward_zero a) b else toward_zero a

abbrev pub remainder_u : Range → Range → Range
remainder_u a b =
    if is_positive b.low then (if is_natural a.low then fitting (pos 0) (minimum a.high (b.high -ℤ pos 1)) else fitting (pos 0) (b.high -ℤ pos 1))
    else (if is_natural a.low then between (pos 0) a.high else all_words)

-- the one number of a range, if it has one that is a shift's count; `count` is that number, or 32
abbrev pub count : Range → ℕ
count r = if int_eq r.low r.high && is_natural r.low && int_lt r.low (pos 32) then unsigned_abs r.low else 32

abbrev pub shifted_by : Range → (count : ℕ) → Range
shifted_by a k =
    if nat_lt k 32 then between (int_shr a.low k) (int_shr a.high k)
    else (if is_natural a.low then between (pos 0) a.high else all_words)

abbrev pub shifted_s : Range → Range → Range
shifted_s a b = shifted_by a (count b)

-- what is left of any word after a shift by 1 to 31
abbrev pub high_bits : (count : ℕ) → Range
high_bits k = if nat_lt 0 k && nat_lt k 32 then between (pos 0) (pos ((2 ^ 32 - 1) / 2 ^ k)) else all_words

abbrev pub shifted_u : Range → Range → Range
shifted_u a b = if is_natural a.low then shifted_s a b else high_bits (count b)

abbrev pub conjunction : Range → Range → Range
conjunction a b =
    if is_natural a.low then between (pos 0) (if is_natural b.low then minimum a.high b.high else a.high)
    else (if is_natural b.low then between (pos 0) b.high else all_words)

-- words below 2^8, 2^16 or 2^31 whose bits are combined give such a word
abbrev pub below_power : ℤ → Range
below_power high =
    if int_lt high (pos (2 ^ 8)) then between (pos 0) (pos (2 ^ 8 - 1))
    else (if int_lt high (pos (2 ^ 16)) then between (pos 0) (pos (2 ^ 16 - 1)) else between (pos 0) greatest)

abbrev pub combination : Range → Range → Range
combination a b = if is_natural a.low && is_natural b.low then below_power (maximum a.high b.high) else all_words

-- the range of an operator's value
abbrev pub of_unary : one.Unary → Range → Range
of_unary Neg a = difference (only 0) a
of_unary Complement a = all_words
of_unary IsZero a = truth_words

-- ORDER Binary
abbrev pub of_binary : two.Binary → Range → Range → Range
of_binary Add a b = sum a b
of_binary Sub a b = difference a b
of_binary Mul a b = product a b
of_binary DivS a b = quotient_s a b
of_binary DivU a b = quotient_u a b
of_binary RemS a b = remainder_s a b
of_binary RemU a b = remainder_u a b
of_binary Shl a b = all_words
of_binary ShrS a b = shifted_s a b
of_binary ShrU a b = shifted_u a b
of_binary And a b = conjunction a b
of_binary Or a b = combination a b
of_binary Xor a b = combination a b
of_binary Eq a b = truth_words
of_binary Ne a b = truth_words
of_binary LtS a b = truth_words
of_binary LtU a b = truth_words
of_binary LeS a b = truth_words
of_binary LeU a b = truth_words

-- the part of a word that an element of this width keeps
abbrev pub of_kept : Width → Range → Range
of_kept Byte r = if is_within r byte_words then r else byte_words
of_kept Word r = r

-- ---- operations that always have a value

-- no operand of the second range is 0, and the operands are not -2147483648 and -1
abbrev pub divides : Range → Range → Bool
divides a b = excludes_zero b && (int_lt least a.low || int_lt b.high (pos 0 -ℤ pos 1) || int_lt (pos 0 -ℤ pos 1) b.low)

abbrev pub is_count : Range → Bool
is_count b = is_natural b.low && int_lt b.high (pos 32)

-- the operator has a value for all operands of these ranges
-- ORDER Binary
abbrev pub is_covered : two.Binary → Range → Range → Bool
is_covered Add a b = true
is_covered Sub a b = true
is_covered Mul a b = true
is_covered DivS a b = divides a b
is_covered DivU a b = excludes_zero b
is_covered RemS a b = divides a b
is_covered RemU a b = excludes_zero b
is_covered Shl a b = is_count b
is_covered ShrS a b = is_count b
is_covered ShrU a b = is_count b
is_covered And a b = true
is_covered Or a b = true
is_covered Xor a b = true
is_covered Eq a b = true
is_covered Ne a b = true
is_covered LtS a b = true
is_covered LtU a b = true
is_covered LeS a b = true
is_covered LeU a b = true

-- each word of the range is an index of an object with this many elements
abbrev pub is_index : Range → (elements : ℕ) → Bool
is_index r n = is_natural r.low && int_lt r.high (pos n)

-- ---- what a comparison shows of its operands

-- the ranges of the two operands, as a comparison shows them
abbrev pub learned : (left right : Range) → Learned
learned a b = record { left = a; right = b }

-- the numbers below all but the greatest of a range, and those above all but the least; the same with the limit itself
abbrev pub below : Range → Range
below r = between least (if int_eq r.high least then least else (r.high -ℤ pos 1))

abbrev pub above : Range → Range
above r = between (if int_eq r.low greatest then greatest else (r.low +ℤ pos 1)) greatest

abbrev pub at_most : Range → Range
at_most r = between least r.high

abbrev pub at_least : Range → Range
at_least r = between r.low greatest

-- the words that differ from the only word of the second range; a word of the first range can then differ from a limit
abbrev pub without : (a b : Range) → Range
without a b =
    if int_eq b.low b.high
    then (if int_eq b.low (pos 0) then nonzero_words else (if int_eq a.low b.low then above a else (if int_eq a.high b.low then below a else all_words)))
    else all_words

-- the first is below the second, as signed numbers; the first is at most the second; the words are equal; they differ
abbrev pub learned_less : Range → Range → Learned
learned_less a b = learned (below b) (above a)

abbrev pub learned_at_most : Range → Range → Learned
learned_at_most a b = learned (at_most b) (at_least a)

abbrev pub learned_equal : Range → Range → Learned
learned_equal a b = learned b a

abbrev pub learned_different : Range → Range → Learned
learned_different a b = learned (without a b) (without b a)

abbrev pub nothing : Learned
nothing = learned all_words all_words

-- the same as unsigned numbers: what is below a natural number is a natural number
abbrev pub natural : Range → Range
natural r = record { low = maximum (pos 0) r.low; high = r.high; is_nonzero = r.is_nonzero }

abbrev pub learned_less_u : Range → Range → Learned
learned_less_u a b = if is_natural b.low then learned (natural (below b)) (above (natural a)) else nothing

abbrev pub learned_at_most_u : Range → Range → Learned
learned_at_most_u a b = if is_natural b.low then learned (natural (at_most b)) (at_least (natural a)) else nothing

-- the operands exchanged
abbrev pub exchanged : Learned → Learned
exchanged l = learned l.right l.left

-- what is known of the operands, whose ranges are these, if the operator's value is not 0 (`way` is true) or is 0 (false)
abbrev pub learned_from : (way : Bool) → two.Binary → Range → Range → Learned
learned_from true Eq a b = learned_equal a b
learned_from false Eq a b = learned_different a b
learned_from true Ne a b = learned_different a b
learned_from false Ne a b = learned_equal a b
learned_from true Xor a b = learned_different a b
learned_from false Xor a b = learned_equal a b
learned_from true LtS a b = learned_less a b
learned_from false LtS a b = exchanged (learned_at_most b a)
learned_from true LeS a b = learned_at_most a b
learned_from false LeS a b = exchanged (learned_less b a)
learned_from true LtU a b = learned_less_u a b
learned_from false LtU a b = exchanged (learned_at_most_u b a)
learned_from true LeU a b = learned_at_most_u a b
learned_from false LeU a b = exchanged (learned_less_u b a)
learned_from way op a b = nothing
