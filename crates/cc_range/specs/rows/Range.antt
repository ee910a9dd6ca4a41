-- Worked ranges, computed.
use Rattle.std.specs.Prelude.{◌≡◌, refl, true, false, pos, ◌-ℤ◌}
use Rattle.cc_words.specs.declared.operators.Binary.TheVariants.{Add, Mul, DivS, RemS, ShrU, And, Xor, LtS, LtU, Ne}
use Rattle.cc_range.specs.Range.{least, greatest, between, all_words, byte_words, only, of_binary, is_covered, met, learned_from}

-- `(end + 1) % 8` of an index from 0 to 7
next_place : of_binary RemS (of_binary Add (between (pos 0) (pos 7)) (only 1)) (only 8) ≡ between (pos 0) (pos 7)
next_place = refl

-- a remainder by -8 (a word of 2^32 - 8) is not known to be below 8 by its divisor; one of a negative dividend can be negative
by_a_negative : of_binary RemS (between (pos 0) (pos 100)) (only 4294967288) ≡ between (pos 0) (pos 100)
by_a_negative = refl

of_a_negative : of_binary RemS all_words (only 8) ≡ between (pos 0 -ℤ pos 7) (pos 7)
of_a_negative = refl

-- a sum that does not fit may be any word
too_large : of_binary Add (between (pos 0) greatest) (only 1) ≡ all_words
too_large = refl

-- `crc >> 24` of any word; `(crc ^ byte) & 255`
high_byte : of_binary ShrU all_words (only 24) ≡ between (pos 0) (pos 255)
high_byte = refl

low_byte : of_binary And (of_binary Xor all_words byte_words) (only 255) ≡ between (pos 0) (pos 255)
low_byte = refl

products : of_binary Mul (between (pos 3) (pos 20)) (between (pos 2) (pos 40)) ≡ between (pos 6) (pos 800)
products = refl

-- a division by a variable that is not 0 is covered only if the operands are not -2147483648 and -1
divisions : is_covered DivS all_words (between (pos 1) (pos 9)) ≡ true
divisions = refl

minus_one : is_covered DivS all_words (between (pos 0 -ℤ pos 9) (pos 0 -ℤ pos 1)) ≡ false
minus_one = refl

-- in `if (i < n)`, for n at most 16
less : (learned_from true LtS all_words (between (pos 0) (pos 16))).left ≡ between least (pos 15)
less = refl

less_unsigned : (learned_from true LtU all_words (between (pos 0) (pos 16))).left.low ≡ pos 0
less_unsigned = refl

-- in a loop that ends at `i != 8`
not_eight : met (between (pos 0) (pos 8)) (learned_from true Ne (between (pos 0) (pos 8)) (only 8)).left ≡ between (pos 0) (pos 7)
not_eight = refl
