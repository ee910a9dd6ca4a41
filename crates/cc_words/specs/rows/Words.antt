-- Worked values of the definitions, each shown by computation. A negative number is written as its word: -1 is 4294967295.
use Rattle.std.specs.Prelude.{◌≡◌, refl, Some, None, pos, negsuc}
use Rattle.cc_words.specs.Words.{signed_value, word_of, add, sub, mul, neg, eq, ne, lt_s, le_s, lt_u, le_u, is_zero, div_s, rem_s, div_u, rem_u, shl, shr_s, shr_u, and, or, xor, complement}

-- the greatest int, the least int, and -1
greatest_int : signed_value 2147483647 ≡ pos 2147483647
greatest_int = refl

least_int : signed_value 2147483648 ≡ negsuc 2147483647
least_int = refl

minus_one : signed_value 4294967295 ≡ negsuc 0
minus_one = refl

word_of_minus_seven : word_of (negsuc 6) ≡ 4294967289
word_of_minus_seven = refl

-- 2147483647 + 1 is -2147483648
sum_wraps : add 2147483647 1 ≡ 2147483648
sum_wraps = refl

-- 0 - 1 is -1
difference_wraps : sub 0 1 ≡ 4294967295
difference_wraps = refl

-- 65536 * 65536 is 0
product_wraps : mul 65536 65536 ≡ 0
product_wraps = refl

-- -(-2147483648) is -2147483648
neg_of_least : neg 2147483648 ≡ 2147483648
neg_of_least = refl

-- -1 < 1 holds for signed numbers, but not for unsigned ones
signed_less : lt_s 4294967295 1 ≡ 1
signed_less = refl

unsigned_less : lt_u 4294967295 1 ≡ 0
unsigned_less = refl

signed_at_most : le_s 1 4294967295 ≡ 0
signed_at_most = refl

unsigned_at_most : le_u 1 4294967295 ≡ 1
unsigned_at_most = refl

equal_words : eq 7 7 ≡ 1
equal_words = refl

different_words : ne 7 7 ≡ 0
different_words = refl

zero_is_zero : is_zero 0 ≡ 1
zero_is_zero = refl

-- -7 / 2 is -3 and -7 % 2 is -1
quotient_toward_zero : div_s 4294967289 2 ≡ Some 4294967293
quotient_toward_zero = refl

remainder_of_dividend_sign : rem_s 4294967289 2 ≡ Some 4294967295
remainder_of_dividend_sign = refl

-- 7 / -2 is -3 and 7 % -2 is 1
quotient_by_negative : div_s 7 4294967294 ≡ Some 4294967293
quotient_by_negative = refl

remainder_by_negative : rem_s 7 4294967294 ≡ Some 1
remainder_by_negative = refl

-- division by zero, and of -2147483648 by -1, has no value
signed_by_zero : div_s 7 0 ≡ None
signed_by_zero = refl

quotient_is_no_int : div_s 2147483648 4294967295 ≡ None
quotient_is_no_int = refl

remainder_of_no_int : rem_s 2147483648 4294967295 ≡ None
remainder_of_no_int = refl

-- divisions of unsigned numbers: only the one by zero has no value
unsigned_quotient : div_u 2147483648 4294967295 ≡ Some 0
unsigned_quotient = refl

unsigned_remainder : rem_u 2147483648 4294967295 ≡ Some 2147483648
unsigned_remainder = refl

unsigned_by_zero : rem_u 7 0 ≡ None
unsigned_by_zero = refl

-- -8 >> 1 is -4; an unsigned shift brings in a zero
arithmetic_shift : shr_s 4294967288 1 ≡ Some 4294967292
arithmetic_shift = refl

-- -1 >> 1 is -1, and -1 / 2 is 0
shift_rounds_down : shr_s 4294967295 1 ≡ Some 4294967295
shift_rounds_down = refl

logical_shift : shr_u 4294967288 1 ≡ Some 2147483644
logical_shift = refl

-- 3 << 31 keeps the low 32 bits
left_shift : shl 3 31 ≡ Some 2147483648
left_shift = refl

count_too_large : shl 1 32 ≡ None
count_too_large = refl

-- 12 is 1100 and 10 is 1010 in binary digits
conjunction : and 12 10 ≡ 8
conjunction = refl

disjunction : or 12 10 ≡ 14
disjunction = refl

exclusive : xor 12 10 ≡ 6
exclusive = refl

complement_of_zero : complement 0 ≡ 4294967295
complement_of_zero = refl
