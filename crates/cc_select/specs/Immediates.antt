-- The operators on a register and a word: which words each can encode, what each does, and which operators of Linear have such a form.
use Rattle.std.specs.Prelude.{ℕ, ◌+◌, ◌-◌, ◌%◌, ◌^◌, Bool, true, false, ◌&&◌, ◌||◌, not, ◌==◌, nat_lt, if◌then◌else◌, Option, Some, None}
use Rattle.std.specs.Int.{w32, trailing_zeros}
use Rattle.cc_words.specs.Words.{add, neg}
use Rattle.cc_words.specs.Operators.{apply_binary}
use Rattle.cc_words.specs.declared.operators.Binary as binary
use Rattle.cc_words.specs.declared.operators.Binary.TheVariants as operators
use Rattle.cc_select.specs.declared.step.WordOperator.{WordOperator}
use Rattle.cc_select.specs.declared.step.WordOperator.TheVariants.{Add, Sub, Shl, ShrS, ShrU, And, Or, Xor, Eq, Ne, LtS, LtU, LeS, LeU, GtS, GtU, GeS, GeU}

-- ---- what each does

-- the operator of Linear that an operator on a register and a word computes
abbrev pub operator_of : WordOperator → binary.Binary
operator_of Add = operators.Add
operator_of Sub = operators.Sub
operator_of Shl = operators.Shl
operator_of ShrS = operators.ShrS
operator_of ShrU = operators.ShrU
operator_of And = operators.And
operator_of Or = operators.Or
operator_of Xor = operators.Xor
operator_of Eq = operators.Eq
operator_of Ne = operators.Ne
operator_of LtS = operators.LtS
operator_of LtU = operators.LtU
operator_of LeS = operators.LeS
operator_of LeU = operators.LeU
-- the register's word is greater, so the word is less
operator_of GtS = operators.LtS
operator_of GtU = operators.LtU
operator_of GeS = operators.LeS
operator_of GeU = operators.LeU

-- whether the word is the left operand
abbrev pub is_exchanged : WordOperator → Bool
is_exchanged GtS = true
is_exchanged GtU = true
is_exchanged GeS = true
is_exchanged GeU = true
is_exchanged o = false

abbrev pub applied : (exchanged : Bool) → binary.Binary → (register word : ℕ) → Option ℕ
applied true o a w = apply_binary o w a
applied false o a w = apply_binary o a w

-- the operator's value for a register's word and a word
abbrev pub apply_immediate : WordOperator → (register word : ℕ) → Option ℕ
apply_immediate o a w = applied (is_exchanged o) (operator_of o) a w

-- ---- which words an operator can encode

-- whether the word fits in an instruction's immediate: -2048 to 2047 in two's complement
abbrev pub is_short : (word : ℕ) → Bool
is_short w = nat_lt ((w + 2 ^ 11) % 2 ^ 32) (2 ^ 12)

-- whether the operator's instructions can encode the word
abbrev pub has_word : WordOperator → (word : ℕ) → Bool
has_word Add w = is_short w
-- a difference is the sum with the word's negative
has_word Sub w = is_short (neg w)
has_word Shl w = nat_lt w 32
has_word ShrS w = nat_lt w 32
has_word ShrU w = nat_lt w 32
has_word And w = is_short w
has_word Or w = is_short w
has_word Xor w = is_short w
-- words are equal exactly if their difference is 0
has_word Eq w = is_short (neg w)
has_word Ne w = is_short (neg w)
has_word LtS w = is_short w
-- the machine sign-extends the immediate here too, before the unsigned comparison
has_word LtU w = is_short w
-- a word is at most w exactly if it is less than w + 1; 2^31 - 1 is the greatest signed word, and the word after it is not short
has_word LeS w = is_short (add w 1)
-- 2^32 - 1 is the greatest unsigned word, and the word after it is 0
has_word LeU w = is_short (add w 1) && not (w == 2 ^ 32 - 1)
-- "more than 0" is one instruction; "more than another word" would be two, as many as with the word in a register
has_word GtS w = w == 0
has_word GtU w = w == 0
-- a word is at least w exactly if it is not less than w
has_word GeS w = is_short w
has_word GeU w = is_short w

-- ---- powers of two

-- the place of a word's lowest 1; for a power of two, its exponent
abbrev pub exponent : (word : ℕ) → ℕ
exponent w = trailing_zeros w32 w

abbrev pub is_power : (word : ℕ) → Bool
is_power w = w == 2 ^ exponent w

-- ---- which operators have a form

-- an operator on a register and a word, and the word
abbrev pub Form : Type 0
Form = WordOperator × ℕ

abbrev pub if_power : (word : ℕ) → Form → Option Form
if_power w form = if is_power w then Some form else None

-- the form with the word on the right; if the word is 2^k, a product is a shift to the left by k, an unsigned quotient a shift to the right
-- by k, and an unsigned remainder a mask of the k lowest bits
abbrev pub immediate_of : binary.Binary → (word : ℕ) → Option Form
immediate_of operators.Add w = Some (Add, w)
immediate_of operators.Sub w = Some (Sub, w)
immediate_of operators.Shl w = Some (Shl, w)
immediate_of operators.ShrS w = Some (ShrS, w)
immediate_of operators.ShrU w = Some (ShrU, w)
immediate_of operators.And w = Some (And, w)
immediate_of operators.Or w = Some (Or, w)
immediate_of operators.Xor w = Some (Xor, w)
immediate_of operators.Eq w = Some (Eq, w)
immediate_of operators.Ne w = Some (Ne, w)
immediate_of operators.LtS w = Some (LtS, w)
immediate_of operators.LtU w = Some (LtU, w)
immediate_of operators.LeS w = Some (LeS, w)
immediate_of operators.LeU w = Some (LeU, w)
immediate_of operators.Mul w = if_power w (Shl, exponent w)
immediate_of operators.DivU w = if_power w (ShrU, exponent w)
immediate_of operators.RemU w = if_power w (And, w - 1)
immediate_of operator w = None

-- the form with the word on the left: as on the right if the order of operands makes no difference; "the word is less than the register's"
-- is "the register's is more than the word"
abbrev pub immediate_of_left : binary.Binary → (word : ℕ) → Option Form
immediate_of_left operators.Add w = Some (Add, w)
immediate_of_left operators.And w = Some (And, w)
immediate_of_left operators.Or w = Some (Or, w)
immediate_of_left operators.Xor w = Some (Xor, w)
immediate_of_left operators.Eq w = Some (Eq, w)
immediate_of_left operators.Ne w = Some (Ne, w)
immediate_of_left operators.LtS w = Some (GtS, w)
immediate_of_left operators.LtU w = Some (GtU, w)
immediate_of_left operators.LeS w = Some (GeS, w)
immediate_of_left operators.LeU w = Some (GeU, w)
immediate_of_left operators.Mul w = if_power w (Shl, exponent w)
immediate_of_left operator w = None

-- whether the operator compares: its value is 1 or 0, and there is a branch for it
abbrev pub is_comparison : binary.Binary → Bool
is_comparison operators.Eq = true
is_comparison operators.Ne = true
is_comparison operators.LtS = true
is_comparison operators.LtU = true
is_comparison operators.LeS = true
is_comparison operators.LeU = true
is_comparison o = false

-- whether a branch on a comparison with the word needs fewer instructions than the comparison and a branch on its value: one if the
-- comparison is with 0, and for others two instead of three
abbrev pub gains : WordOperator → (word : ℕ) → Bool
gains Eq w = true
gains Ne w = true
gains GeS w = true
gains GeU w = true
gains GtS w = true
gains GtU w = true
gains LtS w = (w == 0) || (w == 1)
gains LtU w = w == 1
gains LeS w = (w == 0) || (w == 2 ^ 32 - 1)
gains LeU w = w == 0
gains o w = false
