-- The operators of the intermediate languages, three on one word and nineteen on two: their values, and their names in a listing.
use Rattle.std.specs.Prelude.{ℕ, List, Option, Some, codes}
use Rattle.cc_words.specs.declared.operators.Unary.{Unary}
use Rattle.cc_words.specs.declared.operators.Unary.TheVariants.{Neg, Complement, IsZero}
use Rattle.cc_words.specs.declared.operators.Binary.{Binary}
use Rattle.cc_words.specs.declared.operators.Binary.TheVariants.{Add, Sub, Mul, DivS, DivU, RemS, RemU, Shl, ShrS, ShrU, And, Or, Xor, Eq, Ne, LtS, LtU, LeS, LeU}
use Rattle.cc_words.specs.Words.{add, sub, mul, neg, eq, ne, lt_s, le_s, lt_u, le_u, is_zero, div_s, rem_s, div_u, rem_u, shl, shr_s, shr_u, and, or, xor, complement}

-- the value of an operator on one word
abbrev pub apply_unary : Unary → ℕ → ℕ
apply_unary Neg w = neg w
apply_unary Complement w = complement w
apply_unary IsZero w = is_zero w

-- the value of an operator on two words, or None if it has none
-- ORDER Binary
abbrev pub apply_binary : Binary → ℕ → ℕ → Option ℕ
apply_binary Add a b = Some (add a b)
apply_binary Sub a b = Some (sub a b)
apply_binary Mul a b = Some (mul a b)
apply_binary DivS a b = div_s a b
apply_binary DivU a b = div_u a b
apply_binary RemS a b = rem_s a b
apply_binary RemU a b = rem_u a b
apply_binary Shl a b = shl a b
apply_binary ShrS a b = shr_s a b
apply_binary ShrU a b = shr_u a b
apply_binary And a b = Some (and a b)
apply_binary Or a b = Some (or a b)
apply_binary Xor a b = Some (xor a b)
apply_binary Eq a b = Some (eq a b)
apply_binary Ne a b = Some (ne a b)
apply_binary LtS a b = Some (lt_s a b)
apply_binary LtU a b = Some (lt_u a b)
apply_binary LeS a b = Some (le_s a b)
apply_binary LeU a b = Some (le_u a b)

-- the name of an operator on one word
abbrev pub unary_text : Unary → List ℕ
unary_text Neg = codes "neg"
unary_text Complement = codes "complement"
unary_text IsZero = codes "is_zero"

-- the name of an operator on two words
-- ORDER Binary
abbrev pub binary_text : Binary → List ℕ
binary_text Add = codes "add"
binary_text Sub = codes "sub"
binary_text Mul = codes "mul"
binary_text DivS = codes "div_s"
binary_text DivU = codes "div_u"
binary_text RemS = codes "rem_s"
binary_text RemU = codes "rem_u"
binary_text Shl = codes "shl"
binary_text ShrS = codes "shr_s"
binary_text ShrU = codes "shr_u"
binary_text And = codes "and"
binary_text Or = codes "or"
binary_text Xor = codes "xor"
binary_text Eq = codes "eq"
binary_text Ne = codes "ne"
binary_text LtS = codes "lt_s"
binary_text LtU = codes "lt_u"
binary_text LeS = codes "le_s"
binary_text LeU = codes "le_u"
