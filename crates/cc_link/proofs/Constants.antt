-- The elements of a spelled unit's objects are in the range of their widths: each number that a text spells is a word, what is
-- computed from words is a word, and bytes keep eight bits.
use Rattle.std.proofs.Common.{◌≡◌, ℕ, zero, suc, ◌+◌, ◌-◌, ◌^◌, ◌<◌, ◌≤◌, Bool, true, false, ◌&&◌, ◌||◌, not, nat_le, ◌==◌, if◌then◌else◌, List, [], ◌∷◌, ◌++◌, length, map, replicate, Option, Some, None, unwrap_or, option_map, refl, sym, subst, arith, ◌%◌, inl, inr}
use Rattle.std.proofs.lemmas.Bool.{leb-true}
use Rattle.cc_words.specs.internal.Word.{IsWord}
use Rattle.cc_words.proofs.Laws.{IsWord-add, IsWord-sub, IsWord-mul, IsWord-neg, IsWord-truth_value, IsWord-eq, IsWord-ne, IsWord-lt_s, IsWord-le_s, IsWord-lt_u, IsWord-le_u, IsWord-is_zero, IsWord-div_s, IsWord-rem_s, IsWord-div_u, IsWord-rem_u, IsWord-shl, IsWord-shr_s, IsWord-shr_u, IsWord-and, IsWord-or, IsWord-xor, IsWord-complement}
use Rattle.cc_tokens.specs.declared.scalar.Scalar.{Scalar}
use Rattle.cc_tokens.specs.declared.scalar.Scalar.TheVariants.{Int, Unsigned}
use Rattle.cc_tokens.specs.declared.token.TokenKind.{TokenKind}
use Rattle.cc_tokens.specs.declared.token.TokenKind.TheVariants as kind
use Rattle.cc_tokens.specs.Constant.{digits_value, type_of_value}
use Rattle.cc_tokens.specs.Token.{Lexeme}
use Rattle.cc_tokens.specs.Tokens.{TextPiece, blank, comment, token, IsCut, SpellsToken, tokens_of, IsTokens}
use Rattle.cc_ast.specs.declared.ast.UnaryOperator.{UnaryOperator}
use Rattle.cc_ast.specs.declared.ast.UnaryOperator.TheVariants.{Plus, Minus, Complement, Not}
use Rattle.cc_ast.specs.declared.ast.BinaryOperator.{BinaryOperator}
use Rattle.cc_ast.specs.declared.ast.BinaryOperator.TheVariants.{Multiply, Divide, Remainder, Add, Subtract, ShiftLeft, ShiftRight, Less, Greater, LessOrEqual, GreaterOrEqual, Equal, NotEqual, And, Xor, Or, LogicalAnd, LogicalOr}
use Rattle.cc_ast.specs.Tree.{Expr, Number, Variable, Element, Call, Parenthesised, Unary, Cast, Binary, Conditional, ConstantExpr, Object, Single, Array, Bytes, External, Declaration, Definition, Objects}
use Rattle.cc_ast.specs.Grammar.{Measured, outside, full_after, identifier, plain_tokens, SpellsExpression, SpellsConstantExpr, SpellsRow, SpellsList, SpellsObject, SpellsByteArray, SpellsExternal, SpellsExternals, SpellsUnit}
use Rattle.cc_ast.specs.Parse.{SpellsText}
use Rattle.cc_types.specs.Operators.{unary_word, binary_word, decided, is_true, working_type}
use Rattle.cc_types.specs.Types.{is_constant, decided_or, with_word, value_type, constant_value, array_elements, object_width, initial_word, zeros_behind, initial_words}
use Rattle.cc_types.specs.Limits.{objects}
use Rattle.cc_link.specs.internal.Packing.{AreBytes}
use Rattle.cc_link.proofs.Laying.{AreKept}
use Rattle.cc_link.proofs.Sizes.{AllKept}
use Rattle.cc_simulation.specs.Behavior.{AreWords}

-- ---- the numbers of a text

abbrev IsNumberWord : TokenKind → Type 0
IsNumberWord (kind.Number t n) = n < 2 ^ 32
IsNumberWord k = Unit {0}

abbrev HasType : Option Scalar → Type 0
HasType None = ⊥
HasType (Some t) = Unit {0}

value_word : (base : ℕ) (suffixed : Bool) (value : ℕ) (t : Scalar) → type_of_value base suffixed value ≡ Some t → value < 2 ^ 32
value_word base suffixed value t e = by (not suffixed) (nat_le value 2147483647) (suffixed || not (base == 10)) (nat_le value 4294967295) (λ is. let le : value ≤ 2147483647 = leb-true value 2147483647 is in omega arith) (λ is. let le : value ≤ 4294967295 = leb-true value 4294967295 is in omega arith) (subst HasType (sym e) tt)
  where
    by : (a b c d : Bool) → (b ≡ true → value < 2 ^ 32) → (d ≡ true → value < 2 ^ 32) → HasType (if a && b then Some Int else (if c && d then Some Unsigned else None)) → value < 2 ^ 32
    by true true c d f g h = f refl
    by true false true true f g h = g refl
    by true false true false f g h = absurd h
    by true false false d f g h = absurd h
    by false b true true f g h = g refl
    by false b true false f g h = absurd h
    by false b false d f g h = absurd h

kind_word : (k : TokenKind) (text : List ℕ) → SpellsToken k text → IsNumberWord k
kind_word kind.Identifier text h = tt
kind_word (kind.Keyword w) text h = tt
kind_word (kind.Number t n) text h = subst (λ (v : ℕ). v < 2 ^ 32) (sym h.3) (value_word h.0.base h.0.suffixed (digits_value h.0) t h.2)
kind_word (kind.Punctuator p) text h = tt

abbrev AreNumbersWords : List Lexeme → Type 0
AreNumbersWords [] = Unit {0}
AreNumbersWords (x ∷ xs) = IsNumberWord x.kind × AreNumbersWords xs

cut_words : (ps : List TextPiece) (at : ℕ) (text rest : List ℕ) → IsCut ps text rest → AreNumbersWords (tokens_of at ps)
cut_words [] at text rest h = tt
cut_words (blank b ∷ ps) at text rest h = cut_words ps (at + 1) h.0 rest h.3
cut_words (comment c ∷ ps) at text rest h = cut_words ps (at + length c) h.0 rest h.3
cut_words (token k x ∷ ps) at text rest h = (kind_word k x h.2.2, cut_words ps (at + length x) h.0 rest h.3)

text_words : (text : List ℕ) (ts : List Lexeme) → IsTokens text ts → AreNumbersWords ts
text_words text ts h = subst AreNumbersWords (sym h.tokens) (cut_words h.pieces 0 text [] h.cut)

prefix : (xs ys : List Lexeme) → AreNumbersWords (xs ++ ys) → AreNumbersWords xs
prefix [] ys h = tt
prefix (x ∷ xs) ys h = (h.0, prefix xs ys h.1)

back : (xs ys : List Lexeme) → AreNumbersWords (xs ++ ys) → AreNumbersWords ys
back [] ys h = h
back (x ∷ xs) ys h = back xs ys h.1

-- ---- expressions

some_word : (v w : ℕ) → Some v ≡ Some w → IsWord v → IsWord w
some_word v w e h = let s : v ≡ w = let f : ◌≡◌ {A = Option ℕ} (Some v) (Some w) = e in cc in subst IsWord s h

none_word : (w : ℕ) → ◌≡◌ {A = Option ℕ} None (Some w) → IsWord w
none_word w e = absurd (let f : ◌≡◌ {A = Option ℕ} None (Some w) = e in cc)

with_some : (o : Option ℕ) (go : ℕ → Option ℕ) (w : ℕ) → with_word o go ≡ Some w → (x : ℕ) × (o ≡ Some x) × (go x ≡ Some w)
with_some None go w e = absurd (let f : ◌≡◌ {A = Option ℕ} None (Some w) = e in cc)
with_some (Some x) go w e = (x, refl, e)

unary_is : (op : UnaryOperator) (a : ℕ) → IsWord a → IsWord (unary_word op a)
unary_is Plus a h = h
unary_is Minus a h = IsWord-neg a
unary_is Complement a h = IsWord-complement a
unary_is Not a h = IsWord-is_zero a

binary_is : (op : BinaryOperator) (t : Scalar) (a b w : ℕ) → IsWord a → IsWord b → binary_word op t a b ≡ Some w → IsWord w
binary_is Multiply t a b w h k e = some_word _ w e (IsWord-mul a b)
binary_is Divide Int a b w h k e = IsWord-div_s a b w e
binary_is Divide Unsigned a b w h k e = IsWord-div_u a b w h e
binary_is Remainder Int a b w h k e = IsWord-rem_s a b w e
binary_is Remainder Unsigned a b w h k e = IsWord-rem_u a b w h e
binary_is Add t a b w h k e = some_word _ w e (IsWord-add a b)
binary_is Subtract t a b w h k e = some_word _ w e (IsWord-sub a b)
binary_is ShiftLeft t a b w h k e = IsWord-shl a b w e
binary_is ShiftRight Int a b w h k e = IsWord-shr_s a b w e
binary_is ShiftRight Unsigned a b w h k e = IsWord-shr_u a b w h e
binary_is Less Int a b w h k e = some_word _ w e (IsWord-lt_s a b)
binary_is Less Unsigned a b w h k e = some_word _ w e (IsWord-lt_u a b)
binary_is Greater Int a b w h k e = some_word _ w e (IsWord-lt_s b a)
binary_is Greater Unsigned a b w h k e = some_word _ w e (IsWord-lt_u b a)
binary_is LessOrEqual Int a b w h k e = some_word _ w e (IsWord-le_s a b)
binary_is LessOrEqual Unsigned a b w h k e = some_word _ w e (IsWord-le_u a b)
binary_is GreaterOrEqual Int a b w h k e = some_word _ w e (IsWord-le_s b a)
binary_is GreaterOrEqual Unsigned a b w h k e = some_word _ w e (IsWord-le_u b a)
binary_is Equal t a b w h k e = some_word _ w e (IsWord-eq a b)
binary_is NotEqual t a b w h k e = some_word _ w e (IsWord-ne a b)
binary_is And t a b w h k e = some_word _ w e (IsWord-and a b h)
binary_is Xor t a b w h k e = some_word _ w e (IsWord-xor a b h k)
binary_is Or t a b w h k e = some_word _ w e (IsWord-or a b h k)
binary_is LogicalAnd t a b w h k e = some_word _ w e (IsWord-truth_value (is_true a && is_true b))
binary_is LogicalOr t a b w h k e = some_word _ w e (IsWord-truth_value (is_true a || is_true b))

-- the value of `&&` or `||` is a word, if the right operand is a word wherever it decides
decided_is : (op : BinaryOperator) (a w : ℕ) (rest : Option ℕ) → (rest ≡ Some w → IsWord w) → decided_or (decided op a) rest ≡ Some w → IsWord w
decided_is LogicalAnd a w rest f e = by (is_true a) e
  where
    by : (b : Bool) → decided_or (if b then None else Some 0) rest ≡ Some w → IsWord w
    by true e = f e
    by false e = some_word 0 w e (omega arith)
decided_is LogicalOr a w rest f e = by (is_true a) e
  where
    by : (b : Bool) → decided_or (if b then Some 1 else None) rest ≡ Some w → IsWord w
    by true e = some_word 1 w e (omega arith)
    by false e = f e
decided_is op a w rest f e = f e

mapped_is : (op : UnaryOperator) (o : Option ℕ) (w : ℕ) → ((x : ℕ) → o ≡ Some x → IsWord x) → option_map (unary_word op) o ≡ Some w → IsWord w
mapped_is op None w f e = none_word w e
mapped_is op (Some x) w f e = some_word _ w e (unary_is op x (f x refl))

arm_is : (b : Bool) (x y : Option ℕ) (w : ℕ) → (x ≡ Some w → IsWord w) → (y ≡ Some w → IsWord w) → (if b then x else y) ≡ Some w → IsWord w
arm_is true x y w f g e = f e
arm_is false x y w f g e = g e

value_is : (e : Expr) (level : ℕ) (ts : List Lexeme) → SpellsExpression level ts e → AreNumbersWords ts → (w : ℕ) → constant_value e ≡ Some w → IsWord w
value_is (Number t n) level ts h are w e = let all : AreNumbersWords (h.0 ∷ []) = subst AreNumbersWords h.2 are in some_word n w e (subst IsNumberWord h.1 all.0)
value_is (Variable x) level ts h are w e = none_word w e
value_is (Element x i) level ts h are w e = none_word w e
value_is (Call f es) level ts h are w e = none_word w e
value_is (Parenthesised a) level ts h are w e =
    let all : AreNumbersWords (h.0 ∷ h.2 ++ h.1 ∷ []) = subst AreNumbersWords h.6 are in value_is a 1 h.2 h.5 (prefix h.2 (h.1 ∷ []) all.1) w e
value_is (Unary op a) level ts h are w e =
    let all : AreNumbersWords (h.0 ∷ h.1) = subst AreNumbersWords h.4 are in mapped_is op (constant_value a) w (λ x f. value_is a 12 h.1 h.3 all.1 x f) e
value_is (Cast t a) level ts h are w e =
    let all : AreNumbersWords (h.0 ∷ h.2 ++ h.1 ∷ h.3) = subst AreNumbersWords h.8 are in value_is a 12 h.3 h.7 (back h.2 (h.1 ∷ h.3) all.1).1 w e
value_is (Binary op a b) level ts h are w e =
    let all : AreNumbersWords (h.1 ++ h.0 ∷ h.2) = subst AreNumbersWords h.7 are in
    let x = with_some (constant_value a) (λ v. decided_or (decided op v) (with_word (constant_value b) (λ y. binary_word op (working_type op (value_type [] a) (value_type [] b)) v y))) w e in
    let left : IsWord x.0 = value_is a _ h.1 h.5 (prefix h.1 (h.0 ∷ h.2) all) x.0 x.1 in
    decided_is op x.0 w (with_word (constant_value b) (λ y. binary_word op (working_type op (value_type [] a) (value_type [] b)) x.0 y))
    (λ f. let y = with_some (constant_value b) (λ v. binary_word op (working_type op (value_type [] a) (value_type [] b)) x.0 v) w f in
    binary_is op (working_type op (value_type [] a) (value_type [] b)) x.0 y.0 w left (value_is b _ h.2 h.6 (back h.1 (h.0 ∷ h.2) all).1 y.0 y.1) y.2) x.2
value_is (Conditional c a b) level ts h are w e =
    let all : AreNumbersWords (h.2 ++ (h.0 ∷ h.3 ++ h.1 ∷ h.4)) = subst AreNumbersWords h.11 are in
    let rest : AreNumbersWords (h.3 ++ h.1 ∷ h.4) = (back h.2 (h.0 ∷ h.3 ++ h.1 ∷ h.4) all).1 in
    let x = with_some (constant_value c) (λ v. if is_true v then constant_value a else constant_value b) w e in
    arm_is (is_true x.0) (constant_value a) (constant_value b) w (value_is a 1 h.3 h.9 (prefix h.3 (h.1 ∷ h.4) rest) w) (value_is b 1 h.4 h.10 (back h.3 (h.1 ∷ h.4) rest).1 w) x.2

-- ---- objects

abbrev Have : List Measured → Type 0
Have ts = AreNumbersWords (plain_tokens ts)

prefix_of : (xs ys : List Measured) → Have (xs ++ ys) → Have xs
prefix_of [] ys h = tt
prefix_of (x ∷ xs) ys h = (h.0, prefix_of xs ys h.1)

back_of : (xs ys : List Measured) → Have (xs ++ ys) → Have ys
back_of [] ys h = h
back_of (x ∷ xs) ys h = back_of xs ys h.1

full_words : (n : ℕ) (xs : List Lexeme) → Have (full_after n xs) → AreNumbersWords xs
full_words n [] h = tt
full_words n (x ∷ xs) h = (h.0, full_words (suc n) xs h.1)

only_constant : (b : Bool) (o : Option ℕ) → ((w : ℕ) → o ≡ Some w → IsWord w) → IsWord (unwrap_or (if b then o else None) 0)
only_constant true None f = omega arith
only_constant true (Some w) f = f w refl
only_constant false o f = omega arith

constant_is : (c : ConstantExpr) (ts : List Measured) → SpellsConstantExpr ts c → Have ts → IsWord (initial_word (Some c))
constant_is c ts h are = only_constant (is_constant c.expr) (constant_value c.expr) (value_is c.expr 1 h.0 h.1 (full_words 0 h.0 (subst Have h.3 are)))

row_words : (vs : List ConstantExpr) (ts : List Measured) → SpellsRow SpellsConstantExpr ts vs → Have ts → AreWords (map (λ (c : ConstantExpr). initial_word (Some c)) vs)
row_words [] ts h are = tt
row_words (v ∷ []) ts h are = (constant_is v ts h are, tt)
row_words (v ∷ w ∷ rest) ts h are =
    let all : Have (h.1 ++ outside h.0 ∷ h.2) = subst Have h.6 are in
    (constant_is v h.1 h.4 (prefix_of h.1 (outside h.0 ∷ h.2) all), row_words (w ∷ rest) h.2 h.5 (back_of h.1 (outside h.0 ∷ h.2) all).1)

list_words : (vs : List ConstantExpr) (ts : List Measured) → SpellsList ts vs → Have ts → AreWords (map (λ (c : ConstantExpr). initial_word (Some c)) vs)
list_words [] ts h are = tt
list_words (v ∷ vs) ts h are =
    let all : Have (outside h.0 ∷ outside h.1 ∷ h.3 ++ (map outside h.4 ++ outside h.2 ∷ [])) = subst Have h.10 are in
    row_words (v ∷ vs) h.3 h.8 (prefix_of h.3 (map outside h.4 ++ outside h.2 ∷ []) all.1.1)

append_words : (xs ys : List ℕ) → AreWords xs → AreWords ys → AreWords (xs ++ ys)
append_words [] ys h k = k
append_words (x ∷ xs) ys h k = (h.0, append_words xs ys h.1 k)

zero_words : (n : ℕ) → AreWords (replicate n 0)
zero_words zero = tt
zero_words (suc n) = (omega arith, zero_words n)

object_is : (o : Object) (ts : List Measured) → SpellsObject ts o → Have ts → AreKept (object_width o) (initial_words o)
object_is (Single x None) ts h are = (omega arith, tt)
object_is (Single x (Some c)) ts h are = let all : Have (outside (identifier x) ∷ outside h.0 ∷ h.1) = subst Have h.4 are in (constant_is c h.1 h.3 all.1.1, tt)
object_is (Array x n vs) ts h are =
    let all : Have (outside (identifier x) ∷ outside h.0 ∷ h.2 ++ outside h.1 ∷ h.3) = subst Have h.8 are in
    append_words (map (λ (c : ConstantExpr). initial_word (Some c)) vs) (zeros_behind n vs) (list_words vs h.3 h.7 (back_of h.2 (outside h.1 ∷ h.3) all.1.1).1) (zero_words _)
object_is (Bytes x n vs) ts h are = absurd h

objects_are : (os : List Object) (ts : List Measured) → SpellsRow SpellsObject ts os → Have ts → AllKept os
objects_are [] ts h are = tt
objects_are (o ∷ []) ts h are = (object_is o ts h are, tt)
objects_are (o ∷ p ∷ rest) ts h are =
    let all : Have (h.1 ++ outside h.0 ∷ h.2) = subst Have h.6 are in
    (object_is o h.1 h.4 (prefix_of h.1 (outside h.0 ∷ h.2) all), objects_are (p ∷ rest) h.2 h.5 (back_of h.1 (outside h.0 ∷ h.2) all).1)

-- the elements of an array of `unsigned char` keep eight bits, whatever its initialisers are
pub byte_list : (vs : List ConstantExpr) (zeros : ℕ) → AreBytes (map (λ (c : ConstantExpr). initial_word (Some c) % 2 ^ 8) vs ++ replicate zeros 0)
byte_list [] zero = tt
byte_list [] (suc zeros) = (omega arith, byte_list [] zeros)
byte_list (v ∷ vs) zeros = (omega arith, byte_list vs zeros)

byte_array_is : (o : Object) (ts : List Measured) → SpellsByteArray ts o → AreKept (object_width o) (initial_words o)
byte_array_is (Single x e) ts h = absurd h
byte_array_is (Array x n vs) ts h = absurd h
byte_array_is (Bytes x n vs) ts h = byte_list vs (array_elements n vs - length vs)

byte_arrays_are : (os : List Object) (ts : List Measured) → SpellsRow SpellsByteArray ts os → AllKept os
byte_arrays_are [] ts h = tt
byte_arrays_are (o ∷ []) ts h = (byte_array_is o ts h, tt)
byte_arrays_are (o ∷ p ∷ rest) ts h = (byte_array_is o h.1 h.4, byte_arrays_are (p ∷ rest) h.2 h.5)

kept_append : (os ps : List Object) → AllKept os → AllKept ps → AllKept (os ++ ps)
kept_append [] ps h k = k
kept_append (o ∷ os) ps h k = (h.0, kept_append os ps h.1 k)

declared_are : (t : Scalar) (os : List Object) (ts : List Measured) → SpellsExternal ts (Objects t os) → Have ts → AllKept os
declared_are t os ts (inl h) are =
    let one : Have (map outside h.0 ++ (h.1 ++ outside h.2 ∷ [])) = subst Have h.6 are in
    objects_are os h.1 h.4 (prefix_of h.1 (outside h.2 ∷ []) (back_of (map outside h.0) (h.1 ++ outside h.2 ∷ []) one))
declared_are t os ts (inr (e, h)) are = byte_arrays_are os h.1 h.4

externals_are : (es : List External) (ts : List Measured) → SpellsExternals ts es → Have ts → AllKept (objects es)
externals_are [] ts h are = tt
externals_are (Declaration s ∷ es) ts h are = externals_are es h.1 h.3 (back_of h.0 h.1 (subst Have h.4 are))
externals_are (Definition s body ∷ es) ts h are = externals_are es h.1 h.3 (back_of h.0 h.1 (subst Have h.4 are))
externals_are (Objects t os ∷ es) ts h are =
    let all : Have (h.0 ++ h.1) = subst Have h.4 are in
    kept_append os (objects es) (declared_are t os h.0 h.2 (prefix_of h.0 h.1 all)) (externals_are es h.1 h.3 (back_of h.0 h.1 all))

unit_kept : (es : List External) (ts : List Measured) → SpellsUnit ts es → Have ts → AllKept (objects es)
unit_kept [] ts h are = absurd h
unit_kept (e ∷ es) ts h are = externals_are (e ∷ es) ts h are

-- the elements of the objects are in the range of their widths
pub constants_are_kept : (text : List ℕ) (tree : List External) → SpellsText text tree → AllKept (objects tree)
constants_are_kept text tree h = unit_kept tree h.spelled.0 h.spelled.1 (subst AreNumbersWords (sym h.spelled.3) (text_words text h.tokens h.are))
