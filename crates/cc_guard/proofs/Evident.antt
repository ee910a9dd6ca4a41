-- What an expression's form shows about its value: a bound, or that it can be a divisor. An operation on it then evidently
-- has a value.
use Rattle.std.proofs.Common.{◌≡◌, ℕ, zero, suc, ◌+◌, ◌-◌, ◌*◌, ◌/◌, ◌^◌, ◌%◌, ◌<◌, ◌≤◌, Bool, true, false, ◌==◌, nat_lt, List, [], ◌∷◌, ◌++◌, inl, inr, Option, Some, None, refl, sym, ap, ◌∙◌, subst, mod-lt, arith, pos}
use Rattle.std.specs.Prelude.{if◌then◌else◌, not, ◌&&◌, ◌||◌, nat_le, int_lt, int_le, ◌-ℤ◌}
use Rattle.std.specs.Option.{option_or}
use Rattle.std.proofs.lemmas.Bool.Decides.{nat_tests, eqb_tells}
use Rattle.std.proofs.lemmas.Nat.{and_le_l, and_le_r}
use Rattle.std.proofs.Math.Nat.{mod-le, div-le_self, mul-le-mul}
use Rattle.cc_words.specs.declared.operators.Binary as two
use Rattle.cc_words.specs.declared.operators.Binary.TheVariants.{Add, Sub, Mul, DivS, DivU, RemS, RemU, Shl, ShrS, ShrU, And, Or, Xor, Eq, Ne, LtS, LtU, LeS, LeU}
use Rattle.cc_words.specs.Words.{truth_value, signed_value}
use Rattle.cc_words.specs.Operators.{apply_binary}
use Rattle.cc_simulation.specs.World.{World}
use Rattle.cc_cminor_language.specs.Cminor.{Expression, Constant, Local, Unary, Binary, Load, Variables, value, then_value}
use Rattle.cc_guard.specs.declared.known.Limit.{Limit}
use Rattle.cc_guard.specs.Guard.{least, if_word, most_sum, most_product, below_divisor, most_if, most_in, most, is_below, is_divisor, is_signed_divisor, always, less_one, told_of, told_less, told_most, if_small, told, with_told}

-- ---- the greatest word

abbrev pub Within : Option ℕ → ℕ → Type 0
Within None w = Unit {0}
Within (Some m) w = w ≤ m

within_least : (a b : Option ℕ) (w : ℕ) → Within a w → Within b w → Within (least a b) w
within_least None b w p q = q
within_least (Some m) None w p q = p
within_least (Some m) (Some k) w p q = let x : w ≤ m = p in let y : w ≤ k = q in omega arith

within_less : (a : Option ℕ) (v w : ℕ) → w ≤ v → Within a v → Within a w
within_less None v w le p = tt
within_less (Some m) v w le p = let x : v ≤ m = p in omega arith

-- the sum and the product of two bounds are bounds
word_within : (m w : ℕ) → w ≤ m → Within (if_word m) w
word_within m w le = by (nat_lt m (2 ^ 32))
  where
    by : (b : Bool) → Within (if b then Some m else None) w
    by true = le
    by false = tt

sum_within : (m k : Option ℕ) (x y w : ℕ) → w ≤ x + y → Within m x → Within k y → Within (most_sum m k) w
sum_within None k x y w le p q = tt
sum_within (Some m) None x y w le p q = tt
sum_within (Some m) (Some k) x y w le p q = let u : x ≤ m = p in let v : y ≤ k = q in word_within (m + k) w (omega arith)

product_within : (m k : Option ℕ) (x y w : ℕ) → w ≤ x * y → Within m x → Within k y → Within (most_product m k) w
product_within None k x y w le p q = tt
product_within (Some m) None x y w le p q = tt
product_within (Some m) (Some k) x y w le p q = let u : x * y ≤ m * k = mul-le-mul p q in word_within (m * k) w (omega arith)

-- if there is a value, it is v
when_false : (b : Bool) (v w : ℕ) → (if b then None else Some v) ≡ Some w → v ≡ w
when_false true v w e = absurd (let f : None ≡ Some w = e in cc)
when_false false v w e = (let f : Some v ≡ Some w = e in cc)

when_true : (b : Bool) (v w : ℕ) → (if b then Some v else None) ≡ Some w → v ≡ w
when_true true v w e = (let f : Some v ≡ Some w = e in cc)
when_true false v w e = absurd (let f : None ≡ Some w = e in cc)

truth_small : (b : Bool) (w : ℕ) → Some (truth_value b) ≡ Some w → w ≤ 1
truth_small true w e = let f : 1 ≡ w = (let g : Some 1 ≡ Some w = e in cc) in omega arith
truth_small false w e = let f : 0 ≡ w = (let g : Some 0 ≡ Some w = e in cc) in omega arith

-- both operands have values, from which the operation computes w
record Operands (op : two.Binary) (a b : Option ℕ) (w : ℕ) : Type 0 where
  left : ℕ
  right : ℕ
  is_left : a ≡ Some left
  is_right : b ≡ Some right
  gives : apply_binary op left right ≡ Some w

operands : (op : two.Binary) (a b : Option ℕ) (w : ℕ) → then_value a (λ x. then_value b (λ y. apply_binary op x y)) ≡ Some w → Operands op a b w
operands op None b w e = absurd (let f : None ≡ Some w = e in cc)
operands op (Some x) None w e = absurd (let f : None ≡ Some w = e in cc)
operands op (Some x) (Some y) w e = record { left = x; right = y; is_left = refl; is_right = refl; gives = e }

some_is : (v w : ℕ) → Some v ≡ Some w → v ≡ w
some_is v w e = cc

given : (b : Bool) (v w : ℕ) → b ≡ false → (if b then None else Some v) ≡ Some w → v ≡ w
given true v w e f = absurd (let g : true ≡ false = e in cc)
given false v w e f = some_is v w f

-- the known bounds hold of the variables
abbrev pub Holds : List Limit → Variables → Type 0
Holds [] l = Unit {0}
Holds (k ∷ ks) l = (l k.variable ≤ k.most) × Holds ks l

within_or : (a b : Option ℕ) (w : ℕ) → Within a w → Within b w → Within (option_or a b) w
within_or None b w p q = q
within_or (Some m) b w p q = p

in_limit : (l : Variables) (k : Limit) (x : ℕ) → l k.variable ≤ k.most → Within (most_if (k.variable == x) k.most) (l x)
in_limit l k x p = elim (eqb_tells k.variable x) [
  | inl (e, same) ↦ subst (λ b. Within (most_if b k.most) (l x)) (sym e) (subst (λ y. l y ≤ k.most) same p)
  | inr (e, other) ↦ subst (λ b. Within (most_if b k.most) (l x)) (sym e) tt
]

pub in_limits : (l : Variables) (ks : List Limit) (x : ℕ) → Holds ks l → Within (most_in ks x) (l x)
in_limits l [] x p = tt
in_limits l (k ∷ ks) x p = within_or (most_in ks x) (most_if (k.variable == x) k.most) (l x) (in_limits l ks x p.1) (in_limit l k x p.0)

module _ (l : Variables) (h : World) where
  rem_within : (b : Expression) (x y w : ℕ) → value b l h ≡ Some y → apply_binary RemU x y ≡ Some w → Within (below_divisor b) w
  rem_within (Constant zero) x y w v e = tt
  rem_within (Constant (suc m)) x y w v e =
      let same : suc m ≡ y = some_is (suc m) y v in
      let f : (suc m == 0) ≡ false = grind (arith, nat_tests) in
      let is : x % suc m ≡ w = given (suc m == 0) (x % suc m) w f (subst (λ k. apply_binary RemU x k ≡ Some w) (sym same) e) in
      let pos : 0 < suc m = omega arith in
      let lt : x % suc m < suc m = mod-lt x pos in
      omega arith
  rem_within (Local z) x y w v e = tt
  rem_within (Unary op b) x y w v e = tt
  rem_within (Binary op a b) x y w v e = tt
  rem_within (Load width o b) x y w v e = tt

  within_binary : (ks : List Limit) (op : two.Binary) (a b : Expression) (w : ℕ) → Operands op (value a l h) (value b l h) w → ((x : ℕ) → value a l h ≡ Some x → Within (most ks a) x) → ((x : ℕ) → value b l h ≡ Some x → Within (most ks b) x) → Within (most ks (Binary op a b)) w
  within_binary ks And a b w p f g =
      let e = some_is _ w p.gives in
      within_least (most ks a) (most ks b) w
      (within_less (most ks a) p.left w (let le = and_le_l p.left p.right in omega arith) (f p.left p.is_left))
      (within_less (most ks b) p.right w (let le = and_le_r p.left p.right in omega arith) (g p.right p.is_right))
  within_binary ks RemU a b w p f g =
      let is = when_false (p.right == 0) (p.left % p.right) w p.gives in
      within_least (below_divisor b) (most ks a) w (rem_within b p.left p.right w p.is_right p.gives)
      (within_less (most ks a) p.left w (let le = mod-le p.left p.right in omega arith) (f p.left p.is_left))
  within_binary ks Eq a b w p f g = truth_small _ w p.gives
  within_binary ks Ne a b w p f g = truth_small _ w p.gives
  within_binary ks LtS a b w p f g = truth_small _ w p.gives
  within_binary ks LtU a b w p f g = truth_small _ w p.gives
  within_binary ks LeS a b w p f g = truth_small _ w p.gives
  within_binary ks LeU a b w p f g = truth_small _ w p.gives
  within_binary ks Add a b w p f g =
      let is = some_is _ w p.gives in
      sum_within (most ks a) (most ks b) p.left p.right w (let le = mod-le (p.left + p.right) (2 ^ 32) in omega arith) (f p.left p.is_left) (g p.right p.is_right)
  within_binary ks Sub a b w p f g = tt
  within_binary ks Mul a b w p f g =
      let is = some_is _ w p.gives in
      product_within (most ks a) (most ks b) p.left p.right w (subst (λ v. v ≤ p.left * p.right) is (mod-le (p.left * p.right) (2 ^ 32))) (f p.left p.is_left) (g p.right p.is_right)
  within_binary ks DivS a b w p f g = tt
  within_binary ks DivU a b w p f g =
      let is = when_false (p.right == 0) (p.left / p.right) w p.gives in
      within_less (most ks a) p.left w (subst (λ v. v ≤ p.left) is (div-le_self p.left p.right)) (f p.left p.is_left)
  within_binary ks RemS a b w p f g = tt
  within_binary ks Shl a b w p f g = tt
  within_binary ks ShrS a b w p f g = tt
  within_binary ks ShrU a b w p f g =
      let is = when_true (nat_lt p.right 32) (p.left / 2 ^ p.right) w p.gives in
      within_less (most ks a) p.left w (subst (λ v. v ≤ p.left) is (div-le_self p.left (2 ^ p.right))) (f p.left p.is_left)
  within_binary ks Or a b w p f g = tt
  within_binary ks Xor a b w p f g = tt

  pub within : (ks : List Limit) → Holds ks l → (e : Expression) (w : ℕ) → value e l h ≡ Some w → Within (most ks e) w
  within ks p (Constant v) w e = let same = some_is v w e in omega arith
  within ks p (Local x) w e = subst (λ v. Within (most_in ks x) v) (some_is (l x) w e) (in_limits l ks x p)
  within ks p (Unary op a) w e = tt
  within ks p (Binary op a b) w e = within_binary ks op a b w (operands op (value a l h) (value b l h) w e) (within ks p a) (within ks p b)
  within ks p (Load width o i) w e = tt

  below_by : (m : Option ℕ) (n w : ℕ) → is_below m n ≡ true → Within m w → w < n
  below_by None n w e p = absurd (let f : false ≡ true = e in cc)
  below_by (Some m) n w e p = let le : w ≤ m = p in let lt : m < n = grind (arith, nat_tests) in omega arith

  pub is_small : (ks : List Limit) → Holds ks l → (e : Expression) (n w : ℕ) → is_below (most ks e) n ≡ true → value e l h ≡ Some w → w < n
  is_small ks p e n w is v = below_by (most ks e) n w is (within ks p e w v)

  -- ---- what a condition shows

  abbrev pub HoldsOf : Option Limit → Type 0
  HoldsOf None = Unit {0}
  HoldsOf (Some k) = l k.variable ≤ k.most

  -- a condition is not 0 (true), or is 0 (false)
  abbrev pub IsWay : Bool → ℕ → Type 0
  IsWay true w = (v : ℕ) × (w ≡ suc v)
  IsWay false w = w ≡ 0

  way_is : (way b : Bool) (w : ℕ) → Some (truth_value b) ≡ Some w → IsWay way w → b ≡ way
  way_is true true w e i = refl
  way_is true false w e (v, i) = absurd (let f : 0 ≡ w = some_is 0 w e in let g : w ≡ suc v = i in omega arith)
  way_is false true w e i = absurd (let f : 1 ≡ w = some_is 1 w e in let g : w ≡ 0 = i in omega arith)
  way_is false false w e i = refl

  told_within : (a : Expression) (m : Option ℕ) (x : ℕ) → value a l h ≡ Some x → Within m x → HoldsOf (told_of a m)
  told_within (Local y) None x v p = tt
  told_within (Local y) (Some m) x v p = let same : l y ≡ x = some_is (l y) x v in let le : x ≤ m = p in let is : l y ≤ m = omega arith in is
  told_within (Constant w) m x v p = tt
  told_within (Unary op a) m x v p = tt
  told_within (Binary op a b) m x v p = tt
  told_within (Load width o i) m x v p = tt

  less_within : (m : Option ℕ) (x y : ℕ) → x < y → Within m y → Within (less_one m) x
  less_within None x y lt p = tt
  less_within (Some zero) x y lt p = tt
  less_within (Some (suc m)) x y lt p = let le : y ≤ suc m = p in let is : x ≤ m = omega arith in is

  less_told : (way : Bool) (a b : Expression) (m k : Option ℕ) (x y : ℕ) → value a l h ≡ Some x → value b l h ≡ Some y → Within m x → Within k y → nat_lt x y ≡ way → HoldsOf (told_less way a b m k)
  less_told true a b m k x y va vb p q e = let lt : x < y = grind (arith, nat_tests) in told_within a (less_one k) x va (less_within k x y lt q)
  less_told false a b m k x y va vb p q e = let le : y ≤ x = grind (arith, nat_tests) in told_within b m y vb (within_less m x y le p)

  most_told : (way : Bool) (a b : Expression) (m k : Option ℕ) (x y : ℕ) → value a l h ≡ Some x → value b l h ≡ Some y → Within m x → Within k y → nat_le x y ≡ way → HoldsOf (told_most way a b m k)
  most_told true a b m k x y va vb p q e = let le : x ≤ y = grind (arith, nat_tests) in told_within a k x va (within_less k y x le q)
  most_told false a b m k x y va vb p q e = let lt : y < x = grind (arith, nat_tests) in told_within b (less_one m) y vb (less_within m y x lt p)

  signed_small : (x : ℕ) → x < 2 ^ 31 → signed_value x ≡ pos x
  signed_small x lt = let e : nat_lt x (2 ^ 31) ≡ true = grind (arith, nat_tests) in ap (λ b. if b then pos x else (pos x -ℤ pos (2 ^ 32))) e

  less_small : (m k : Option ℕ) (x y : ℕ) → is_below m (2 ^ 31) ≡ true → is_below k (2 ^ 31) ≡ true → Within m x → Within k y → int_lt (signed_value x) (signed_value y) ≡ nat_lt x y
  less_small m k x y u v p q =
      ap (λ z. int_lt z (signed_value y)) (signed_small x (below_by m (2 ^ 31) x u p)) ∙ ap (λ z. int_lt (pos x) z) (signed_small y (below_by k (2 ^ 31) y v q))

  most_small : (m k : Option ℕ) (x y : ℕ) → is_below m (2 ^ 31) ≡ true → is_below k (2 ^ 31) ≡ true → Within m x → Within k y → int_le (signed_value x) (signed_value y) ≡ nat_le x y
  most_small m k x y u v p q =
      ap (λ z. int_le z (signed_value y)) (signed_small x (below_by m (2 ^ 31) x u p)) ∙ ap (λ z. int_le (pos x) z) (signed_small y (below_by k (2 ^ 31) y v q))

  small_told : (m k : Option ℕ) (told : Option Limit) → (is_below m (2 ^ 31) ≡ true → is_below k (2 ^ 31) ≡ true → HoldsOf told) → HoldsOf (if_small m k told)
  small_told m k told f = by (is_below m (2 ^ 31)) (is_below k (2 ^ 31)) f
    where
      by : (b c : Bool) → (b ≡ true → c ≡ true → HoldsOf told) → HoldsOf (if b && c then told else None)
      by true true g = g refl refl
      by true false g = tt
      by false c g = tt

  told_binary : (ks : List Limit) (way : Bool) (op : two.Binary) (a b : Expression) (w : ℕ) → Operands op (value a l h) (value b l h) w → IsWay way w → ((x : ℕ) → value a l h ≡ Some x → Within (most ks a) x) → ((x : ℕ) → value b l h ≡ Some x → Within (most ks b) x)
      → HoldsOf (told ks way (Binary op a b))
  told_binary ks way LtU a b w p i f g = less_told way a b (most ks a) (most ks b) p.left p.right p.is_left p.is_right (f p.left p.is_left) (g p.right p.is_right) (way_is way (nat_lt p.left p.right) w p.gives i)
  told_binary ks way LeU a b w p i f g = most_told way a b (most ks a) (most ks b) p.left p.right p.is_left p.is_right (f p.left p.is_left) (g p.right p.is_right) (way_is way (nat_le p.left p.right) w p.gives i)
  told_binary ks way LtS a b w p i f g =
      small_told (most ks a) (most ks b) (told_less way a b (most ks a) (most ks b))
      (λ u v. less_told way a b (most ks a) (most ks b) p.left p.right p.is_left p.is_right (f p.left p.is_left) (g p.right p.is_right)
      (sym (less_small (most ks a) (most ks b) p.left p.right u v (f p.left p.is_left) (g p.right p.is_right)) ∙ way_is way (int_lt (signed_value p.left) (signed_value p.right)) w p.gives i))
  told_binary ks way LeS a b w p i f g =
      small_told (most ks a) (most ks b) (told_most way a b (most ks a) (most ks b))
      (λ u v. most_told way a b (most ks a) (most ks b) p.left p.right p.is_left p.is_right (f p.left p.is_left) (g p.right p.is_right)
      (sym (most_small (most ks a) (most ks b) p.left p.right u v (f p.left p.is_left) (g p.right p.is_right)) ∙ way_is way (int_le (signed_value p.left) (signed_value p.right)) w p.gives i))
  told_binary ks way Add a b w p i f g = tt
  told_binary ks way Sub a b w p i f g = tt
  told_binary ks way Mul a b w p i f g = tt
  told_binary ks way DivS a b w p i f g = tt
  told_binary ks way DivU a b w p i f g = tt
  told_binary ks way RemS a b w p i f g = tt
  told_binary ks way RemU a b w p i f g = tt
  told_binary ks way Shl a b w p i f g = tt
  told_binary ks way ShrS a b w p i f g = tt
  told_binary ks way ShrU a b w p i f g = tt
  told_binary ks way And a b w p i f g = tt
  told_binary ks way Or a b w p i f g = tt
  told_binary ks way Xor a b w p i f g = tt
  told_binary ks way Eq a b w p i f g = tt
  told_binary ks way Ne a b w p i f g = tt

  pub tells : (ks : List Limit) → Holds ks l → (way : Bool) (e : Expression) (w : ℕ) → value e l h ≡ Some w → IsWay way w → HoldsOf (told ks way e)
  tells ks p way (Constant v) w e i = tt
  tells ks p way (Local x) w e i = tt
  tells ks p way (Unary op a) w e i = tt
  tells ks p way (Binary op a b) w e i = told_binary ks way op a b w (operands op (value a l h) (value b l h) w e) i (within ks p a) (within ks p b)
  tells ks p way (Load width o j) w e i = tt

  pub told_holds : (ks : List Limit) (o : Option Limit) → Holds ks l → HoldsOf o → Holds (with_told ks o) l
  told_holds ks None p q = p
  told_holds [] (Some k) p q = (q, tt)
  told_holds (y ∷ ks) (Some k) p q = (p.0, told_holds ks (Some k) p.1 q)

  -- ---- operators that always have a value

  some_answer : (b : Bool) (w : ℕ) → b ≡ false → (v : ℕ) × ((if b then None else Some w) ≡ Some v)
  some_answer true w e = absurd (let f : true ≡ false = e in cc)
  some_answer false w e = (w, refl)

  shifted : (b : Bool) (w : ℕ) → b ≡ true → (v : ℕ) × ((if b then Some w else None) ≡ Some v)
  shifted true w e = (w, refl)
  shifted false w e = absurd (let f : false ≡ true = e in cc)

  not_false : (b : Bool) → not b ≡ true → b ≡ false
  not_false true e = absurd (let f : false ≡ true = e in cc)
  not_false false e = refl

  both_true : (a b : Bool) → (a && b) ≡ true → (a ≡ true) × (b ≡ true)
  both_true true true e = (refl, refl)
  both_true true false e = absurd (let f : false ≡ true = e in cc)
  both_true false b e = absurd (let f : false ≡ true = e in cc)

  lacks_none : (p q r : Bool) → p ≡ false → r ≡ false → (p || (q && r)) ≡ false
  lacks_none true q r e f = e
  lacks_none false true r e f = f
  lacks_none false false r e f = refl

  divisor_is : (b : Expression) (y : ℕ) → is_divisor b ≡ true → value b l h ≡ Some y → (y == 0) ≡ false
  divisor_is (Constant w) y e v = subst (λ k. (k == 0) ≡ false) (some_is w y v) (not_false (w == 0) e)
  divisor_is (Local x) y e v = absurd (let f : false ≡ true = e in cc)
  divisor_is (Unary op a) y e v = absurd (let f : false ≡ true = e in cc)
  divisor_is (Binary op a b) y e v = absurd (let f : false ≡ true = e in cc)
  divisor_is (Load width o i) y e v = absurd (let f : false ≡ true = e in cc)

  signed_divisor_is : (b : Expression) (y : ℕ) → is_signed_divisor b ≡ true → value b l h ≡ Some y → ((y == 0) ≡ false) × ((y == 2 ^ 32 - 1) ≡ false)
  signed_divisor_is (Constant w) y e v =
      let p = both_true (not (w == 0)) (not (w == 2 ^ 32 - 1)) e in
      subst (λ k. ((k == 0) ≡ false) × ((k == 2 ^ 32 - 1) ≡ false)) (some_is w y v) (not_false (w == 0) p.0, not_false (w == 2 ^ 32 - 1) p.1)
  signed_divisor_is (Local x) y e v = absurd (let f : false ≡ true = e in cc)
  signed_divisor_is (Unary op a) y e v = absurd (let f : false ≡ true = e in cc)
  signed_divisor_is (Binary op a b) y e v = absurd (let f : false ≡ true = e in cc)
  signed_divisor_is (Load width o i) y e v = absurd (let f : false ≡ true = e in cc)

  signed_answer : (b : Expression) (x y w : ℕ) → is_signed_divisor b ≡ true → value b l h ≡ Some y → (v : ℕ) × ((if (y == 0) || ((x == 2 ^ 31) && (y == 2 ^ 32 - 1)) then None else Some w) ≡ Some v)
  signed_answer b x y w e v = let p = signed_divisor_is b y e v in some_answer _ w (lacks_none (y == 0) (x == 2 ^ 31) (y == 2 ^ 32 - 1) p.0 p.1)

  shift_answer : (ks : List Limit) → Holds ks l → (b : Expression) (y w : ℕ) → is_below (most ks b) 32 ≡ true → value b l h ≡ Some y → (v : ℕ) × ((if nat_lt y 32 then Some w else None) ≡ Some v)
  shift_answer ks p b y w e v = let lt = is_small ks p b 32 y e v in let t : nat_lt y 32 ≡ true = grind (arith, nat_tests) in shifted (nat_lt y 32) w t

  pub has_answer : (ks : List Limit) → Holds ks l → (op : two.Binary) (b : Expression) (x y : ℕ) → always ks op b ≡ true → value b l h ≡ Some y → (w : ℕ) × (apply_binary op x y ≡ Some w)
  has_answer ks p Add b x y e v = (_, refl)
  has_answer ks p Sub b x y e v = (_, refl)
  has_answer ks p Mul b x y e v = (_, refl)
  has_answer ks p DivS b x y e v = signed_answer b x y _ e v
  has_answer ks p DivU b x y e v = some_answer (y == 0) _ (divisor_is b y e v)
  has_answer ks p RemS b x y e v = signed_answer b x y _ e v
  has_answer ks p RemU b x y e v = some_answer (y == 0) _ (divisor_is b y e v)
  has_answer ks p Shl b x y e v = shift_answer ks p b y _ e v
  has_answer ks p ShrS b x y e v = shift_answer ks p b y _ e v
  has_answer ks p ShrU b x y e v = shift_answer ks p b y _ e v
  has_answer ks p And b x y e v = (_, refl)
  has_answer ks p Or b x y e v = (_, refl)
  has_answer ks p Xor b x y e v = (_, refl)
  has_answer ks p Eq b x y e v = (_, refl)
  has_answer ks p Ne b x y e v = (_, refl)
  has_answer ks p LtS b x y e v = (_, refl)
  has_answer ks p LtU b x y e v = (_, refl)
  has_answer ks p LeS b x y e v = (_, refl)
  has_answer ks p LeU b x y e v = (_, refl)
