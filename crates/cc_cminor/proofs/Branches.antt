-- What a branch tests decides in the same way as the value of its expression: one is 0 exactly if the other is, or, if the
-- branches are exchanged, exactly if the other is not.
use Rattle.std.proofs.Common.{◌≡◌, ◌⊎◌, inl, inr, ℕ, zero, suc, ◌-◌, ◌==◌, not, Bool, true, false, if◌then◌else◌, Option, Some, None, bit_xor, refl, sym, ap, ◌∙◌, subst, arith}
use Rattle.std.proofs.Math.Bool.{not-not}
use Rattle.std.proofs.lemmas.Bool.{ne_eqb}
use Rattle.std.proofs.lemmas.Bool.Decides.{nat_tests}
use Rattle.std.specs.Int.Bits.{xor_self, xor_zero_l, xor_zero_r, xor_assoc}
use Rattle.cc_types.specs.Operators.{is_true}
use Rattle.cc_words.specs.Words.{truth_value, is_zero, lt_s, le_s, lt_u, le_u, xor}
use Rattle.cc_words.specs.Operators.{apply_binary}
use Rattle.cc_words.specs.declared.operators.Unary.TheVariants as one
use Rattle.cc_words.specs.declared.operators.Binary as binary
use Rattle.cc_words.specs.declared.operators.Binary.TheVariants as two
use Rattle.cc_words.proofs.Laws.{le_s-lt_s, le_u-lt_u, lt_s_cases, lt_u_cases}
use Rattle.cc_simulation.specs.World.{World}
use Rattle.cc_simulation.specs.Run.{Goes, Fails, tried}
use Rattle.cc_cminor_language.specs.Cminor.{Expression, Constant, Local, Unary, Binary, Load, then_value, value, Statement, If, Continuation, config, chosen, moves}
use Rattle.cc_cminor.specs.internal.Lowering.{is_nothing, is_constant, compared, is_opposite, condition, is_reversed, branch}

abbrev flipped : (reversed holds : Bool) → Bool
flipped true b = not b
flipped false b = b

-- a branch may test e in place of an expression with value w
record Tests (e : Expression) (reversed : Bool) (l : ℕ → ℕ) (h : World) (w : ℕ) : Type 0 where
  word : ℕ
  is : value e l h ≡ Some word
  same : is_true word ≡ flipped reversed (is_true w)

itself : (e : Expression) (l : ℕ → ℕ) (h : World) (w : ℕ) → value e l h ≡ Some w → Tests e false l h w
itself e l h w is = record { word = w; is = is; same = refl }

flipped_twice : (r b : Bool) → flipped r (not b) ≡ flipped (not r) b
flipped_twice true b = not-not b
flipped_twice false b = refl

pub truth_holds : (b : Bool) → is_true (truth_value b) ≡ b
truth_holds true = refl
truth_holds false = refl

both_values : (op : binary.Binary) (x y : Expression) (l : ℕ → ℕ) (h : World) (a b : ℕ) → value x l h ≡ Some a → value y l h ≡ Some b → value (Binary op x y) l h ≡ apply_binary op a b
both_values op x y l h a b p q =
    ap (λ o. then_value o (λ m. then_value (value y l h) (λ n. apply_binary op m n))) p ∙ ap (λ o. then_value o (λ n. apply_binary op a n)) q

-- ---- comparisons

opposite_word : (v w : ℕ) → (v ≡ 0) ⊎ (v ≡ 1) → w ≡ 1 - v → is_true v ≡ not (is_true w)
opposite_word v w (inl e) is = subst (λ x. is_true x ≡ not (is_true w)) (sym e) (subst (λ y. false ≡ not (is_true y)) (sym (is ∙ ap (λ x. 1 - x) e)) refl)
opposite_word v w (inr e) is = subst (λ x. is_true x ≡ not (is_true w)) (sym e) (subst (λ y. true ≡ not (is_true y)) (sym (is ∙ ap (λ x. 1 - x) e)) refl)

xor_same : (a b : ℕ) → xor a b ≡ 0 → a ≡ b
xor_same a b e = sym (xor_zero_r a) ∙ ap (λ x. bit_xor a x) (sym (xor_self b)) ∙ sym (xor_assoc a b b) ∙ ap (λ x. bit_xor x b) e ∙ xor_zero_l b

xor_tests : (a b : ℕ) → (xor a b == 0) ≡ (a == b)
xor_tests a b = grind (arith, nat_tests, xor_same a b, xor_self a)

nothing_is : (y : Expression) (l : ℕ → ℕ) (h : World) (b : ℕ) → is_nothing y ≡ true → value y l h ≡ Some b → b ≡ 0
nothing_is (Constant n) l h b e is = let q : n ≡ b = cc in let z : n ≡ 0 = grind (arith, nat_tests) in omega arith
nothing_is (Local x) l h b e is = absurd (cc)
nothing_is (Unary op a) l h b e is = absurd (cc)
nothing_is (Binary op a c) l h b e is = absurd (cc)
nothing_is (Load width o a) l h b e is = absurd (cc)

-- for `==` and `!=` a branch may test the left operand if the right one is 0, else a word that is 0 exactly if the
-- operands are equal
equality_tests : (x y : Expression) (r : Bool) (l : ℕ → ℕ) (h : World) (a b w : ℕ) → value x l h ≡ Some a → value y l h ≡ Some b → not (a == b) ≡ flipped r (is_true w)
    → Tests (if is_nothing y then x else Binary two.Xor x y) r l h w
equality_tests x y r l h a b w p q e = by (is_nothing y) refl
  where
    by : (n : Bool) → is_nothing y ≡ n → Tests (if n then x else Binary two.Xor x y) r l h w
    by true n = record { word = a; is = p; same = subst (λ z. not (a == z) ≡ flipped r (is_true w)) (nothing_is y l h b n q) e }
    by false n = record { word = xor a b; is = both_values two.Xor x y l h a b p q; same = ap not (xor_tests a b) ∙ e }

signed_tests : (c : Bool) (x y : Expression) (l : ℕ → ℕ) (h : World) (a b w : ℕ) → value x l h ≡ Some a → value y l h ≡ Some b → le_s a b ≡ w → Tests (if c then Binary two.LeS x y else Binary two.LtS y x) (not c) l h w
signed_tests true x y l h a b w p q e = itself (Binary two.LeS x y) l h w (both_values two.LeS x y l h a b p q ∙ ap (λ v. Some v) e)
signed_tests false x y l h a b w p q e =
    record { word = lt_s b a; is = both_values two.LtS y x l h b a q p; same = opposite_word (lt_s b a) w (lt_s_cases b a) (sym e ∙ le_s-lt_s a b) }

unsigned_tests : (c : Bool) (x y : Expression) (l : ℕ → ℕ) (h : World) (a b w : ℕ) → value x l h ≡ Some a → value y l h ≡ Some b → le_u a b ≡ w → Tests (if c then Binary two.LeU x y else Binary two.LtU y x) (not c) l h w
unsigned_tests true x y l h a b w p q e = itself (Binary two.LeU x y) l h w (both_values two.LeU x y l h a b p q ∙ ap (λ v. Some v) e)
unsigned_tests false x y l h a b w p q e =
    record { word = lt_u b a; is = both_values two.LtU y x l h b a q p; same = opposite_word (lt_u b a) w (lt_u_cases b a) (sym e ∙ le_u-lt_u a b) }

comparison_tests : (op : binary.Binary) (x y : Expression) (l : ℕ → ℕ) (h : World) (a b w : ℕ) → value x l h ≡ Some a → value y l h ≡ Some b → apply_binary op a b ≡ Some w → Tests (compared op x y) (is_opposite op y) l h w
comparison_tests two.LeS x y l h a b w p q is = signed_tests (is_constant y) x y l h a b w p q (let e : le_s a b ≡ w = cc in e)
comparison_tests two.LeU x y l h a b w p q is = unsigned_tests (is_constant y) x y l h a b w p q (let e : le_u a b ≡ w = cc in e)
comparison_tests two.Eq x y l h a b w p q is =
    equality_tests x y true l h a b w p q (let e : truth_value (a == b) ≡ w = cc in ap not (sym (truth_holds (a == b)) ∙ ap is_true e))
comparison_tests two.Ne x y l h a b w p q is =
    equality_tests x y false l h a b w p q (let e : truth_value (not (a == b)) ≡ w = cc in sym (truth_holds (not (a == b))) ∙ ap is_true e)
comparison_tests op x y l h a b w p q is = itself (Binary op x y) l h w (both_values op x y l h a b p q ∙ is)

operands_test : (op : binary.Binary) (x y : Expression) (l : ℕ → ℕ) (h : World) (w : ℕ) (o q : Option ℕ) → value x l h ≡ o → value y l h ≡ q → then_value o (λ a. then_value q (λ b. apply_binary op a b)) ≡ Some w
    → Tests (compared op x y) (is_opposite op y) l h w
operands_test op x y l h w None q e f is = absurd (cc)
operands_test op x y l h w (Some a) None e f is = absurd (cc)
operands_test op x y l h w (Some a) (Some b) e f is = comparison_tests op x y l h a b w e f is

-- ---- any expression

zero_tests : (x : Expression) (l : ℕ → ℕ) (h : World) (w : ℕ) → ((a : ℕ) → value x l h ≡ Some a → Tests (condition x) (is_reversed x) l h a) → (o : Option ℕ) → value x l h ≡ o → then_value o (λ a. Some (is_zero a)) ≡ Some w
    → Tests (condition x) (not (is_reversed x)) l h w
zero_tests x l h w f None e is = absurd (cc)
zero_tests x l h w f (Some a) e is =
    let t : Tests (condition x) (is_reversed x) l h a = f a e in
    let z : truth_value (a == 0) ≡ w = cc in
    record { word = t.word; is = t.is; same = t.same ∙ flipped_twice (is_reversed x) (a == 0) ∙ ap (λ b. flipped (not (is_reversed x)) b) (sym (truth_holds (a == 0)) ∙ ap is_true z) }

tests : (x : Expression) (l : ℕ → ℕ) (h : World) (w : ℕ) → value x l h ≡ Some w → Tests (condition x) (is_reversed x) l h w
tests (Constant n) l h w is = itself (Constant n) l h w is
tests (Local i) l h w is = itself (Local i) l h w is
tests (Load width o a) l h w is = itself (Load width o a) l h w is
tests (Unary one.IsZero a) l h w is = zero_tests a l h w (λ v e. tests a l h v e) (value a l h) refl is
tests (Unary one.Neg a) l h w is = itself (Unary one.Neg a) l h w is
tests (Unary one.Complement a) l h w is = itself (Unary one.Complement a) l h w is
tests (Binary op a b) l h w is = operands_test op a b l h w (value a l h) (value b l h) refl refl is

-- ---- the branch's move

chosen_by : (v : ℕ) (a b : Statement) → chosen v a b ≡ (if is_true v then a else b)
chosen_by zero a b = refl
chosen_by (suc v) a b = ap (λ c. if not c then a else b) (sym (ne_eqb (suc v) 0 (λ e. let f : suc v ≡ 0 = e in omega arith)))

chosen_not : (c : Bool) (a b : Statement) → (if not c then b else a) ≡ (if c then a else b)
chosen_not true a b = refl
chosen_not false a b = refl

pub branch_moves : (x : Expression) (a b : Statement) (κ : Continuation) (l : ℕ → ℕ) (h : World) (w : ℕ) → value x l h ≡ Some w → moves (branch x a b) κ l h ≡ Goes (config (chosen w a b) κ l h)
branch_moves x a b κ l h w is = by (is_reversed x) (tests x l h w is)
  where
    by : (r : Bool) → Tests (condition x) r l h w → moves (if r then If (condition x) b a else If (condition x) a b) κ l h ≡ Goes (config (chosen w a b) κ l h)
    by true t =
        ap (λ o. tried o (λ v. Goes (config (chosen v b a) κ l h))) t.is
        ∙ ap (λ s. Goes (config s κ l h)) (chosen_by t.word b a ∙ ap (λ c. if c then b else a) t.same ∙ chosen_not (is_true w) a b ∙ sym (chosen_by w a b))
    by false t =
        ap (λ o. tried o (λ v. Goes (config (chosen v a b) κ l h))) t.is
        ∙ ap (λ s. Goes (config s κ l h)) (chosen_by t.word a b ∙ ap (λ c. if c then a else b) t.same ∙ sym (chosen_by w a b))

-- ---- what is tested has no value if the expression has none

two_none : (o p : Option ℕ) (f g : ℕ → ℕ → ℕ) → then_value o (λ a. then_value p (λ b. Some (f a b))) ≡ None → then_value o (λ a. then_value p (λ b. Some (g a b))) ≡ None
two_none None p f g e = refl
two_none (Some a) None f g e = refl
two_none (Some a) (Some b) f g e = absurd (cc)

two_swapped : (o p : Option ℕ) (f g : ℕ → ℕ → ℕ) → then_value o (λ a. then_value p (λ b. Some (f a b))) ≡ None → then_value p (λ b. then_value o (λ a. Some (g b a))) ≡ None
two_swapped None None f g e = refl
two_swapped None (Some b) f g e = refl
two_swapped (Some a) None f g e = refl
two_swapped (Some a) (Some b) f g e = absurd (cc)

left_none : (o p : Option ℕ) (b : ℕ) (f : ℕ → ℕ → ℕ) → p ≡ Some b → then_value o (λ a. then_value p (λ b. Some (f a b))) ≡ None → o ≡ None
left_none None p b f is e = refl
left_none (Some a) None b f is e = absurd (cc)
left_none (Some a) (Some c) b f is e = absurd (cc)

one_none : (o : Option ℕ) (f : ℕ → ℕ) → then_value o (λ a. Some (f a)) ≡ None → o ≡ None
one_none None f e = refl
one_none (Some a) f e = absurd (cc)

nothing_value : (y : Expression) (l : ℕ → ℕ) (h : World) → is_nothing y ≡ true → (b : ℕ) × (value y l h ≡ Some b)
nothing_value (Constant n) l h e = (n, refl)
nothing_value (Local x) l h e = absurd (cc)
nothing_value (Unary op a) l h e = absurd (cc)
nothing_value (Binary op a c) l h e = absurd (cc)
nothing_value (Load width o a) l h e = absurd (cc)

different_none : (x y : Expression) (l : ℕ → ℕ) (h : World) (f : ℕ → ℕ → ℕ) → then_value (value x l h) (λ a. then_value (value y l h) (λ b. Some (f a b))) ≡ None → value (if is_nothing y then x else Binary two.Xor x y) l h ≡ None
different_none x y l h f e = by (is_nothing y) refl
  where
    by : (n : Bool) → is_nothing y ≡ n → value (if n then x else Binary two.Xor x y) l h ≡ None
    by true n = let b = nothing_value y l h n in left_none (value x l h) (value y l h) b.0 f b.1 e
    by false n = two_none (value x l h) (value y l h) f (λ a b. xor a b) e

signed_none : (c : Bool) (x y : Expression) (l : ℕ → ℕ) (h : World) → value (Binary two.LeS x y) l h ≡ None → value (if c then Binary two.LeS x y else Binary two.LtS y x) l h ≡ None
signed_none true x y l h e = e
signed_none false x y l h e = two_swapped (value x l h) (value y l h) (λ a b. le_s a b) (λ b a. lt_s b a) e

unsigned_none : (c : Bool) (x y : Expression) (l : ℕ → ℕ) (h : World) → value (Binary two.LeU x y) l h ≡ None → value (if c then Binary two.LeU x y else Binary two.LtU y x) l h ≡ None
unsigned_none true x y l h e = e
unsigned_none false x y l h e = two_swapped (value x l h) (value y l h) (λ a b. le_u a b) (λ b a. lt_u b a) e

compared_none : (op : binary.Binary) (x y : Expression) (l : ℕ → ℕ) (h : World) → value (Binary op x y) l h ≡ None → value (compared op x y) l h ≡ None
compared_none two.LeS x y l h e = signed_none (is_constant y) x y l h e
compared_none two.LeU x y l h e = unsigned_none (is_constant y) x y l h e
compared_none two.Eq x y l h e = different_none x y l h (λ a b. truth_value (a == b)) e
compared_none two.Ne x y l h e = different_none x y l h (λ a b. truth_value (not (a == b))) e
compared_none op x y l h e = e

condition_none : (x : Expression) (l : ℕ → ℕ) (h : World) → value x l h ≡ None → value (condition x) l h ≡ None
condition_none (Constant n) l h e = e
condition_none (Local i) l h e = e
condition_none (Load width o a) l h e = e
condition_none (Unary one.IsZero a) l h e = condition_none a l h (one_none (value a l h) (λ w. is_zero w) e)
condition_none (Unary one.Neg a) l h e = e
condition_none (Unary one.Complement a) l h e = e
condition_none (Binary op a b) l h e = compared_none op a b l h e

pub branch_fails : (x : Expression) (a b : Statement) (κ : Continuation) (l : ℕ → ℕ) (h : World) → value x l h ≡ None → moves (branch x a b) κ l h ≡ Fails
branch_fails x a b κ l h e = by (is_reversed x)
  where
    by : (r : Bool) → moves (if r then If (condition x) b a else If (condition x) a b) κ l h ≡ Fails
    by true = ap (λ o. tried o (λ v. Goes (config (chosen v b a) κ l h))) (condition_none x l h e)
    by false = ap (λ o. tried o (λ v. Goes (config (chosen v a b) κ l h))) (condition_none x l h e)
