-- For an operator with a known word on its right or on its left, the table of forms has an operator on a register and a word that
-- gives the same result for each register's word. A product, a quotient and a remainder with 2^k become a shift and a mask.
use Rattle.std.proofs.Common.{◌≡◌, ℕ, ◌-◌, ◌/◌, ◌%◌, ◌*◌, ◌^◌, ◌<◌, Option, Some, None, true, false, Bool, refl, sym, ap, ◌∙◌, subst, mul_comm, arith}
use Rattle.std.proofs.lemmas.Nat.{pow_pos, trailing_le, and_mask, and_comm, or_comm, xor_comm}
use Rattle.std.specs.Prelude.{if◌then◌else◌, ◌==◌, not, nat_lt, bit_and}
use Rattle.cc_words.specs.Words.{add, truth_value}
use Rattle.cc_words.specs.Operators.{apply_binary}
use Rattle.cc_words.specs.declared.operators.Binary as binary
use Rattle.cc_words.specs.declared.operators.Binary.TheVariants as operators
use Rattle.cc_ltl.specs.Ltl.{IsWord}
use Rattle.cc_select.specs.declared.step.WordOperator.{WordOperator}
use Rattle.cc_select.specs.declared.step.WordOperator.TheVariants.{Add, Sub, Shl, ShrS, ShrU, And, Or, Xor, Eq, Ne, LtS, LtU, LeS, LeU, GtS, GtU, GeS, GeU}
use Rattle.cc_select.specs.Immediates.{apply_immediate, has_word, exponent, is_power, Form, immediate_of, immediate_of_left}
use Rattle.cc_select.proofs.Basics.{none_some, eqb_says, eqb_turned}

-- a form stands for an operator with the word w as one operand: if the form's instructions can encode its word, the form gives
-- the same result
pub record Stands (gives : ℕ → Option ℕ) (w : ℕ) (f : Form) : Type 0 where
  pub same : (a : ℕ) → has_word f.0 f.1 ≡ true → gives a ≡ apply_immediate f.0 a f.1
  pub word : IsWord w → IsWord f.1

-- ---- with the same word

with_it : (gives : ℕ → Option ℕ) (w : ℕ) (o : WordOperator) (f : Form) → Some (o, w) ≡ Some f → ((a : ℕ) → gives a ≡ apply_immediate o a w) → Stands gives w f
with_it gives w o f e same = let is : (o, w) ≡ f = cc in subst (Stands gives w) is (record { same = λ a has. same a; word = λ p. p })

-- ---- powers of two

-- if an operator has a form only for powers of two, that form stands for the operator if it does for each power of two
of_power : (gives : ℕ → Option ℕ) (w : ℕ) (g f : Form) → (if is_power w then Some g else None) ≡ Some f → (w ≡ 2 ^ exponent w → Stands gives w g) → Stands gives w f
of_power gives w g f e stands = by (is_power w) refl e
  where
    by : (b : Bool) → is_power w ≡ b → (if b then Some g else None) ≡ Some f → Stands gives w f
    by true p e = let is : g ≡ f = cc in subst (Stands gives w) is (stands (eqb_says w (2 ^ exponent w) p))
    by false p e = none_some f e

exponent_word : (w : ℕ) → IsWord (exponent w)
exponent_word w = omega (arith, trailing_le 32 w)

-- a shift by less than 32
shifted : (k v : ℕ) → nat_lt k 32 ≡ true → Some v ≡ (if nat_lt k 32 then Some v else None)
shifted k v has = sym (ap (λ (b : Bool). if b then Some v else None) has)

-- a divisor that is a power of two is not 0
nonzero : (w k v : ℕ) → w ≡ 2 ^ k → (if w == 0 then None else Some v) ≡ Some v
nonzero w k v e = by (w == 0) refl
  where
    by : (b : Bool) → (w == 0) ≡ b → (if b then None else Some v) ≡ Some v
    by true p = absurd (let z : w ≡ 0 = eqb_says w 0 p in omega (arith, pow_pos k))
    by false p = refl

product : (w : ℕ) → w ≡ 2 ^ exponent w → Stands (λ a. apply_binary operators.Mul a w) w (Shl, exponent w)
product w e = record {
  same = λ a has. ap (λ n. Some ((a * n) % 2 ^ 32)) e ∙ shifted (exponent w) ((a * 2 ^ exponent w) % 2 ^ 32) has;
  word = λ p. exponent_word w;
}

product_on_left : (w : ℕ) → w ≡ 2 ^ exponent w → Stands (λ a. apply_binary operators.Mul w a) w (Shl, exponent w)
product_on_left w e = record {
  same = λ a has. (let turned : w * a ≡ a * w = mul_comm w a in ap (λ n. Some (n % 2 ^ 32)) turned) ∙ (product w e).same a has;
  word = λ p. exponent_word w;
}

quotient : (w : ℕ) → w ≡ 2 ^ exponent w → Stands (λ a. apply_binary operators.DivU a w) w (ShrU, exponent w)
quotient w e = record {
  same = λ a has. nonzero w (exponent w) (a / w) e ∙ ap (λ n. Some (a / n)) e ∙ shifted (exponent w) (a / 2 ^ exponent w) has;
  word = λ p. exponent_word w;
}

remainder : (w : ℕ) → w ≡ 2 ^ exponent w → Stands (λ a. apply_binary operators.RemU a w) w (And, w - 1)
remainder w e = record {
  same = λ a has. nonzero w (exponent w) (a % w) e ∙ ap (λ n. Some (a % n)) e ∙ ap Some (sym (and_mask a (exponent w))) ∙ sym (ap (λ n. Some (bit_and a (n - 1))) e);
  word = λ p. (let lt : w - 1 < 2 ^ 32 = omega (arith, p) in lt);
}

-- ---- the tables

pub right_is : (p : binary.Binary) (w : ℕ) (f : Form) → immediate_of p w ≡ Some f → Stands (λ a. apply_binary p a w) w f
right_is operators.Add w f e = with_it (λ a. apply_binary operators.Add a w) w Add f e (λ a. refl)
right_is operators.Sub w f e = with_it (λ a. apply_binary operators.Sub a w) w Sub f e (λ a. refl)
right_is operators.Shl w f e = with_it (λ a. apply_binary operators.Shl a w) w Shl f e (λ a. refl)
right_is operators.ShrS w f e = with_it (λ a. apply_binary operators.ShrS a w) w ShrS f e (λ a. refl)
right_is operators.ShrU w f e = with_it (λ a. apply_binary operators.ShrU a w) w ShrU f e (λ a. refl)
right_is operators.And w f e = with_it (λ a. apply_binary operators.And a w) w And f e (λ a. refl)
right_is operators.Or w f e = with_it (λ a. apply_binary operators.Or a w) w Or f e (λ a. refl)
right_is operators.Xor w f e = with_it (λ a. apply_binary operators.Xor a w) w Xor f e (λ a. refl)
right_is operators.Eq w f e = with_it (λ a. apply_binary operators.Eq a w) w Eq f e (λ a. refl)
right_is operators.Ne w f e = with_it (λ a. apply_binary operators.Ne a w) w Ne f e (λ a. refl)
right_is operators.LtS w f e = with_it (λ a. apply_binary operators.LtS a w) w LtS f e (λ a. refl)
right_is operators.LtU w f e = with_it (λ a. apply_binary operators.LtU a w) w LtU f e (λ a. refl)
right_is operators.LeS w f e = with_it (λ a. apply_binary operators.LeS a w) w LeS f e (λ a. refl)
right_is operators.LeU w f e = with_it (λ a. apply_binary operators.LeU a w) w LeU f e (λ a. refl)
right_is operators.Mul w f e = of_power (λ a. apply_binary operators.Mul a w) w (Shl, exponent w) f e (product w)
right_is operators.DivU w f e = of_power (λ a. apply_binary operators.DivU a w) w (ShrU, exponent w) f e (quotient w)
right_is operators.RemU w f e = of_power (λ a. apply_binary operators.RemU a w) w (And, w - 1) f e (remainder w)
right_is p w f e = none_some f e

-- the order of operands makes no difference
add_turned : (a b : ℕ) → add a b ≡ add b a
add_turned a b = omega arith

pub left_is : (p : binary.Binary) (w : ℕ) (f : Form) → immediate_of_left p w ≡ Some f → Stands (λ a. apply_binary p w a) w f
left_is operators.Add w f e = with_it (λ a. apply_binary operators.Add w a) w Add f e (λ a. ap Some (add_turned w a))
left_is operators.And w f e = with_it (λ a. apply_binary operators.And w a) w And f e (λ a. ap Some (and_comm w a))
left_is operators.Or w f e = with_it (λ a. apply_binary operators.Or w a) w Or f e (λ a. ap Some (or_comm w a))
left_is operators.Xor w f e = with_it (λ a. apply_binary operators.Xor w a) w Xor f e (λ a. ap Some (xor_comm w a))
left_is operators.Eq w f e = with_it (λ a. apply_binary operators.Eq w a) w Eq f e (λ a. ap (λ b. Some (truth_value b)) (eqb_turned w a))
left_is operators.Ne w f e = with_it (λ a. apply_binary operators.Ne w a) w Ne f e (λ a. ap (λ b. Some (truth_value (not b))) (eqb_turned w a))
left_is operators.LtS w f e = with_it (λ a. apply_binary operators.LtS w a) w GtS f e (λ a. refl)
left_is operators.LtU w f e = with_it (λ a. apply_binary operators.LtU w a) w GtU f e (λ a. refl)
left_is operators.LeS w f e = with_it (λ a. apply_binary operators.LeS w a) w GeS f e (λ a. refl)
left_is operators.LeU w f e = with_it (λ a. apply_binary operators.LeU w a) w GeU f e (λ a. refl)
left_is operators.Mul w f e = of_power (λ a. apply_binary operators.Mul w a) w (Shl, exponent w) f e (product_on_left w)
left_is p w f e = none_some f e
