-- What each operator's instructions compute.
use Rattle.std.proofs.Common.{◌≡◌, ℕ, ◌+◌, ◌-◌, ◌%◌, ◌^◌, ◌<◌, Some, true, false, Bool, refl, sym, ap, ◌∙◌, inl, inr, arith, mod-eq_of_lt}
use Rattle.std.specs.Prelude.{if◌then◌else◌, ◌==◌, ◌&&◌, not, nat_lt, unwrap_or}
use Rattle.std.proofs.lemmas.Bool.Decides.{nat_tests}
use Rattle.std.proofs.lemmas.Int.{ints}
use Rattle.cc_words.specs.Words.{add, and, eq, le_s, le_u, lt_s, lt_u, ne, neg, or, shl, shr_s, shr_u, sub, truth_value, xor}
use Rattle.cc_words.specs.internal.Word.{IsWord}
use Rattle.cc_words.specs.Operators.{apply_unary, apply_binary}
use Rattle.cc_words.specs.declared.operators.Unary as unary
use Rattle.cc_words.specs.declared.operators.Unary.TheVariants.{Neg, Complement, IsZero}
use Rattle.cc_words.specs.declared.operators.Binary as binary
use Rattle.cc_words.specs.declared.operators.Binary.TheVariants.{Add, Sub, Mul, DivS, DivU, RemS, RemU, Shl, ShrS, ShrU, And, Or, Xor, Eq, Ne, LtS, LtU, LeS, LeU}
use Rattle.cc_words.proofs.Laws.{is_zero-lt_u, sub_is, eq-sub, ne-sub, le_s-lt_s, le_u-lt_u, complement-xor, IsWord-add, IsWord-sub, IsWord-mul, IsWord-neg, IsWord-div_s, IsWord-div_u, IsWord-rem_s, IsWord-rem_u, IsWord-shl, IsWord-shr_s, IsWord-shr_u, IsWord-and, IsWord-or, IsWord-xor, IsWord-eq, IsWord-ne, IsWord-lt_s, IsWord-lt_u, IsWord-le_s, IsWord-le_u, IsWord-is_zero, IsWord-complement}
use Rattle.cc_rv32.specs.declared.instr.RegisterOperation.TheVariants as operation
use Rattle.cc_rv32.specs.declared.instr.ImmediateOperation.TheVariants.{Addi, Sltiu}
use Rattle.cc_emit.specs.Board.{execute_above}
use Rattle.cc_rv32.specs.Machine.{State, computed, immediate_operation, puts, shift_operation}
use Rattle.cc_select.specs.declared.step.WordOperator.{WordOperator}
use Rattle.cc_select.specs.declared.step.WordOperator.TheVariants as immediates
use Rattle.cc_select.specs.Immediates.{is_exchanged, operator_of, applied, apply_immediate, is_short, has_word}
use Rattle.cc_emit.specs.Emission.{low, recipe, unary_instr, word_recipe}
use Rattle.cc_emit.specs.declared.recipe.Recipe.{Recipe}
use Rattle.cc_emit.specs.declared.recipe.WordRecipe.{WordRecipe}
use Rattle.cc_emit.specs.declared.recipe.Recipe.TheVariants.{Direct, NonzeroOf, ZeroOf, ZeroOfExchanged}
use Rattle.cc_emit.specs.declared.recipe.WordRecipe.TheVariants.{NonzeroOfImmediate, OnZero, ShiftBy, WithImmediate, ZeroOfImmediate}
use Rattle.cc_emit.proofs.Basics.{LowIs, eqb_denies, eqb_says, low_is}

-- a recipe for two words a and b yields the word v
abbrev pub IsRight : Recipe → (a b v : ℕ) → Type 0
IsRight (Direct i) a b v = computed i a b ≡ v
IsRight (ZeroOf i) a b v = (computed i a b < 2 ^ 32) × (lt_u (computed i a b) 1 ≡ v)
IsRight (ZeroOfExchanged i) a b v = (computed i b a < 2 ^ 32) × (lt_u (computed i b a) 1 ≡ v)
IsRight (NonzeroOf i) a b v = (computed i a b < 2 ^ 32) × (lt_u 0 (computed i a b) ≡ v)

some : (a b : ℕ) → Some a ≡ Some b → a ≡ b
some a b e = cc

turned : (b : Bool) → lt_u (truth_value b) 1 ≡ 1 - truth_value b
turned true = refl
turned false = refl

shl_is : (w k v : ℕ) → shl w k ≡ Some v → computed operation.Sll w k ≡ v
shl_is w k v e = grind (arith, nat_tests, mod-eq_of_lt)

shr_s_is : (w k v : ℕ) → shr_s w k ≡ Some v → computed operation.Sra w k ≡ v
shr_s_is w k v e = grind (arith, nat_tests, mod-eq_of_lt)

shr_u_is : (w k v : ℕ) → shr_u w k ≡ Some v → computed operation.Srl w k ≡ v
shr_u_is w k v e = grind (arith, nat_tests, mod-eq_of_lt)

pub recipe_right : (o : binary.Binary) (a b v : ℕ) → IsWord a → IsWord b → apply_binary o a b ≡ Some v → IsRight (recipe o) a b v
recipe_right Add a b v p q e = some _ v e
recipe_right Sub a b v p q e = some _ v e
recipe_right Mul a b v p q e = some _ v e
recipe_right DivS a b v p q e = ap (λ z. unwrap_or z (if b == 0 then 2 ^ 32 - 1 else a)) e
recipe_right DivU a b v p q e = ap (λ z. unwrap_or z (2 ^ 32 - 1)) e
recipe_right RemS a b v p q e = ap (λ z. unwrap_or z (if b == 0 then a else 0)) e
recipe_right RemU a b v p q e = ap (λ z. unwrap_or z a) e
recipe_right Shl a b v p q e = shl_is a b v e
recipe_right ShrS a b v p q e = shr_s_is a b v e
recipe_right ShrU a b v p q e = shr_u_is a b v e
recipe_right And a b v p q e = some _ v e
recipe_right Or a b v p q e = some _ v e
recipe_right Xor a b v p q e = some _ v e
recipe_right Eq a b v p q e = (IsWord-sub a b, sym (is_zero-lt_u (sub a b)) ∙ sym (eq-sub a b p q) ∙ some _ v e)
recipe_right Ne a b v p q e = (IsWord-sub a b, sym (ne-sub a b p q) ∙ some _ v e)
recipe_right LtS a b v p q e = some _ v e
recipe_right LtU a b v p q e = some _ v e
recipe_right LeS a b v p q e = (IsWord-lt_s b a, turned _ ∙ sym (le_s-lt_s a b) ∙ some _ v e)
recipe_right LeU a b v p q e = (IsWord-lt_u b a, turned _ ∙ sym (le_u-lt_u a b) ∙ some _ v e)

is_word : (a b : ℕ) → IsWord a → Some a ≡ Some b → IsWord b
is_word a b h e = let f = some a b e in omega arith

pub binary_word : (o : binary.Binary) (a b v : ℕ) → IsWord a → IsWord b → apply_binary o a b ≡ Some v → IsWord v
binary_word Add a b v p q e = is_word _ v (IsWord-add a b) e
binary_word Sub a b v p q e = is_word _ v (IsWord-sub a b) e
binary_word Mul a b v p q e = is_word _ v (IsWord-mul a b) e
binary_word DivS a b v p q e = IsWord-div_s a b v e
binary_word DivU a b v p q e = IsWord-div_u a b v p e
binary_word RemS a b v p q e = IsWord-rem_s a b v e
binary_word RemU a b v p q e = IsWord-rem_u a b v p e
binary_word Shl a b v p q e = IsWord-shl a b v e
binary_word ShrS a b v p q e = IsWord-shr_s a b v e
binary_word ShrU a b v p q e = IsWord-shr_u a b v p e
binary_word And a b v p q e = is_word _ v (IsWord-and a b p) e
binary_word Or a b v p q e = is_word _ v (IsWord-or a b p q) e
binary_word Xor a b v p q e = is_word _ v (IsWord-xor a b p q) e
binary_word Eq a b v p q e = is_word _ v (IsWord-eq a b) e
binary_word Ne a b v p q e = is_word _ v (IsWord-ne a b) e
binary_word LtS a b v p q e = is_word _ v (IsWord-lt_s a b) e
binary_word LtU a b v p q e = is_word _ v (IsWord-lt_u a b) e
binary_word LeS a b v p q e = is_word _ v (IsWord-le_s a b) e
binary_word LeU a b v p q e = is_word _ v (IsWord-le_u a b) e

-- what a unary operator's instruction computes from its register's word
abbrev pub unary_by : unary.Unary → ℕ → ℕ
unary_by Neg w = sub 0 w
unary_by Complement w = xor w (2 ^ 32 - 1)
unary_by IsZero w = lt_u w 1

pub unary_executes : (floor : ℕ) (o : unary.Unary) (to b : ℕ) (s : State) → s.registers 0 ≡ 0 → execute_above floor (unary_instr o to b) s ≡ puts to (unary_by o (s.registers b)) s
unary_executes floor Neg to b s z = ap (λ n. puts to (sub n (s.registers b)) s) z
unary_executes floor Complement to b s z = refl
unary_executes floor IsZero to b s z = refl

pub unary_right : (o : unary.Unary) (w : ℕ) → IsWord w → (unary_by o w ≡ apply_unary o w) × IsWord (apply_unary o w)
unary_right Neg w h = (refl, IsWord-neg w)
unary_right Complement w h = (sym (complement-xor w h), IsWord-complement w)
unary_right IsZero w h = (sym (is_zero-lt_u w), IsWord-is_zero w)

-- ---- a register and a word

-- a recipe for a register's word a yields the word v
abbrev pub IsRightWord : WordRecipe → (a v : ℕ) → Type 0
IsRightWord (WithImmediate i n) a v = computed (immediate_operation i) a n ≡ v
IsRightWord (ShiftBy i n) a v = computed (shift_operation i) a n ≡ v
IsRightWord (OnZero i) a v = computed i 0 a ≡ v
IsRightWord (ZeroOfImmediate i n) a v = (computed (immediate_operation i) a n < 2 ^ 32) × (lt_u (computed (immediate_operation i) a n) 1 ≡ v)
IsRightWord (NonzeroOfImmediate i n) a v = (computed (immediate_operation i) a n < 2 ^ 32) × (lt_u 0 (computed (immediate_operation i) a n) ≡ v)

short_says : (w : ℕ) → is_short w ≡ true → (w + 2 ^ 11) % 2 ^ 32 < 2 ^ 12
short_says w e = grind (arith, nat_tests)

short_is : (w x : ℕ) → IsWord w → (w + 2 ^ 11) % 2 ^ 32 < 2 ^ 12 → LowIs w x → x ≡ w
short_is w x b lt (inl h) = omega arith
short_is w x b lt (inr h) = omega arith

-- the lower part of a short word is the word itself
low_short : (w : ℕ) → IsWord w → is_short w ≡ true → low w ≡ w
low_short w b e = short_is w (low w) b (short_says w e) (low_is w)

sub_neg : (a w : ℕ) → IsWord a → IsWord w → sub a w ≡ add a (neg w)
sub_neg a w p q = let d = sub_is a w p q in let n = sub_is 0 w (omega arith) q in omega arith

shl_by : (a w : ℕ) → nat_lt w 32 ≡ true → shl a w ≡ Some (computed operation.Sll a (w % 32))
shl_by a w e = grind (arith, nat_tests, mod-eq_of_lt)

shr_s_by : (a w : ℕ) → nat_lt w 32 ≡ true → shr_s a w ≡ Some (computed operation.Sra a (w % 32))
shr_s_by a w e = grind (arith, nat_tests, mod-eq_of_lt)

shr_u_by : (a w : ℕ) → nat_lt w 32 ≡ true → shr_u a w ≡ Some (computed operation.Srl a (w % 32))
shr_u_by a w e = grind (arith, nat_tests, mod-eq_of_lt)

-- ---- comparisons with a word

pub next_s : (a w : ℕ) → IsWord a → IsWord w → (w ≡ 2 ^ 31 - 1 → ⊥) → le_s a w ≡ lt_s a (add w 1)
next_s a w p q other = grind (arith, ints)

next_u : (a w : ℕ) → IsWord a → IsWord w → (w ≡ 2 ^ 32 - 1 → ⊥) → le_u a w ≡ lt_u a (add w 1)
next_u a w p q other = grind (arith, nat_tests)

le_s_by : (a w : ℕ) → IsWord a → IsWord w → is_short (add w 1) ≡ true → le_s a w ≡ lt_s a (low (add w 1))
le_s_by a w p q e =
    let short = short_says (add w 1) e in
    next_s a w p q (λ f. omega arith) ∙ ap (lt_s a) (sym (low_short (add w 1) (IsWord-add w 1) e))

le_u_by : (a w : ℕ) → IsWord a → IsWord w → (is_short (add w 1) && not (w == 2 ^ 32 - 1)) ≡ true → le_u a w ≡ lt_u a (low (add w 1))
le_u_by a w p q e =
    let both = both_true (is_short (add w 1)) (not (w == 2 ^ 32 - 1)) e in
    next_u a w p q (eqb_denies w (2 ^ 32 - 1) (denied _ both.1)) ∙ ap (lt_u a) (sym (low_short (add w 1) (IsWord-add w 1) both.0))
  where
    both_true : (b c : Bool) → (b && c) ≡ true → (b ≡ true) × (c ≡ true)
    both_true true c f = (refl, f)
    both_true false c f = absurd (cc)

    denied : (b : Bool) → not b ≡ true → b ≡ false
    denied true f = absurd (cc)
    denied false f = refl

-- a difference is the sum with the negative of the word
minus : (a w : ℕ) → IsWord a → IsWord w → is_short (neg w) ≡ true → sub a w ≡ add a (low (neg w))
minus a w p q e = sub_neg a w p q ∙ ap (add a) (sym (low_short (neg w) (IsWord-neg w) e))

eq_by : (a w : ℕ) (b : Bool) → IsWord a → IsWord w → is_short (neg w) ≡ true → (w == 0) ≡ b → IsRightWord (if b then WithImmediate Sltiu 1 else ZeroOfImmediate Addi (low (neg w))) a (eq a w)
eq_by a w true p q e z = sym (is_zero-lt_u a) ∙ ap (eq a) (sym (eqb_says w 0 z))
eq_by a w false p q e z = (IsWord-add a _, ap (λ n. lt_u n 1) (sym (minus a w p q e)) ∙ sym (is_zero-lt_u (sub a w)) ∙ sym (eq-sub a w p q))

pub not_zero : (a : ℕ) → lt_u 0 a ≡ ne a 0
not_zero a = grind (arith, nat_tests)

ne_by : (a w : ℕ) (b : Bool) → IsWord a → IsWord w → is_short (neg w) ≡ true → (w == 0) ≡ b → IsRightWord (if b then OnZero operation.Sltu else NonzeroOfImmediate Addi (low (neg w))) a (ne a w)
ne_by a w true p q e z = not_zero a ∙ ap (ne a) (sym (eqb_says w 0 z))
ne_by a w false p q e z = (IsWord-add a _, ap (lt_u 0) (sym (minus a w p q e)) ∙ sym (ne-sub a w p q))

-- ---- what the operators compute

-- an operator on a register's word and a word has a value, and its instructions compute that value
pub record Gives (o : WordOperator) (a w : ℕ) : Type 0 where
  pub value : ℕ
  pub applied : apply_immediate o a w ≡ Some value
  pub right : IsRightWord (word_recipe o w) a value

gives : (o : WordOperator) (a w v : ℕ) → apply_immediate o a w ≡ Some v → IsRightWord (word_recipe o w) a v → Gives o a w
gives o a w v e r = record { value = v; applied = e; right = r }

pub immediate_gives : (o : WordOperator) (a w : ℕ) → IsWord a → IsWord w → has_word o w ≡ true → Gives o a w
immediate_gives immediates.Add a w p q e = gives immediates.Add a w (add a w) refl (ap (add a) (low_short w q e))
immediate_gives immediates.Sub a w p q e = gives immediates.Sub a w (sub a w) refl (sym (minus a w p q e))
immediate_gives immediates.Shl a w p q e = gives immediates.Shl a w _ (shl_by a w e) refl
immediate_gives immediates.ShrS a w p q e = gives immediates.ShrS a w _ (shr_s_by a w e) refl
immediate_gives immediates.ShrU a w p q e = gives immediates.ShrU a w _ (shr_u_by a w e) refl
immediate_gives immediates.And a w p q e = gives immediates.And a w (and a w) refl (ap (and a) (low_short w q e))
immediate_gives immediates.Or a w p q e = gives immediates.Or a w (or a w) refl (ap (or a) (low_short w q e))
immediate_gives immediates.Xor a w p q e = gives immediates.Xor a w (xor a w) refl (ap (xor a) (low_short w q e))
immediate_gives immediates.Eq a w p q e = gives immediates.Eq a w (eq a w) refl (eq_by a w (w == 0) p q e refl)
immediate_gives immediates.Ne a w p q e = gives immediates.Ne a w (ne a w) refl (ne_by a w (w == 0) p q e refl)
immediate_gives immediates.LtS a w p q e = gives immediates.LtS a w (lt_s a w) refl (ap (lt_s a) (low_short w q e))
immediate_gives immediates.LtU a w p q e = gives immediates.LtU a w (lt_u a w) refl (ap (lt_u a) (low_short w q e))
immediate_gives immediates.LeS a w p q e = gives immediates.LeS a w (le_s a w) refl (sym (le_s_by a w p q e))
immediate_gives immediates.LeU a w p q e = gives immediates.LeU a w (le_u a w) refl (sym (le_u_by a w p q e))
immediate_gives immediates.GtS a w p q e = gives immediates.GtS a w (lt_s w a) refl (ap (λ n. lt_s n a) (sym (eqb_says w 0 e)))
immediate_gives immediates.GtU a w p q e = gives immediates.GtU a w (lt_u w a) refl (ap (λ n. lt_u n a) (sym (eqb_says w 0 e)))
immediate_gives immediates.GeS a w p q e =
    gives immediates.GeS a w (le_s w a) refl (IsWord-lt_s a (low w), turned _ ∙ ap (λ n. 1 - lt_s a n) (low_short w q e) ∙ sym (le_s-lt_s w a))
immediate_gives immediates.GeU a w p q e =
    gives immediates.GeU a w (le_u w a) refl (IsWord-lt_u a (low w), turned _ ∙ ap (λ n. 1 - lt_u a n) (low_short w q e) ∙ sym (le_u-lt_u w a))

-- the operator's value is a word
pub gives_word : (o : WordOperator) (a w v : ℕ) → IsWord a → IsWord w → apply_immediate o a w ≡ Some v → IsWord v
gives_word o a w v p q e = by_side (is_exchanged o) (operator_of o) e
  where
    by_side : (x : Bool) (b : binary.Binary) → applied x b a w ≡ Some v → IsWord v
    by_side true b f = binary_word b w a v q p f
    by_side false b f = binary_word b a w v p q f
