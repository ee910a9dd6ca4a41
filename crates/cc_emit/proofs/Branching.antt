-- What a branch shows about a comparison: it is taken if the comparison's value is not 0.
use Rattle.std.proofs.Common.{◌≡◌, ℕ, ◌-◌, ◌^◌, ◌<◌, List, Option, Some, None, true, false, Bool, refl, sym, ap, ◌∙◌, subst, arith}
use Rattle.std.specs.Prelude.{if◌then◌else◌, ◌==◌, not, nat_lt, int_lt, option_map}
use Rattle.cc_words.specs.Words.{eq, le_s, le_u, lt_s, lt_u, ne, signed_value, truth_value}
use Rattle.cc_words.specs.internal.Word.{IsWord}
use Rattle.cc_words.specs.Operators.{apply_binary}
use Rattle.cc_words.specs.declared.operators.Binary as binary
use Rattle.cc_words.specs.declared.operators.Binary.TheVariants.{Eq, Ne, LtS, LtU, LeS, LeU}
use Rattle.cc_words.proofs.Laws.{is_zero-lt_u, le_s-lt_s, le_u-lt_u}
use Rattle.cc_rv32.specs.declared.instr.RegisterOperation.{RegisterOperation}
use Rattle.cc_rv32.specs.declared.instr.RegisterOperation.TheVariants as operation
use Rattle.cc_rv32.specs.declared.instr.ImmediateOperation.{ImmediateOperation}
use Rattle.cc_rv32.specs.declared.instr.ImmediateOperation.TheVariants.{Slti, Sltiu}
use Rattle.cc_rv32.specs.declared.instr.BranchOperation.{BranchOperation}
use Rattle.cc_rv32.specs.declared.instr.BranchOperation.TheVariants.{Beq, Bne, Blt, Bge, Bltu, Bgeu}
use Rattle.cc_emit.specs.Board.{execute_above}
use Rattle.cc_rv32.specs.Machine.{State, computed, immediate_operation, is_taken, puts, shift_operation}
use Rattle.cc_select.specs.declared.step.Step.{Step}
use Rattle.cc_select.specs.Immediates.{is_comparison}
use Rattle.cc_select.specs.Selected.{led}
use Rattle.cc_emit.specs.declared.condition.Condition.{Condition}
use Rattle.cc_emit.specs.declared.recipe.WordRecipe.{WordRecipe}
use Rattle.cc_emit.specs.declared.recipe.WordRecipe.TheVariants.{NonzeroOfImmediate, OnZero, ShiftBy, WithImmediate, ZeroOfImmediate}
use Rattle.cc_emit.specs.Branches.{opposite, compares, opposed, turned, comparison, immediate_against_zero, operation_on_zero, against_zero, asked_of}
use Rattle.cc_emit.specs.Emission.{first_instr}
use Rattle.cc_emit.proofs.Basics.{eqb_says}
use Rattle.cc_emit.proofs.Recipes.{IsRightWord, next_s, not_zero}

-- a condition holds for the words of its registers exactly if the word `v` is not 0
abbrev pub Tells : Condition → (registers : ℕ → ℕ) → (v : ℕ) → Type 0
Tells c g v = is_taken c.operation (g c.left) (g c.right) ≡ not (v == 0)

-- ---- either way

not_not : (b : Bool) → not (not b) ≡ b
not_not true = refl
not_not false = refl

pub opposite_taken : (o : BranchOperation) (a b : ℕ) → is_taken (opposite o) a b ≡ not (is_taken o a b)
opposite_taken Beq a b = refl
opposite_taken Bne a b = sym (not_not (a == b))
opposite_taken Blt a b = refl
opposite_taken Bge a b = sym (not_not (int_lt (signed_value a) (signed_value b)))
opposite_taken Bltu a b = refl
opposite_taken Bgeu a b = sym (not_not (nat_lt a b))

pub turned_tells : (nonzero : Bool) (c : Condition) (g : ℕ → ℕ) (v : ℕ) → Tells c g v → is_taken (turned nonzero c).operation (g (turned nonzero c).left) (g (turned nonzero c).right) ≡ (if nonzero then not (v == 0) else v == 0)
turned_tells true c g v e = e
turned_tells false c g v e = opposite_taken c.operation (g c.left) (g c.right) ∙ ap not e ∙ not_not (v == 0)

pub if_not : {A : Type 0} (t : Bool) (p q : A) → (if not t then p else q) ≡ (if t then q else p)
if_not true p q = refl
if_not false p q = refl

pub led_by : (nonzero : Bool) (v : ℕ) (on there : List Step) → (if (if nonzero then not (v == 0) else v == 0) then there else on) ≡ led nonzero v on there
led_by true v on there = if_not (v == 0) there on
led_by false v on there = refl

-- ---- truth values

truth_told : (b : Bool) → not (truth_value b == 0) ≡ b
truth_told true = refl
truth_told false = refl

not_less : (b : Bool) → not (1 - truth_value b == 0) ≡ not b
not_less true = refl
not_less false = refl

zero_told : (u : ℕ) → not (lt_u u 1 == 0) ≡ (u == 0)
zero_told u = ap (λ n. not (n == 0)) (sym (is_zero-lt_u u)) ∙ truth_told (u == 0)

nonzero_told : (u : ℕ) → not (lt_u 0 u == 0) ≡ not (u == 0)
nonzero_told u = ap (λ n. not (n == 0)) (not_zero u) ∙ truth_told (not (u == 0))

-- ---- two registers

-- an operator that compares has a value, and its branch shows whether that is 0
pub record Compares (o : binary.Binary) (a b : ℕ) (g : ℕ → ℕ) : Type 0 where
  pub value : ℕ
  pub applied : apply_binary o (g a) (g b) ≡ Some value
  pub tells : Tells (comparison o a b) g value

pub compared : (o : binary.Binary) (a b : ℕ) (g : ℕ → ℕ) → is_comparison o ≡ true → Compares o a b g
compared Eq a b g e = record { value = eq (g a) (g b); applied = refl; tells = sym (truth_told (g a == g b)) }
compared Ne a b g e = record { value = ne (g a) (g b); applied = refl; tells = sym (truth_told (not (g a == g b))) }
compared LtS a b g e = record { value = lt_s (g a) (g b); applied = refl; tells = sym (truth_told (int_lt (signed_value (g a)) (signed_value (g b)))) }
compared LtU a b g e = record { value = lt_u (g a) (g b); applied = refl; tells = sym (truth_told (nat_lt (g a) (g b))) }
compared LeS a b g e = record {
  value = le_s (g a) (g b);
  applied = refl;
  tells = sym (not_less (int_lt (signed_value (g b)) (signed_value (g a)))) ∙ ap (λ n. not (n == 0)) (sym (le_s-lt_s (g a) (g b)));
}
compared LeU a b g e = record {
  value = le_u (g a) (g b);
  applied = refl;
  tells = sym (not_less (nat_lt (g b) (g a))) ∙ ap (λ n. not (n == 0)) (sym (le_u-lt_u (g a) (g b)));
}
compared _ a b g e = absurd (let z : false ≡ true = e in cc)

-- ---- a register and x0

none_some : {X : Type 0} (c : Condition) → None ≡ Some c → X
none_some c e = absurd (cc)

some : (b c : Condition) → Some b ≡ Some c → b ≡ c
some b c e = cc

slti_tells : (p q : Bool) (n a : ℕ) (g : ℕ → ℕ) (c : Condition) → g 0 ≡ 0 → IsWord (g a) → (n == 0) ≡ p → (n == 1) ≡ q → (if p then Some (compares Blt a 0) else if q then Some (compares Bge 0 a) else None) ≡ Some c → Tells c g (lt_s (g a) n)
slti_tells true q n a g c z w is other e =
    subst (λ d. Tells d g (lt_s (g a) n)) (some (compares Blt a 0) c e)
    (ap (λ m. int_lt (signed_value (g a)) (signed_value m)) (z ∙ sym (eqb_says n 0 is)) ∙ sym (truth_told (int_lt (signed_value (g a)) (signed_value n))))
slti_tells false true n a g c z w other is e =
    let less : 1 - lt_s 0 (g a) ≡ lt_s (g a) n = sym (le_s-lt_s (g a) 0) ∙ next_s (g a) 0 w (omega arith) (λ f. omega arith) ∙ ap (lt_s (g a)) (sym (eqb_says n 1 is)) in
    subst (λ d. Tells d g (lt_s (g a) n)) (some (compares Bge 0 a) c e)
    (ap (λ m. not (int_lt (signed_value m) (signed_value (g a)))) z ∙ sym (not_less (int_lt (signed_value 0) (signed_value (g a)))) ∙ ap (λ m. not (m == 0)) less)
slti_tells false false n a g c z w is other e = none_some c e

sltiu_tells : (p : Bool) (n a : ℕ) (g : ℕ → ℕ) (c : Condition) → g 0 ≡ 0 → (n == 1) ≡ p → (if p then Some (compares Beq a 0) else None) ≡ Some c → Tells c g (lt_u (g a) n)
sltiu_tells true n a g c z is e =
    subst (λ d. Tells d g (lt_u (g a) n)) (some (compares Beq a 0) c e)
    (ap (λ m. g a == m) z ∙ sym (zero_told (g a)) ∙ ap (λ m. not (lt_u (g a) m == 0)) (sym (eqb_says n 1 is)))
sltiu_tells false n a g c z is e = none_some c e

immediate_tells : (i : ImmediateOperation) (n a : ℕ) (g : ℕ → ℕ) (c : Condition) → g 0 ≡ 0 → IsWord (g a) → immediate_against_zero i n a ≡ Some c → Tells c g (computed (immediate_operation i) (g a) n)
immediate_tells Slti n a g c z w e = slti_tells (n == 0) (n == 1) n a g c z w refl refl e
immediate_tells Sltiu n a g c z w e = sltiu_tells (n == 1) n a g c z refl e
immediate_tells _ n a g c z w e = none_some c e

operation_tells : (i : RegisterOperation) (a : ℕ) (g : ℕ → ℕ) (c : Condition) → g 0 ≡ 0 → operation_on_zero i a ≡ Some c → Tells c g (computed i 0 (g a))
operation_tells operation.Slt a g c z e =
    subst (λ d. Tells d g (lt_s 0 (g a))) (some (compares Blt 0 a) c e) (ap (λ m. int_lt (signed_value m) (signed_value (g a))) z ∙ sym (truth_told (int_lt (signed_value 0) (signed_value (g a)))))
operation_tells operation.Sltu a g c z e = subst (λ d. Tells d g (lt_u 0 (g a))) (some (compares Bne a 0) c e) (ap (λ m. not (g a == m)) z ∙ sym (nonzero_told (g a)))
operation_tells _ a g c z e = none_some c e

opposed_tells : (z : Option Condition) (g : ℕ → ℕ) (u : ℕ) (c : Condition) → ((d : Condition) → z ≡ Some d → Tells d g u) → option_map opposed z ≡ Some c → Tells c g (lt_u u 1)
opposed_tells None g u c f e = none_some c e
opposed_tells (Some d) g u c f e =
    subst (λ b. Tells b g (lt_u u 1)) (some (opposed d) c e) (opposite_taken d.operation (g d.left) (g d.right) ∙ ap not (f d refl) ∙ not_not (u == 0) ∙ sym (zero_told u))

-- if a comparison of a register with x0 replaces a recipe, the branch shows whether the recipe's word is 0
pub alone_tells : (k : WordRecipe) (a : ℕ) (g : ℕ → ℕ) (v : ℕ) (c : Condition) → g 0 ≡ 0 → IsWord (g a) → IsRightWord k (g a) v → against_zero k a ≡ Some c → Tells c g v
alone_tells (WithImmediate i n) a g v c z w right e = subst (Tells c g) right (immediate_tells i n a g c z w e)
alone_tells (ShiftBy i n) a g v c z w right e = none_some c e
alone_tells (OnZero i) a g v c z w right e = subst (Tells c g) right (operation_tells i a g c z e)
alone_tells (ZeroOfImmediate i n) a g v c z w right e =
    subst (Tells c g) right.1 (opposed_tells (immediate_against_zero i n a) g (computed (immediate_operation i) (g a) n) c (λ d f. immediate_tells i n a g d z w f) e)
alone_tells (NonzeroOfImmediate i n) a g v c z w right e = none_some c e

-- ---- after a recipe's first instruction

-- what a recipe's first instruction computes from its register's word
abbrev pub first_word : WordRecipe → (w : ℕ) → ℕ
first_word (WithImmediate i n) w = computed (immediate_operation i) w n
first_word (ShiftBy i n) w = computed (shift_operation i) w n
first_word (OnZero i) w = computed i 0 w
first_word (ZeroOfImmediate i n) w = computed (immediate_operation i) w n
first_word (NonzeroOfImmediate i n) w = computed (immediate_operation i) w n

pub first_executes : (floor : ℕ) (k : WordRecipe) (to a : ℕ) (s : State) → s.registers 0 ≡ 0 → execute_above floor (first_instr k to a) s ≡ puts to (first_word k (s.registers a)) s
first_executes floor (WithImmediate i n) to a s z = refl
first_executes floor (ShiftBy i n) to a s z = refl
first_executes floor (OnZero i) to a s z = ap (λ n. puts to (computed i n (s.registers a)) s) z
first_executes floor (ZeroOfImmediate i n) to a s z = refl
first_executes floor (NonzeroOfImmediate i n) to a s z = refl

-- the result of the recipe's first instruction is a word, and how it compares with 0 shows whether the
-- recipe's word is 0
abbrev pub TellsFirst : WordRecipe → (w v : ℕ) → Type 0
TellsFirst k w v = (first_word k w < 2 ^ 32) × (is_taken (asked_of k) (first_word k w) 0 ≡ not (v == 0))

same_tells : (u v : ℕ) → u ≡ v → IsWord v → (u < 2 ^ 32) × (not (u == 0) ≡ not (v == 0))
same_tells u v e w = (omega arith, ap (λ n. not (n == 0)) e)

pub first_tells : (k : WordRecipe) (w v : ℕ) → IsRightWord k w v → IsWord v → TellsFirst k w v
first_tells (WithImmediate i n) w v right b = same_tells (computed (immediate_operation i) w n) v right b
first_tells (ShiftBy i n) w v right b = same_tells (computed (shift_operation i) w n) v right b
first_tells (OnZero i) w v right b = same_tells (computed i 0 w) v right b
first_tells (ZeroOfImmediate i n) w v right b = (right.0, sym (zero_told (computed (immediate_operation i) w n)) ∙ ap (λ m. not (m == 0)) right.1)
first_tells (NonzeroOfImmediate i n) w v right b = (right.0, sym (nonzero_told (computed (immediate_operation i) w n)) ∙ ap (λ m. not (m == 0)) right.1)
