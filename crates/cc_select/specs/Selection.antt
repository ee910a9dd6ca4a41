-- The steps of a function. Tests go before labels and into jumps (Threading), and constants known from label to label go into the
-- operations that read them (Known). Then the constants that no step reads are left out, and a comparison and the test of its truth
-- value directly after it become one branch, if nothing else reads that value.
use Rattle.std.specs.Prelude.{ℕ, Bool, true, false, not, ◌&&◌, ◌||◌, ◌==◌, if◌then◌else◌, Option, Some, None, List, [], ◌∷◌}
use Rattle.cc_words.specs.declared.operators.Unary.TheVariants.{IsZero}
use Rattle.cc_words.specs.declared.operators.Binary.TheVariants.{Xor, Ne}
use Rattle.cc_linear_language.specs.declared.item.LinearItem.{LinearItem}
use Rattle.cc_linear_language.specs.declared.item.LinearItem.TheVariants.{IfNonzero, IfZero, Const, Unary, Binary}
use Rattle.cc_select.specs.declared.step.Step.{Step}
use Rattle.cc_select.specs.declared.step.Step.TheVariants.{One, Immediate, Branch, BranchImmediate}
use Rattle.cc_select.specs.Immediates.{is_comparison, gains}
use Rattle.cc_select.specs.Known.{unknown, chosen}
use Rattle.cc_select.specs.Near.{nearer}
use Rattle.cc_select.specs.Threading.{threaded}
use Rattle.cc_select.specs.Live.{Registers, live}
use Rattle.cc_select.specs.Table.{table}

-- ---- without the constants and the sums that no step reads

abbrev pub lean : (at_label : ℕ → Registers) → List Step → List Step
lean at [] = []
lean at (One (Const to word) ∷ steps) = if live at steps to then One (Const to word) ∷ lean at steps else lean at steps
-- an operator with a word also stays if the register that it reads is not live after it, so that the same registers stay live
-- before it
lean at (Immediate operator to from word ∷ steps) = if live at steps to || not (live at steps from) then Immediate operator to from word ∷ lean at steps else lean at steps
lean at (step ∷ steps) = step ∷ lean at steps

-- ---- a comparison and its test become one branch

-- a test: its register, whether it leads to its label if the register is not 0 (`nonzero`) or if it is 0, and the label
pub record Test : Type 0 where
  pub register : ℕ
  pub nonzero : Bool
  pub to : ℕ

-- the test that a list begins with
abbrev pub test_of : List Step → Option Test
test_of [] = None
test_of (One (IfNonzero r n) ∷ steps) = Some (record { register = r; nonzero = true; to = n })
test_of (One (IfZero r n) ∷ steps) = Some (record { register = r; nonzero = false; to = n })
test_of (step ∷ steps) = None

abbrev pub behind : List Step → List Step
behind [] = []
behind (step ∷ steps) = steps

-- a step whose word is only tested for being 0: the register of the word, and the branch that replaces the step and the test
pub record Truth : Type 0 where
  pub register : ℕ
  pub branch : (nonzero : Bool) → (to : ℕ) → Step

abbrev pub if_so : Bool → Truth → Option Truth
if_so true t = Some t
if_so false t = None

abbrev pub truth_of : Step → Option Truth
truth_of (One (Unary IsZero to a)) = Some (record { register = to; branch = λ nonzero n. One (if nonzero then IfZero a n else IfNonzero a n) })
-- words are equal exactly if their xor is 0: this is how C's == and != arrive here
truth_of (One (Binary Xor to a b)) = Some (record { register = to; branch = λ nonzero n. Branch Ne nonzero a b n })
truth_of (One (Binary o to a b)) = if_so (is_comparison o) (record { register = to; branch = λ nonzero n. Branch o nonzero a b n })
-- a comparison with a word, if the branch needs fewer instructions
truth_of (Immediate o to a w) = if_so (gains o w) (record { register = to; branch = λ nonzero n. BranchImmediate o nonzero a w n })
truth_of step = None

-- whether the test reads the truth value, and nothing reads it afterwards; `steps` begin with the test
abbrev pub is_alone : (at_label : ℕ → Registers) → (register : ℕ) → Test → (steps : List Step) → Bool
is_alone at r t steps = (r == t.register) && (not (live at (behind steps) r) && not (at t.to r))

-- a step put before other steps; `done` is what the other steps became
abbrev pub joined : (at_label : ℕ → Registers) → (step : Step) → Option Truth → Option Test → (steps done : List Step) → List Step
joined at s (Some v) (Some t) steps done = if is_alone at v.register t steps then v.branch t.nonzero t.to ∷ behind done else s ∷ done
joined at s (Some v) None steps done = s ∷ done
joined at s None test steps done = s ∷ done

abbrev pub fused : (at_label : ℕ → Registers) → List Step → List Step
fused at [] = []
fused at (step ∷ steps) = joined at step (truth_of step) (test_of steps) steps (fused at steps)

-- ---- the whole

abbrev pub trimmed : List Step → List Step
trimmed steps = fused (table steps) (lean (table steps) steps)

-- the steps of a function's items
abbrev pub selected : List LinearItem → List Step
selected items = trimmed (nearer None (chosen unknown (threaded items)))
