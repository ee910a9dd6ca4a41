-- The passes, step by step: what a sweep and a check do at one step, which steps stay, and which two become one.
use Rattle.std.specs.Prelude.{ℕ, Bool, true, false, not, ◌&&◌, ◌||◌, ◌==◌, if◌then◌else◌, List, [], ◌∷◌, Option, Some, None}
use Rattle.cc_words.specs.declared.operators.Unary.TheVariants.{IsZero}
use Rattle.cc_words.specs.declared.operators.Binary as binary
use Rattle.cc_words.specs.declared.operators.Binary.TheVariants as operators
use Rattle.cc_linear_language.specs.declared.item.LinearItem.{LinearItem}
use Rattle.cc_linear_language.specs.declared.item.LinearItem.TheVariants.{Label, IfNonzero, IfZero, Const, Unary, Binary}
use Rattle.cc_select.specs.declared.step.Step.{Step}
use Rattle.cc_select.specs.declared.step.Step.TheVariants.{One, Immediate, Branch, BranchImmediate}
use Rattle.cc_select.specs.Immediates.{is_comparison, gains}
use Rattle.cc_select.specs.Live.{Registers, live}
use Rattle.cc_select.specs.Table.{Table}
use Rattle.cc_select.specs.Selection.{Test, behind}
use Rattle.cc_select.specs.declared.fuse.Test as code
use Rattle.cc_select.specs.internal.Sets.{within}

-- the label, if the step is a label
abbrev pub label_of : Step → Option ℕ
label_of (One (Label label)) = Some label
label_of step = None

-- whether a label's row has everything that is live there
abbrev pub is_met : Table → Step → Registers → Bool
is_met t (One (Label label)) s = within s (t label)
is_met t step s = true

-- a constant stays if it is read; an operator with a word also stays if the register that it reads is not live after it
abbrev pub stays : Step → (behind : Registers) → Bool
stays (One (Const to word)) s = s to
stays (Immediate operator to from word) s = s to || not (s from)
stays step s = true

-- the test, if the step is a test
abbrev pub test_in : Step → Option Test
test_in (One (IfNonzero r n)) = Some (record { register = r; nonzero = true; to = n })
test_in (One (IfZero r n)) = Some (record { register = r; nonzero = false; to = n })
test_in step = None

-- a test as the code represents it
abbrev pub shown : code.Test → Test
shown t = record { register = t.register; nonzero = t.nonzero; to = t.to }

-- the branch that replaces a step that tests whether a register is 0, together with the test of that step's result
abbrev pub branch_on_zero : (from : ℕ) → Test → Step
branch_on_zero a v = One (if v.nonzero then IfZero a v.to else IfNonzero a v.to)

-- the comparison that a test of an operator's value makes
abbrev pub compared : binary.Binary → Option binary.Binary
compared operators.Xor = Some operators.Ne
compared o = if is_comparison o then Some o else None

abbrev pub branch_compared : Option binary.Binary → (left right : ℕ) → Test → Option Step
branch_compared None a b v = None
branch_compared (Some o) a b v = Some (Branch o v.nonzero a b v.to)

-- the one branch that replaces a step and a test of the register that the step writes
abbrev pub branch_on : Step → Test → Option Step
branch_on (One (Unary IsZero to a)) v = if to == v.register then Some (branch_on_zero a v) else None
branch_on (One (Binary o to a b)) v = if to == v.register then branch_compared (compared o) a b v else None
branch_on (Immediate o to a w) v = if (to == v.register) && gains o w then Some (BranchImmediate o v.nonzero a w v.to) else None
branch_on step v = None

-- whether nothing reads a test's register after the test; `steps` begin with the test
abbrev pub is_last : Table → Test → (steps : List Step) → Bool
is_last t v steps = not (live t (behind steps) v.register) && not (t v.to v.register)

-- the one branch that replaces a step and the step after it, if that is a test
abbrev pub branch_of : Table → Step → Option Test → (steps : List Step) → Option Step
branch_of t step None steps = None
branch_of t step (Some v) steps = if is_last t v steps then branch_on step v else None

-- the one branch that replaces the first step of a list and the step after it
abbrev pub first_branch : Table → List Step → Option Step
first_branch t [] = None
first_branch t (step ∷ []) = None
first_branch t (step ∷ next ∷ steps) = branch_of t step (test_in next) (next ∷ steps)

-- ---- threading

-- the label to which a branch leads
abbrev pub branched_to : LinearItem → Option ℕ
branched_to (IfNonzero from to) = Some to
branched_to (IfZero from to) = Some to
branched_to item = None
