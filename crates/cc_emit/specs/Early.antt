-- Functions that may return before they have a frame. Such a function begins with operations on registers that a call destroys, and a test.
-- The test leads to a label after which the function returns, with at most one such operation before the return. In such a function these
-- come before the frame is made: the operations, the reversed test, what is after the label, and the return. The reversed test jumps over
-- the return to the rest, which is in the frame as the code of any function is.
use Rattle.std.specs.Prelude.{ℕ, Bool, true, false, not, ◌&&◌, ◌||◌, ◌==◌, nat_le, if◌then◌else◌, Option, Some, None, option_map, List, [], ◌∷◌, ◌++◌}
use Rattle.cc_ltl.specs.declared.operation.Move.TheVariants.{Between}
use Rattle.cc_linear_language.specs.declared.item.LinearItem.TheVariants.{Label, IfNonzero, IfZero, Copy, Const, Unary, Binary, Return}
use Rattle.cc_select.specs.declared.step.Step.{Step}
use Rattle.cc_select.specs.declared.step.Step.TheVariants.{One, Immediate, Branch, BranchImmediate}
use Rattle.cc_select.specs.Selected.{place}
use Rattle.cc_emit.specs.declared.early.Fork.{Fork}
use Rattle.cc_emit.specs.Frames.{frame_of, frame_size}

-- ---- operations that need no frame

-- a call destroys the register, and it is neither x5 nor x6: x7, x10 to x17, x28 to x31
abbrev pub is_lost : (register : ℕ) → Bool
is_lost r = (r == 7) || ((nat_le 10 r && nat_le r 17) || nat_le 28 r)

-- the register that a step writes, if the step is an operation on registers
abbrev pub written_by : Step → Option ℕ
written_by (One (Copy (Between to from))) = Some to
written_by (One (Const to word)) = Some to
written_by (One (Unary operator to from)) = Some to
written_by (One (Binary operator to left right)) = Some to
written_by (Immediate operator to from word) = Some to
written_by step = None

abbrev pub is_into_lost : Option ℕ → Bool
is_into_lost None = false
is_into_lost (Some r) = is_lost r

abbrev pub is_light : Step → Bool
is_light step = is_into_lost (written_by step)

-- ---- tests

-- where a test leads, and the reversed test
abbrev pub fork_of : Step → Option Fork
fork_of (One (IfNonzero from to)) = Some (record { to = to; turned = One (IfZero from to) })
fork_of (One (IfZero from to)) = Some (record { to = to; turned = One (IfNonzero from to) })
fork_of (Branch operator nonzero left right to) = Some (record { to = to; turned = Branch operator (not nonzero) left right to })
fork_of (BranchImmediate operator nonzero from word to) = Some (record { to = to; turned = BranchImmediate operator (not nonzero) from word to })
fork_of step = None

-- ---- the ending to which a label leads

abbrev pub is_return : Step → Bool
is_return (One Return) = true
is_return step = false

abbrev pub last_one : Step → List Step → Option (List Step)
last_one step [] = None
last_one step (next ∷ steps) = if is_light step && is_return next then Some (step ∷ []) else None

abbrev pub last_of : List Step → Option (List Step)
last_of [] = None
last_of (step ∷ steps) = if is_return step then Some [] else last_one step steps

-- the steps between a label and the return after it, if there is at most one and it is light
abbrev pub ending : List Step → Option (List Step)
ending (One (Label label) ∷ steps) = last_of steps
ending steps = None

-- ---- what is before the frame

-- the steps before the frame, followed by the label to which the reversed test leads, and the steps in the frame
pub record Early : Type 0 where
  pub head : List Step
  pub rest : List Step

abbrev pub early_at : Option (List Step) → Fork → (rest : List Step) → Option Early
early_at None fork rest = None
early_at (Some last) fork rest = Some (record { head = fork.turned ∷ (last ++ One Return ∷ One (Label fork.to) ∷ []); rest = rest })

abbrev pub early_by : (all : List Step) → Option Fork → (rest : List Step) → Option Early
early_by all None rest = None
early_by all (Some fork) rest = early_at (ending (place all fork.to)) fork rest

abbrev pub with_first : Step → Early → Early
with_first step e = record { head = step ∷ e.head; rest = e.rest }

-- what comes before the frame, given all steps of the function and those from a point on
abbrev pub early_from : (all : List Step) → List Step → Option Early
early_from all [] = None
early_from all (step ∷ steps) = if is_light step then option_map (with_first step) (early_from all steps) else early_by all (fork_of step) steps

-- what comes before the frame of a function with this many slots, if it has a frame
abbrev pub early : (slots : ℕ) → List Step → Option Early
early slots steps = if frame_size (frame_of false slots steps) == 0 then None else early_from steps steps
