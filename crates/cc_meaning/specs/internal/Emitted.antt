-- Definitions for the code that writes instructions.
use Rattle.std.specs.Prelude.{ℕ, ◌+◌, ◌-◌, List, [], ◌∷◌, length, slice_set, Option, Some, None}
use Rattle.cc_ast.specs.Tree.{Target, AtVariable, AtElement}
use Rattle.cc_ast.specs.declared.ast.BinaryOperator.{BinaryOperator}
use Rattle.cc_ast.specs.declared.ast.BinaryOperator.TheVariants.{LogicalAnd, LogicalOr}
use Rattle.cc_layout.specs.Environment.{Environment}
use Rattle.cc_meaning.specs.internal.Form.{expression_code, store_of, store_element_of}
use Rattle.cc_resolve.specs.declared.operations.BinaryOperation.{BinaryOperation}
use Rattle.cc_meaning.specs.declared.form.Instruction.{Instruction}
use Rattle.cc_meaning.specs.declared.form.Instruction.TheVariants.{Binary, AndThen, OrElse}

-- the instruction that skips a right operand of this many instructions, for an operator that does not always need it
abbrev pub short_cut : BinaryOperator → ℕ → Option Instruction
short_cut LogicalAnd n = Some (AndThen n)
short_cut LogicalOr n = Some (OrElse n)
short_cut op n = None

-- the list of an instruction, or the empty list if the instruction is absent
abbrev pub some_code : Option Instruction → List Instruction
some_code None = []
some_code (Some i) = i ∷ []

-- unless there is a short cut, the instructions with an operation in place of the one that `behind` others follow
abbrev pub operated : Option Instruction → BinaryOperation → ℕ → List Instruction → List Instruction
operated (Some i) op behind code = code
operated None op behind code = slice_set code (length code - (behind + 1)) (Binary op)

-- the index of the target, if it has one
abbrev pub index_code : Environment → Target → List Instruction
index_code v (AtVariable x) = []
index_code v (AtElement x e) = expression_code v e

-- the instruction that writes a word to the target
abbrev pub write_of : Option BinaryOperation → Environment → Target → Instruction
write_of op v (AtVariable x) = store_of op v x.text
write_of op v (AtElement x e) = store_element_of op v x.text
