-- Which branches replace comparisons: of two registers, and of a register and a word if a comparison with x0 has the same result.
use Rattle.std.specs.Prelude.{ℕ, Bool, ◌==◌, if◌then◌else◌, Option, Some, None, option_map}
use Rattle.cc_words.specs.declared.operators.Binary as binary
use Rattle.cc_words.specs.declared.operators.Binary.TheVariants.{Eq, LtS, LtU, LeS, LeU}
use Rattle.cc_rv32.specs.declared.instr.RegisterOperation.{RegisterOperation}
use Rattle.cc_rv32.specs.declared.instr.RegisterOperation.TheVariants.{Slt, Sltu}
use Rattle.cc_rv32.specs.declared.instr.ImmediateOperation.{ImmediateOperation}
use Rattle.cc_rv32.specs.declared.instr.ImmediateOperation.TheVariants.{Slti, Sltiu}
use Rattle.cc_rv32.specs.declared.instr.BranchOperation.{BranchOperation}
use Rattle.cc_rv32.specs.declared.instr.BranchOperation.TheVariants.{Beq, Bne, Blt, Bge, Bltu, Bgeu}
use Rattle.cc_emit.specs.declared.condition.Condition.{Condition}
use Rattle.cc_emit.specs.declared.recipe.WordRecipe.{WordRecipe}
use Rattle.cc_emit.specs.declared.recipe.WordRecipe.TheVariants.{WithImmediate, OnZero, ZeroOfImmediate}

-- the operation of a branch that is taken exactly if one with the given operation is not
abbrev pub opposite : BranchOperation → BranchOperation
opposite Beq = Bne
opposite Bne = Beq
opposite Blt = Bge
opposite Bge = Blt
opposite Bltu = Bgeu
opposite Bgeu = Bltu

-- the condition of a branch with this operation on these two registers
abbrev pub compares : BranchOperation → (left right : ℕ) → Condition
compares operation left right = record { operation = operation; left = left; right = right }

abbrev pub opposed : Condition → Condition
opposed c = compares (opposite c.operation) c.left c.right

-- the condition if `nonzero` is true, else its opposite
abbrev pub turned : (nonzero : Bool) → Condition → Condition
turned nonzero c = if nonzero then c else opposed c

-- ---- two registers

-- the condition under which an operator that compares yields 1; "at most" means that the right one is at least the left one
abbrev pub comparison : binary.Binary → (left right : ℕ) → Condition
comparison Eq a b = compares Beq a b
comparison LtS a b = compares Blt a b
comparison LtU a b = compares Bltu a b
comparison LeS a b = compares Bge b a
comparison LeU a b = compares Bgeu b a
comparison operator a b = compares Bne a b

-- ---- a register and a word

-- the condition under which an instruction with an immediate yields a word that is not 0, if it compares its register with 0. There are
-- three cases: the register's word is less than 0; it is less than 1, so 0 is at least that word; it is less than 1 as unsigned, so it
-- equals 0
abbrev pub immediate_against_zero : ImmediateOperation → (part from : ℕ) → Option Condition
immediate_against_zero Slti n a = if n == 0 then Some (compares Blt a 0) else if n == 1 then Some (compares Bge 0 a) else None
immediate_against_zero Sltiu n a = if n == 1 then Some (compares Beq a 0) else None
immediate_against_zero operation n a = None

-- the condition under which an instruction on 0 and a register yields a word that is not 0: the register's word is more than 0; or it
-- is more than 0 as unsigned, so it does not equal 0
abbrev pub operation_on_zero : RegisterOperation → (from : ℕ) → Option Condition
operation_on_zero Slt a = Some (compares Blt 0 a)
operation_on_zero Sltu a = Some (compares Bne a 0)
operation_on_zero operation a = None

-- the condition under which a recipe yields a word that is not 0
abbrev pub against_zero : WordRecipe → (from : ℕ) → Option Condition
against_zero (WithImmediate o n) a = immediate_against_zero o n a
against_zero (ZeroOfImmediate o n) a = option_map opposed (immediate_against_zero o n a)
against_zero (OnZero o) a = operation_on_zero o a
against_zero recipe a = None

-- the comparison with 0 that holds for the result of a recipe's first instruction exactly if the recipe's result is not 0
abbrev pub asked_of : WordRecipe → BranchOperation
asked_of (ZeroOfImmediate o n) = Beq
asked_of recipe = Bne
