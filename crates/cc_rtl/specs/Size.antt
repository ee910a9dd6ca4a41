-- How many nodes a function of Cminor needs in RTL: what decides whether `FunctionTooLarge` comes.
use Rattle.std.specs.Prelude.{ℕ, suc, ◌+◌, List, [], ◌∷◌, Option, Some, None}
use Rattle.cc_cminor_language.specs.Cminor.{Expression, Constant, Local, Unary, Binary, Load, Statement, Skip, Set, Store, Call, Read, Write, Sequence, If, Loop, Block, Exit, Return}

-- the variable, if the expression is one
abbrev pub variable_of : Expression → Option ℕ
variable_of (Constant w) = None
variable_of (Local x) = Some x
variable_of (Unary op a) = None
variable_of (Binary op a b) = None
variable_of (Load width o a) = None

-- how many nodes an operand needs: none if it is a variable
abbrev pub kept_by : Option ℕ → (nodes : ℕ) → ℕ
kept_by None n = n
kept_by (Some x) n = 0

-- how many nodes put an expression into a register
abbrev pub into_nodes : Expression → ℕ
into_nodes (Constant w) = 1
into_nodes (Local x) = 1
into_nodes (Unary op a) = suc (kept_by (variable_of a) (into_nodes a))
into_nodes (Binary op a b) = suc (kept_by (variable_of a) (into_nodes a) + kept_by (variable_of b) (into_nodes b))
into_nodes (Load width o a) = suc (kept_by (variable_of a) (into_nodes a))

abbrev pub operand_nodes : Expression → ℕ
operand_nodes e = kept_by (variable_of e) (into_nodes e)

abbrev pub operands_nodes : List Expression → ℕ
operands_nodes [] = 0
operands_nodes (e ∷ es) = operand_nodes e + operands_nodes es

abbrev pub statement_nodes : Statement → ℕ
statement_nodes Skip = 0
statement_nodes (Set x e) = into_nodes e
statement_nodes (Store width o i e) = suc (operand_nodes i + operand_nodes e)
statement_nodes (Call to f es) = suc (operands_nodes es)
statement_nodes (Read to) = 1
statement_nodes (Write e) = suc (operand_nodes e)
statement_nodes (Sequence a b) = statement_nodes a + statement_nodes b
statement_nodes (If e a b) = suc (operand_nodes e + (statement_nodes a + statement_nodes b))
statement_nodes (Loop a) = suc (statement_nodes a)
statement_nodes (Block a) = statement_nodes a
statement_nodes (Exit k) = 0
statement_nodes (Return e) = suc (operand_nodes e)

-- the nodes of a function: its entry's nop, its body, and a constant and a return after the body
abbrev pub function_nodes : Statement → ℕ
function_nodes body = statement_nodes body + 3
