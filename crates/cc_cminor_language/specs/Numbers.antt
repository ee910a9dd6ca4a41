-- The numbers in code: each is below the limit for its kind.
use Rattle.std.specs.Prelude.{ℕ, ◌<◌, List, [], ◌∷◌, Option, Some, None}
use Rattle.cc_cminor_language.specs.Cminor.{Expression, Constant, Local, Unary, Binary, Load, Statement, Skip, Set, Store, Call, Read, Write, Sequence, If, Loop, Block, Exit, Return}

-- numbers of variables are below this
abbrev pub most_variables : ℕ
most_variables = 2048

-- in code made from C, numbers of variables are below this: a function has at most 8 parameters and 256 locals, and in a full
-- expression of at most 512 tokens fewer than 512 values wait
abbrev pub most_lowered : ℕ
most_lowered = 1024

-- a unit has at most this many objects, since each has at least one word; the next is the most functions of a unit
abbrev pub most_objects : ℕ
most_objects = 65536

abbrev pub most_functions : ℕ
most_functions = 64

-- ---- with variables below m

abbrev pub ExpressionBelow : (m : ℕ) → Expression → Type 0
ExpressionBelow m (Constant w) = Unit {0}
ExpressionBelow m (Local x) = x < m
ExpressionBelow m (Unary op e) = ExpressionBelow m e
ExpressionBelow m (Binary op a b) = ExpressionBelow m a × ExpressionBelow m b
ExpressionBelow m (Load width o e) = (o < most_objects) × ExpressionBelow m e

abbrev pub ExpressionsBelow : (m : ℕ) → List Expression → Type 0
ExpressionsBelow m [] = Unit {0}
ExpressionsBelow m (e ∷ rest) = ExpressionBelow m e × ExpressionsBelow m rest

abbrev pub ResultBelow : (m : ℕ) → Option ℕ → Type 0
ResultBelow m None = Unit {0}
ResultBelow m (Some x) = x < m

abbrev pub StatementBelow : (m : ℕ) → Statement → Type 0
StatementBelow m Skip = Unit {0}
StatementBelow m (Set x e) = (x < m) × ExpressionBelow m e
StatementBelow m (Store width o i e) = (o < most_objects) × ExpressionBelow m i × ExpressionBelow m e
StatementBelow m (Call to f es) = ResultBelow m to × (f < most_functions) × ExpressionsBelow m es
StatementBelow m (Read to) = ResultBelow m to
StatementBelow m (Write e) = ExpressionBelow m e
StatementBelow m (Sequence a b) = StatementBelow m a × StatementBelow m b
StatementBelow m (If e a b) = ExpressionBelow m e × StatementBelow m a × StatementBelow m b
StatementBelow m (Loop a) = StatementBelow m a
StatementBelow m (Block a) = StatementBelow m a
StatementBelow m (Exit k) = Unit {0}
StatementBelow m (Return e) = ExpressionBelow m e

-- each number in a statement is below the limit for its kind
abbrev pub StatementFits : Statement → Type 0
StatementFits s = StatementBelow most_variables s
