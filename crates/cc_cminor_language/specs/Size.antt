-- How many statements and expressions code has, and how many operations that can lack a value, compared with the tokens of the
-- definition that it comes from.
use Rattle.std.specs.Prelude.{◌≡◌, ℕ, suc, ◌+◌, ◌*◌, ◌≤◌, List, [], ◌∷◌, length, Some, slice_get}
use Rattle.cc_ast.specs.Tree.{External}
use Rattle.cc_ast.specs.Grammar.{Measured, SpellsExternal}
use Rattle.cc_types.specs.Typed.{definitions}
use Rattle.cc_words.specs.declared.operators.Binary as two
use Rattle.cc_words.specs.declared.operators.Binary.TheVariants.{DivS, DivU, RemS, RemU, Shl, ShrS, ShrU}
use Rattle.cc_cminor_language.specs.Cminor.{Expression, Constant, Local, Unary, Binary, Load, Statement, Skip, Set, Store, Call, Read, Write, Sequence, If, Loop, Block, Exit, Return}

-- the size of an expression, including the expressions in it
abbrev pub expression_size : Expression → ℕ
expression_size (Constant w) = 1
expression_size (Local i) = 1
expression_size (Unary op e) = suc (expression_size e)
expression_size (Binary op a b) = suc (expression_size a + expression_size b)
expression_size (Load width o e) = suc (expression_size e)

abbrev pub expressions_size : List Expression → ℕ
expressions_size [] = 0
expressions_size (e ∷ rest) = expression_size e + expressions_size rest

-- the size of a statement, including the statements and expressions in it
abbrev pub statement_size : Statement → ℕ
statement_size Skip = 1
statement_size (Set x e) = suc (expression_size e)
statement_size (Store width o i e) = suc (expression_size i + expression_size e)
statement_size (Call to f es) = suc (expressions_size es)
statement_size (Read to) = 1
statement_size (Write e) = suc (expression_size e)
statement_size (Sequence a b) = suc (statement_size a + statement_size b)
statement_size (If e a b) = suc (expression_size e + (statement_size a + statement_size b))
statement_size (Loop a) = suc (statement_size a)
statement_size (Block a) = suc (statement_size a)
statement_size (Exit k) = 1
statement_size (Return e) = suc (expression_size e)

-- the code of function f has at most 12 statements and expressions for each token of the function's definition, for any tokens
-- that spell it (those of the text are among them)
abbrev pub AtMostTwelveAToken : List External → (f : ℕ) → Statement → Type 0
AtMostTwelveAToken unit f s =
    (definition : External) → slice_get (definitions unit) f ≡ Some definition → (tokens : List Measured) → SpellsExternal tokens definition
    → statement_size s ≤ 12 * length tokens

-- ---- operations that can lack a value

abbrev pub partial : two.Binary → ℕ
partial DivS = 1
partial DivU = 1
partial RemS = 1
partial RemU = 1
partial Shl = 1
partial ShrS = 1
partial ShrU = 1
partial op = 0

-- how many operations of an expression can lack a value, including its reads of elements
abbrev pub partials : Expression → ℕ
partials (Constant w) = 0
partials (Local x) = 0
partials (Unary op e) = partials e
partials (Binary op a b) = partial op + (partials a + partials b)
partials (Load w o e) = suc (partials e)

abbrev pub all_partials : List Expression → ℕ
all_partials [] = 0
all_partials (e ∷ es) = partials e + all_partials es

abbrev pub code_partials : Statement → ℕ
code_partials Skip = 0
code_partials (Set x e) = partials e
code_partials (Store w o i e) = suc (partials i + partials e)
code_partials (Call to f es) = all_partials es
code_partials (Read to) = 0
code_partials (Write e) = partials e
code_partials (Sequence a b) = code_partials a + code_partials b
code_partials (If e a b) = partials e + (code_partials a + code_partials b)
code_partials (Loop a) = code_partials a
code_partials (Block a) = code_partials a
code_partials (Exit k) = 0
code_partials (Return e) = partials e

-- function f's code has at most one operation that can lack a value for each token of any list that spells its definition
abbrev pub AtMostOnePartialAToken : List External → (f : ℕ) → Statement → Type 0
AtMostOnePartialAToken unit f s =
    (definition : External) → slice_get (definitions unit) f ≡ Some definition → (tokens : List Measured) → SpellsExternal tokens definition
    → code_partials s ≤ length tokens
