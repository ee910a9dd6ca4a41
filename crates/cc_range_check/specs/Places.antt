-- The operations that facts do not cover, in the order of the code: inner ones first, left ones before right ones, and the index of a
-- store before the word that is stored. Each has its number among the function's operations that can lack a value.
use Rattle.std.specs.Prelude.{ℕ, suc, ◌+◌, Bool, true, false, List, [], ◌∷◌, ◌++◌, Option, Some, None, if◌then◌else◌}
use Rattle.cc_words.specs.declared.operators.Binary as two
use Rattle.cc_words.specs.declared.operators.Binary.TheVariants.{Add, Sub, Mul, DivS, DivU, RemS, RemU, Shl, ShrS, ShrU, And, Or, Xor, Eq, Ne, LtS, LtU, LeS, LeU}
use Rattle.cc_words.specs.declared.operators.Width.{Width}
use Rattle.cc_simulation.specs.World.{Size}
use Rattle.cc_cminor_language.specs.Cminor.{Expression, Constant, Local, Unary, Binary, Load, Statement, Skip, Set, Store, Call, Read, Write, Sequence, If, Loop, Block, Exit, Return}
use Rattle.cc_guard.specs.Guard.{elements_in}
use Rattle.cc_range.specs.declared.range.Range.{Range}
use Rattle.cc_range.specs.Range.{is_covered, is_index}
use Rattle.cc_range_table.specs.Table.{Facts, State, Row, Table, note_at}
use Rattle.cc_range_table.specs.Inductive.{range_of, learned_within, places, known_after, first_facts}
use Rattle.cc_range_check.specs.declared.places.Need as needs
use Rattle.cc_range_check.specs.declared.places.Need.TheVariants.{Operands, Index}
use Rattle.cc_range_check.specs.declared.places.Place.{Place}

-- ---- how many operations can lack a value

-- ORDER Binary
abbrev pub is_partial : two.Binary → Bool
is_partial Add = false
is_partial Sub = false
is_partial Mul = false
is_partial DivS = true
is_partial DivU = true
is_partial RemS = true
is_partial RemU = true
is_partial Shl = true
is_partial ShrS = true
is_partial ShrU = true
is_partial And = false
is_partial Or = false
is_partial Xor = false
is_partial Eq = false
is_partial Ne = false
is_partial LtS = false
is_partial LtU = false
is_partial LeS = false
is_partial LeU = false

abbrev pub counted : two.Binary → ℕ
counted op = if is_partial op then 1 else 0

abbrev pub operations_of : Expression → ℕ
operations_of (Constant w) = 0
operations_of (Local x) = 0
operations_of (Unary op e) = operations_of e
operations_of (Binary op a b) = operations_of a + operations_of b + counted op
operations_of (Load width o i) = operations_of i + 1

abbrev pub operations_of_all : List Expression → ℕ
operations_of_all [] = 0
operations_of_all (e ∷ es) = operations_of e + operations_of_all es

abbrev pub operations_in : Statement → ℕ
operations_in Skip = 0
operations_in (Set x e) = operations_of e
operations_in (Store width o i e) = operations_of i + 1 + operations_of e
operations_in (Call to f es) = operations_of_all es
operations_in (Read to) = 0
operations_in (Write e) = operations_of e
operations_in (Sequence a b) = operations_in a + operations_in b
operations_in (If e a b) = operations_of e + operations_in a + operations_in b
operations_in (Loop a) = operations_in a
operations_in (Block a) = operations_in a
operations_in (Exit k) = 0
operations_in (Return e) = operations_of e

-- ---- the operations that are not covered

-- the operation with this number, unless it is covered
abbrev pub unless : (covered : Bool) → (operation : ℕ) → needs.Need → List Place
unless true n need = []
unless false n need = record { operation = n; need = need } ∷ []

-- an index into an object
abbrev pub unless_inside : List Size → (n : ℕ) → Width → (object : ℕ) → Range → List Place
unless_inside sizes n width o r = unless (is_index r (elements_in sizes width o)) n (Index (elements_in sizes width o) r)

-- those of an expression whose first operation has this number
abbrev pub uncovered : List Size → (n : ℕ) → Facts → Expression → List Place
uncovered sizes n F (Constant w) = []
uncovered sizes n F (Local x) = []
uncovered sizes n F (Unary op e) = uncovered sizes n F e
uncovered sizes n F (Binary op a b) =
    uncovered sizes n F a ++ uncovered sizes (n + operations_of a) F b
    ++ unless (is_covered op (range_of F a) (range_of F b)) (n + operations_of a + operations_of b) (Operands op (range_of F a) (range_of F b))
uncovered sizes n F (Load width o i) = uncovered sizes n F i ++ unless_inside sizes (n + operations_of i) width o (range_of F i)

abbrev pub uncovered_all : List Size → (n : ℕ) → Facts → List Expression → List Place
uncovered_all sizes n F [] = []
uncovered_all sizes n F (e ∷ es) = uncovered sizes n F e ++ uncovered_all sizes (n + operations_of e) F es

-- those that follow from a state's facts, if it has any
abbrev pub from_facts : State → (Facts → List Place) → List Place
from_facts None go = []
from_facts (Some F) go = go F

-- those of a statement whose first loop or block has the place k
abbrev pub uncovered_at : List Size → Table → List State → (place n : ℕ) → Facts → Statement → List Place
uncovered_at sizes table notes k n F Skip = []
uncovered_at sizes table notes k n F (Set x e) = uncovered sizes n F e
uncovered_at sizes table notes k n F (Store width o i e) =
    uncovered sizes n F i ++ unless_inside sizes (n + operations_of i) width o (range_of F i) ++ uncovered sizes (n + operations_of i + 1) F e
uncovered_at sizes table notes k n F (Call to f es) = uncovered_all sizes n F es
uncovered_at sizes table notes k n F (Read to) = []
uncovered_at sizes table notes k n F (Write e) = uncovered sizes n F e
uncovered_at sizes table notes k n F (Sequence a b) =
    uncovered_at sizes table notes k n F a ++ from_facts (known_after sizes table notes k F a) (λ G. uncovered_at sizes table notes (k + places a) (n + operations_in a) G b)
uncovered_at sizes table notes k n F (If e a b) =
    uncovered sizes n F e ++ uncovered_at sizes table notes k (n + operations_of e) (learned_within sizes true F e) a
    ++ uncovered_at sizes table notes (k + places a) (n + operations_of e + operations_in a) (learned_within sizes false F e) b
uncovered_at sizes table notes k n F (Loop a) = from_facts (note_at notes k) (λ G. uncovered_at sizes table notes (suc k) n G a)
uncovered_at sizes table notes k n F (Block a) = uncovered_at sizes table notes (suc k) n F a
uncovered_at sizes table notes k n F (Exit j) = []
uncovered_at sizes table notes k n F (Return e) = uncovered sizes n F e

-- those of a function
abbrev pub uncovered_code : List Size → Table → Row → Statement → List Place
uncovered_code sizes table row s = uncovered_at sizes table row.notes 0 0 (first_facts table row) s
