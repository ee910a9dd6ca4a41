-- What is known after a statement, when a table is inductive, and which operations are covered. One walk over a function's code says
-- all three, from its parameters' ranges and the objects' ranges: what is known at a loop's head and at a block's end is read from
-- the table, and only compared with what arrives there.
use Rattle.std.specs.Prelude.{ℕ, suc, ◌+◌, ◌==◌, Bool, true, false, not, ◌&&◌, ◌||◌, List, [], ◌∷◌, ◌++◌, set, get_or, replicate, Option, Some, None, if◌then◌else◌}
use Rattle.cc_words.specs.declared.operators.Unary.TheVariants.{Neg, Complement, IsZero}
use Rattle.cc_words.specs.declared.operators.Binary.TheVariants.{Add, Sub}
use Rattle.cc_words.specs.declared.operators.Width.{Width}
use Rattle.cc_simulation.specs.World.{Size, size_in}
use Rattle.cc_cminor_language.specs.Cminor.{Expression, Constant, Local, Unary, Binary, Load, Statement, Skip, Set, Store, Call, Read, Write, Sequence, If, Loop, Block, Exit, Return}
use Rattle.cc_guard.specs.Guard.{elements_in}
use Rattle.cc_range.specs.declared.range.Range.{Range}
use Rattle.cc_range.specs.Range.{all_words, nonzero_words, only, is_within, joined, met, sum, difference, of_unary, of_binary, of_kept, is_covered, is_index, learned_from}
use Rattle.cc_range_table.specs.Table.{Facts, State, Row, Table, at, row_of, note_at, is_written}

-- ---- lists of ranges

-- each word of each range of the first list is in the range of the second at that position
abbrev pub are_within : List Range → List Range → Bool
are_within rs [] = true
are_within [] (s ∷ ss) = is_within all_words s && are_within [] ss
are_within (r ∷ rs) (s ∷ ss) = is_within r s && are_within rs ss

abbrev pub joined_all : List Range → List Range → List Range
joined_all [] ss = []
joined_all (r ∷ rs) [] = []
joined_all (r ∷ rs) (s ∷ ss) = joined r s ∷ joined_all rs ss

-- ---- states

abbrev pub facts_within : Facts → Facts → Bool
facts_within F G = are_within F.variables G.variables && are_within F.objects G.objects

abbrev pub state_within : State → State → Bool
state_within None t = true
state_within (Some F) None = false
state_within (Some F) (Some G) = facts_within F G

-- what is known after a choice between two ways
abbrev pub joined_facts : Facts → Facts → Facts
joined_facts F G = record { variables = joined_all F.variables G.variables; objects = joined_all F.objects G.objects }

abbrev pub joined_states : State → State → State
joined_states None t = t
joined_states (Some F) None = Some F
joined_states (Some F) (Some G) = Some (joined_facts F G)

-- what follows from a state's facts, if it has any; a test of them
abbrev pub then_facts : State → (Facts → State) → State
then_facts None go = None
then_facts (Some F) go = go F

abbrev pub for_facts : State → (Facts → Bool) → Bool
for_facts None test = true
for_facts (Some F) test = test F

-- ---- expressions

-- the range of an expression's value
abbrev pub range_of : Facts → Expression → Range
range_of F (Constant w) = only w
range_of F (Local x) = at F.variables x
range_of F (Unary op e) = of_unary op (range_of F e)
range_of F (Binary op a b) = of_binary op (range_of F a) (range_of F b)
range_of F (Load width o i) = at F.objects o

-- an object with one element is a scalar: what is stored in it is all that it has
abbrev pub is_scalar : List Size → (object : ℕ) → Bool
is_scalar sizes o = (size_in sizes o).elements == 1

-- each operation in an expression has a value
abbrev pub covers : List Size → Facts → Expression → Bool
covers sizes F (Constant w) = true
covers sizes F (Local x) = true
covers sizes F (Unary op e) = covers sizes F e
covers sizes F (Binary op a b) = covers sizes F a && covers sizes F b && is_covered op (range_of F a) (range_of F b)
covers sizes F (Load width o i) = covers sizes F i && is_index (range_of F i) (elements_in sizes width o)

abbrev pub covers_all : List Size → Facts → List Expression → Bool
covers_all sizes F [] = true
covers_all sizes F (e ∷ es) = covers sizes F e && covers_all sizes F es

-- ---- what a condition shows

abbrev pub set_variable : Facts → (variable : ℕ) → Range → Facts
set_variable F x r = record { variables = set F.variables x r; objects = F.objects }

abbrev pub set_object : Facts → (object : ℕ) → Range → Facts
set_object F o r = record { variables = F.variables; objects = set F.objects o r }

-- the terms of a sum or of a difference that is in a range
abbrev pub in_sum : Facts → (a b : Expression) → Range → Range
in_sum F a b r = met r (sum (range_of F a) (range_of F b))

abbrev pub in_difference : Facts → (a b : Expression) → Range → Range
in_difference F a b r = met r (difference (range_of F a) (range_of F b))

-- The facts, if an expression's value is also in this range. A variable and a scalar's element are; a term of a sum is the sum
-- minus the other term.
abbrev pub narrowed : List Size → Facts → Expression → Range → Facts
narrowed sizes F (Constant w) r = F
narrowed sizes F (Local x) r = set_variable F x (met (at F.variables x) r)
narrowed sizes F (Unary op e) r = F
narrowed sizes F (Binary Add a b) r = narrowed sizes (narrowed sizes F a (difference (in_sum F a b r) (range_of F b))) b (difference (in_sum F a b r) (range_of F a))
narrowed sizes F (Binary Sub a b) r = narrowed sizes (narrowed sizes F a (sum (in_difference F a b r) (range_of F b))) b (difference (range_of F a) (in_difference F a b r))
narrowed sizes F (Binary op a b) r = F
narrowed sizes F (Load width o i) r = if is_scalar sizes o then set_object F o (met (at F.objects o) r) else F

-- the facts, if a condition is not 0 (`way` is true) or is 0 (false)
abbrev pub way_range : Bool → Range
way_range true = nonzero_words
way_range false = only 0

abbrev pub learned_within : List Size → (way : Bool) → Facts → Expression → Facts
learned_within sizes way F (Constant w) = F
learned_within sizes way F (Local x) = narrowed sizes F (Local x) (way_range way)
learned_within sizes way F (Unary IsZero e) = learned_within sizes (not way) F e
learned_within sizes way F (Unary Neg e) = F
learned_within sizes way F (Unary Complement e) = F
learned_within sizes way F (Binary op a b) =
    let both = learned_from way op (range_of F a) (range_of F b) in
    narrowed sizes (narrowed sizes F a both.left) b both.right
learned_within sizes way F (Load width o i) = narrowed sizes F (Load width o i) (way_range way)

-- ---- statements

-- how many loops and blocks a statement has
abbrev pub places : Statement → ℕ
places Skip = 0
places (Set x e) = 0
places (Store width o i e) = 0
places (Call to f es) = 0
places (Read to) = 0
places (Write e) = 0
places (Sequence a b) = places a + places b
places (If e a b) = places a + places b
places (Loop a) = suc (places a)
places (Block a) = suc (places a)
places (Exit k) = 0
places (Return e) = 0

-- after a store: a scalar has only the stored value, any other object may also have what it had
abbrev pub after_store : List Size → Facts → Width → (object : ℕ) → Range → Facts
after_store sizes F width o r = set_object F o (if is_scalar sizes o then of_kept width r else joined (at F.objects o) (of_kept width r))

abbrev pub set_result : Facts → Option ℕ → Range → Facts
set_result F None r = F
set_result F (Some x) r = set_variable F x r

-- after a call: what it may change is in the table's range, and the rest is as it was
abbrev pub after_changes : (writes : List Bool) (before table : List Range) → List Range
after_changes [] rs ts = []
after_changes (w ∷ ws) [] ts = []
after_changes (w ∷ ws) (r ∷ rs) [] = []
after_changes (w ∷ ws) (r ∷ rs) (t ∷ ts) = (if w then t else r) ∷ after_changes ws rs ts

abbrev pub after_call : Table → Facts → Option ℕ → Row → Facts
after_call table F to row = set_result (record { variables = F.variables; objects = after_changes row.writes F.objects table.objects }) to row.result

-- what the first function may change, the second may change
abbrev pub changes_within : List Bool → List Bool → Bool
changes_within ws [] = true
changes_within [] (v ∷ vs) = v && changes_within [] vs
changes_within (w ∷ ws) (v ∷ vs) = (not w || v) && changes_within ws vs

-- each argument is in its parameter's range, and there are as many
abbrev pub are_arguments : Facts → List Expression → List Range → Bool
are_arguments F [] [] = true
are_arguments F [] (p ∷ ps) = false
are_arguments F (e ∷ es) [] = false
are_arguments F (e ∷ es) (p ∷ ps) = is_within (range_of F e) p && are_arguments F es ps

-- what is known after a statement whose first loop or block has this place; None if the run never continues after it
abbrev pub known_after : List Size → Table → List State → (place : ℕ) → Facts → Statement → State
known_after sizes table notes k F Skip = Some F
known_after sizes table notes k F (Set x e) = Some (set_variable F x (range_of F e))
known_after sizes table notes k F (Store width o i e) = Some (after_store sizes F width o (range_of F e))
known_after sizes table notes k F (Call to f es) = Some (after_call table F to (row_of table f))
known_after sizes table notes k F (Read to) = Some (set_result F to all_words)
known_after sizes table notes k F (Write e) = Some F
known_after sizes table notes k F (Sequence a b) = then_facts (known_after sizes table notes k F a) (λ G. known_after sizes table notes (k + places a) G b)
known_after sizes table notes k F (If e a b) =
    joined_states (known_after sizes table notes k (learned_within sizes true F e) a) (known_after sizes table notes (k + places a) (learned_within sizes false F e) b)
known_after sizes table notes k F (Loop a) = None
known_after sizes table notes k F (Block a) = note_at notes k
known_after sizes table notes k F (Exit j) = None
known_after sizes table notes k F (Return e) = None

-- at a call, and at a return of a function that others may call, each object is in the table's range
abbrev pub is_boundary : Table → Facts → Bool
is_boundary table F = are_within F.objects table.objects

-- a function that ends here gives what its row says
abbrev pub ends_well : Table → Row → Facts → Range → Bool
ends_well table row F r = not row.is_called || (is_within r row.result && is_boundary table F)

-- The table is inductive at a statement. `exits` has what is known at the ends of the blocks around it, the innermost first. Each call
-- passes what the called function's row says, each return gives what this row says, only what this row says is changed, and what
-- arrives at a loop's head, at the end of its turn, at an exit and at a block's end is within what is noted there.
abbrev pub is_inductive_at : List Size → Table → Row → (exits : List State) → (place : ℕ) → Facts → Statement → Bool
is_inductive_at sizes table row X k F Skip = true
is_inductive_at sizes table row X k F (Set x e) = true
is_inductive_at sizes table row X k F (Store width o i e) = is_written row.writes o
is_inductive_at sizes table row X k F (Call to f es) =
    (row_of table f).is_called && are_arguments F es (row_of table f).parameters && is_boundary table F && changes_within (row_of table f).writes row.writes
is_inductive_at sizes table row X k F (Read to) = true
is_inductive_at sizes table row X k F (Write e) = true
is_inductive_at sizes table row X k F (Sequence a b) =
    is_inductive_at sizes table row X k F a && for_facts (known_after sizes table row.notes k F a) (λ G. is_inductive_at sizes table row X (k + places a) G b)
is_inductive_at sizes table row X k F (If e a b) =
    is_inductive_at sizes table row X k (learned_within sizes true F e) a && is_inductive_at sizes table row X (k + places a) (learned_within sizes false F e) b
is_inductive_at sizes table row X k F (Loop a) =
    state_within (Some F) (note_at row.notes k)
    && for_facts (note_at row.notes k) (λ G. is_inductive_at sizes table row X (suc k) G a && state_within (known_after sizes table row.notes (suc k) G a) (note_at row.notes k))
is_inductive_at sizes table row X k F (Block a) =
    is_inductive_at sizes table row (note_at row.notes k ∷ X) (suc k) F a && state_within (known_after sizes table row.notes (suc k) F a) (note_at row.notes k)
is_inductive_at sizes table row X k F (Exit j) = state_within (Some F) (get_or X j None)
is_inductive_at sizes table row X k F (Return e) = ends_well table row F (range_of F e)

-- each operation of a statement has a value, and each index is inside its object
abbrev pub covers_at : List Size → Table → List State → (place : ℕ) → Facts → Statement → Bool
covers_at sizes table notes k F Skip = true
covers_at sizes table notes k F (Set x e) = covers sizes F e
covers_at sizes table notes k F (Store width o i e) = covers sizes F i && covers sizes F e && is_index (range_of F i) (elements_in sizes width o)
covers_at sizes table notes k F (Call to f es) = covers_all sizes F es
covers_at sizes table notes k F (Read to) = true
covers_at sizes table notes k F (Write e) = covers sizes F e
covers_at sizes table notes k F (Sequence a b) =
    covers_at sizes table notes k F a && for_facts (known_after sizes table notes k F a) (λ G. covers_at sizes table notes (k + places a) G b)
covers_at sizes table notes k F (If e a b) =
    covers sizes F e && covers_at sizes table notes k (learned_within sizes true F e) a && covers_at sizes table notes (k + places a) (learned_within sizes false F e) b
covers_at sizes table notes k F (Loop a) = for_facts (note_at notes k) (λ G. covers_at sizes table notes (suc k) G a)
covers_at sizes table notes k F (Block a) = covers_at sizes table notes (suc k) F a
covers_at sizes table notes k F (Exit j) = true
covers_at sizes table notes k F (Return e) = covers sizes F e

-- ---- functions

-- what is known at the start of a function: the parameters are in their ranges, other variables are 0, the objects are in the table's
-- ranges
abbrev pub first_facts : Table → Row → Facts
first_facts table row = record { variables = row.parameters ++ replicate row.locals (only 0); objects = table.objects }

-- a function's end is a return of 0
abbrev pub is_inductive : List Size → Table → Row → Statement → Bool
is_inductive sizes table row s =
    is_inductive_at sizes table row [] 0 (first_facts table row) s
    && for_facts (known_after sizes table row.notes 0 (first_facts table row) s) (λ F. ends_well table row F (only 0))

-- no operation of a function is asked
abbrev pub covers_code : List Size → Table → Row → Statement → Bool
covers_code sizes table row s = covers_at sizes table row.notes 0 (first_facts table row) s
