-- What the pass makes: the same code with a test before each operation that can lack a value. If a test fails, the run leaves all
-- blocks and reaches a loop at the end of the function, which goes on for ever and does nothing.
use Rattle.std.specs.Prelude.{ℕ, zero, suc, ◌+◌, ◌-◌, ◌*◌, ◌/◌, ◌^◌, ◌==◌, nat_lt, nat_le, min, max, Bool, true, false, not, ◌&&◌, ◌||◌, List, [], ◌∷◌, ◌++◌, Option, Some, None, if◌then◌else◌}
use Rattle.std.specs.Option.{option_or}
use Rattle.cc_words.specs.declared.operators.Unary as one
use Rattle.cc_words.specs.declared.operators.Unary.TheVariants.{IsZero}
use Rattle.cc_words.specs.declared.operators.Binary as two
use Rattle.cc_words.specs.declared.operators.Binary.TheVariants.{Add, Sub, Mul, DivS, DivU, RemS, RemU, Shl, ShrS, ShrU, And, Or, Xor, Eq, Ne, LtS, LtU, LeS, LeU}
use Rattle.cc_words.specs.declared.operators.Width.{Width}
use Rattle.cc_words.specs.Widths.{same_width}
use Rattle.cc_simulation.specs.World.{Size, size_in}
use Rattle.cc_cminor_language.specs.Cminor.{Expression, Constant, Local, Unary, Binary, Load, Statement, Skip, Set, Store, Call, Read, Write, Sequence, If, Loop, Block, Exit, Return}
use Rattle.cc_guard.specs.declared.known.Limit.{Limit}

-- ---- guards

-- What comes before a statement. `Put` puts a word into a variable, `Stop` stops the run if a word is not 0, and `StopBoth` stops
-- it if neither of two words is 0.
pub data Guard : Type 0 where
  Put : (variable : ℕ) → Expression → Guard
  Stop : Expression → Guard
  StopBoth : (first second : Expression) → Guard

-- the loop that never ends and does nothing
abbrev pub forever : Statement
forever = Loop Skip

-- a guard as code, inside this many blocks of the function
abbrev pub guard_code : (blocks : ℕ) → Guard → Statement
guard_code b (Put t e) = Set t e
guard_code b (Stop e) = If e (Exit b) Skip
guard_code b (StopBoth d e) = If d (If e (Exit b) Skip) Skip

-- the guards, followed by a statement
abbrev pub guards_then : (blocks : ℕ) → List Guard → Statement → Statement
guards_then b [] s = s
guards_then b (g ∷ gs) s = Sequence (guard_code b g) (guards_then b gs s)

-- An expression with the guards that come before it. The guards set only variables from some number on and below `next`. `known`
-- holds the bounds known after them.
pub record Guarded : Type 0 where
  pub before : List Guard
  pub value : Expression
  pub next : ℕ
  pub known : List Limit

-- ---- when an operation has a value

-- the lesser of two bounds, or the only one
abbrev pub least : Option ℕ → Option ℕ → Option ℕ
least None b = b
least (Some m) None = Some m
least (Some m) (Some k) = Some (min m k)

-- a bound, and the sum and the product of two bounds, each only if it fits in a word
abbrev pub if_word : ℕ → Option ℕ
if_word m = if nat_lt m (2 ^ 32) then Some m else None

abbrev pub most_sum : Option ℕ → Option ℕ → Option ℕ
most_sum None b = None
most_sum (Some m) None = None
most_sum (Some m) (Some k) = if_word (m + k)

abbrev pub most_product : Option ℕ → Option ℕ → Option ℕ
most_product None b = None
most_product (Some m) None = None
most_product (Some m) (Some k) = if_word (m * k)

-- the bound on a remainder, if its divisor is a constant other than 0
abbrev pub below_divisor : Expression → Option ℕ
below_divisor (Constant (suc w)) = Some w
below_divisor e = None

-- the greatest word that a variable can have: its last bound in the list
abbrev pub most_if : Bool → (most : ℕ) → Option ℕ
most_if b m = if b then Some m else None

abbrev pub most_in : List Limit → (variable : ℕ) → Option ℕ
most_in [] x = None
most_in (k ∷ ks) x = option_or (most_in ks x) (most_if (k.variable == x) k.most)

-- the greatest word that an expression can have, if its form shows one
abbrev pub most : List Limit → Expression → Option ℕ
most ks (Constant w) = Some w
most ks (Local x) = most_in ks x
most ks (Unary op e) = None
most ks (Binary Add a b) = most_sum (most ks a) (most ks b)
most ks (Binary Mul a b) = most_product (most ks a) (most ks b)
most ks (Binary DivU a b) = most ks a
most ks (Binary RemU a b) = least (below_divisor b) (most ks a)
most ks (Binary ShrU a b) = most ks a
most ks (Binary And a b) = least (most ks a) (most ks b)
most ks (Binary Eq a b) = Some 1
most ks (Binary Ne a b) = Some 1
most ks (Binary LtS a b) = Some 1
most ks (Binary LtU a b) = Some 1
most ks (Binary LeS a b) = Some 1
most ks (Binary LeU a b) = Some 1
most ks (Binary op a b) = None
most ks (Load w o i) = None

-- there is a bound, and it is below the number
abbrev pub is_below : Option ℕ → ℕ → Bool
is_below None n = false
is_below (Some m) n = nat_lt m n

-- ---- what a condition shows about a variable

-- the word before this one, if there is one
abbrev pub less_one : Option ℕ → Option ℕ
less_one None = None
less_one (Some zero) = None
less_one (Some (suc m)) = Some m

-- the bound that is known if the expression's value is at most this word: only a variable has one
abbrev pub told_of : Expression → Option ℕ → Option Limit
told_of (Local x) (Some m) = Some (record { variable = x; most = m })
told_of e m = None

-- the bound that becomes known if the first of two values is below the second (`way` is true) or not (false); next, for "at most"
abbrev pub told_less : (way : Bool) → (a b : Expression) → (most_a most_b : Option ℕ) → Option Limit
told_less true a b m k = told_of a (less_one k)
told_less false a b m k = told_of b m

abbrev pub told_most : (way : Bool) → (a b : Expression) → (most_a most_b : Option ℕ) → Option Limit
told_most true a b m k = told_of a k
told_most false a b m k = told_of b (less_one m)

-- signed words compare as unsigned ones do if both are below 2^31
abbrev pub if_small : Option ℕ → Option ℕ → Option Limit → Option Limit
if_small m k told = if is_below m (2 ^ 31) && is_below k (2 ^ 31) then told else None

-- the bound that becomes known if a condition is not 0 (`way` is true) or is 0 (false)
abbrev pub told : List Limit → (way : Bool) → Expression → Option Limit
told ks way (Binary LtS a b) = if_small (most ks a) (most ks b) (told_less way a b (most ks a) (most ks b))
told ks way (Binary LtU a b) = told_less way a b (most ks a) (most ks b)
told ks way (Binary LeS a b) = if_small (most ks a) (most ks b) (told_most way a b (most ks a) (most ks b))
told ks way (Binary LeU a b) = told_most way a b (most ks a) (most ks b)
told ks way e = None

abbrev pub with_told : List Limit → Option Limit → List Limit
with_told ks None = ks
with_told ks (Some k) = ks ++ k ∷ []

-- ---- operations that evidently have a value

-- the expression is a constant other than 0; the second definition also rules out -1
abbrev pub is_divisor : Expression → Bool
is_divisor (Constant w) = not (w == 0)
is_divisor e = false

abbrev pub is_signed_divisor : Expression → Bool
is_signed_divisor (Constant w) = not (w == 0) && not (w == 2 ^ 32 - 1)
is_signed_divisor e = false

-- an operation with this right operand evidently has a value, whatever its left operand is
-- ORDER Binary
abbrev pub always : List Limit → two.Binary → (right : Expression) → Bool
always ks Add b = true
always ks Sub b = true
always ks Mul b = true
always ks DivS b = is_signed_divisor b
always ks DivU b = is_divisor b
always ks RemS b = is_signed_divisor b
always ks RemU b = is_divisor b
always ks Shl b = is_below (most ks b) 32
always ks ShrS b = is_below (most ks b) 32
always ks ShrU b = is_below (most ks b) 32
always ks And b = true
always ks Or b = true
always ks Xor b = true
always ks Eq b = true
always ks Ne b = true
always ks LtS b = true
always ks LtU b = true
always ks LeS b = true
always ks LeU b = true

-- ---- the guards of an operator: the run stops exactly if the operator has no value

-- the guards of a signed quotient: the divisor must not be 0, and the operands must not be -2147483648 and -1
abbrev pub asked_signed : (a b : Expression) → List Guard
asked_signed a b = Stop (Unary IsZero b) ∷ StopBoth (Binary Eq b (Constant (2 ^ 32 - 1))) (Binary Eq a (Constant (2 ^ 31))) ∷ []

abbrev pub asked_divisor : (b : Expression) → List Guard
asked_divisor b = Stop (Unary IsZero b) ∷ []

abbrev pub asked_shift : (b : Expression) → List Guard
asked_shift b = Stop (Binary LeU (Constant 32) b) ∷ []

-- ORDER Binary
abbrev pub asked : two.Binary → (a b : Expression) → List Guard
asked Add a b = []
asked Sub a b = []
asked Mul a b = []
asked DivS a b = asked_signed a b
asked DivU a b = asked_divisor b
asked RemS a b = asked_signed a b
asked RemU a b = asked_divisor b
asked Shl a b = asked_shift b
asked ShrS a b = asked_shift b
asked ShrU a b = asked_shift b
asked And a b = []
asked Or a b = []
asked Xor a b = []
asked Eq a b = []
asked Ne a b = []
asked LtS a b = []
asked LtU a b = []
asked LeS a b = []
asked LeU a b = []

-- whether the guards read the left operand too
abbrev pub reads_left : two.Binary → Bool
reads_left DivS = true
reads_left RemS = true
reads_left op = false

-- how many elements of this width an object of this size has
abbrev pub elements_of : Size → Width → ℕ
elements_of z w = if same_width z.width w then z.elements else 0

abbrev pub elements_in : List Size → Width → (object : ℕ) → ℕ
elements_in objects w o = elements_of (size_in objects o) w

-- ---- an expression

-- an expression without guards
abbrev pub plain : List Limit → ℕ → Expression → Guarded
plain ks n e = record { before = []; value = e; next = n; known = ks }

-- a value that is read twice is put into a variable, unless it is a constant or a variable already
abbrev pub waits_as : Expression → Guarded → Guarded
waits_as (Constant w) g = g
waits_as (Local x) g = g
waits_as e g = record { before = g.before ++ Put g.next g.value ∷ []; value = Local g.next; next = suc g.next; known = g.known }

abbrev pub waiting : Guarded → Guarded
waiting g = waits_as g.value g

abbrev pub waiting_if : Bool → Guarded → Guarded
waiting_if b g = if b then waiting g else g

abbrev pub with_unary : one.Unary → Guarded → Guarded
with_unary op g = record { before = g.before; value = Unary op g.value; next = g.next; known = g.known }

-- an operator on two operands, after the guards of both
abbrev pub with_binary : two.Binary → Guarded → Guarded → Guarded
with_binary op a b = record { before = a.before ++ b.before; value = Binary op a.value b.value; next = b.next; known = b.known }

-- an operator on two operands, after the guards of both and its own
abbrev pub with_test : two.Binary → Guarded → Guarded → Guarded
with_test op a b = record { before = a.before ++ (b.before ++ asked op a.value b.value); value = Binary op a.value b.value; next = b.next; known = b.known }

abbrev pub with_load : Width → (object : ℕ) → Guarded → Guarded
with_load w o i = record { before = i.before; value = Load w o i.value; next = i.next; known = i.known }

-- if a value is below n and is a variable, this bound is known from then on
abbrev pub learned : Expression → ℕ → List Limit → List Limit
learned (Local x) n ks = ks ++ record { variable = x; most = n - 1 } ∷ []
learned e n ks = ks

abbrev pub bounded : ℕ → Guarded → Guarded
bounded n g = record { before = g.before ++ Stop (Binary LeU (Constant n) g.value) ∷ []; value = g.value; next = g.next; known = learned g.value n g.known }

-- an index into an object, after its own guards; a guard tests that it lies in the object, unless that is evident
abbrev pub indexed : List Size → List Limit → Width → (object : ℕ) → Expression → Guarded → Guarded
indexed objects ks w o i g = if is_below (most ks i) (elements_in objects w o) then g else bounded (elements_in objects w o) (waiting g)

-- an expression with its guards: inner parts first, left to right; the guards set variables from n on
abbrev pub guarded : List Size → List Limit → (n : ℕ) → Expression → Guarded
guarded objects ks n (Constant w) = plain ks n (Constant w)
guarded objects ks n (Local x) = plain ks n (Local x)
guarded objects ks n (Unary op e) = with_unary op (guarded objects ks n e)
guarded objects ks n (Binary op a b) =
    if always (guarded objects ks n a).known op b then with_binary op (guarded objects ks n a) (guarded objects (guarded objects ks n a).known (guarded objects ks n a).next b)
    else with_test op (waiting_if (reads_left op) (guarded objects ks n a)) (waiting (guarded objects (waiting_if (reads_left op) (guarded objects ks n a)).known (waiting_if (reads_left op) (guarded objects ks n a)).next b))
guarded objects ks n (Load w o i) = with_load w o (indexed objects ks w o i (guarded objects ks n i))

-- expressions with their guards, one after the other
pub record GuardedAll : Type 0 where
  pub before : List Guard
  pub values : List Expression
  pub next : ℕ
  pub known : List Limit

abbrev pub with_first : Guarded → GuardedAll → GuardedAll
with_first a rest = record { before = a.before ++ rest.before; values = a.value ∷ rest.values; next = rest.next; known = rest.known }

abbrev pub guarded_all : List Size → List Limit → (n : ℕ) → List Expression → GuardedAll
guarded_all objects ks n [] = record { before = []; values = []; next = n; known = ks }
guarded_all objects ks n (e ∷ es) = with_first (guarded objects ks n e) (guarded_all objects (guarded objects ks n e).known (guarded objects ks n e).next es)

-- the index of a store, with its guards; then the word that is stored, after the guards of the index
abbrev pub first_index : List Size → List Limit → (n : ℕ) → Width → (object : ℕ) → Expression → Guarded
first_index objects ks n w o i = indexed objects ks w o i (guarded objects ks n i)

abbrev pub stored_word : List Size → Guarded → Expression → Guarded
stored_word objects i e = guarded objects i.known i.next e

-- ---- what is known after a statement

-- this variable gets the result; the next definition: the statement, or a part of it, sets this variable
abbrev pub sets_result : Option ℕ → (variable : ℕ) → Bool
sets_result None x = false
sets_result (Some y) x = y == x

abbrev pub sets : Statement → (variable : ℕ) → Bool
sets Skip x = false
sets (Set y e) x = y == x
sets (Store w o i e) x = false
sets (Call to f es) x = sets_result to x
sets (Read to) x = sets_result to x
sets (Write e) x = false
sets (Sequence s t) x = sets s x || sets t x
sets (If e s t) x = sets s x || sets t x
sets (Loop s) x = sets s x
sets (Block s) x = sets s x
sets (Exit k) x = false
sets (Return e) x = false

-- the known bounds of unchanged variables below n
abbrev pub stays : (n : ℕ) → (changed : ℕ → Bool) → Limit → Bool
stays n changed k = nat_lt k.variable n && not (changed k.variable)

abbrev pub kept_if : Bool → Limit → List Limit → List Limit
kept_if b k ks = if b then k ∷ ks else ks

abbrev pub kept : (n : ℕ) → (changed : ℕ → Bool) → List Limit → List Limit
kept n changed [] = []
kept n changed (k ∷ ks) = kept_if (stays n changed k) k (kept n changed ks)

-- what is known once a variable is set to a word with this bound, if there is one
abbrev pub set_to : (variable : ℕ) → Option ℕ → List Limit → List Limit
set_to x None ks = ks
set_to x (Some m) ks = ks ++ record { variable = x; most = m } ∷ []

-- the bounds that hold on both of two ways: for each variable with a bound on both, the greater of the two
abbrev pub either : Limit → Option ℕ → List Limit → List Limit
either k None ks = ks
either k (Some m) ks = record { variable = k.variable; most = max k.most m } ∷ ks

abbrev pub joined : (one other : List Limit) → List Limit
joined [] other = []
joined (k ∷ ks) other = either k (most_in other k.variable) (joined ks other)

-- no part of the statement sets this variable
abbrev pub unset : Statement → (variable : ℕ) → Bool
unset s x = not (sets s x)

-- control may reach the end of a statement, judging by its form
abbrev pub falls : Statement → Bool
falls Skip = true
falls (Set x e) = true
falls (Store w o i e) = true
falls (Call to f es) = true
falls (Read to) = true
falls (Write e) = true
falls (Sequence s t) = falls t
falls (If e s t) = falls s || falls t
falls (Loop s) = false
falls (Block s) = true
falls (Exit k) = false
falls (Return e) = false

-- an exit in the statement leaves exactly block number k around the statement; 0 is the innermost one
abbrev pub leaves : (outer : ℕ) → Statement → Bool
leaves k Skip = false
leaves k (Set x e) = false
leaves k (Store w o i e) = false
leaves k (Call to f es) = false
leaves k (Read to) = false
leaves k (Write e) = false
leaves k (Sequence s t) = leaves k s || leaves k t
leaves k (If e s t) = leaves k s || leaves k t
leaves k (Loop s) = leaves k s
leaves k (Block s) = leaves (suc k) s
leaves k (Exit j) = j == k
leaves k (Return e) = false

-- what is known after an `If`: `one` and `other` are known at the ends of its ways, if control reaches them (`first`, `second`);
-- `before` holds the bounds of variables that no part of it sets
abbrev pub met : (first second : Bool) → (n : ℕ) → Statement → (before one other : List Limit) → List Limit
met true true n s before one other = before ++ joined (kept n (unset s) one) other
met true false n s before one other = one
met false true n s before one other = other
met false false n s before one other = before

-- what is known at the start of one way of an `If`
abbrev pub known_within : List Size → (n : ℕ) → (way : Bool) → List Limit → Expression → List Limit
known_within objects n way ks e = kept n (sets Skip) (with_told (guarded objects ks n e).known (told (guarded objects ks n e).known way e))

-- what is known after a statement; loops are not entered, since control never reaches the end of a loop, and a block is entered
-- only if no exit leaves just that block
abbrev pub known_after : List Size → (n : ℕ) → List Limit → Statement → List Limit
known_after objects n ks Skip = ks
known_after objects n ks (Set x e) = set_to x (most (guarded objects ks n e).known e) (kept n (sets (Set x e)) (guarded objects ks n e).known)
known_after objects n ks (Store w o i e) = kept n (sets (Store w o i e)) (stored_word objects (first_index objects ks n w o i) e).known
known_after objects n ks (Call to f es) = kept n (sets (Call to f es)) (guarded_all objects ks n es).known
known_after objects n ks (Read to) = kept n (sets (Read to)) ks
known_after objects n ks (Write e) = kept n (sets (Write e)) (guarded objects ks n e).known
known_after objects n ks (Sequence s t) = known_after objects n (known_after objects n ks s) t
known_after objects n ks (If e s t) =
    met (falls s) (falls t) n (If e s t) (kept n (sets (If e s t)) (guarded objects ks n e).known) (known_after objects n (known_within objects n true ks e) s) (known_after objects n (known_within objects n false ks e) t)
known_after objects n ks (Loop s) = kept n (sets s) ks
known_after objects n ks (Block s) = if leaves 0 s then kept n (sets s) ks else known_after objects n ks s
known_after objects n ks (Exit k) = ks
known_after objects n ks (Return e) = kept n (sets (Return e)) (guarded objects ks n e).known

-- ---- what is known at a loop's head

-- bounds that a turn does not raise: whether one is such a bound, whether all of them are, and the list of those that are
abbrev pub at_most : Option ℕ → ℕ → Bool
at_most None n = false
at_most (Some m) n = nat_le m n

abbrev pub all_again : (after head : List Limit) → Bool
all_again after [] = true
all_again after (k ∷ ks) = at_most (most_in after k.variable) k.most && all_again after ks

abbrev pub still : (after head : List Limit) → List Limit
still after [] = []
still after (k ∷ ks) = kept_if (at_most (most_in after k.variable) k.most) k (still after ks)

-- in place of a bound that grew in a turn, 2^30 is tried if it is greater: sums with it can still be below 2^31
abbrev pub widened_if : (again : Bool) → Limit → Limit
widened_if again k = if again then k else record { variable = k.variable; most = max k.most (2 ^ 30) }

abbrev pub widened : (after before : List Limit) → List Limit
widened after [] = []
widened after (k ∷ ks) = widened_if (at_most (most_in after k.variable) k.most) k ∷ widened after ks

-- what is known after a turn that starts with the bounds `more` for variables that the loop sets
abbrev pub turn : List Size → (n : ℕ) → List Limit → Statement → (more : List Limit) → List Limit
turn objects n ks s more = known_after objects n (kept n (sets s) ks ++ more) s

-- the bounds that are known both before the loop and after a turn that starts with the widened bounds
abbrev pub narrowed : List Size → (n : ℕ) → List Limit → Statement → (before : List Limit) → List Limit
narrowed objects n ks s before = joined before (turn objects n ks s (widened (turn objects n ks s before) before))

abbrev pub found : List Size → (n : ℕ) → List Limit → Statement → List Limit
found objects n ks s = still (turn objects n ks s (narrowed objects n ks s (kept n (unset s) ks))) (narrowed objects n ks s (kept n (unset s) ks))

-- the bounds found are verified: if a turn does not leave all of them known, nothing is known about the variables that the loop sets
abbrev pub if_again : (after head : List Limit) → List Limit
if_again after head = if all_again after head then head else []

abbrev pub head : List Size → (n : ℕ) → List Limit → Statement → List Limit
head objects n ks s = kept n (sets s) ks ++ if_again (turn objects n ks s (found objects n ks s)) (found objects n ks s)

-- ---- a statement

abbrev pub with_store : (blocks : ℕ) → Width → (object : ℕ) → Guarded → Guarded → Statement
with_store b w o i e = guards_then b (i.before ++ e.before) (Store w o i.value e.value)

-- a statement with its guards, in b blocks, given what is known before it; the guards of each statement in it set variables from n on
abbrev pub code_after : List Size → (n : ℕ) → List Limit → (blocks : ℕ) → Statement → Statement
code_after objects n ks b Skip = Skip
code_after objects n ks b (Set x e) = guards_then b (guarded objects ks n e).before (Set x (guarded objects ks n e).value)
code_after objects n ks b (Store w o i e) = with_store b w o (first_index objects ks n w o i) (stored_word objects (first_index objects ks n w o i) e)
code_after objects n ks b (Call to f es) = guards_then b (guarded_all objects ks n es).before (Call to f (guarded_all objects ks n es).values)
code_after objects n ks b (Read to) = Read to
code_after objects n ks b (Write e) = guards_then b (guarded objects ks n e).before (Write (guarded objects ks n e).value)
code_after objects n ks b (Sequence s t) = Sequence (code_after objects n ks b s) (code_after objects n (known_after objects n ks s) b t)
code_after objects n ks b (If e s t) =
    guards_then b (guarded objects ks n e).before
    (If (guarded objects ks n e).value (code_after objects n (known_within objects n true ks e) b s) (code_after objects n (known_within objects n false ks e) b t))
code_after objects n ks b (Loop s) = Loop (code_after objects n (head objects n ks s) b s)
code_after objects n ks b (Block s) = Block (code_after objects n ks (suc b) s)
code_after objects n ks b (Exit k) = Exit k
code_after objects n ks b (Return e) = guards_then b (guarded objects ks n e).before (Return (guarded objects ks n e).value)

-- a function's own code with its guards; nothing is known at the function's start
abbrev pub guarded_code : List Size → (n blocks : ℕ) → Statement → Statement
guarded_code objects n b s = code_after objects n [] b s

-- whether there is a guard: in a list, and in a statement
abbrev pub some_guard : List Guard → Bool
some_guard [] = false
some_guard (g ∷ gs) = true

abbrev pub guards_after : List Size → (n : ℕ) → List Limit → Statement → Bool
guards_after objects n ks Skip = false
guards_after objects n ks (Set x e) = some_guard (guarded objects ks n e).before
guards_after objects n ks (Store w o i e) = some_guard ((first_index objects ks n w o i).before ++ (stored_word objects (first_index objects ks n w o i) e).before)
guards_after objects n ks (Call to f es) = some_guard (guarded_all objects ks n es).before
guards_after objects n ks (Read to) = false
guards_after objects n ks (Write e) = some_guard (guarded objects ks n e).before
guards_after objects n ks (Sequence s t) = guards_after objects n ks s || guards_after objects n (known_after objects n ks s) t
guards_after objects n ks (If e s t) =
    some_guard (guarded objects ks n e).before || (guards_after objects n (known_within objects n true ks e) s || guards_after objects n (known_within objects n false ks e) t)
guards_after objects n ks (Loop s) = guards_after objects n (head objects n ks s) s
guards_after objects n ks (Block s) = guards_after objects n ks s
guards_after objects n ks (Exit k) = false
guards_after objects n ks (Return e) = some_guard (guarded objects ks n e).before

abbrev pub has_guards : List Size → (n : ℕ) → Statement → Bool
has_guards objects n s = guards_after objects n [] s

-- the least number above every variable that the guards set; 0 if they set none
abbrev pub variables_after : List Size → (n : ℕ) → List Limit → Statement → ℕ
variables_after objects n ks Skip = 0
variables_after objects n ks (Set x e) = (guarded objects ks n e).next
variables_after objects n ks (Store w o i e) = (stored_word objects (first_index objects ks n w o i) e).next
variables_after objects n ks (Call to f es) = (guarded_all objects ks n es).next
variables_after objects n ks (Read to) = 0
variables_after objects n ks (Write e) = (guarded objects ks n e).next
variables_after objects n ks (Sequence s t) = max (variables_after objects n ks s) (variables_after objects n (known_after objects n ks s) t)
variables_after objects n ks (If e s t) =
    max (guarded objects ks n e).next (max (variables_after objects n (known_within objects n true ks e) s) (variables_after objects n (known_within objects n false ks e) t))
variables_after objects n ks (Loop s) = variables_after objects n (head objects n ks s) s
variables_after objects n ks (Block s) = variables_after objects n ks s
variables_after objects n ks (Exit k) = 0
variables_after objects n ks (Return e) = (guarded objects ks n e).next

abbrev pub variables_in : List Size → (n : ℕ) → Statement → ℕ
variables_in objects n s = variables_after objects n [] s

-- the code of a function with its guards, followed by the loop; a run that reaches the end of the function's own code also
-- reaches the end of this code
abbrev pub with_loop : Statement → Statement
with_loop s = Block (Sequence (Block (Sequence s (Exit 1))) forever)

-- the code of a function with its guards: the loop is there only if there is a guard
abbrev pub guarded_function : List Size → (n : ℕ) → Statement → Statement
guarded_function objects n s = if has_guards objects n s then with_loop (guarded_code objects n 0 s) else guarded_code objects n 0 s
