-- What a program does: the value of an expression and the effect of a statement, by cases on the syntax, over globals and locals
-- by name. The numbers in parentheses are clauses of ISO/IEC 9899:1999. What the rules of scope and type refuse, such as a name
-- that is not in scope or a call of something that is not a function, may have any meaning here.
--
-- The start of `main`, each call of a defined function, and each start of a loop's body spend a step. A number n, which is
-- greater than the number of steps left, makes each recursion end; it has no other effect.
use Rattle.std.specs.Prelude.{ℕ, zero, suc, ◌+◌, ◌-◌, true, false, List, [], ◌∷◌, ◌++◌, length, drop, map, nat_lt, if◌then◌else◌, Option, Some, None, is_some, unwrap_or, slice_get, slice_set, codes}
use Rattle.cc_words.specs.Widths.{kept}
use Rattle.cc_words.specs.Observed.{read_mark}
use Rattle.cc_simulation.specs.operators.Width.{Width}
use Rattle.cc_ast.specs.scalar.Scalar.{Scalar}
use Rattle.cc_ast.specs.scalar.Scalar.TheVariants.{Int}
use Rattle.cc_ast.specs.declared.ast.BinaryOperator.{BinaryOperator}
use Rattle.cc_ast.specs.declared.ast.BinaryOperator.TheVariants.{ShiftLeft, ShiftRight}
use Rattle.cc_ast.specs.Tree as tree
use Rattle.cc_ast.specs.Tree.{Name, Expr, Exprs, none, more, Number, Variable, Element, Call, Parenthesised, Unary, Cast, Binary, Conditional, Target, AtVariable, AtElement, Action, Assign, Step, Evaluate, Declarator, Beginning, Declares, Performs, Stmt, Stmts, end, next, Block, Perform, Return, Break, Continue, If, IfElse, While, DoWhile, For, Parameter, Object, External, Source}
use Rattle.cc_types.specs.Names.{same_name}
use Rattle.cc_types.specs.Operators.{working_type, unary_word, binary_word, decided, applied_operator, step_operator}
use Rattle.cc_types.specs.Scope as scope
use Rattle.cc_types.specs.Scope.{Binding, Visible, in_scope, opened, declared, scope_behind, scope_behind_beginning, body_scope, FileScope, first_file_scope, file_scope_behind}
use Rattle.cc_types.specs.Types.{value_type, target_type, object_width, initial_words}
use Rattle.cc_types.specs.Limits.{objects, object_name}
use Rattle.cc_c_semantics.specs.Outcome as outcome
use Rattle.cc_c_semantics.specs.Outcome.{Outcome, in_words}
use Rattle.cc_c_semantics.specs.declared.cause.Cause.{Cause}
use Rattle.cc_c_semantics.specs.declared.cause.Cause.TheVariants.{Division, Shift, Index, Depth}

-- ---- the state of a run, and what a part of it gives

-- a parameter or a local: its name and its value (6.2.4)
pub record Local : Type 0 where
  pub name : List ℕ
  pub word : ℕ

-- an object at file scope: its name, how wide its elements are, and their words; a single object has one word (6.2.4)
pub record Global : Type 0 where
  pub name : List ℕ
  pub width : Width
  pub words : List ℕ

-- the state of a run: the running function's locals, newest first; the globals; the input left; the output so far, with a mark for each
-- read; the steps left
pub record State : Type 0 where
  pub locals : List Local
  pub globals : List Global
  pub input : List ℕ
  pub output : List ℕ
  pub steps : ℕ

-- what a part of a run gives: a value and the next state; or no step is left; or the run goes wrong. The last two keep the output.
pub data Run (A : Type 0) : Type 0 where
  Gives : A → State → Run A
  Going : List ℕ → Run A
  Wrong : Cause → List ℕ → Run A

-- how a statement ends: it falls through to the next one, breaks or continues the loop around it, or returns a word from the function (6.8)
pub data Flow : Type 0 where
  Falls : Flow
  Breaks : Flow
  Continues : Flow
  Returns : ℕ → Flow

-- one part of a run, and then another, which gets the value of the first
abbrev pub then_do : {A B : Type 0} → Run A → (A → State → Run B) → Run B
then_do (Gives x s) go = go x s
then_do (Going output) go = Going output
then_do (Wrong cause output) go = Wrong cause output

-- the first if the word is not 0, else the second
abbrev pub choose : {A : Type 0} → ℕ → (State → A) → (State → A) → State → A
choose zero holds fails s = fails s
choose (suc w) holds fails s = holds s

-- what a call of a function does, given its name and the words of its arguments
abbrev pub Calls : Type 0
Calls = List ℕ → List ℕ → State → Run ℕ

-- ---- variables and elements by name

-- the word of the newest local of that name, if there is one (6.2.1)
abbrev pub local_word : List Local → List ℕ → Option ℕ
local_word [] x = None
local_word (l ∷ behind) x = if same_name l.name x then Some l.word else local_word behind x

-- the words of the object at file scope of that name
abbrev pub global_words : List Global → List ℕ → List ℕ
global_words [] x = []
global_words (g ∷ rest) x = if same_name g.name x then g.words else global_words rest x

-- the newest local of that name gets this word
abbrev pub with_local_word : List ℕ → ℕ → List Local → List Local
with_local_word x w [] = []
with_local_word x w (l ∷ behind) = if same_name l.name x then record l { word = w } ∷ behind else l ∷ with_local_word x w behind

-- an element of the object of that name gets a word, and keeps the part that fits in it (6.3.1.3)
abbrev pub with_element : List ℕ → ℕ → ℕ → List Global → List Global
with_element x i w [] = []
with_element x i w (g ∷ rest) = if same_name g.name x then record g { words = slice_set g.words i (kept g.width w) } ∷ rest else g ∷ with_element x i w rest

-- the word of a variable: a local hides an object at file scope (6.2.1, 6.5.1)
abbrev pub variable_word : List ℕ → State → ℕ
variable_word x s = unwrap_or (local_word s.locals x) (unwrap_or (slice_get (global_words s.globals x) 0) 0)

-- stores a word in a variable (6.5.16.1)
abbrev pub stored : List ℕ → ℕ → State → State
stored x w s =
    if is_some (local_word s.locals x) then record s { locals = with_local_word x w s.locals }
    else record s { globals = with_element x 0 w s.globals }

-- reads an element of an array; an index outside the array makes the run go wrong (6.5.2.1, 6.5.6). An index below 0 is a word
-- above every length that a unit may have.
abbrev pub read_element : List ℕ → ℕ → State → Run ℕ
read_element x i s = elim (slice_get (global_words s.globals x) i) [ None ↦ Wrong Index s.output | Some w ↦ Gives w s ]

-- stores a word in an element of an array
abbrev pub write_element : List ℕ → ℕ → ℕ → State → Run Flow
write_element x i w s =
    if nat_lt i (length (global_words s.globals x)) then Gives Falls (record s { globals = with_element x i w s.globals })
    else Wrong Index s.output

-- ---- expressions

-- why an operator has no value: a shift because of its count (6.5.7), any other operator because it is a quotient or remainder (6.5.5)
abbrev pub cause_of : BinaryOperator → Cause
cause_of ShiftLeft = Shift
cause_of ShiftRight = Shift
cause_of op = Division

-- gives an operator's value, or goes wrong
abbrev pub given : BinaryOperator → Option ℕ → State → Run ℕ
given op None s = Wrong (cause_of op) s.output
given op (Some w) s = Gives w s

-- gives the word if it is decided already, else continues
abbrev pub unless_decided : Option ℕ → (State → Run ℕ) → State → Run ℕ
unless_decided None go s = go s
unless_decided (Some w) go s = Gives w s

-- the value of an expression, given the names in scope. Operands are evaluated from left to right, the right operand of && and || only if
-- the left one does not decide, and only one branch of a conditional (6.5.13 to 6.5.15). A conversion keeps the word (6.3.1.3).
abbrev mutual
  pub evaluate : Expr → List Binding → Calls → State → Run ℕ
  evaluate (Number t n) bs call s = Gives n s
  evaluate (Variable x) bs call s = Gives (variable_word x.text s) s
  evaluate (Element x e) bs call s = then_do (evaluate e bs call s) (λ i t. read_element x.text i t)
  evaluate (Call f es) bs call s = then_do (evaluate_all es bs call s) (λ ws t. call f.text ws t)
  evaluate (Parenthesised e) bs call s = evaluate e bs call s
  evaluate (Unary op e) bs call s = then_do (evaluate e bs call s) (λ a t. Gives (unary_word op a) t)
  evaluate (Cast type e) bs call s = evaluate e bs call s
  evaluate (Binary op left right) bs call s =
      then_do (evaluate left bs call s) (λ a t. unless_decided (decided op a)
      (λ u. then_do (evaluate right bs call u) (λ b v. given op (binary_word op (working_type op (value_type bs left) (value_type bs right)) a b) v)) t)
  evaluate (Conditional c a b) bs call s = then_do (evaluate c bs call s) (λ w t. choose w (evaluate a bs call) (evaluate b bs call) t)

  pub evaluate_all : Exprs → List Binding → Calls → State → Run (List ℕ)
  evaluate_all none bs call s = Gives [] s
  evaluate_all (more e rest) bs call s =
      then_do (evaluate e bs call s) (λ w t. then_do (evaluate_all rest bs call t) (λ ws u. Gives (w ∷ ws) u))

-- the value of an expression, or the word `w` if it is absent
abbrev pub evaluate_or : ℕ → Option Expr → List Binding → Calls → State → Run ℕ
evaluate_or w None bs call s = Gives w s
evaluate_or w (Some e) bs call s = evaluate e bs call s

-- ---- assignments (6.5.16)

-- what is written to: a variable, or an element with its index
pub data Destination : Type 0 where
  ToVariable : List ℕ → Destination
  ToElement : List ℕ → ℕ → Destination

-- finds the destination: the index is evaluated, but not checked yet
abbrev pub destination : Target → List Binding → Calls → State → Run Destination
destination (AtVariable x) bs call s = Gives (ToVariable x.text) s
destination (AtElement x e) bs call s = then_do (evaluate e bs call s) (λ i t. Gives (ToElement x.text i) t)

-- the destination's old value
abbrev pub old_value : Destination → State → Run ℕ
old_value (ToVariable x) s = Gives (variable_word x s) s
old_value (ToElement x i) s = read_element x i s

-- writes to the destination
abbrev pub write : Destination → ℕ → State → Run Flow
write (ToVariable x) w s = Gives Falls (stored x w s)
write (ToElement x i) w s = write_element x i w s

-- the word to write, given the right side's word: for `=` it is that word, else the operator's value for the old value and that word
abbrev pub new_value : Option BinaryOperator → Scalar → Scalar → Destination → ℕ → State → Run ℕ
new_value None t u d w s = Gives w s
new_value (Some op) t u d w s = then_do (old_value d s) (λ old v. given op (binary_word op (working_type op t u) old w) v)

-- an action: evaluates the index, then the right side, reads the old value if needed, and writes; ++ and -- are += 1 and -= 1 (6.8.3)
abbrev pub perform : Action → List Binding → Calls → State → Run Flow
perform (Assign op target e) bs call s =
    then_do (destination target bs call s) (λ d t. then_do (evaluate e bs call t) (λ w u.
    then_do (new_value (applied_operator op) (target_type bs target) (value_type bs e) d w u) (λ new v. write d new v)))
perform (Step op target) bs call s =
    then_do (destination target bs call s) (λ d t.
    then_do (new_value (applied_operator (step_operator op)) (target_type bs target) Int d 1 t) (λ new v. write d new v))
perform (Evaluate e) bs call s = then_do (evaluate e bs call s) (λ w t. Gives Falls t)

abbrev pub perform_optional : Option Action → List Binding → Calls → State → Run Flow
perform_optional None bs call s = Gives Falls s
perform_optional (Some a) bs call s = perform a bs call s

-- ---- steps and loops

-- spends one of the steps left, and continues
abbrev pub spend_of : {A : Type 0} → ℕ → (State → Run A) → State → Run A
spend_of zero go s = Going s.output
spend_of (suc left) go s = go (record s { steps = left })

-- spends a step and continues; if no step is left, the run stops unfinished
abbrev pub spend : {A : Type 0} → (State → Run A) → State → Run A
spend go s = spend_of s.steps go s

-- continues after a statement that falls through
abbrev pub behind_flow : Flow → (State → Run Flow) → State → Run Flow
behind_flow Falls go s = go s
behind_flow flow go s = Gives flow s

-- continues after a loop's body that falls through or continues; a break ends the loop (6.8.6.2, 6.8.6.3)
abbrev pub behind_body : Flow → (State → Run Flow) → State → Run Flow
behind_body Falls go s = go s
behind_body Continues go s = go s
behind_body Breaks go s = Gives Falls s
behind_body (Returns w) go s = Gives (Returns w) s

-- the body of a loop, which spends a step when it begins
abbrev pub begin_body : (State → Run Flow) → (State → Run Flow) → State → Run Flow
begin_body body go s = spend (λ t. then_do (body t) (λ flow u. behind_body flow go u)) s

-- fewer than n turns of a loop: its condition, its body, and the last part of a `for` header (6.8.5)
abbrev pub turns : ℕ → (State → Run ℕ) → (State → Run Flow) → (State → Run Flow) → State → Run Flow
turns zero test body behind s = Going s.output
turns (suc n) test body behind s =
    then_do (test s) (λ w t. choose w (begin_body body (λ u. then_do (behind u) (λ flow v. turns n test body behind v))) (λ u. Gives Falls u) t)

-- ---- declarations

-- a new local of that name, with the word 0, is the newest
abbrev pub with_local : List ℕ → State → State
with_local x s = record s { locals = record { name = x; word = 0 } ∷ s.locals }

-- declares locals one after another: each is first 0, then gets the value of its initialiser, in which it is in scope (6.2.1, 6.7.8)
abbrev pub declare : Scalar → List Declarator → Calls → Visible → State → Run Flow
declare t [] call v s = Gives Falls s
declare t (d ∷ rest) call v s =
    then_do (evaluate_or 0 d.initial (in_scope (declared d.name.text (scope.Variable t) v)) call (with_local d.name.text s))
    (λ w u. declare t rest call (declared d.name.text (scope.Variable t) v) (stored d.name.text w u))

-- the first part of a `for` header
abbrev pub start : Beginning → Calls → Visible → State → Run Flow
start (Declares t ds) call v s = declare t ds call v s
start (Performs a) call v s = perform_optional a (in_scope v) call s

-- after a scope only the oldest locals remain, as many as there were before it (6.2.1)
abbrev pub left_scope : ℕ → State → State
left_scope before s = record s { locals = drop (length s.locals - before) s.locals }

-- a part of a run that has its own scope
abbrev pub in_block : (State → Run Flow) → State → Run Flow
in_block part s = then_do (part s) (λ flow t. Gives flow (left_scope (length s.locals) t))

-- ---- statements

-- a return, with a value if it has one
abbrev pub return : Option Expr → List Binding → Calls → State → Run Flow
return e bs call s = then_do (evaluate_or 0 e bs call s) (λ w t. Gives (Returns w) t)

-- what a statement or a list of statements does, if at most n steps are left (6.8). A block and each part of a statement are scopes, and a
-- `for` header is a scope around the loop's body (6.8.2, 6.8.4, 6.8.5). An absent condition counts as true (6.8.5.3).
abbrev mutual
  pub execute : Stmt → ℕ → Calls → Visible → State → Run Flow
  execute (Block all) n call v s = in_block (execute_all all n call (opened v)) s
  execute (tree.Local t ds) n call v s = declare t ds call v s
  execute (Perform a) n call v s = perform_optional a (in_scope v) call s
  execute (Return at e) n call v s = return e (in_scope v) call s
  execute (Break at) n call v s = Gives Breaks s
  execute (Continue at) n call v s = Gives Continues s
  execute (If c a) n call v s =
      then_do (evaluate c (in_scope v) call s) (λ w t. choose w (in_block (execute a n call (opened v))) (λ u. Gives Falls u) t)
  execute (IfElse c a b) n call v s =
      then_do (evaluate c (in_scope v) call s) (λ w t. choose w (in_block (execute a n call (opened v))) (in_block (execute b n call (opened v))) t)
  execute (While c body) n call v s =
      turns (suc n) (evaluate c (in_scope v) call) (in_block (execute body n call (opened v))) (λ t. Gives Falls t) s
  execute (DoWhile body c) n call v s =
      begin_body (in_block (execute body n call (opened v)))
      (turns (suc n) (evaluate c (in_scope v) call) (in_block (execute body n call (opened v))) (λ t. Gives Falls t)) s
  execute (For first c behind body) n call v s =
      in_block (λ t. then_do (start first call (opened v) t) (λ flow u.
      turns (suc n) (evaluate_or 1 c (in_scope (scope_behind_beginning first (opened v))) call)
      (in_block (execute body n call (opened (scope_behind_beginning first (opened v)))))
      (perform_optional behind (in_scope (scope_behind_beginning first (opened v))) call) u)) s

  pub execute_all : Stmts → ℕ → Calls → Visible → State → Run Flow
  execute_all end n call v s = Gives Falls s
  execute_all (next first rest) n call v s =
      then_do (execute first n call v s) (λ flow t. behind_flow flow (execute_all rest n call (scope_behind first v)) t)

-- ---- functions

-- a defined function: its name, the names of its parameters, its body, and the scope in which the body begins
pub record Function : Type 0 where
  pub name : List ℕ
  pub parameters : List (List ℕ)
  pub body : Stmts
  pub visible : Visible

-- the bytes of a name that may be absent
abbrev pub text_of : Option Name → List ℕ
text_of None = []
text_of (Some x) = x.text

-- the functions that a unit defines, in the order of their definitions
abbrev pub functions_from : List External → FileScope → List Function
functions_from [] f = []
functions_from (tree.Definition s body ∷ rest) f =
    record { name = s.name.text; parameters = map (λ (p : Parameter). text_of p.name) s.parameters; body = body; visible = body_scope s f }
    ∷ functions_from rest (file_scope_behind (tree.Definition s body) f)
functions_from (tree.Declaration s ∷ rest) f = functions_from rest (file_scope_behind (tree.Declaration s) f)
functions_from (tree.Objects t os ∷ rest) f = functions_from rest (file_scope_behind (tree.Objects t os) f)

abbrev pub functions : List External → List Function
functions externals = functions_from externals first_file_scope

-- the function of that name
abbrev pub function_named : List Function → List ℕ → Option Function
function_named [] x = None
function_named (f ∷ rest) x = if same_name f.name x then Some f else function_named rest x

-- the parameters with their words are added before these locals, the last parameter as the newest
abbrev pub bound : List (List ℕ) → List ℕ → List Local → List Local
bound (x ∷ xs) (w ∷ ws) ls = bound xs ws (record { name = x; word = w } ∷ ls)
bound [] ws ls = ls
bound (x ∷ xs) [] ls = ls

-- the value of a function once its body has ended: 0 if the run reaches the body's end, or if no value is returned
abbrev pub result_of : Flow → ℕ
result_of (Returns w) = w
result_of flow = 0

-- the body on the words of its arguments: at its start its parameters are its only locals; at its end the caller's are restored
abbrev pub run_body : Function → ℕ → Calls → List ℕ → State → Run ℕ
run_body f n call ws s =
    then_do (execute_all f.body n call f.visible (record s { locals = bound f.parameters ws [] }))
    (λ flow t. Gives (result_of flow) (record t { locals = s.locals }))

abbrev pub run_optional : Option Function → ℕ → Calls → List ℕ → State → Run ℕ
run_optional None n call ws s = Gives 0 s
run_optional (Some f) n call ws s = run_body f n call ws s

-- reads the next word of the input, or 0 if none is left, and marks the read in the output
abbrev pub read_input : List ℕ → State → Run ℕ
read_input [] s = Gives 0 (record s { output = s.output ++ read_mark ∷ [] })
read_input (w ∷ rest) s = Gives w (record s { input = rest; output = s.output ++ read_mark ∷ [] })

-- how many calls may be open, including that of `main` but not those of the builtins
abbrev pub most_open : ℕ
most_open = 1024

-- a call while this many calls are open, if fewer than n steps are left: the builtins spend no step; a call of a defined function
-- spends one, and then goes wrong if too many calls would be open
abbrev pub calls : ℕ → List Function → ℕ → Calls
calls zero fs opened f ws s = Going s.output
calls (suc n) fs opened f ws s =
    elim (same_name f (codes "write_word")) [
      | true ↦ Gives 0 (record s { output = s.output ++ ws })
      | false ↦ elim (same_name f (codes "read_word")) [
        | true ↦ read_input s.input s
        | false ↦ spend (λ t. elim (nat_lt opened most_open) [
          | true ↦ run_optional (function_named fs f) n (calls n fs (opened + 1)) ws t
          | false ↦ Wrong Depth t.output
        ]) s
      ]
    ]

-- ---- programs

-- an object at file scope before the run
abbrev pub initial_global : Object → Global
initial_global o = record { name = (object_name o).text; width = object_width o; words = initial_words o }

-- all objects at file scope, in the order of their declarations
abbrev pub initial_globals : List External → List Global
initial_globals externals = map initial_global (objects externals)

-- the outcome of a call
abbrev pub outcome_of : Run ℕ → Outcome ℕ
outcome_of (Gives w s) = record { stop = outcome.Ended w; output = s.output }
outcome_of (Going output) = record { stop = outcome.Going; output = output }
outcome_of (Wrong cause output) = record { stop = outcome.Wrong cause; output = output }

-- what a program does on an input within n steps, with the places of its reads among what it writes: `main` is called while no call is
-- open (5.1.2.2.1, 5.1.2.3)
abbrev pub observed_behavior : Source → List ℕ → ℕ → Outcome ℕ
observed_behavior source input n =
    outcome_of (calls (suc n) (functions source.externals) 0 (codes "main") []
    (record { locals = []; globals = initial_globals source.externals; input = input; output = []; steps = n }))

-- the same with the words alone that it writes
abbrev pub source_behavior : Source → List ℕ → ℕ → Outcome ℕ
source_behavior source input n = in_words (observed_behavior source input n)
