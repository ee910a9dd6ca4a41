-- What a program did before there were arrays of `unsigned char`: each clause of `cc_c_semantics/specs/Meaning` that mentions the state of a
-- run, as it was then but for the marks of reads, over objects that have only words (`EarlierGlobal` of `Texts`). Clauses that mention no
-- state are not repeated: none of them has a different text now, except those on arrays of `unsigned char` themselves. The numbers in
-- parentheses are clauses of ISO/IEC 9899:1999.
use Rattle.std.specs.Prelude.{ℕ, zero, suc, ◌+◌, ◌-◌, true, false, List, [], ◌∷◌, ◌++◌, length, drop, nat_lt, if◌then◌else◌, Option, Some, None, is_some, unwrap_or, slice_get, codes}
use Rattle.cc_tokens.specs.declared.scalar.Scalar.{Scalar}
use Rattle.cc_tokens.specs.declared.scalar.Scalar.TheVariants.{Int}
use Rattle.cc_ast.specs.declared.ast.BinaryOperator.{BinaryOperator}
use Rattle.cc_ast.specs.Tree as tree
use Rattle.cc_ast.specs.Tree.{Expr, Exprs, none, more, Number, Variable, Element, Call, Parenthesised, Unary, Cast, Binary, Conditional, Target, AtVariable, AtElement, Action, Assign, Step, Evaluate, Declarator, Beginning, Declares, Performs, Stmt, Stmts, end, next, Block, Perform, Return, Break, Continue, If, IfElse, While, DoWhile, For, Source}
use Rattle.cc_types.specs.Names.{same_name}
use Rattle.cc_types.specs.Operators.{working_type, unary_word, binary_word, decided, applied_operator, step_operator}
use Rattle.cc_types.specs.Scope as scope
use Rattle.cc_types.specs.Scope.{Binding, Visible, in_scope, opened, declared, scope_behind, scope_behind_beginning}
use Rattle.cc_types.specs.Types.{value_type, target_type}
use Rattle.cc_words.specs.Observed.{read_mark}
use Rattle.cc_c_semantics.specs.Outcome as outcome
use Rattle.cc_c_semantics.specs.Outcome.{Outcome, in_words}
use Rattle.cc_c_semantics.specs.Meaning.{Local, Flow, Falls, Breaks, Continues, Returns, local_word, with_local_word, cause_of, Destination, ToVariable, ToElement, Function, functions, function_named, bound, result_of, most_open}
use Rattle.cc_c_semantics.specs.declared.cause.Cause.{Cause}
use Rattle.cc_c_semantics.specs.declared.cause.Cause.TheVariants.{Index, Depth}
use Rattle.cc_earlier.specs.Texts.{EarlierGlobal, earlier_words_of, earlier_with_element, earlier_initial_globals}

-- ---- the state of a run, and what a part of a run results in

-- the state of a run at one moment: the locals of the function that runs, the newest first, the globals, the words of the input that are
-- left, the output so far, and how many steps are left
pub record State : Type 0 where
  pub locals : List Local
  pub globals : List EarlierGlobal
  pub input : List ℕ
  pub output : List ℕ
  pub steps : ℕ

-- what a part of a run results in: it gives something and the run goes on, no step is left, or the run goes wrong. The last two keep the
-- output
pub data Run (A : Type 0) : Type 0 where
  Gives : A → State → Run A
  Going : List ℕ → Run A
  Wrong : Cause → List ℕ → Run A

-- one part of a run, then another one, which gets the result of the first
abbrev pub then_do : {A B : Type 0} → Run A → (A → State → Run B) → Run B
then_do (Gives x s) go = go x s
then_do (Going output) go = Going output
then_do (Wrong cause output) go = Wrong cause output

-- the first if the word is not 0, else the second
abbrev pub choose : {A : Type 0} → ℕ → (State → A) → (State → A) → State → A
choose zero holds fails s = fails s
choose (suc w) holds fails s = holds s

-- what a call does, given the function's name and the words of its arguments
abbrev pub Calls : Type 0
Calls = List ℕ → List ℕ → State → Run ℕ

-- ---- variables and elements by name

-- the word of a variable: a local hides an object at file scope (6.2.1, 6.5.1)
abbrev pub variable_word : List ℕ → State → ℕ
variable_word x s = unwrap_or (local_word s.locals x) (unwrap_or (slice_get (earlier_words_of s.globals x) 0) 0)

-- stores a word in a variable (6.5.16.1)
abbrev pub stored : List ℕ → ℕ → State → State
stored x w s =
    if is_some (local_word s.locals x) then record s { locals = with_local_word x w s.locals }
    else record s { globals = earlier_with_element x 0 w s.globals }

-- reads an element of an array; an index outside it goes wrong (6.5.2.1, 6.5.6). An index below 0 is a word above each length that a unit
-- may have
abbrev pub read_element : List ℕ → ℕ → State → Run ℕ
read_element x i s = elim (slice_get (earlier_words_of s.globals x) i) [ None ↦ Wrong Index s.output | Some w ↦ Gives w s ]

-- stores a word in an element of an array
abbrev pub write_element : List ℕ → ℕ → ℕ → State → Run Flow
write_element x i w s =
    if nat_lt i (length (earlier_words_of s.globals x)) then Gives Falls (record s { globals = earlier_with_element x i w s.globals })
    else Wrong Index s.output

-- ---- expressions

-- gives the value of an operator, or goes wrong if it has none
abbrev pub given : BinaryOperator → Option ℕ → State → Run ℕ
given op None s = Wrong (cause_of op) s.output
given op (Some w) s = Gives w s

-- gives the word if it is decided already, else goes on
abbrev pub unless_decided : Option ℕ → (State → Run ℕ) → State → Run ℕ
unless_decided None go s = go s
unless_decided (Some w) go s = Gives w s

-- the value of an expression in the scope of these names. Operands are evaluated from left to right, the right one of && and || only if the
-- left one does not decide, and one arm of a conditional (6.5.13 to 6.5.15); a conversion keeps the word (6.3.1.3)
abbrev mutual
  pub evaluate : Expr → List Binding → Calls → State → Run ℕ
  evaluate (Number t n) bs call s = Gives n s
  evaluate (Variable x) bs call s = Gives (variable_word x.text s) s
  evaluate (Element x e) bs call s = then_do (evaluate e bs call s) (λ i t. read_element x.text i t)
  evaluate (Call f es) bs call s = then_do (evaluate_all es bs call s) (λ ws t. call f.text ws t)
  evaluate (Parenthesised e) bs call s = evaluate e bs call s
  evaluate (Unary op e) bs call s = then_do (evaluate e bs call s) (λ a t. Gives (unary_word op a) t)
  evaluate (Cast type e) bs call s = evaluate e bs call s
  evaluate (Binary op left right) bs call s =
      then_do (evaluate left bs call s) (λ a t. unless_decided (decided op a)
      (λ u. then_do (evaluate right bs call u) (λ b v. given op (binary_word op (working_type op (value_type bs left) (value_type bs right)) a b) v)) t)
  evaluate (Conditional c a b) bs call s = then_do (evaluate c bs call s) (λ w t. choose w (evaluate a bs call) (evaluate b bs call) t)

  pub evaluate_all : Exprs → List Binding → Calls → State → Run (List ℕ)
  evaluate_all none bs call s = Gives [] s
  evaluate_all (more e rest) bs call s =
      then_do (evaluate e bs call s) (λ w t. then_do (evaluate_all rest bs call t) (λ ws u. Gives (w ∷ ws) u))

-- the value of an expression that may be left out, or this word if it is
abbrev pub evaluate_or : ℕ → Option Expr → List Binding → Calls → State → Run ℕ
evaluate_or w None bs call s = Gives w s
evaluate_or w (Some e) bs call s = evaluate e bs call s

-- ---- assignments (6.5.16)

-- finds the destination: the index is evaluated, and not yet checked
abbrev pub destination : Target → List Binding → Calls → State → Run Destination
destination (AtVariable x) bs call s = Gives (ToVariable x.text) s
destination (AtElement x e) bs call s = then_do (evaluate e bs call s) (λ i t. Gives (ToElement x.text i) t)

-- the old value of a destination
abbrev pub old_value : Destination → State → Run ℕ
old_value (ToVariable x) s = Gives (variable_word x s) s
old_value (ToElement x i) s = read_element x i s

-- the write to a destination
abbrev pub write : Destination → ℕ → State → Run Flow
write (ToVariable x) w s = Gives Falls (stored x w s)
write (ToElement x i) w s = write_element x i w s

-- what is written, given the right side's word: this word for `=`, else the operator's value for the old value and this word
abbrev pub new_value : Option BinaryOperator → Scalar → Scalar → Destination → ℕ → State → Run ℕ
new_value None t u d w s = Gives w s
new_value (Some op) t u d w s = then_do (old_value d s) (λ old v. given op (binary_word op (working_type op t u) old w) v)

-- an action: first the index, then the right side, then the old value if it is needed, then the write; ++ and -- are += 1 and -= 1 (6.8.3)
abbrev pub perform : Action → List Binding → Calls → State → Run Flow
perform (Assign op target e) bs call s =
    then_do (destination target bs call s) (λ d t. then_do (evaluate e bs call t) (λ w u.
    then_do (new_value (applied_operator op) (target_type bs target) (value_type bs e) d w u) (λ new v. write d new v)))
perform (Step op target) bs call s =
    then_do (destination target bs call s) (λ d t.
    then_do (new_value (applied_operator (step_operator op)) (target_type bs target) Int d 1 t) (λ new v. write d new v))
perform (Evaluate e) bs call s = then_do (evaluate e bs call s) (λ w t. Gives Falls t)

abbrev pub perform_optional : Option Action → List Binding → Calls → State → Run Flow
perform_optional None bs call s = Gives Falls s
perform_optional (Some a) bs call s = perform a bs call s

-- ---- steps and loops

-- spends one of the steps left, and goes on
abbrev pub spend_of : {A : Type 0} → ℕ → (State → Run A) → State → Run A
spend_of zero go s = Going s.output
spend_of (suc left) go s = go (record s { steps = left })

-- spends a step and goes on; if none is left, the run is still going
abbrev pub spend : {A : Type 0} → (State → Run A) → State → Run A
spend go s = spend_of s.steps go s

-- goes on after a statement that falls through
abbrev pub behind_flow : Flow → (State → Run Flow) → State → Run Flow
behind_flow Falls go s = go s
behind_flow flow go s = Gives flow s

-- goes on after a loop's body that falls through or continues; a break ends the loop (6.8.6.2, 6.8.6.3)
abbrev pub behind_body : Flow → (State → Run Flow) → State → Run Flow
behind_body Falls go s = go s
behind_body Continues go s = go s
behind_body Breaks go s = Gives Falls s
behind_body (Returns w) go s = Gives (Returns w) s

-- the body of a loop, which spends a step at its beginning
abbrev pub begin_body : (State → Run Flow) → (State → Run Flow) → State → Run Flow
begin_body body go s = spend (λ t. then_do (body t) (λ flow u. behind_body flow go u)) s

-- fewer than n turns of a loop: its condition, its body, and what is after the body in a `for` header (6.8.5)
abbrev pub turns : ℕ → (State → Run ℕ) → (State → Run Flow) → (State → Run Flow) → State → Run Flow
turns zero test body behind s = Going s.output
turns (suc n) test body behind s =
    then_do (test s) (λ w t. choose w (begin_body body (λ u. then_do (behind u) (λ flow v. turns n test body behind v))) (λ u. Gives Falls u) t)

-- ---- declarations

-- a local with that name and the word 0, before all others
abbrev pub with_local : List ℕ → State → State
with_local x s = record s { locals = record { name = x; word = 0 } ∷ s.locals }

-- declares locals one after the other: each is 0, then gets the value of its initialiser, in whose scope it is (6.2.1, 6.7.8)
abbrev pub declare : Scalar → List Declarator → Calls → Visible → State → Run Flow
declare t [] call v s = Gives Falls s
declare t (d ∷ rest) call v s =
    then_do (evaluate_or 0 d.initial (in_scope (declared d.name.text (scope.Variable t) v)) call (with_local d.name.text s))
    (λ w u. declare t rest call (declared d.name.text (scope.Variable t) v) (stored d.name.text w u))

-- the first part of a `for` header
abbrev pub start : Beginning → Calls → Visible → State → Run Flow
start (Declares t ds) call v s = declare t ds call v s
start (Performs a) call v s = perform_optional a (in_scope v) call s

-- after a scope only the oldest locals are left, as many as there were before it (6.2.1)
abbrev pub left_scope : ℕ → State → State
left_scope before s = record s { locals = drop (length s.locals - before) s.locals }

-- a part of a run in a scope of its own
abbrev pub in_block : (State → Run Flow) → State → Run Flow
in_block part s = then_do (part s) (λ flow t. Gives flow (left_scope (length s.locals) t))

-- ---- statements

-- a return, with its value if it has one
abbrev pub return : Option Expr → List Binding → Calls → State → Run Flow
return e bs call s = then_do (evaluate_or 0 e bs call s) (λ w t. Gives (Returns w) t)

-- what a statement or a list of statements does, if at most n steps are left (6.8). A block and each part of a statement are scopes, and a
-- `for` header is a scope around its body (6.8.2, 6.8.4, 6.8.5); a condition that is left out counts as true (6.8.5.3)
abbrev mutual
  pub execute : Stmt → ℕ → Calls → Visible → State → Run Flow
  execute (Block all) n call v s = in_block (execute_all all n call (opened v)) s
  execute (tree.Local t ds) n call v s = declare t ds call v s
  execute (Perform a) n call v s = perform_optional a (in_scope v) call s
  execute (Return at e) n call v s = return e (in_scope v) call s
  execute (Break at) n call v s = Gives Breaks s
  execute (Continue at) n call v s = Gives Continues s
  execute (If c a) n call v s =
      then_do (evaluate c (in_scope v) call s) (λ w t. choose w (in_block (execute a n call (opened v))) (λ u. Gives Falls u) t)
  execute (IfElse c a b) n call v s =
      then_do (evaluate c (in_scope v) call s) (λ w t. choose w (in_block (execute a n call (opened v))) (in_block (execute b n call (opened v))) t)
  execute (While c body) n call v s =
      turns (suc n) (evaluate c (in_scope v) call) (in_block (execute body n call (opened v))) (λ t. Gives Falls t) s
  execute (DoWhile body c) n call v s =
      begin_body (in_block (execute body n call (opened v)))
      (turns (suc n) (evaluate c (in_scope v) call) (in_block (execute body n call (opened v))) (λ t. Gives Falls t)) s
  execute (For first c behind body) n call v s =
      in_block (λ t. then_do (start first call (opened v) t) (λ flow u.
      turns (suc n) (evaluate_or 1 c (in_scope (scope_behind_beginning first (opened v))) call)
      (in_block (execute body n call (opened (scope_behind_beginning first (opened v)))))
      (perform_optional behind (in_scope (scope_behind_beginning first (opened v))) call) u)) s

  pub execute_all : Stmts → ℕ → Calls → Visible → State → Run Flow
  execute_all end n call v s = Gives Falls s
  execute_all (next first rest) n call v s =
      then_do (execute first n call v s) (λ flow t. behind_flow flow (execute_all rest n call (scope_behind first v)) t)

-- ---- functions

-- the body of a function on the words of its arguments: its only locals are the parameters, and afterwards its caller's locals are back
abbrev pub run_body : Function → ℕ → Calls → List ℕ → State → Run ℕ
run_body f n call ws s =
    then_do (execute_all f.body n call f.visible (record s { locals = bound f.parameters ws [] }))
    (λ flow t. Gives (result_of flow) (record t { locals = s.locals }))

abbrev pub run_optional : Option Function → ℕ → Calls → List ℕ → State → Run ℕ
run_optional None n call ws s = Gives 0 s
run_optional (Some f) n call ws s = run_body f n call ws s

-- the next word of the input, or 0 if none is left
abbrev pub read_input : List ℕ → State → Run ℕ
read_input [] s = Gives 0 (record s { output = s.output ++ read_mark ∷ [] })
read_input (w ∷ rest) s = Gives w (record s { input = rest; output = s.output ++ read_mark ∷ [] })

-- a call while this many calls are open, if fewer than n steps are left: the builtins spend no step; a call of a defined function spends
-- one, and then goes wrong if too many calls would be open
abbrev pub calls : ℕ → List Function → ℕ → Calls
calls zero fs opened f ws s = Going s.output
calls (suc n) fs opened f ws s =
    elim (same_name f (codes "write_word")) [
      | true ↦ Gives 0 (record s { output = s.output ++ ws })
      | false ↦ elim (same_name f (codes "read_word")) [
        | true ↦ read_input s.input s
        | false ↦ spend (λ t. elim (nat_lt opened most_open) [
          | true ↦ run_optional (function_named fs f) n (calls n fs (opened + 1)) ws t
          | false ↦ Wrong Depth t.output
        ]) s
      ]
    ]

-- ---- programs

-- the outcome of a call
abbrev pub outcome_of : Run ℕ → Outcome ℕ
outcome_of (Gives w s) = record { stop = outcome.Ended w; output = s.output }
outcome_of (Going output) = record { stop = outcome.Going; output = output }
outcome_of (Wrong cause output) = record { stop = outcome.Wrong cause; output = output }

-- what a program does on an input within n steps: `main` is called, while no call is open (5.1.2.2.1, 5.1.2.3)
abbrev pub observed_behavior : Source → List ℕ → ℕ → Outcome ℕ
observed_behavior source input n =
    outcome_of (calls (suc n) (functions source.externals) 0 (codes "main") []
    (record { locals = []; globals = earlier_initial_globals source.externals; input = input; output = []; steps = n }))

-- the same in words, as it was seen then: without the marks of reads
abbrev pub source_behavior : Source → List ℕ → ℕ → Outcome ℕ
source_behavior source input n = in_words (observed_behavior source input n)
