-- Runs that do not go wrong because of depth.
use Rattle.std.proofs.Common.{◌≡◌, ◌≢◌, ℕ, zero, suc, ◌+◌, ◌<◌, ◌≤◌, List, [], ◌∷◌, ◌++◌, Bool, true, false, if◌then◌else◌, length, nat_lt, Option, Some, None, is_some, inl, inr, refl, sym, ap, ◌∙◌, subst, arith}
use Rattle.std.proofs.lemmas.Bool.Decides.{leb_tells}
use Rattle.std.specs.Prelude.{codes, slice_get, unwrap_or, map}
use Rattle.std.specs.List.{AllByRecursion}
use Rattle.std.specs.Cmp.Lexicographic.{same_text}
use Rattle.cc_ast.specs.Tree as tree
use Rattle.cc_ast.specs.Tree.{Expr, Exprs, none, more, Number, Variable, Element, Call, Parenthesised, Unary, Cast, Binary, Conditional, Target, AtVariable, AtElement, Action, Assign, Step, Evaluate, Declarator, Beginning, Declares, Performs, Stmt, Stmts, end, next, Block, Perform, Return, Break, Continue, If, IfElse, While, DoWhile, For, External, Source}
use Rattle.cc_ast.specs.declared.ast.BinaryOperator.{BinaryOperator}
use Rattle.cc_ast.specs.declared.ast.BinaryOperator.TheVariants.{Multiply, Divide, Remainder, Add, Subtract, ShiftLeft, ShiftRight, Less, Greater, LessOrEqual, GreaterOrEqual, Equal, NotEqual, And, Xor, Or, LogicalAnd, LogicalOr}
use Rattle.cc_tokens.specs.declared.scalar.Scalar.{Scalar}
use Rattle.cc_tokens.specs.declared.scalar.Scalar.TheVariants.{Int}
use Rattle.cc_types.specs.Names.{same_name}
use Rattle.cc_types.specs.Operators.{working_type, unary_word, binary_word, decided, applied_operator, step_operator}
use Rattle.cc_types.specs.Scope as scope
use Rattle.cc_types.specs.Scope.{Binding, Visible, in_scope, opened, declared, scope_behind, scope_behind_beginning}
use Rattle.cc_types.specs.Types.{value_type, target_type}
use Rattle.cc_c_semantics.specs.Outcome as outcome
use Rattle.cc_c_semantics.specs.Meaning.{Local, Global, State, Run, Gives, Going, Wrong, Flow, Falls, Breaks, Continues, Returns, then_do, choose, Calls, global_words, with_element, variable_word, stored, read_element, write_element, cause_of, given, unless_decided, evaluate, evaluate_all, evaluate_or, Destination, ToVariable, ToElement, destination, old_value, write, new_value, perform, perform_optional, spend_of, spend, behind_flow, behind_body, begin_body, turns, with_local, declare, start, left_scope, in_block, return, execute, execute_all, Function, functions, function_named, bound, result_of, run_body, run_optional, read_input, most_open, calls, initial_globals, outcome_of, source_behavior}
use Rattle.cc_c_semantics.specs.declared.cause.Cause.{Cause}
use Rattle.cc_c_semantics.specs.declared.cause.Cause.TheVariants.{Division, Shift, Index, Depth}
use Rattle.cc_depth.specs.Cycles.{InExpression, InExpressions, InOptional, InTarget, InAction, InOptionalAction, InDeclarators, InBeginning, InStatement, InStatements, CallsLower, HasNoCycle}
use Rattle.cc_depth.specs.Laws.{AcyclicProgramsAreNeverDeep}

-- ---- parts of runs

abbrev IsOther : Cause → Type 0
IsOther Division = Unit {0}
IsOther Shift = Unit {0}
IsOther Index = Unit {0}
IsOther Depth = ⊥

abbrev Shallow : {A : Type 0} → Run A → Type 0
Shallow (Gives a s) = Unit {0}
Shallow (Going o) = Unit {0}
Shallow (Wrong cause o) = IsOther cause

then_shallow : {A B : Type 0} (r : Run A) (go : A → State → Run B) → Shallow r → ((a : A) (s : State) → Shallow (go a s)) → Shallow (then_do r go)
then_shallow (Gives a s) go h k = k a s
then_shallow (Going o) go h k = tt
then_shallow (Wrong cause o) go h k = h

choose_shallow : {A : Type 0} (w : ℕ) (holds fails : State → Run A) → ((s : State) → Shallow (holds s)) → ((s : State) → Shallow (fails s)) → (s : State) → Shallow (choose w holds fails s)
choose_shallow zero holds fails h k s = k s
choose_shallow (suc w) holds fails h k s = h s

spend_shallow : {A : Type 0} (left : ℕ) (go : State → Run A) → ((s : State) → Shallow (go s)) → (s : State) → Shallow (spend_of left go s)
spend_shallow zero go h s = tt
spend_shallow (suc left) go h s = h (record s { steps = left })

read_shallow : (o : Option ℕ) (s : State) → Shallow {A = ℕ} (elim o [ None ↦ Wrong Index s.output | Some w ↦ Gives w s ])
read_shallow None s = tt
read_shallow (Some w) s = tt

write_shallow : (b : Bool) (gs : List Global) (s : State) → Shallow {A = Flow} (if b then Gives Falls (record s { globals = gs }) else Wrong Index s.output)
write_shallow true gs s = tt
write_shallow false gs s = tt

cause_shallow : (op : BinaryOperator) → IsOther (cause_of op)
cause_shallow ShiftLeft = tt
cause_shallow ShiftRight = tt
cause_shallow Multiply = tt
cause_shallow Divide = tt
cause_shallow Remainder = tt
cause_shallow Add = tt
cause_shallow Subtract = tt
cause_shallow Less = tt
cause_shallow Greater = tt
cause_shallow LessOrEqual = tt
cause_shallow GreaterOrEqual = tt
cause_shallow Equal = tt
cause_shallow NotEqual = tt
cause_shallow And = tt
cause_shallow Xor = tt
cause_shallow Or = tt
cause_shallow LogicalAnd = tt
cause_shallow LogicalOr = tt

given_shallow : (op : BinaryOperator) (o : Option ℕ) (s : State) → Shallow (given op o s)
given_shallow op None s = cause_shallow op
given_shallow op (Some w) s = tt

unless_shallow : (o : Option ℕ) (go : State → Run ℕ) → ((s : State) → Shallow (go s)) → (s : State) → Shallow (unless_decided o go s)
unless_shallow None go h s = h s
unless_shallow (Some w) go h s = tt

flow_shallow : (flow : Flow) (go : State → Run Flow) → ((s : State) → Shallow (go s)) → (s : State) → Shallow (behind_flow flow go s)
flow_shallow Falls go h s = h s
flow_shallow Breaks go h s = tt
flow_shallow Continues go h s = tt
flow_shallow (Returns w) go h s = tt

body_shallow : (flow : Flow) (go : State → Run Flow) → ((s : State) → Shallow (go s)) → (s : State) → Shallow (behind_body flow go s)
body_shallow Falls go h s = h s
body_shallow Breaks go h s = tt
body_shallow Continues go h s = h s
body_shallow (Returns w) go h s = tt

begin_shallow : (body go : State → Run Flow) → ((s : State) → Shallow (body s)) → ((s : State) → Shallow (go s)) → (s : State) → Shallow (begin_body body go s)
begin_shallow body go h k s = spend_shallow s.steps (λ t. then_do (body t) (λ flow u. behind_body flow go u)) (λ t. then_shallow (body t) (λ flow u. behind_body flow go u) (h t) (λ flow u. body_shallow flow go k u)) s

turns_shallow : (n : ℕ) (test : State → Run ℕ) (body behind : State → Run Flow) → ((s : State) → Shallow (test s)) → ((s : State) → Shallow (body s)) → ((s : State) → Shallow (behind s)) → (s : State) → Shallow (turns n test body behind s)
turns_shallow zero test body behind a b c s = tt
turns_shallow (suc n) test body behind a b c s =
    then_shallow (test s) (λ w t. choose w (begin_body body (λ u. then_do (behind u) (λ flow v. turns n test body behind v))) (λ u. Gives Falls u) t) (a s)
    (λ w t. choose_shallow w (begin_body body (λ u. then_do (behind u) (λ flow v. turns n test body behind v))) (λ u. Gives Falls u)
    (begin_shallow body (λ u. then_do (behind u) (λ flow v. turns n test body behind v)) b (λ u. then_shallow (behind u) (λ flow v. turns n test body behind v) (c u) (λ flow v. turns_shallow n test body behind a b c v)))
    (λ u. tt) t)

block_shallow : (part : State → Run Flow) → ((s : State) → Shallow (part s)) → (s : State) → Shallow (in_block part s)
block_shallow part h s = then_shallow (part s) (λ flow t. Gives flow (left_scope (length s.locals) t)) (h s) (λ flow t. tt)

-- ---- expressions and statements, if each call that they make is shallow

module _ (call : Calls) (Is : List ℕ → Type 0) (each : (f : List ℕ) → Is f → (ws : List ℕ) (s : State) → Shallow (call f ws s)) where
  mutual
    expression : (e : Expr) → InExpression Is e → (bs : List Binding) (s : State) → Shallow (evaluate e bs call s)
    expression (Number t n) h bs s = tt
    expression (Variable x) h bs s = tt
    expression (Element x e) h bs s =
        then_shallow (evaluate e bs call s) (λ i t. read_element x.text i t) (expression e h bs s) (λ i t. read_shallow (slice_get (global_words t.globals x.text) i) t)
    expression (Call f es) h bs s = then_shallow (evaluate_all es bs call s) (λ ws t. call f.text ws t) (expressions es h.1 bs s) (λ ws t. each f.text h.0 ws t)
    expression (Parenthesised e) h bs s = expression e h bs s
    expression (Unary op e) h bs s = then_shallow (evaluate e bs call s) (λ a t. Gives (unary_word op a) t) (expression e h bs s) (λ a t. tt)
    expression (Cast type e) h bs s = expression e h bs s
    expression (Binary op left right) h bs s =
        then_shallow (evaluate left bs call s)
        (λ a t. unless_decided (decided op a) (λ u. then_do (evaluate right bs call u) (λ b v. given op (binary_word op (working_type op (value_type bs left) (value_type bs right)) a b) v)) t)
        (expression left h.0 bs s)
        (λ a t. unless_shallow (decided op a) (λ u. then_do (evaluate right bs call u) (λ b v. given op (binary_word op (working_type op (value_type bs left) (value_type bs right)) a b) v))
        (λ u. then_shallow (evaluate right bs call u) (λ b v. given op (binary_word op (working_type op (value_type bs left) (value_type bs right)) a b) v) (expression right h.1 bs u)
        (λ b v. given_shallow op (binary_word op (working_type op (value_type bs left) (value_type bs right)) a b) v)) t)
    expression (Conditional c a b) h bs s =
        then_shallow (evaluate c bs call s) (λ w t. choose w (evaluate a bs call) (evaluate b bs call) t) (expression c h.0 bs s)
        (λ w t. choose_shallow w (evaluate a bs call) (evaluate b bs call) (λ u. expression a h.1 bs u) (λ u. expression b h.2 bs u) t)

    expressions : (es : Exprs) → InExpressions Is es → (bs : List Binding) (s : State) → Shallow (evaluate_all es bs call s)
    expressions none h bs s = tt
    expressions (more e rest) h bs s =
        then_shallow (evaluate e bs call s) (λ w t. then_do (evaluate_all rest bs call t) (λ ws u. Gives (w ∷ ws) u)) (expression e h.0 bs s)
        (λ w t. then_shallow (evaluate_all rest bs call t) (λ ws u. Gives (w ∷ ws) u) (expressions rest h.1 bs t) (λ ws u. tt))

  optional : (w : ℕ) (e : Option Expr) → InOptional Is e → (bs : List Binding) (s : State) → Shallow (evaluate_or w e bs call s)
  optional w None h bs s = tt
  optional w (Some e) h bs s = expression e h bs s

  target : (t : Target) → InTarget Is t → (bs : List Binding) (s : State) → Shallow (destination t bs call s)
  target (AtVariable x) h bs s = tt
  target (AtElement x e) h bs s = then_shallow (evaluate e bs call s) (λ i t. Gives (ToElement x.text i) t) (expression e h bs s) (λ i t. tt)

  old_shallow : (d : Destination) (s : State) → Shallow (old_value d s)
  old_shallow (ToVariable x) s = tt
  old_shallow (ToElement x i) s = read_shallow (slice_get (global_words s.globals x) i) s

  written : (d : Destination) (w : ℕ) (s : State) → Shallow (write d w s)
  written (ToVariable x) w s = tt
  written (ToElement x i) w s = write_shallow (nat_lt i (length (global_words s.globals x))) (with_element x i w s.globals) s

  new_shallow : (op : Option BinaryOperator) (t u : Scalar) (d : Destination) (w : ℕ) (s : State) → Shallow (new_value op t u d w s)
  new_shallow None t u d w s = tt
  new_shallow (Some op) t u d w s =
      then_shallow (old_value d s) (λ old v. given op (binary_word op (working_type op t u) old w) v) (old_shallow d s) (λ old v. given_shallow op (binary_word op (working_type op t u) old w) v)

  assigned : (op : Option BinaryOperator) (t u : Scalar) (d : Destination) (w : ℕ) (s : State) → Shallow (then_do (new_value op t u d w s) (λ new v. write d new v))
  assigned op t u d w s = then_shallow (new_value op t u d w s) (λ new v. write d new v) (new_shallow op t u d w s) (λ new v. written d new v)

  action : (a : Action) → InAction Is a → (bs : List Binding) (s : State) → Shallow (perform a bs call s)
  action (Assign op where_to e) h bs s =
      then_shallow (destination where_to bs call s)
      (λ d t. then_do (evaluate e bs call t) (λ w u. then_do (new_value (applied_operator op) (target_type bs where_to) (value_type bs e) d w u) (λ new v. write d new v)))
      (target where_to h.0 bs s)
      (λ d t. then_shallow (evaluate e bs call t) (λ w u. then_do (new_value (applied_operator op) (target_type bs where_to) (value_type bs e) d w u) (λ new v. write d new v)) (expression e h.1 bs t)
      (λ w u. assigned (applied_operator op) (target_type bs where_to) (value_type bs e) d w u))
  action (Step op where_to) h bs s =
      then_shallow (destination where_to bs call s)
      (λ d t. then_do (new_value (applied_operator (step_operator op)) (target_type bs where_to) Int d 1 t) (λ new v. write d new v)) (target where_to h bs s)
      (λ d t. assigned (applied_operator (step_operator op)) (target_type bs where_to) Int d 1 t)
  action (Evaluate e) h bs s = then_shallow (evaluate e bs call s) (λ w t. Gives Falls t) (expression e h bs s) (λ w t. tt)

  optional_action : (a : Option Action) → InOptionalAction Is a → (bs : List Binding) (s : State) → Shallow (perform_optional a bs call s)
  optional_action None h bs s = tt
  optional_action (Some a) h bs s = action a h bs s

  declarators : (t : Scalar) (ds : List Declarator) → InDeclarators Is ds → (v : Visible) (s : State) → Shallow (declare t ds call v s)
  declarators t [] h v s = tt
  declarators t (d ∷ rest) h v s =
      then_shallow (evaluate_or 0 d.initial (in_scope (declared d.name.text (scope.Variable t) v)) call (with_local d.name.text s))
      (λ w u. declare t rest call (declared d.name.text (scope.Variable t) v) (stored d.name.text w u))
      (optional 0 d.initial h.0 (in_scope (declared d.name.text (scope.Variable t) v)) (with_local d.name.text s))
      (λ w u. declarators t rest h.1 (declared d.name.text (scope.Variable t) v) (stored d.name.text w u))

  beginning : (first : Beginning) → InBeginning Is first → (v : Visible) (s : State) → Shallow (start first call v s)
  beginning (Declares t ds) h v s = declarators t ds h v s
  beginning (Performs a) h v s = optional_action a h (in_scope v) s

  mutual
    statement : (x : Stmt) → InStatement Is x → (n : ℕ) (v : Visible) (s : State) → Shallow (execute x n call v s)
    statement (Block all) h n v s = block_shallow (execute_all all n call (opened v)) (λ t. statements all h n (opened v) t) s
    statement (tree.Local t ds) h n v s = declarators t ds h v s
    statement (Perform a) h n v s = optional_action a h (in_scope v) s
    statement (Return at e) h n v s = then_shallow (evaluate_or 0 e (in_scope v) call s) (λ w t. Gives (Returns w) t) (optional 0 e h (in_scope v) s) (λ w t. tt)
    statement (Break at) h n v s = tt
    statement (Continue at) h n v s = tt
    statement (If c a) h n v s =
        then_shallow (evaluate c (in_scope v) call s) (λ w t. choose w (in_block (execute a n call (opened v))) (λ u. Gives Falls u) t) (expression c h.0 (in_scope v) s)
        (λ w t. choose_shallow w (in_block (execute a n call (opened v))) (λ u. Gives Falls u) (λ u. block_shallow (execute a n call (opened v)) (λ x. statement a h.1 n (opened v) x) u) (λ u. tt) t)
    statement (IfElse c a b) h n v s =
        then_shallow (evaluate c (in_scope v) call s) (λ w t. choose w (in_block (execute a n call (opened v))) (in_block (execute b n call (opened v))) t) (expression c h.0 (in_scope v) s)
        (λ w t. choose_shallow w (in_block (execute a n call (opened v))) (in_block (execute b n call (opened v))) (λ u. block_shallow (execute a n call (opened v)) (λ x. statement a h.1 n (opened v) x) u)
        (λ u. block_shallow (execute b n call (opened v)) (λ x. statement b h.2 n (opened v) x) u) t)
    statement (While c body) h n v s =
        turns_shallow (suc n) (evaluate c (in_scope v) call) (in_block (execute body n call (opened v))) (λ t. Gives Falls t) (λ t. expression c h.0 (in_scope v) t)
        (λ t. block_shallow (execute body n call (opened v)) (λ x. statement body h.1 n (opened v) x) t) (λ t. tt) s
    statement (DoWhile body c) h n v s =
        begin_shallow (in_block (execute body n call (opened v))) (turns (suc n) (evaluate c (in_scope v) call) (in_block (execute body n call (opened v))) (λ t. Gives Falls t))
        (λ t. block_shallow (execute body n call (opened v)) (λ x. statement body h.0 n (opened v) x) t)
        (λ t. turns_shallow (suc n) (evaluate c (in_scope v) call) (in_block (execute body n call (opened v))) (λ u. Gives Falls u) (λ u. expression c h.1 (in_scope v) u)
        (λ u. block_shallow (execute body n call (opened v)) (λ x. statement body h.0 n (opened v) x) u) (λ u. tt) t) s
    statement (For first c behind body) h n v s =
        block_shallow
        (λ t. then_do (start first call (opened v) t) (λ flow u.
        turns (suc n) (evaluate_or 1 c (in_scope (scope_behind_beginning first (opened v))) call)
        (in_block (execute body n call (opened (scope_behind_beginning first (opened v)))))
        (perform_optional behind (in_scope (scope_behind_beginning first (opened v))) call) u))
        (λ t. then_shallow (start first call (opened v) t)
        (λ flow u. turns (suc n) (evaluate_or 1 c (in_scope (scope_behind_beginning first (opened v))) call)
        (in_block (execute body n call (opened (scope_behind_beginning first (opened v)))))
        (perform_optional behind (in_scope (scope_behind_beginning first (opened v))) call) u)
        (beginning first h.0 (opened v) t)
        (λ flow u. turns_shallow (suc n) (evaluate_or 1 c (in_scope (scope_behind_beginning first (opened v))) call)
        (in_block (execute body n call (opened (scope_behind_beginning first (opened v)))))
        (perform_optional behind (in_scope (scope_behind_beginning first (opened v))) call)
        (λ x. optional 1 c h.1 (in_scope (scope_behind_beginning first (opened v))) x)
        (λ x. block_shallow (execute body n call (opened (scope_behind_beginning first (opened v)))) (λ y. statement body h.3 n (opened (scope_behind_beginning first (opened v))) y) x)
        (λ x. optional_action behind h.2 (in_scope (scope_behind_beginning first (opened v))) x) u)) s

    statements : (all : Stmts) → InStatements Is all → (n : ℕ) (v : Visible) (s : State) → Shallow (execute_all all n call v s)
    statements end h n v s = tt
    statements (next first rest) h n v s =
        then_shallow (execute first n call v s) (λ flow t. behind_flow flow (execute_all rest n call (scope_behind first v)) t) (statement first h.0 n v s)
        (λ flow t. flow_shallow flow (execute_all rest n call (scope_behind first v)) (λ u. statements rest h.1 n (scope_behind first v) u) t)

  body : (f : Function) → InStatements Is f.body → (n : ℕ) (ws : List ℕ) (s : State) → Shallow (run_body f n call ws s)
  body f h n ws s =
      then_shallow (execute_all f.body n call f.visible (record s { locals = bound f.parameters ws [] })) (λ flow t. Gives (result_of flow) (record t { locals = s.locals }))
      (statements f.body h n f.visible (record s { locals = bound f.parameters ws [] })) (λ flow t. tt)

-- ---- calls

module _ (rank : List ℕ → ℕ) where
  -- the function with this name, if there is one, calls only functions whose rank is lower than that of the
  -- name
  abbrev Lower : List ℕ → Option Function → Type 0
  Lower x None = Unit {0}
  Lower x (Some f) = InStatements (λ g. rank g < rank x) f.body

  named : (fs : List Function) (x : List ℕ) → AllByRecursion (CallsLower rank) fs → Lower x (function_named fs x)
  named [] x h = tt
  named (f ∷ fs) x h = by (same_name f.name x) refl (named fs x h.1)
    where
      by : (b : Bool) → same_name f.name x ≡ b → Lower x (function_named fs x) → Lower x (if b then Some f else function_named fs x)
      by true e rest = subst (λ (y : List ℕ). InStatements (λ g. rank g < rank y) f.body) (same_text f.name x (sym e)) h.0
      by false e rest = rest

  found : (o : Option Function) (x : List ℕ) (call : Calls) → Lower x o → ((g : List ℕ) → rank g < rank x → (ws : List ℕ) (s : State) → Shallow (call g ws s)) → (n : ℕ) (ws : List ℕ) (s : State) → Shallow (run_optional o n call ws s)
  found None x call h each n ws s = tt
  found (Some f) x call h each n ws s = body call (λ g. rank g < rank x) each f h n ws s

  input_shallow : (input : List ℕ) (s : State) → Shallow (read_input input s)
  input_shallow [] s = tt
  input_shallow (w ∷ rest) s = tt

  begun : (writes reads allowed : Bool) (part : State → Run ℕ) (ws : List ℕ) → allowed ≡ true → ((s : State) → Shallow (part s)) → (s : State)
      → Shallow {A = ℕ} (elim writes [
        | true ↦ Gives 0 (record s { output = s.output ++ ws })
        | false ↦ elim reads [
          | true ↦ read_input s.input s
          | false ↦ spend (λ t. elim allowed [ true ↦ part t | false ↦ Wrong Depth t.output ]) s
        ]
      ])
  begun true reads allowed part ws e h s = tt
  begun false true allowed part ws e h s = input_shallow s.input s
  begun false false true part ws e h s = spend_shallow s.steps part h s
  begun false false false part ws e h s = absurd (let d : false ≡ true = e in cc)

  few_open : (count : ℕ) → count < 1024 → nat_lt count most_open ≡ true
  few_open count lt = elim (leb_tells (suc count) most_open) [ inl t ↦ t.0 | inr t ↦ absurd (let x = t.1 in omega arith) ]

  called : (n : ℕ) (fs : List Function) (count : ℕ) (f ws : List ℕ) (s : State) → AllByRecursion (CallsLower rank) fs → rank f + count < 1024 → Shallow (calls n fs count f ws s)
  called zero fs count f ws s h low = tt
  called (suc n) fs count f ws s h low =
      begun (same_name f (codes "write_word")) (same_name f (codes "read_word")) (nat_lt count most_open) (λ t. run_optional (function_named fs f) n (calls n fs (count + 1)) ws t) ws (few_open count (omega arith))
      (λ t. found (function_named fs f) f (calls n fs (count + 1)) (named fs f h) (λ g less vs u. called n fs (count + 1) g vs u h (omega arith)) n ws t) s

-- ---- programs

stop_shallow : (r : Run ℕ) → Shallow r → (outcome_of r).stop ≢ outcome.Wrong Depth
stop_shallow (Gives w s) h e = cc
stop_shallow (Going o) h e = cc
stop_shallow (Wrong Depth o) h e = h
stop_shallow (Wrong Division o) h e = cc
stop_shallow (Wrong Shift o) h e = cc
stop_shallow (Wrong Index o) h e = cc

pub never_deep : AcyclicProgramsAreNeverDeep
never_deep s acyclic input n =
    stop_shallow (calls (suc n) (functions s.externals) 0 (codes "main") [] (record { locals = []; globals = initial_globals s.externals; input = input; output = []; steps = n }))
    (let low = acyclic.low in called acyclic.rank (suc n) (functions s.externals) 0 (codes "main") [] (record { locals = []; globals = initial_globals s.externals; input = input; output = []; steps = n }) acyclic.falls (omega arith))
