-- After a call the objects have the same names and sizes.
use Rattle.std.proofs.Common.{◌≡◌, ℕ, zero, suc, ◌+◌, Bool, true, false, if◌then◌else◌, List, [], ◌∷◌, length, nat_lt, Option, Some, None, is_some, slice_get, slice_set, codes, refl, ap, ◌∙◌}
use Rattle.cc_words.specs.Widths.{kept}
use Rattle.cc_ast.specs.scalar.Scalar.{Scalar}
use Rattle.cc_ast.specs.scalar.Scalar.TheVariants.{Int}
use Rattle.cc_ast.specs.declared.ast.BinaryOperator.{BinaryOperator}
use Rattle.cc_ast.specs.Tree as tree
use Rattle.cc_ast.specs.Tree.{Expr, Exprs, none, more, Number, Variable, Element, Call, Parenthesised, Unary, Cast, Binary, Conditional, Target, AtVariable, AtElement, Action, Assign, Step, Evaluate, Declarator, Beginning, Declares, Performs, Stmt, Stmts, end, next, Block, Perform, Return, Break, Continue, If, IfElse, While, DoWhile, For, External}
use Rattle.cc_types.specs.Names.{same_name}
use Rattle.cc_types.specs.Operators.{working_type, unary_word, binary_word, decided, applied_operator, step_operator}
use Rattle.cc_types.specs.Scope as scope
use Rattle.cc_types.specs.Scope.{Binding, Visible, in_scope, opened, declared, scope_behind, scope_behind_beginning}
use Rattle.cc_types.specs.Types.{value_type, target_type}
use Rattle.cc_c_semantics.specs.declared.cause.Cause.TheVariants.{Index, Depth}
use Rattle.cc_c_semantics.specs.Meaning.{Global, State, Run, Gives, Going, Wrong, Flow, Falls, Breaks, Continues, Returns, then_do, choose, Calls, global_words, with_local_word, with_element, local_word, stored, read_element, given, unless_decided, evaluate, evaluate_all, evaluate_or, Destination, ToVariable, ToElement, destination, old_value, write, new_value, perform, perform_optional, spend_of, behind_flow, behind_body, begin_body, turns, with_local, declare, start, left_scope, in_block, execute, execute_all, Function, functions, function_named, bound, result_of, run_optional, read_input, most_open, calls}
use Rattle.cc_c_semantics.specs.Function.{Shared, effect_of, state_within, name_of_function}
use Rattle.cc_c_semantics.specs.Calls.{NamedSize, size, sizes, KeepsObjects, CallsKeepObjects, BodiesKeepObjects}
use Rattle.cc_c_semantics.proofs.Steps.{begun, body_part}
use Rattle.cc_c_semantics.proofs.Held.{length_slice_set}

abbrev Kept : {A : Type 0} → List NamedSize → Run A → Type 0
Kept z (Gives x t) = sizes t.globals ≡ z
Kept z (Going output) = Unit {0}
Kept z (Wrong cause output) = Unit {0}

abbrev Keeps : {A : Type 0} → (State → Run A) → Type 0
Keeps part = (s : State) (z : List NamedSize) → sizes s.globals ≡ z → Kept z (part s)

kept_then : {A B : Type 0} (z : List NamedSize) (r : Run A) (go : A → State → Run B) → Kept z r → ((x : A) → Keeps (go x)) → Kept z (then_do r go)
kept_then z (Gives x t) go h f = f x t z h
kept_then z (Going output) go h f = tt
kept_then z (Wrong cause output) go h f = tt

keeps_then : {A B : Type 0} (part : State → Run A) (go : A → State → Run B) → Keeps part → ((x : A) → Keeps (go x)) → Keeps (λ s. then_do (part s) go)
keeps_then part go h f = λ s z e. kept_then z (part s) go (h s z e) f

keeps_gives : {A : Type 0} (x : A) → Keeps (λ s. Gives x s)
keeps_gives x = λ s z e. e

keeps_choose : {A : Type 0} (w : ℕ) (a b : State → Run A) → Keeps a → Keeps b → Keeps (λ s. choose w a b s)
keeps_choose zero a b p q = q
keeps_choose (suc w) a b p q = p

keeps_unless : (o : Option ℕ) (go : State → Run ℕ) → Keeps go → Keeps (λ s. unless_decided o go s)
keeps_unless None go p = p
keeps_unless (Some w) go p = keeps_gives w

element_by : (x : List ℕ) (i w : ℕ) (g : Global) (rest : List Global) (b : Bool) → sizes (with_element x i w rest) ≡ sizes rest
    → sizes (if b then record g { words = slice_set g.words i (kept g.width w) } ∷ rest else g ∷ with_element x i w rest) ≡ sizes (g ∷ rest)
element_by x i w g rest true ih = ap (λ k. record { name = g.name; width = g.width; elements = k } ∷ sizes rest) (length_slice_set g.words i (kept g.width w))
element_by x i w g rest false ih = ap (λ (zs : List NamedSize). size g ∷ zs) ih

pub element_keeps : (x : List ℕ) (i w : ℕ) (gs : List Global) → sizes (with_element x i w gs) ≡ sizes gs
element_keeps x i w [] = refl
element_keeps x i w (g ∷ rest) = element_by x i w g rest (same_name g.name x) (element_keeps x i w rest)

stored_by : (b : Bool) (x : List ℕ) (w : ℕ) (s : State) → sizes (if b then record s { locals = with_local_word x w s.locals } else record s { globals = with_element x 0 w s.globals }).globals ≡ sizes s.globals
stored_by true x w s = refl
stored_by false x w s = element_keeps x 0 w s.globals

pub stored_keeps : (x : List ℕ) (w : ℕ) (s : State) → sizes (stored x w s).globals ≡ sizes s.globals
stored_keeps x w s = stored_by (is_some (local_word s.locals x)) x w s

read_by : (o : Option ℕ) (s : State) (z : List NamedSize) → sizes s.globals ≡ z → Kept {A = ℕ} z (elim o [ None ↦ Wrong Index s.output | Some w ↦ Gives w s ])
read_by None s z e = tt
read_by (Some w) s z e = e

keeps_read : (x : List ℕ) (i : ℕ) → Keeps (read_element x i)
keeps_read x i = λ s z e. read_by (slice_get (global_words s.globals x) i) s z e

write_by : (b : Bool) (gs : List Global) (s : State) (z : List NamedSize) → sizes gs ≡ z → Kept z (if b then Gives Falls (record s { globals = gs }) else Wrong Index s.output)
write_by true gs s z e = e
write_by false gs s z e = tt

keeps_given : (op : BinaryOperator) (o : Option ℕ) → Keeps (given op o)
keeps_given op None = λ s z e. tt
keeps_given op (Some w) = keeps_gives w

keeps_write : (d : Destination) (w : ℕ) → Keeps (write d w)
keeps_write (ToVariable x) w = λ s z e. stored_keeps x w s ∙ e
keeps_write (ToElement x i) w = λ s z e. write_by (nat_lt i (length (global_words s.globals x))) (with_element x i w s.globals) s z (element_keeps x i w s.globals ∙ e)

keeps_old : (d : Destination) → Keeps (old_value d)
keeps_old (ToVariable x) = λ s z e. e
keeps_old (ToElement x i) = keeps_read x i

keeps_new : (op : Option BinaryOperator) (t u : Scalar) (d : Destination) (w : ℕ) → Keeps (new_value op t u d w)
keeps_new None t u d w = keeps_gives w
keeps_new (Some op) t u d w = keeps_then (old_value d) (λ old v. given op (binary_word op (working_type op t u) old w) v) (keeps_old d) (λ old. keeps_given op (binary_word op (working_type op t u) old w))

keeps_assigned : (op : Option BinaryOperator) (t u : Scalar) (d : Destination) (w : ℕ) → Keeps (λ s. then_do (new_value op t u d w s) (λ new v. write d new v))
keeps_assigned op t u d w = keeps_then (new_value op t u d w) (λ new v. write d new v) (keeps_new op t u d w) (λ new. keeps_write d new)

keeps_flow : (flow : Flow) (go : State → Run Flow) → Keeps go → Keeps (λ s. behind_flow flow go s)
keeps_flow Falls go h = h
keeps_flow Breaks go h = keeps_gives Breaks
keeps_flow Continues go h = keeps_gives Continues
keeps_flow (Returns w) go h = keeps_gives (Returns w)

keeps_body : (flow : Flow) (go : State → Run Flow) → Keeps go → Keeps (λ s. behind_body flow go s)
keeps_body Falls go h = h
keeps_body Breaks go h = keeps_gives Falls
keeps_body Continues go h = h
keeps_body (Returns w) go h = keeps_gives (Returns w)

kept_spend : {A : Type 0} (k : ℕ) (go : State → Run A) (s : State) (z : List NamedSize) → sizes s.globals ≡ z → Keeps go → Kept z (spend_of k go s)
kept_spend zero go s z e h = tt
kept_spend (suc k) go s z e h = h (record s { steps = k }) z e

keeps_begin : (body go : State → Run Flow) → Keeps body → Keeps go → Keeps (λ s. begin_body body go s)
keeps_begin body go p q = λ s z e.
    kept_spend s.steps (λ t. then_do (body t) (λ flow u. behind_body flow go u)) s z e (keeps_then body (λ flow u. behind_body flow go u) p (λ flow. keeps_body flow go q))

keeps_turns : (n : ℕ) (test : State → Run ℕ) (body behind : State → Run Flow) → Keeps test → Keeps body → Keeps behind → Keeps (turns n test body behind)
keeps_turns zero test body behind p q r = λ s z e. tt
keeps_turns (suc n) test body behind p q r =
    keeps_then test (λ w t. choose w (begin_body body (λ u. then_do (behind u) (λ flow v. turns n test body behind v))) (λ u. Gives Falls u) t) p
    (λ w. keeps_choose w (begin_body body (λ u. then_do (behind u) (λ flow v. turns n test body behind v))) (λ u. Gives Falls u)
    (keeps_begin body (λ u. then_do (behind u) (λ flow v. turns n test body behind v)) q (keeps_then behind (λ flow v. turns n test body behind v) r (λ flow. keeps_turns n test body behind p q r))) (keeps_gives Falls))

keeps_block : (part : State → Run Flow) → Keeps part → Keeps (in_block part)
keeps_block part h = λ s z e. kept_then z (part s) (λ flow t. Gives flow (left_scope (length s.locals) t)) (h s z e) (λ flow. λ t y f. f)

module _ (call : Calls) (keeps_call : (f ws : List ℕ) → Keeps (call f ws)) where
  mutual
    keeps_evaluate : (e : Expr) (bs : List Binding) → Keeps (evaluate e bs call)
    keeps_evaluate (Number t n) bs = λ s z e. e
    keeps_evaluate (Variable x) bs = λ s z e. e
    keeps_evaluate (Element x e) bs = keeps_then (evaluate e bs call) (λ i t. read_element x.text i t) (keeps_evaluate e bs) (λ i. keeps_read x.text i)
    keeps_evaluate (Call f es) bs = keeps_then (evaluate_all es bs call) (λ ws t. call f.text ws t) (keeps_all es bs) (λ ws. keeps_call f.text ws)
    keeps_evaluate (Parenthesised e) bs = keeps_evaluate e bs
    keeps_evaluate (Unary op e) bs = keeps_then (evaluate e bs call) (λ a t. Gives (unary_word op a) t) (keeps_evaluate e bs) (λ a. keeps_gives (unary_word op a))
    keeps_evaluate (Cast t e) bs = keeps_evaluate e bs
    keeps_evaluate (Binary op left right) bs =
        keeps_then (evaluate left bs call) (λ a t. unless_decided (decided op a) (λ u. then_do (evaluate right bs call u) (λ b v. given op (binary_word op (working_type op (value_type bs left) (value_type bs right)) a b) v)) t) (keeps_evaluate left bs)
        (λ a. keeps_unless (decided op a) (λ u. then_do (evaluate right bs call u) (λ b v. given op (binary_word op (working_type op (value_type bs left) (value_type bs right)) a b) v))
        (keeps_then (evaluate right bs call) (λ b v. given op (binary_word op (working_type op (value_type bs left) (value_type bs right)) a b) v) (keeps_evaluate right bs) (λ b. keeps_given op (binary_word op (working_type op (value_type bs left) (value_type bs right)) a b))))
    keeps_evaluate (Conditional c a b) bs =
        keeps_then (evaluate c bs call) (λ w t. choose w (evaluate a bs call) (evaluate b bs call) t) (keeps_evaluate c bs) (λ w. keeps_choose w (evaluate a bs call) (evaluate b bs call) (keeps_evaluate a bs) (keeps_evaluate b bs))

    keeps_all : (es : Exprs) (bs : List Binding) → Keeps (evaluate_all es bs call)
    keeps_all none bs = λ s z e. e
    keeps_all (more e rest) bs =
        keeps_then (evaluate e bs call) (λ w t. then_do (evaluate_all rest bs call t) (λ ws u. Gives (w ∷ ws) u)) (keeps_evaluate e bs)
        (λ w. keeps_then (evaluate_all rest bs call) (λ ws u. Gives (w ∷ ws) u) (keeps_all rest bs) (λ ws. keeps_gives (w ∷ ws)))

  keeps_or : (w : ℕ) (e : Option Expr) (bs : List Binding) → Keeps (evaluate_or w e bs call)
  keeps_or w None bs = keeps_gives w
  keeps_or w (Some e) bs = keeps_evaluate e bs

  keeps_destination : (t : Target) (bs : List Binding) → Keeps (destination t bs call)
  keeps_destination (AtVariable x) bs = keeps_gives (ToVariable x.text)
  keeps_destination (AtElement x e) bs = keeps_then (evaluate e bs call) (λ i t. Gives (ToElement x.text i) t) (keeps_evaluate e bs) (λ i. keeps_gives (ToElement x.text i))

  keeps_perform : (a : Action) (bs : List Binding) → Keeps (perform a bs call)
  keeps_perform (Assign op target e) bs =
      keeps_then (destination target bs call) (λ d t. then_do (evaluate e bs call t) (λ w u. then_do (new_value (applied_operator op) (target_type bs target) (value_type bs e) d w u) (λ new v. write d new v))) (keeps_destination target bs)
      (λ d. keeps_then (evaluate e bs call) (λ w u. then_do (new_value (applied_operator op) (target_type bs target) (value_type bs e) d w u) (λ new v. write d new v)) (keeps_evaluate e bs)
      (λ w. keeps_assigned (applied_operator op) (target_type bs target) (value_type bs e) d w))
  keeps_perform (Step op target) bs =
      keeps_then (destination target bs call) (λ d t. then_do (new_value (applied_operator (step_operator op)) (target_type bs target) Int d 1 t) (λ new v. write d new v)) (keeps_destination target bs)
      (λ d. keeps_assigned (applied_operator (step_operator op)) (target_type bs target) Int d 1)
  keeps_perform (Evaluate e) bs = keeps_then (evaluate e bs call) (λ w t. Gives Falls t) (keeps_evaluate e bs) (λ w. keeps_gives Falls)

  keeps_optional : (a : Option Action) (bs : List Binding) → Keeps (perform_optional a bs call)
  keeps_optional None bs = keeps_gives Falls
  keeps_optional (Some a) bs = keeps_perform a bs

  keeps_declare : (t : Scalar) (ds : List Declarator) (v : Visible) → Keeps (declare t ds call v)
  keeps_declare t [] v = keeps_gives Falls
  keeps_declare t (d ∷ rest) v = λ s z e.
      kept_then z (evaluate_or 0 d.initial (in_scope (declared d.name.text (scope.Variable t) v)) call (with_local d.name.text s))
      (λ w u. declare t rest call (declared d.name.text (scope.Variable t) v) (stored d.name.text w u))
      (keeps_or 0 d.initial (in_scope (declared d.name.text (scope.Variable t) v)) (with_local d.name.text s) z e)
      (λ w. λ u y f. keeps_declare t rest (declared d.name.text (scope.Variable t) v) (stored d.name.text w u) y (stored_keeps d.name.text w u ∙ f))

  keeps_start : (first : Beginning) (v : Visible) → Keeps (start first call v)
  keeps_start (Declares t ds) v = keeps_declare t ds v
  keeps_start (Performs a) v = keeps_optional a (in_scope v)

  mutual
    keeps_execute : (s : Stmt) (n : ℕ) (v : Visible) → Keeps (execute s n call v)
    keeps_execute (Block all) n v = keeps_block (execute_all all n call (opened v)) (keeps_execute_all all n (opened v))
    keeps_execute (tree.Local t ds) n v = keeps_declare t ds v
    keeps_execute (Perform a) n v = keeps_optional a (in_scope v)
    keeps_execute (Return at e) n v = keeps_then (evaluate_or 0 e (in_scope v) call) (λ w t. Gives (Returns w) t) (keeps_or 0 e (in_scope v)) (λ w. keeps_gives (Returns w))
    keeps_execute (Break at) n v = keeps_gives Breaks
    keeps_execute (Continue at) n v = keeps_gives Continues
    keeps_execute (If c a) n v =
        keeps_then (evaluate c (in_scope v) call) (λ w t. choose w (in_block (execute a n call (opened v))) (λ u. Gives Falls u) t) (keeps_evaluate c (in_scope v))
        (λ w. keeps_choose w (in_block (execute a n call (opened v))) (λ u. Gives Falls u) (keeps_block (execute a n call (opened v)) (keeps_execute a n (opened v))) (keeps_gives Falls))
    keeps_execute (IfElse c a b) n v =
        keeps_then (evaluate c (in_scope v) call) (λ w t. choose w (in_block (execute a n call (opened v))) (in_block (execute b n call (opened v))) t) (keeps_evaluate c (in_scope v))
        (λ w. keeps_choose w (in_block (execute a n call (opened v))) (in_block (execute b n call (opened v))) (keeps_block (execute a n call (opened v)) (keeps_execute a n (opened v))) (keeps_block (execute b n call (opened v)) (keeps_execute b n (opened v))))
    keeps_execute (While c body) n v =
        keeps_turns (suc n) (evaluate c (in_scope v) call) (in_block (execute body n call (opened v))) (λ t. Gives Falls t) (keeps_evaluate c (in_scope v)) (keeps_block (execute body n call (opened v)) (keeps_execute body n (opened v))) (keeps_gives Falls)
    keeps_execute (DoWhile body c) n v =
        keeps_begin (in_block (execute body n call (opened v))) (turns (suc n) (evaluate c (in_scope v) call) (in_block (execute body n call (opened v))) (λ t. Gives Falls t)) (keeps_block (execute body n call (opened v)) (keeps_execute body n (opened v)))
        (keeps_turns (suc n) (evaluate c (in_scope v) call) (in_block (execute body n call (opened v))) (λ t. Gives Falls t) (keeps_evaluate c (in_scope v)) (keeps_block (execute body n call (opened v)) (keeps_execute body n (opened v))) (keeps_gives Falls))
    keeps_execute (For first c behind body) n v =
        let w : Visible = scope_behind_beginning first (opened v) in
        keeps_block (λ t. then_do (start first call (opened v) t) (λ flow u. turns (suc n) (evaluate_or 1 c (in_scope w) call) (in_block (execute body n call (opened w))) (perform_optional behind (in_scope w) call) u))
        (keeps_then (start first call (opened v)) (λ flow u. turns (suc n) (evaluate_or 1 c (in_scope w) call) (in_block (execute body n call (opened w))) (perform_optional behind (in_scope w) call) u) (keeps_start first (opened v))
        (λ flow. keeps_turns (suc n) (evaluate_or 1 c (in_scope w) call) (in_block (execute body n call (opened w))) (perform_optional behind (in_scope w) call) (keeps_or 1 c (in_scope w)) (keeps_block (execute body n call (opened w)) (keeps_execute body n (opened w))) (keeps_optional behind (in_scope w))))

    keeps_execute_all : (ss : Stmts) (n : ℕ) (v : Visible) → Keeps (execute_all ss n call v)
    keeps_execute_all end n v = keeps_gives Falls
    keeps_execute_all (next first rest) n v =
        keeps_then (execute first n call v) (λ flow t. behind_flow flow (execute_all rest n call (scope_behind first v)) t) (keeps_execute first n v)
        (λ flow. keeps_flow flow (execute_all rest n call (scope_behind first v)) (keeps_execute_all rest n (scope_behind first v)))

  keeps_run : (o : Option Function) (n : ℕ) (ws : List ℕ) → Keeps (run_optional o n call ws)
  keeps_run None n ws = keeps_gives {A = ℕ} 0
  keeps_run (Some f) n ws = λ s z e.
      kept_then z (execute_all f.body n call f.visible (record s { locals = bound f.parameters ws [] })) (λ flow t. Gives (result_of flow) (record t { locals = s.locals }))
      (keeps_execute_all f.body n f.visible (record s { locals = bound f.parameters ws [] }) z e) (λ flow. λ t y h. h)

kept_read : (input : List ℕ) (s : State) (z : List NamedSize) → sizes s.globals ≡ z → Kept z (read_input input s)
kept_read [] s z e = e
kept_read (w ∷ rest) s z e = e

kept_begun : (writes reads allowed : Bool) (body : ℕ → State → Run ℕ) (ws : List ℕ) (n : ℕ) (s : State) (z : List NamedSize) → sizes s.globals ≡ z → Keeps (body n) → Kept z (begun writes reads allowed body ws n s)
kept_begun true reads allowed body ws n s z e h = e
kept_begun false true allowed body ws n s z e h = kept_read s.input s z e
kept_begun false false true body ws n s z e h = kept_spend s.steps (body n) s z e h
kept_begun false false false body ws n s z e h = kept_spend {A = ℕ} s.steps (λ t. Wrong Depth t.output) s z e (λ t y f. tt)

keeps_calls : (n : ℕ) (fs : List Function) (opened : ℕ) (f ws : List ℕ) → Keeps (calls n fs opened f ws)
keeps_calls zero fs opened f ws = λ s z e. tt
keeps_calls (suc n) fs opened f ws = λ s z e.
    kept_begun (same_name f (codes "write_word")) (same_name f (codes "read_word")) (nat_lt opened most_open) (body_part fs opened f ws) ws n s z e
    (keeps_run (calls n fs (opened + 1)) (keeps_calls n fs (opened + 1)) (function_named fs f) n ws)

kept_effect : (h : Shared) (r : Run ℕ) → Kept (sizes h.globals) r → KeepsObjects h (effect_of r)
kept_effect h (Gives w s) e = e
kept_effect h (Going output) e = tt
kept_effect h (Wrong cause output) e = tt

-- ---- all of it

pub calls_keep_objects : CallsKeepObjects
calls_keep_objects unit n opened f ws h =
    kept_effect h (calls (suc n) (functions unit) opened (name_of_function unit f) ws (state_within n h)) (keeps_calls (suc n) (functions unit) opened (name_of_function unit f) ws (state_within n h) (sizes h.globals) refl)

pub bodies_keep_objects : BodiesKeepObjects
bodies_keep_objects unit n opened f ws h =
    kept_effect h (run_optional (slice_get (functions unit) f) (suc n) (calls (suc n) (functions unit) (opened + 1)) ws (state_within n h))
    (keeps_run (calls (suc n) (functions unit) (opened + 1)) (keeps_calls (suc n) (functions unit) (opened + 1)) (slice_get (functions unit) f) (suc n) ws (state_within n h) (sizes h.globals) refl)
