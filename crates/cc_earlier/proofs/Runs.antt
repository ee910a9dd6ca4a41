-- A part of a run over objects of words does what it did before there were arrays of `unsigned char`: it gives the same result and leaves
-- the same objects, which are of words. By recursion on the tree and on the number of calls that may still be opened, as in `Kept` of
-- `cc_c_semantics`.
use Rattle.std.proofs.Common.{◌≡◌, ℕ, zero, suc, ◌+◌, Bool, true, false, if◌then◌else◌, List, [], ◌∷◌, ◌++◌, map, length, nat_lt, Option, Some, None, is_some, unwrap_or, slice_get, codes, refl, sym, ap, ◌∙◌, subst}
use Rattle.cc_tokens.specs.declared.scalar.Scalar.{Scalar}
use Rattle.cc_tokens.specs.declared.scalar.Scalar.TheVariants.{Int}
use Rattle.cc_ast.specs.declared.ast.BinaryOperator.{BinaryOperator}
use Rattle.cc_ast.specs.Tree as tree
use Rattle.cc_ast.specs.Tree.{Expr, Exprs, none, more, Number, Variable, Element, Call, Parenthesised, Unary, Cast, Binary, Conditional, Target, AtVariable, AtElement, Action, Assign, Step, Evaluate, Declarator, Beginning, Declares, Performs, Stmt, Stmts, end, next, Block, Perform, Return, Break, Continue, If, IfElse, While, DoWhile, For, Source}
use Rattle.cc_types.specs.Names.{same_name}
use Rattle.cc_types.specs.Operators.{working_type, unary_word, binary_word, decided, applied_operator, step_operator}
use Rattle.cc_types.specs.Scope as scope
use Rattle.cc_types.specs.Scope.{Binding, Visible, in_scope, opened, declared, scope_behind, scope_behind_beginning}
use Rattle.cc_types.specs.Types.{value_type, target_type}
use Rattle.cc_c_semantics.specs.declared.cause.Cause.TheVariants.{Index, Depth}
use Rattle.cc_c_semantics.specs.Meaning.{Global, State, Run, Gives, Going, Wrong, Flow, Falls, Breaks, Continues, Returns, then_do, choose, Calls, global_words, with_local_word, with_element, local_word, variable_word, stored, read_element, write_element, given, unless_decided, evaluate, evaluate_all, evaluate_or, Destination, ToVariable, ToElement, destination, old_value, write, new_value, perform, perform_optional, spend_of, spend, behind_flow, behind_body, begin_body, turns, with_local, declare, start, left_scope, in_block, execute, execute_all, Function, functions, function_named, bound, result_of, run_optional, read_input, most_open, calls, outcome_of, initial_globals, observed_behavior}
use Rattle.cc_earlier.specs.Texts.{ArePlain, EarlierGlobal, earlier_with_element, earlier_global, AreOfWords, EarlierMeaningStays}
use Rattle.cc_earlier.specs.Meaning as earlier

-- a state as it was then
abbrev before : State → earlier.State
before s = record { locals = s.locals; globals = map earlier_global s.globals; input = s.input; output = s.output; steps = s.steps }

-- a part of a run has the same result, and its objects are of words
abbrev Same : {A : Type 0} → Run A → earlier.Run A → Type 0
Same (Gives x s) q = AreOfWords s.globals × (q ≡ earlier.Gives x (before s))
Same (Going output) q = q ≡ earlier.Going output
Same (Wrong cause output) q = q ≡ earlier.Wrong cause output

-- what a part does now is what it did then
abbrev Does : {A : Type 0} → (State → Run A) → (earlier.State → earlier.Run A) → Type 0
Does part was = (s : State) → AreOfWords s.globals → Same (part s) (was (before s))

same_then : {A B : Type 0} (r : Run A) (q : earlier.Run A) (go : A → State → Run B) (went : A → earlier.State → earlier.Run B)
    → Same r q → ((x : A) → Does (go x) (went x)) → Same (then_do r go) (earlier.then_do q went)
same_then (Gives x s) q go went h f = subst (λ z. Same (go x s) (earlier.then_do z went)) (sym h.1) (f x s h.0)
same_then (Going output) q go went h f = ap (λ z. earlier.then_do z went) h
same_then (Wrong cause output) q go went h f = ap (λ z. earlier.then_do z went) h

does_then : {A B : Type 0} (part : State → Run A) (was : earlier.State → earlier.Run A) (go : A → State → Run B) (went : A → earlier.State → earlier.Run B)
    → Does part was → ((x : A) → Does (go x) (went x)) → Does (λ s. then_do (part s) go) (λ s. earlier.then_do (was s) went)
does_then part was go went h f = λ s are. same_then (part s) (was (before s)) go went (h s are) f

does_give : {A : Type 0} (x : A) → Does (λ s. Gives x s) (λ s. earlier.Gives x s)
does_give x = λ s are. (are, refl)

does_choose : {A : Type 0} (w : ℕ) (a b : State → Run A) (c d : earlier.State → earlier.Run A) → Does a c → Does b d → Does (λ s. choose w a b s) (λ s. earlier.choose w c d s)
does_choose zero a b c d p q = q
does_choose (suc w) a b c d p q = p

does_unless : (o : Option ℕ) (go : State → Run ℕ) (went : earlier.State → earlier.Run ℕ) → Does go went → Does (λ s. unless_decided o go s) (λ s. earlier.unless_decided o went s)
does_unless None go went p = p
does_unless (Some w) go went p = does_give w

does_given : (op : BinaryOperator) (o : Option ℕ) → Does (given op o) (earlier.given op o)
does_given op None = λ s are. refl
does_given op (Some w) = does_give w

does_flow : (flow : Flow) (go : State → Run Flow) (went : earlier.State → earlier.Run Flow) → Does go went → Does (λ s. behind_flow flow go s) (λ s. earlier.behind_flow flow went s)
does_flow Falls go went h = h
does_flow Breaks go went h = does_give Breaks
does_flow Continues go went h = does_give Continues
does_flow (Returns w) go went h = does_give (Returns w)

does_body : (flow : Flow) (go : State → Run Flow) (went : earlier.State → earlier.Run Flow) → Does go went → Does (λ s. behind_body flow go s) (λ s. earlier.behind_body flow went s)
does_body Falls go went h = h
does_body Breaks go went h = does_give Falls
does_body Continues go went h = h
does_body (Returns w) go went h = does_give (Returns w)

same_spend : {A : Type 0} (k : ℕ) (go : State → Run A) (went : earlier.State → earlier.Run A) (s : State) → AreOfWords s.globals → Does go went → Same (spend_of k go s) (earlier.spend_of k went (before s))
same_spend zero go went s are h = refl
same_spend (suc k) go went s are h = h (record s { steps = k }) are

does_begin : (body go : State → Run Flow) (ran went : earlier.State → earlier.Run Flow) → Does body ran → Does go went → Does (begin_body body go) (earlier.begin_body ran went)
does_begin body go ran went p q = λ s are.
    same_spend s.steps (λ t. then_do (body t) (λ flow u. behind_body flow go u)) (λ t. earlier.then_do (ran t) (λ flow u. earlier.behind_body flow went u)) s are
    (does_then body ran (λ flow u. behind_body flow go u) (λ flow u. earlier.behind_body flow went u) p (λ flow. does_body flow go went q))

does_turns : (n : ℕ) (test : State → Run ℕ) (body behind : State → Run Flow) (tested : earlier.State → earlier.Run ℕ) (ran followed : earlier.State → earlier.Run Flow)
    → Does test tested → Does body ran → Does behind followed → Does (turns n test body behind) (earlier.turns n tested ran followed)
does_turns zero test body behind tested ran followed p q r = λ s are. refl
does_turns (suc n) test body behind tested ran followed p q r =
    does_then test tested _ _ p (λ w. does_choose w _ _ _ _
    (does_begin body _ ran _ q (does_then behind followed _ _ r (λ flow. does_turns n test body behind tested ran followed p q r))) (does_give Falls))

does_block : (part : State → Run Flow) (was : earlier.State → earlier.Run Flow) → Does part was → Does (in_block part) (earlier.in_block was)
does_block part was h = λ s are. same_then (part s) (was (before s)) (λ flow t. Gives flow (left_scope (length s.locals) t)) (λ flow t. earlier.Gives flow (earlier.left_scope (length s.locals) t)) (h s are) (λ flow t is. (is, refl))

-- if the first part of a `for` header and the loop do what they did, so do the two together
does_header : (first : State → Run Flow) (began : earlier.State → earlier.Run Flow) (loop : State → Run Flow) (looped : earlier.State → earlier.Run Flow)
    → Does first began → Does loop looped → Does (in_block (λ t. then_do (first t) (λ flow u. loop u))) (earlier.in_block (λ t. earlier.then_do (began t) (λ flow u. looped u)))
does_header first began loop looped h f =
    does_block (λ t. then_do (first t) (λ flow u. loop u)) (λ t. earlier.then_do (began t) (λ flow u. looped u)) (does_then first began (λ flow. loop) (λ flow. looped) h (λ flow. f))

read_by : (o : Option ℕ) (s : State) → AreOfWords s.globals
    → Same (elim o [ None ↦ Wrong Index s.output | Some w ↦ Gives w s ]) (elim o [ None ↦ earlier.Wrong Index s.output | Some w ↦ earlier.Gives w (before s) ])
read_by None s are = refl
read_by (Some w) s are = (are, refl)

write_by : (b : Bool) (gs : List Global) (hs : List EarlierGlobal) (s : State) → AreOfWords gs → map earlier_global gs ≡ hs
    → Same (if b then Gives Falls (record s { globals = gs }) else Wrong Index s.output) (if b then earlier.Gives Falls (record (before s) { globals = hs }) else earlier.Wrong Index s.output)
write_by true gs hs s are e = (are, ap (λ ks. earlier.Gives Falls (record (before s) { globals = ks })) (sym e))
write_by false gs hs s are e = refl

store_by : (b : Bool) (x : List ℕ) (w : ℕ) (gs : List Global) (hs : List EarlierGlobal) (s : State) → AreOfWords s.globals → AreOfWords gs → map earlier_global gs ≡ hs
    → Same (Gives Falls (if b then record s { locals = with_local_word x w s.locals } else record s { globals = gs }))
    (earlier.Gives Falls (if b then record (before s) { locals = with_local_word x w s.locals } else record (before s) { globals = hs }))
store_by true x w gs hs s were are e = (were, refl)
store_by false x w gs hs s were are e = (are, ap (λ ks. earlier.Gives Falls (record (before s) { globals = ks })) (sym e))

module _ (stays : EarlierMeaningStays) where
  does_variable : (x : List ℕ) → Does (λ s. Gives (variable_word x s) s) (λ s. earlier.Gives (earlier.variable_word x s) s)
  does_variable x = λ s are. (
    are,
    ap (λ (ws : List ℕ). earlier.Gives (unwrap_or (local_word s.locals x) (unwrap_or (slice_get ws 0) 0)) (before s)) (sym (stays.reads s.globals x)),
  )

  does_read : (x : List ℕ) (i : ℕ) → Does (read_element x i) (earlier.read_element x i)
  does_read x i = λ s are.
      subst (λ (ws : List ℕ). Same (read_element x i s) (elim (slice_get ws i) [ None ↦ earlier.Wrong Index s.output | Some w ↦ earlier.Gives w (before s) ]))
      (stays.reads s.globals x) (read_by (slice_get (global_words s.globals x) i) s are)

  does_store : (x : List ℕ) (w : ℕ) → Does (λ s. Gives Falls (stored x w s)) (λ s. earlier.Gives Falls (earlier.stored x w s))
  does_store x w = λ s are.
      let q = stays.writes x 0 w s.globals are in
      store_by (is_some (local_word s.locals x)) x w (with_element x 0 w s.globals) (earlier_with_element x 0 w (map earlier_global s.globals)) s are q.0 q.1

  does_write : (d : Destination) (w : ℕ) → Does (write d w) (earlier.write d w)
  does_write (ToVariable x) w = does_store x w
  does_write (ToElement x i) w = λ s are.
      let q = stays.writes x i w s.globals are in
      let hs = earlier_with_element x i w (map earlier_global s.globals) in
      subst (λ (ws : List ℕ). Same (write_element x i w s) (if nat_lt i (length ws) then earlier.Gives Falls (record (before s) { globals = hs }) else earlier.Wrong Index s.output))
      (stays.reads s.globals x) (write_by (nat_lt i (length (global_words s.globals x))) (with_element x i w s.globals) hs s q.0 q.1)

  does_old : (d : Destination) → Does (old_value d) (earlier.old_value d)
  does_old (ToVariable x) = does_variable x
  does_old (ToElement x i) = does_read x i

  does_new : (op : Option BinaryOperator) (t u : Scalar) (d : Destination) (w : ℕ) → Does (new_value op t u d w) (earlier.new_value op t u d w)
  does_new None t u d w = does_give w
  does_new (Some op) t u d w = does_then (old_value d) (earlier.old_value d) _ _ (does_old d) (λ old. does_given op (binary_word op (working_type op t u) old w))

  does_assign : (op : Option BinaryOperator) (t u : Scalar) (d : Destination) (w : ℕ)
      → Does (λ s. then_do (new_value op t u d w s) (λ new v. write d new v)) (λ s. earlier.then_do (earlier.new_value op t u d w s) (λ new v. earlier.write d new v))
  does_assign op t u d w = does_then (new_value op t u d w) (earlier.new_value op t u d w) _ _ (does_new op t u d w) (λ new. does_write d new)

  -- if each call does what it did
  module _ (call : Calls) (called : earlier.Calls) (does_call : (f ws : List ℕ) → Does (call f ws) (called f ws)) where
    mutual
      does_evaluate : (e : Expr) (bs : List Binding) → Does (evaluate e bs call) (earlier.evaluate e bs called)
      does_evaluate (Number t n) bs = does_give n
      does_evaluate (Variable x) bs = does_variable x.text
      does_evaluate (Element x e) bs = does_then (evaluate e bs call) (earlier.evaluate e bs called) _ _ (does_evaluate e bs) (λ i. does_read x.text i)
      does_evaluate (Call f es) bs = does_then (evaluate_all es bs call) (earlier.evaluate_all es bs called) _ _ (does_evaluate_all es bs) (λ ws. does_call f.text ws)
      does_evaluate (Parenthesised e) bs = does_evaluate e bs
      does_evaluate (Unary op e) bs = does_then (evaluate e bs call) (earlier.evaluate e bs called) _ _ (does_evaluate e bs) (λ a. does_give (unary_word op a))
      does_evaluate (Cast t e) bs = does_evaluate e bs
      does_evaluate (Binary op left right) bs =
          let t = working_type op (value_type bs left) (value_type bs right) in
          does_then (evaluate left bs call) (earlier.evaluate left bs called) _ _ (does_evaluate left bs) (λ a. does_unless (decided op a) _ _
          (does_then (evaluate right bs call) (earlier.evaluate right bs called) _ _ (does_evaluate right bs) (λ b. does_given op (binary_word op t a b))))
      does_evaluate (Conditional c a b) bs =
          does_then (evaluate c bs call) (earlier.evaluate c bs called) _ _ (does_evaluate c bs)
          (λ w. does_choose w (evaluate a bs call) (evaluate b bs call) (earlier.evaluate a bs called) (earlier.evaluate b bs called) (does_evaluate a bs) (does_evaluate b bs))

      does_evaluate_all : (es : Exprs) (bs : List Binding) → Does (evaluate_all es bs call) (earlier.evaluate_all es bs called)
      does_evaluate_all none bs = does_give []
      does_evaluate_all (more e rest) bs =
          does_then (evaluate e bs call) (earlier.evaluate e bs called) _ _ (does_evaluate e bs)
          (λ w. does_then (evaluate_all rest bs call) (earlier.evaluate_all rest bs called) _ _ (does_evaluate_all rest bs) (λ ws. does_give (w ∷ ws)))

    does_or : (w : ℕ) (e : Option Expr) (bs : List Binding) → Does (evaluate_or w e bs call) (earlier.evaluate_or w e bs called)
    does_or w None bs = does_give w
    does_or w (Some e) bs = does_evaluate e bs

    does_find : (t : Target) (bs : List Binding) → Does (destination t bs call) (earlier.destination t bs called)
    does_find (AtVariable x) bs = does_give (ToVariable x.text)
    does_find (AtElement x e) bs = does_then (evaluate e bs call) (earlier.evaluate e bs called) _ _ (does_evaluate e bs) (λ i. does_give (ToElement x.text i))

    does_perform : (a : Action) (bs : List Binding) → Does (perform a bs call) (earlier.perform a bs called)
    does_perform (Assign op target e) bs =
        does_then (destination target bs call) (earlier.destination target bs called) _ _ (does_find target bs)
        (λ d. does_then (evaluate e bs call) (earlier.evaluate e bs called) _ _ (does_evaluate e bs)
        (λ w. does_assign (applied_operator op) (target_type bs target) (value_type bs e) d w))
    does_perform (Step op target) bs =
        does_then (destination target bs call) (earlier.destination target bs called) _ _ (does_find target bs)
        (λ d. does_assign (applied_operator (step_operator op)) (target_type bs target) Int d 1)
    does_perform (Evaluate e) bs = does_then (evaluate e bs call) (earlier.evaluate e bs called) _ _ (does_evaluate e bs) (λ w. does_give Falls)

    does_optional : (a : Option Action) (bs : List Binding) → Does (perform_optional a bs call) (earlier.perform_optional a bs called)
    does_optional None bs = does_give Falls
    does_optional (Some a) bs = does_perform a bs

    -- if what follows the store of a declared local does what it did, so do the two together
    does_stored : (x : List ℕ) (w : ℕ) (go : State → Run Flow) (went : earlier.State → earlier.Run Flow) → Does go went → Does (λ s. go (stored x w s)) (λ s. went (earlier.stored x w s))
    does_stored x w go went h = does_then (λ s. Gives Falls (stored x w s)) (λ s. earlier.Gives Falls (earlier.stored x w s)) (λ flow. go) (λ flow. went) (does_store x w) (λ flow. h)

    does_declare : (t : Scalar) (ds : List Declarator) (v : Visible) → Does (declare t ds call v) (earlier.declare t ds called v)
    does_declare t [] v = does_give Falls
    does_declare t (d ∷ rest) v = λ s are.
        let x = d.name.text in
        let u = declared x (scope.Variable t) v in
        same_then (evaluate_or 0 d.initial (in_scope u) call (with_local x s)) (earlier.evaluate_or 0 d.initial (in_scope u) called (earlier.with_local x (before s)))
        (λ w r. declare t rest call u (stored x w r)) (λ w r. earlier.declare t rest called u (earlier.stored x w r))
        (does_or 0 d.initial (in_scope u) (with_local x s) are)
        (λ w. does_stored x w (declare t rest call u) (earlier.declare t rest called u) (does_declare t rest u))

    does_start : (first : Beginning) (v : Visible) → Does (start first call v) (earlier.start first called v)
    does_start (Declares t ds) v = does_declare t ds v
    does_start (Performs a) v = does_optional a (in_scope v)

    does_loop : (n : ℕ) (c : Expr) (bs : List Binding) (body : State → Run Flow) (ran : earlier.State → earlier.Run Flow) → Does body ran
        → Does (turns (suc n) (evaluate c bs call) (in_block body) (λ t. Gives Falls t)) (earlier.turns (suc n) (earlier.evaluate c bs called) (earlier.in_block ran) (λ t. earlier.Gives Falls t))
    does_loop n c bs body ran h =
        does_turns (suc n) (evaluate c bs call) (in_block body) (λ t. Gives Falls t) (earlier.evaluate c bs called) (earlier.in_block ran) (λ t. earlier.Gives Falls t)
        (does_evaluate c bs) (does_block body ran h) (does_give Falls)

    mutual
      does_execute : (s : Stmt) (n : ℕ) (v : Visible) → Does (execute s n call v) (earlier.execute s n called v)
      does_execute (Block all) n v = does_block (execute_all all n call (opened v)) (earlier.execute_all all n called (opened v)) (does_execute_all all n (opened v))
      does_execute (tree.Local t ds) n v = does_declare t ds v
      does_execute (Perform a) n v = does_optional a (in_scope v)
      does_execute (Return at e) n v = does_then (evaluate_or 0 e (in_scope v) call) (earlier.evaluate_or 0 e (in_scope v) called) _ _ (does_or 0 e (in_scope v)) (λ w. does_give (Returns w))
      does_execute (Break at) n v = does_give Breaks
      does_execute (Continue at) n v = does_give Continues
      does_execute (If c a) n v =
          does_then (evaluate c (in_scope v) call) (earlier.evaluate c (in_scope v) called) _ _ (does_evaluate c (in_scope v)) (λ w. does_choose w _ _ _ _ (does_block (execute a n call (opened v)) (earlier.execute a n called (opened v)) (does_execute a n (opened v))) (does_give Falls))
      does_execute (IfElse c a b) n v =
          does_then (evaluate c (in_scope v) call) (earlier.evaluate c (in_scope v) called) _ _ (does_evaluate c (in_scope v))
          (λ w. does_choose w _ _ _ _ (does_block (execute a n call (opened v)) (earlier.execute a n called (opened v)) (does_execute a n (opened v))) (does_block (execute b n call (opened v)) (earlier.execute b n called (opened v)) (does_execute b n (opened v))))
      does_execute (While c body) n v = does_loop n c (in_scope v) (execute body n call (opened v)) (earlier.execute body n called (opened v)) (does_execute body n (opened v))
      does_execute (DoWhile body c) n v = does_begin (in_block (execute body n call (opened v))) _ (earlier.in_block (earlier.execute body n called (opened v))) _ (does_block (execute body n call (opened v)) (earlier.execute body n called (opened v)) (does_execute body n (opened v))) (does_loop n c (in_scope v) (execute body n call (opened v)) (earlier.execute body n called (opened v)) (does_execute body n (opened v)))
      does_execute (For first c behind body) n v =
          let w = scope_behind_beginning first (opened v) in
          does_header (start first call (opened v)) (earlier.start first called (opened v)) (turns (suc n) (evaluate_or 1 c (in_scope w) call) (in_block (execute body n call (opened w))) (perform_optional behind (in_scope w) call))
          (earlier.turns (suc n) (earlier.evaluate_or 1 c (in_scope w) called) (earlier.in_block (earlier.execute body n called (opened w))) (earlier.perform_optional behind (in_scope w) called))
          (does_start first (opened v))
          (does_turns (suc n) (evaluate_or 1 c (in_scope w) call) (in_block (execute body n call (opened w))) (perform_optional behind (in_scope w) call)
          (earlier.evaluate_or 1 c (in_scope w) called) (earlier.in_block (earlier.execute body n called (opened w))) (earlier.perform_optional behind (in_scope w) called)
          (does_or 1 c (in_scope w)) (does_block (execute body n call (opened w)) (earlier.execute body n called (opened w)) (does_execute body n (opened w))) (does_optional behind (in_scope w)))

      does_execute_all : (ss : Stmts) (n : ℕ) (v : Visible) → Does (execute_all ss n call v) (earlier.execute_all ss n called v)
      does_execute_all end n v = does_give Falls
      does_execute_all (next first rest) n v =
          does_then (execute first n call v) (earlier.execute first n called v) _ _ (does_execute first n v)
          (λ flow. does_flow flow (execute_all rest n call (scope_behind first v)) (earlier.execute_all rest n called (scope_behind first v)) (does_execute_all rest n (scope_behind first v)))

    does_run : (o : Option Function) (n : ℕ) (ws : List ℕ) → Does (run_optional o n call ws) (earlier.run_optional o n called ws)
    does_run None n ws = does_give {A = ℕ} 0
    does_run (Some f) n ws = λ s are.
        same_then (execute_all f.body n call f.visible (record s { locals = bound f.parameters ws [] })) (earlier.execute_all f.body n called f.visible (record (before s) { locals = bound f.parameters ws [] }))
        (λ flow t. Gives (result_of flow) (record t { locals = s.locals })) (λ flow t. earlier.Gives (result_of flow) (record t { locals = s.locals }))
        (does_execute_all f.body n f.visible (record s { locals = bound f.parameters ws [] }) are) (λ flow t is. (is, refl))

  same_read : (input : List ℕ) (s : State) → AreOfWords s.globals → Same (read_input input s) (earlier.read_input input (before s))
  same_read [] s are = (are, refl)
  same_read (w ∷ rest) s are = (are, refl)

  same_call : (writes reads allowed : Bool) (body : State → Run ℕ) (ran : earlier.State → earlier.Run ℕ) (ws : List ℕ) (s : State) → AreOfWords s.globals → Does body ran
      → Same (elim writes [
        | true ↦ Gives 0 (record s { output = s.output ++ ws })
        | false ↦ elim reads [ true ↦ read_input s.input s | false ↦ spend (λ t. elim allowed [ true ↦ body t | false ↦ Wrong Depth t.output ]) s ]
      ]) (elim writes [
        | true ↦ earlier.Gives 0 (record (before s) { output = s.output ++ ws })
        | false ↦ elim reads [ true ↦ earlier.read_input s.input (before s) | false ↦ earlier.spend (λ t. elim allowed [ true ↦ ran t | false ↦ earlier.Wrong Depth t.output ]) (before s) ]
      ])
  same_call true reads allowed body ran ws s are h = (are, refl)
  same_call false true allowed body ran ws s are h = same_read s.input s are
  same_call false false true body ran ws s are h = same_spend s.steps body ran s are h
  same_call false false false body ran ws s are h = same_spend {A = ℕ} s.steps (λ t. Wrong Depth t.output) (λ t. earlier.Wrong Depth t.output) s are (λ t is. refl)

  does_calls : (n : ℕ) (fs : List Function) (opened : ℕ) (f ws : List ℕ) → Does (calls n fs opened f ws) (earlier.calls n fs opened f ws)
  does_calls zero fs opened f ws = λ s are. refl
  does_calls (suc n) fs opened f ws = λ s are.
      same_call (same_name f (codes "write_word")) (same_name f (codes "read_word")) (nat_lt opened most_open)
      (run_optional (function_named fs f) n (calls n fs (opened + 1)) ws) (earlier.run_optional (function_named fs f) n (earlier.calls n fs (opened + 1)) ws) ws s are
      (does_run (calls n fs (opened + 1)) (earlier.calls n fs (opened + 1)) (does_calls n fs (opened + 1)) (function_named fs f) n ws)

  same_outcome : (r : Run ℕ) (q : earlier.Run ℕ) → Same r q → outcome_of r ≡ earlier.outcome_of q
  same_outcome (Gives w s) q h = ap earlier.outcome_of (sym h.1)
  same_outcome (Going output) q h = ap earlier.outcome_of (sym h)
  same_outcome (Wrong cause output) q h = ap earlier.outcome_of (sym h)

  -- a program without byte arrays does what it did
  pub programs_stay : (source : Source) → ArePlain source.externals → (input : List ℕ) (n : ℕ) → observed_behavior source input n ≡ earlier.observed_behavior source input n
  programs_stay source plain input n =
      let q = stays.begins source.externals plain in
      let s : State = record { locals = []; globals = initial_globals source.externals; input = input; output = []; steps = n } in
      same_outcome (calls (suc n) (functions source.externals) 0 (codes "main") [] s) (earlier.calls (suc n) (functions source.externals) 0 (codes "main") [] (before s))
      (does_calls (suc n) (functions source.externals) 0 (codes "main") [] s q.0)
      ∙ ap (λ (gs : List EarlierGlobal). earlier.outcome_of (earlier.calls (suc n) (functions source.externals) 0 (codes "main") [] (record { locals = []; globals = gs; input = input; output = []; steps = n }))) q.1
