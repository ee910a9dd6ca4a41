-- The facts of Feeding hold for each part of a program: for expressions and statements by recursion on the tree, and for calls by
-- recursion on the bound.
use Rattle.std.proofs.Common.{◌≡◌, ℕ, zero, suc, ◌+◌, ◌*◌, ◌≤◌, List, [], ◌∷◌, ◌++◌, Bool, true, false, if◌then◌else◌, length, nat_lt, Option, Some, None, is_some, slice_get, codes, subst, arith}
use Rattle.cc_ast.specs.scalar.Scalar.{Scalar}
use Rattle.cc_ast.specs.scalar.Scalar.TheVariants.{Int}
use Rattle.cc_ast.specs.declared.ast.BinaryOperator.{BinaryOperator}
use Rattle.cc_ast.specs.Tree as tree
use Rattle.cc_ast.specs.Tree.{Expr, Exprs, none, more, Number, Variable, Element, Call, Parenthesised, Unary, Cast, Binary, Conditional, Target, AtVariable, AtElement, Action, Assign, Step, Evaluate, Declarator, Beginning, Declares, Performs, Stmt, Stmts, end, next, Block, Perform, Return, Break, Continue, If, IfElse, While, DoWhile, For}
use Rattle.cc_types.specs.Names.{same_name}
use Rattle.cc_types.specs.Operators.{working_type, unary_word, binary_word, decided, applied_operator, step_operator}
use Rattle.cc_types.specs.Scope as scope
use Rattle.cc_types.specs.Scope.{Binding, Visible, in_scope, opened, declared, scope_behind, scope_behind_beginning}
use Rattle.cc_types.specs.Types.{value_type, target_type}
use Rattle.cc_c_semantics.specs.Meaning.{Local, Global, State, Run, Gives, Going, Wrong, Flow, Falls, Breaks, Continues, Returns, then_do, choose, Calls, local_word, global_words, with_local_word, with_element, variable_word, stored, read_element, write_element, cause_of, given, unless_decided, evaluate, evaluate_all, evaluate_or, Destination, ToVariable, ToElement, destination, old_value, write, new_value, perform, perform_optional, with_local, declare, start, left_scope, in_block, return, execute, execute_all, behind_flow, Function, bound, result_of, run_body, run_optional, read_input, calls, function_named, most_open, spend, turns}
use Rattle.cc_c_semantics.specs.declared.cause.Cause.TheVariants.{Index, Depth}
use Rattle.cc_endless.proofs.Feeding.{fed, Facts, At, wider, gives_at, wrong_at, going_at, write_at, read_at, then_given, then_at, choose_at, unless_at, flow_at, spend_at, begin_at, turns_at}

-- ---- parts that are done at once

element_by : (o : Option ℕ) (s : State) → Facts 0 s (elim o [ None ↦ Wrong Index s.output | Some w ↦ Gives w s ]) (λ more. elim o [ None ↦ Wrong Index s.output | Some w ↦ Gives w (fed more s) ])
element_by None s = wrong_at Index s
element_by (Some w) s = gives_at w s

element_at : (x : List ℕ) (i : ℕ) (s : State) → At 0 (read_element x i) s
element_at x i s = element_by (slice_get (global_words s.globals x) i) s

write_by : (b : Bool) (gs : List Global) (s : State)
    → Facts 0 s (if b then Gives Falls (record s { globals = gs }) else Wrong Index s.output) (λ more. if b then Gives Falls (record (fed more s) { globals = gs }) else Wrong Index s.output)
write_by true gs s = let f = gives_at Falls (record s { globals = gs }) in record { grows = f.grows; few = f.few; keeps = f.keeps; alike = f.alike }
write_by false gs s = wrong_at Index s

write_element_at : (x : List ℕ) (i w : ℕ) (s : State) → At 0 (write_element x i w) s
write_element_at x i w s = write_by (nat_lt i (length (global_words s.globals x))) (with_element x i w s.globals) s

stored_by : (b : Bool) (ls : List Local) (gs : List Global) (s : State)
    → Facts 0 s (Gives Falls (if b then record s { locals = ls } else record s { globals = gs })) (λ more. Gives Falls (if b then record (fed more s) { locals = ls } else record (fed more s) { globals = gs }))
stored_by true ls gs s = let f = gives_at Falls (record s { locals = ls }) in record { grows = f.grows; few = f.few; keeps = f.keeps; alike = f.alike }
stored_by false ls gs s = let f = gives_at Falls (record s { globals = gs }) in record { grows = f.grows; few = f.few; keeps = f.keeps; alike = f.alike }

stored_at : (x : List ℕ) (w : ℕ) (s : State) → At 0 (λ t. Gives Falls (stored x w t)) s
stored_at x w s = stored_by (is_some (local_word s.locals x)) (with_local_word x w s.locals) (with_element x 0 w s.globals) s

given_at : (op : BinaryOperator) (o : Option ℕ) (s : State) → At 0 (given op o) s
given_at op None s = wrong_at (cause_of op) s
given_at op (Some w) s = gives_at w s

variable_at : (x : List ℕ) (s : State) → At 0 (λ t. Gives (variable_word x t) t) s
variable_at x s = gives_at (variable_word x s) s

-- ---- the words of arguments are no more than the arguments

abbrev count : Exprs → ℕ
count none = 0
count (more e rest) = suc (count rest)

abbrev Sized : ℕ → Run (List ℕ) → Type 0
Sized k (Gives ws t) = length ws ≤ k
Sized k (Going output) = Unit {0}
Sized k (Wrong cause output) = Unit {0}

sized_then : {A : Type 0} (k : ℕ) (r : Run A) (rest : A → State → Run (List ℕ)) → ((x : A) (t : State) → Sized k (rest x t)) → Sized k (then_do r rest)
sized_then k (Gives x t) rest f = f x t
sized_then k (Going output) rest f = tt
sized_then k (Wrong cause output) rest f = tt

sized_more : (k w : ℕ) (r : Run (List ℕ)) → Sized k r → Sized (suc k) (then_do r (λ ws u. Gives (w ∷ ws) u))
sized_more k w (Gives ws t) h = omega arith
sized_more k w (Going output) h = tt
sized_more k w (Wrong cause output) h = tt

sized : (es : Exprs) (bs : List Binding) (call : Calls) (s : State) → Sized (count es) (evaluate_all es bs call s)
sized none bs call s = omega arith
sized (more e rest) bs call s =
    sized_then (suc (count rest)) (evaluate e bs call s) (λ w t. then_do (evaluate_all rest bs call t) (λ ws u. Gives (w ∷ ws) u))
    (λ w t. sized_more (count rest) w (evaluate_all rest bs call t) (sized rest bs call t))

-- ---- expressions, assignments and statements, if the facts hold for each call

module _ (spare : ℕ) where
  -- a call adds at most its words and `spare` entries
  abbrev pub Caller : Type 0
  Caller = (call : Calls) × ((f ws : List ℕ) (s : State) → At (spare + length ws) (call f ws) s)

  -- some number bounds what the part adds to the output, with whatever calls
  abbrev pub Steady : {A : Type 0} → (Caller → State → Run A) → Type 0
  Steady part = (most : ℕ) × ((c : Caller) (s : State) → At most (part c) s)

  -- the words that all arguments give are as many as the arguments
  given_words : (es : Exprs) (bs : List Binding) (call : Calls) (s t : State) (ws : List ℕ) → evaluate_all es bs call s ≡ Gives ws t → length ws ≤ count es
  given_words es bs call s t ws e = subst (Sized (count es)) e (sized es bs call s)

  mutual
    expression : (e : Expr) (bs : List Binding) → Steady (λ c s. evaluate e bs c.0 s)
    expression (Number t k) bs = (0, λ c s. gives_at k s)
    expression (Variable x) bs = (0, λ c s. variable_at x.text s)
    expression (Element x e) bs =
        let p = expression e bs in
        (p.0 + 0, λ c s. then_at p.0 0 (λ u. evaluate e bs c.0 u) (λ ls i t. read_element x.text i t) s (p.1 c s) (λ ls i t. element_at x.text i t))
    expression (Call f es) bs =
        let p = expressions es bs in (
          p.0 + (spare + count es),
          λ c s.
              then_given p.0 (spare + count es) (λ u. evaluate_all es bs c.0 u) (λ ls ws t. c.0 f.text ws t) s (p.1 c s)
              (λ ws t. (c.1 f.text ws t).grows)
              (λ ws t e. wider (spare + length ws) (spare + count es) t (c.0 f.text ws t) (λ more. c.0 f.text ws (fed more t)) (let h = given_words es bs c.0 s t ws e in omega arith) (c.1 f.text ws t)),
        )
    expression (Parenthesised e) bs = expression e bs
    expression (Unary op e) bs =
        let p = expression e bs in
        (p.0 + 0, λ c s. then_at p.0 0 (λ u. evaluate e bs c.0 u) (λ ls a t. Gives (unary_word op a) t) s (p.1 c s) (λ ls a t. gives_at (unary_word op a) t))
    expression (Cast type e) bs = expression e bs
    expression (Binary op left right) bs =
        let p = expression left bs in
        let q = expression right bs in (
          p.0 + (q.0 + 0),
          λ c s.
              then_at p.0 (q.0 + 0) (λ u. evaluate left bs c.0 u)
              (λ ls a t. unless_decided (decided op a) (λ u. then_do (evaluate right bs c.0 u) (λ b v. given op (binary_word op (working_type op (value_type bs left) (value_type bs right)) a b) v)) t)
              s (p.1 c s)
              (λ ls a t. unless_at (q.0 + 0) (decided op a) (λ u. then_do (evaluate right bs c.0 u) (λ b v. given op (binary_word op (working_type op (value_type bs left) (value_type bs right)) a b) v)) t
              (then_at q.0 0 (λ u. evaluate right bs c.0 u) (λ ls b v. given op (binary_word op (working_type op (value_type bs left) (value_type bs right)) a b) v) t (q.1 c t)
              (λ ls b v. given_at op (binary_word op (working_type op (value_type bs left) (value_type bs right)) a b) v))),
        )
    expression (Conditional e a b) bs =
        let p = expression e bs in
        let q = expression a bs in
        let r = expression b bs in (
          p.0 + (q.0 + r.0),
          λ c s.
              then_at p.0 (q.0 + r.0) (λ u. evaluate e bs c.0 u) (λ ls w t. choose w (evaluate a bs c.0) (evaluate b bs c.0) t) s (p.1 c s)
              (λ ls w t. choose_at q.0 r.0 w (evaluate a bs c.0) (evaluate b bs c.0) t (q.1 c t) (r.1 c t)),
        )

    expressions : (es : Exprs) (bs : List Binding) → Steady (λ c s. evaluate_all es bs c.0 s)
    expressions none bs = (0, λ c s. gives_at [] s)
    expressions (more e rest) bs =
        let p = expression e bs in
        let q = expressions rest bs in (
          p.0 + (q.0 + 0),
          λ c s.
              then_at p.0 (q.0 + 0) (λ u. evaluate e bs c.0 u) (λ ls w t. then_do (evaluate_all rest bs c.0 t) (λ ws u. Gives (w ∷ ws) u)) s (p.1 c s)
              (λ ls w t. then_at q.0 0 (λ u. evaluate_all rest bs c.0 u) (λ ls ws u. Gives (w ∷ ws) u) t (q.1 c t) (λ ls ws u. gives_at (w ∷ ws) u)),
        )

  optional : (w : ℕ) (e : Option Expr) (bs : List Binding) → Steady (λ c s. evaluate_or w e bs c.0 s)
  optional w None bs = (0, λ c s. gives_at w s)
  optional w (Some e) bs = expression e bs

  target : (t : Target) (bs : List Binding) → Steady (λ c s. destination t bs c.0 s)
  target (AtVariable x) bs = (0, λ c s. gives_at (ToVariable x.text) s)
  target (AtElement x e) bs =
      let p = expression e bs in
      (p.0 + 0, λ c s. then_at p.0 0 (λ u. evaluate e bs c.0 u) (λ ls i t. Gives (ToElement x.text i) t) s (p.1 c s) (λ ls i t. gives_at (ToElement x.text i) t))

  old_at : (d : Destination) (s : State) → At 0 (old_value d) s
  old_at (ToVariable x) s = variable_at x s
  old_at (ToElement x i) s = element_at x i s

  written_at : (d : Destination) (w : ℕ) (s : State) → At 0 (write d w) s
  written_at (ToVariable x) w s = stored_at x w s
  written_at (ToElement x i) w s = write_element_at x i w s

  new_at : (op : Option BinaryOperator) (t u : Scalar) (d : Destination) (w : ℕ) (s : State) → At (0 + 0) (new_value op t u d w) s
  new_at None t u d w s = wider 0 (0 + 0) s (Gives w s) (λ more. Gives w (fed more s)) (omega arith) (gives_at w s)
  new_at (Some op) t u d w s =
      then_at 0 0 (λ v. old_value d v) (λ ls old v. given op (binary_word op (working_type op t u) old w) v) s (old_at d s) (λ ls old v. given_at op (binary_word op (working_type op t u) old w) v)

  -- the end of an assignment: the operator, then the write
  assigned_at : (op : Option BinaryOperator) (t u : Scalar) (d : Destination) (w : ℕ) (s : State) → At (0 + 0 + 0) (λ v. then_do (new_value op t u d w v) (λ new x. write d new x)) s
  assigned_at op t u d w s = then_at (0 + 0) 0 (λ v. new_value op t u d w v) (λ ls new x. write d new x) s (new_at op t u d w s) (λ ls new x. written_at d new x)

  action : (a : Action) (bs : List Binding) → Steady (λ c s. perform a bs c.0 s)
  action (Assign op to e) bs =
      let p = target to bs in
      let q = expression e bs in (
        p.0 + (q.0 + (0 + 0 + 0)),
        λ c s.
            then_at p.0 (q.0 + (0 + 0 + 0)) (λ u. destination to bs c.0 u)
            (λ ls d t. then_do (evaluate e bs c.0 t) (λ w u. then_do (new_value (applied_operator op) (target_type bs to) (value_type bs e) d w u) (λ new v. write d new v))) s (p.1 c s)
            (λ ls d t. then_at q.0 (0 + 0 + 0) (λ u. evaluate e bs c.0 u) (λ ls w u. then_do (new_value (applied_operator op) (target_type bs to) (value_type bs e) d w u) (λ new v. write d new v)) t (q.1 c t)
            (λ ls w u. assigned_at (applied_operator op) (target_type bs to) (value_type bs e) d w u)),
      )
  action (Step op to) bs =
      let p = target to bs in (
        p.0 + (0 + 0 + 0),
        λ c s.
            then_at p.0 (0 + 0 + 0) (λ u. destination to bs c.0 u)
            (λ ls d t. then_do (new_value (applied_operator (step_operator op)) (target_type bs to) Int d 1 t) (λ new v. write d new v)) s (p.1 c s)
            (λ ls d t. assigned_at (applied_operator (step_operator op)) (target_type bs to) Int d 1 t),
      )
  action (Evaluate e) bs =
      let p = expression e bs in
      (p.0 + 0, λ c s. then_at p.0 0 (λ u. evaluate e bs c.0 u) (λ ls w t. Gives Falls t) s (p.1 c s) (λ ls w t. gives_at Falls t))

  optional_action : (a : Option Action) (bs : List Binding) → Steady (λ c s. perform_optional a bs c.0 s)
  optional_action None bs = (0, λ c s. gives_at Falls s)
  optional_action (Some a) bs = action a bs

  -- what comes after a declaration of a local, whose word is 0
  behind_local : {A : Type 0} (m : ℕ) (x : List ℕ) (part : State → Run A) (s : State) → At m part (with_local x s) → At m (λ u. part (with_local x u)) s
  behind_local m x part s f = record { grows = f.grows; few = f.few; keeps = f.keeps; alike = f.alike }

  -- what comes after a write to a variable
  behind_stored : (m : ℕ) (x : List ℕ) (w : ℕ) (part : State → Run Flow) (s : State) → ((u : State) → At m part u) → At (0 + m) (λ u. part (stored x w u)) s
  behind_stored m x w part s f = then_at 0 m (λ u. Gives Falls (stored x w u)) (λ ls flow u. part u) s (stored_at x w s) (λ ls flow u. f u)

  declarators : (t : Scalar) (ds : List Declarator) (v : Visible) → Steady (λ c s. declare t ds c.0 v s)
  declarators t [] v = (0, λ c s. gives_at Falls s)
  declarators t (d ∷ rest) v =
      let p = optional 0 d.initial (in_scope (declared d.name.text (scope.Variable t) v)) in
      let q = declarators t rest (declared d.name.text (scope.Variable t) v) in (
        p.0 + (0 + q.0),
        λ c s.
            then_at p.0 (0 + q.0) (λ u. evaluate_or 0 d.initial (in_scope (declared d.name.text (scope.Variable t) v)) c.0 (with_local d.name.text u))
            (λ ls w u. declare t rest c.0 (declared d.name.text (scope.Variable t) v) (stored d.name.text w u)) s
            (behind_local p.0 d.name.text (λ u. evaluate_or 0 d.initial (in_scope (declared d.name.text (scope.Variable t) v)) c.0 u) s (p.1 c (with_local d.name.text s)))
            (λ ls w u. behind_stored q.0 d.name.text w (λ u. declare t rest c.0 (declared d.name.text (scope.Variable t) v) u) u (q.1 c)),
      )

  beginning : (first : Beginning) (v : Visible) → Steady (λ c s. start first c.0 v s)
  beginning (Declares t ds) v = declarators t ds v
  beginning (Performs a) v = optional_action a (in_scope v)

  block_at : (m : ℕ) (part : State → Run Flow) (s : State) → At m part s → At (m + 0) (in_block part) s
  block_at m part s f = then_at m 0 part (λ ls flow t. Gives flow (left_scope (length ls) t)) s f
      (λ ls flow t. let g = gives_at flow (left_scope (length ls) t) in record { grows = g.grows; few = g.few; keeps = g.keeps; alike = g.alike })

  returned : (e : Option Expr) (bs : List Binding) → Steady (λ c s. return e bs c.0 s)
  returned e bs = let p = optional 0 e bs in (p.0 + 0, λ c s. then_at p.0 0 (λ u. evaluate_or 0 e bs c.0 u) (λ ls w t. Gives (Returns w) t) s (p.1 c s) (λ ls w t. gives_at (Returns w) t))

  module _ (n : ℕ) where
    mutual
      statement : (x : Stmt) (v : Visible) → Steady (λ c s. execute x n c.0 v s)
      statement (Block all) v = let p = statements all (opened v) in (p.0 + 0, λ c s. block_at p.0 (λ t. execute_all all n c.0 (opened v) t) s (p.1 c s))
      statement (tree.Local t ds) v = declarators t ds v
      statement (Perform a) v = optional_action a (in_scope v)
      statement (Return at e) v = returned e (in_scope v)
      statement (Break at) v = (0, λ c s. gives_at Breaks s)
      statement (Continue at) v = (0, λ c s. gives_at Continues s)
      statement (If e a) v =
          let p = expression e (in_scope v) in
          let q = statement a (opened v) in (
            p.0 + (q.0 + 0 + 0),
            λ c s.
                then_at p.0 (q.0 + 0 + 0) (λ u. evaluate e (in_scope v) c.0 u) (λ ls w t. choose w (in_block (execute a n c.0 (opened v))) (λ u. Gives Falls u) t) s (p.1 c s)
                (λ ls w t. choose_at (q.0 + 0) 0 w (in_block (execute a n c.0 (opened v))) (λ u. Gives Falls u) t (block_at q.0 (λ u. execute a n c.0 (opened v) u) t (q.1 c t)) (gives_at Falls t)),
          )
      statement (IfElse e a b) v =
          let p = expression e (in_scope v) in
          let q = statement a (opened v) in
          let r = statement b (opened v) in (
            p.0 + (q.0 + 0 + (r.0 + 0)),
            λ c s.
                then_at p.0 (q.0 + 0 + (r.0 + 0)) (λ u. evaluate e (in_scope v) c.0 u) (λ ls w t. choose w (in_block (execute a n c.0 (opened v))) (in_block (execute b n c.0 (opened v))) t) s (p.1 c s)
                (λ ls w t. choose_at (q.0 + 0) (r.0 + 0) w (in_block (execute a n c.0 (opened v))) (in_block (execute b n c.0 (opened v))) t
                (block_at q.0 (λ u. execute a n c.0 (opened v) u) t (q.1 c t)) (block_at r.0 (λ u. execute b n c.0 (opened v) u) t (r.1 c t))),
          )
      statement (While e body) v =
          let p = expression e (in_scope v) in
          let q = statement body (opened v) in (
            suc n * (p.0 + (q.0 + 0 + 0)),
            λ c s.
                turns_at p.0 (q.0 + 0) 0 (λ u. evaluate e (in_scope v) c.0 u) (λ u. in_block (execute body n c.0 (opened v)) u) (λ u. Gives Falls u)
                (p.1 c) (λ u. block_at q.0 (λ t. execute body n c.0 (opened v) t) u (q.1 c u)) (λ u. gives_at Falls u) (suc n) s,
          )
      statement (DoWhile body e) v =
          let p = expression e (in_scope v) in
          let q = statement body (opened v) in (
            q.0 + 0 + suc n * (p.0 + (q.0 + 0 + 0)),
            λ c s.
                begin_at (q.0 + 0) (suc n * (p.0 + (q.0 + 0 + 0))) (in_block (execute body n c.0 (opened v)))
                (turns (suc n) (evaluate e (in_scope v) c.0) (in_block (execute body n c.0 (opened v))) (λ u. Gives Falls u))
                (λ u. block_at q.0 (λ t. execute body n c.0 (opened v) t) u (q.1 c u))
                (turns_at p.0 (q.0 + 0) 0 (λ u. evaluate e (in_scope v) c.0 u) (λ u. in_block (execute body n c.0 (opened v)) u) (λ u. Gives Falls u)
                (p.1 c) (λ u. block_at q.0 (λ t. execute body n c.0 (opened v) t) u (q.1 c u)) (λ u. gives_at Falls u) (suc n)) s,
          )
      statement (For first e behind body) v =
          let scope' = scope_behind_beginning first (opened v) in
          let p = beginning first (opened v) in
          let q = optional 1 e (in_scope scope') in
          let r = statement body (opened scope') in
          let h = optional_action behind (in_scope scope') in (
            p.0 + suc n * (q.0 + (r.0 + 0 + h.0)) + 0,
            λ c s.
                block_at (p.0 + suc n * (q.0 + (r.0 + 0 + h.0)))
                (λ t. then_do (start first c.0 (opened v) t) (λ flow u. turns (suc n) (evaluate_or 1 e (in_scope scope') c.0) (in_block (execute body n c.0 (opened scope'))) (perform_optional behind (in_scope scope') c.0) u)) s
                (then_at p.0 (suc n * (q.0 + (r.0 + 0 + h.0))) (λ t. start first c.0 (opened v) t)
                (λ ls flow u. turns (suc n) (evaluate_or 1 e (in_scope scope') c.0) (in_block (execute body n c.0 (opened scope'))) (perform_optional behind (in_scope scope') c.0) u) s (p.1 c s)
                (λ ls flow u. turns_at q.0 (r.0 + 0) h.0 (λ t. evaluate_or 1 e (in_scope scope') c.0 t) (λ t. in_block (execute body n c.0 (opened scope')) t) (λ t. perform_optional behind (in_scope scope') c.0 t)
                (q.1 c) (λ t. block_at r.0 (λ x. execute body n c.0 (opened scope') x) t (r.1 c t)) (h.1 c) (suc n) u)),
          )

      statements : (all : Stmts) (v : Visible) → Steady (λ c s. execute_all all n c.0 v s)
      statements end v = (0, λ c s. gives_at Falls s)
      statements (next first rest) v =
          let p = statement first v in
          let q = statements rest (scope_behind first v) in (
            p.0 + q.0,
            λ c s.
                then_at p.0 q.0 (λ u. execute first n c.0 v u) (λ ls flow t. behind_flow flow (execute_all rest n c.0 (scope_behind first v)) t) s (p.1 c s)
                (λ ls flow t. flow_at q.0 flow (λ u. execute_all rest n c.0 (scope_behind first v) u) t (q.1 c t)),
          )

    body_at : (m : ℕ) (f : Function) (c : Caller) (ws : List ℕ) → ((s : State) → At m (λ u. execute_all f.body n c.0 f.visible u) s) → (s : State) → At (m + 0) (run_body f n c.0 ws) s
    body_at m f c ws h s =
        then_at m 0 (λ u. execute_all f.body n c.0 f.visible (record u { locals = bound f.parameters ws [] })) (λ ls flow t. Gives (result_of flow) (record t { locals = ls })) s
        (let g = h (record s { locals = bound f.parameters ws [] }) in record { grows = g.grows; few = g.few; keeps = g.keeps; alike = g.alike })
        (λ ls flow t. let g = gives_at (result_of flow) (record t { locals = ls }) in record { grows = g.grows; few = g.few; keeps = g.keeps; alike = g.alike })

    named_by : (l m : ℕ) (b : Bool) (f : Function) (o : Option Function) (c : Caller) (ws : List ℕ) (s : State) → At l (run_body f n c.0 ws) s → At m (run_optional o n c.0 ws) s
        → At (l + m) (run_optional (if b then Some f else o) n c.0 ws) s
    named_by l m true f o c ws s p q = wider l (l + m) s (run_body f n c.0 ws s) (λ more. run_body f n c.0 ws (fed more s)) (omega arith) p
    named_by l m false f o c ws s p q = wider m (l + m) s (run_optional o n c.0 ws s) (λ more. run_optional o n c.0 ws (fed more s)) (omega arith) q

    -- some number bounds what any of these functions adds
    pub functions_few : (fs : List Function) → (most : ℕ) × ((c : Caller) (x ws : List ℕ) (s : State) → At most (run_optional (function_named fs x) n c.0 ws) s)
    functions_few [] = (0, λ c x ws s. gives_at 0 s)
    functions_few (f ∷ fs) =
        let p = statements f.body f.visible in
        let q = functions_few fs in (
          p.0 + 0 + q.0,
          λ c x ws s.
              named_by (p.0 + 0) q.0 (same_name f.name x) f (function_named fs x) c ws s (body_at p.0 f c ws (p.1 c) s) (q.1 c x ws s),
        )

-- ---- calls

called_by : (m : ℕ) (writes reads allowed : Bool) (ws : List ℕ) (body : State → Run ℕ) → ((s : State) → At m body s) → (s : State)
    → At (1 + m + length ws) (λ u. elim writes [
      | true ↦ Gives 0 (record u { output = u.output ++ ws })
      | false ↦ elim reads [
        | true ↦ read_input u.input u
        | false ↦ spend (λ t. elim allowed [ true ↦ body t | false ↦ Wrong Depth t.output ]) u
      ]
    ]) s
called_by m true reads allowed ws body f s =
    wider (length ws) (1 + m + length ws) s (Gives 0 (record s { output = s.output ++ ws })) (λ more. Gives 0 (record (fed more s) { output = s.output ++ ws })) (omega arith) (write_at ws s)
called_by m false true allowed ws body f s =
    wider 1 (1 + m + length ws) s (read_input s.input s) (λ more. read_input (s.input ++ more) (fed more s)) (omega arith) (read_at s)
called_by m false false true ws body f s =
    wider m (1 + m + length ws) s (spend (λ t. body t) s) (λ more. spend (λ t. body t) (fed more s)) (omega arith) (spend_at m (λ t. body t) f s)
called_by m false false false ws body f s =
    wider 0 (1 + m + length ws) s (spend (λ t. Wrong Depth t.output) s) (λ more. spend (λ t. Wrong Depth t.output) (fed more s)) (omega arith) (spend_at 0 (λ t. Wrong Depth t.output) (λ t. wrong_at Depth t) s)

-- some number bounds what a call adds to the output beside its words, whatever the function and however many calls are open
pub calls_few : (fs : List Function) (n : ℕ) → (most : ℕ) × ((opened : ℕ) (f ws : List ℕ) (s : State) → At (most + length ws) (calls n fs opened f ws) s)
calls_few fs zero = (0, λ opened f ws s. wider 0 (0 + length ws) s (Going s.output) (λ more. Going s.output) (omega arith) (going_at s))
calls_few fs (suc n) =
    let p = calls_few fs n in
    let q = functions_few p.0 n fs in (
      1 + q.0,
      λ opened f ws s.
          called_by q.0 (same_name f (codes "write_word")) (same_name f (codes "read_word")) (nat_lt opened most_open) ws (λ t. run_optional (function_named fs f) n (calls n fs (opened + 1)) ws t)
          (λ t. q.1 (calls n fs (opened + 1), p.1 (opened + 1)) f ws t) s,
    )
