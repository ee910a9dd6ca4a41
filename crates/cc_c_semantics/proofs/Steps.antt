-- The facts of Lasting hold for each part of a program: for expressions and statements by recursion on the tree, and for calls by
-- recursion on how many more may be opened.
use Rattle.std.proofs.Common.{◌≡◌, ℕ, zero, suc, ◌+◌, ◌-◌, ◌<◌, ◌≤◌, List, [], ◌∷◌, ◌++◌, Bool, true, false, if◌then◌else◌, length, nat_lt, Option, Some, None, is_some, slice_get, codes, refl, sym, ◌∙◌, arith, inl, inr, true≢false}
use Rattle.std.proofs.lemmas.Bool.Decides.{leb_tells}
use Rattle.cc_ast.specs.scalar.Scalar.{Scalar}
use Rattle.cc_ast.specs.scalar.Scalar.TheVariants.{Int}
use Rattle.cc_ast.specs.declared.ast.BinaryOperator.{BinaryOperator}
use Rattle.cc_ast.specs.Tree as tree
use Rattle.cc_ast.specs.Tree.{Name, Expr, Exprs, none, more, Number, Variable, Element, Call, Parenthesised, Unary, Cast, Binary, Conditional, Target, AtVariable, AtElement, Action, Assign, Step, Evaluate, Declarator, Beginning, Declares, Performs, Stmt, Stmts, end, next, Block, Perform, Return, Break, Continue, If, IfElse, While, DoWhile, For}
use Rattle.cc_types.specs.Names.{same_name}
use Rattle.cc_types.specs.Operators.{working_type, unary_word, binary_word, decided, applied_operator, step_operator}
use Rattle.cc_types.specs.Scope as scope
use Rattle.cc_types.specs.Scope.{Binding, Visible, in_scope, opened, declared, scope_behind, scope_behind_beginning}
use Rattle.cc_types.specs.Types.{value_type, target_type}
use Rattle.cc_c_semantics.specs.Meaning.{Local, Global, State, Run, Gives, Wrong, Flow, Falls, Breaks, Continues, Returns, then_do, choose, Calls, local_word, global_words, with_local_word, with_element, variable_word, stored, read_element, write_element, given, unless_decided, evaluate, evaluate_all, evaluate_or, Destination, ToVariable, ToElement, destination, old_value, write, new_value, perform, perform_optional, with_local, declare, start, left_scope, in_block, return, execute, execute_all, behind_flow, Function, bound, result_of, run_body, run_optional, read_input, calls, function_named, most_open, spend, turns}
use Rattle.cc_words.specs.Observed.{read_mark}
use Rattle.cc_simulation.specs.Behavior.{IsPrefixOf}
use Rattle.cc_c_semantics.specs.declared.cause.Cause.TheVariants.{Index, Depth}
use Rattle.cc_c_semantics.proofs.Lasting.{at, written, begins_refl, begins_spend, Lasts, lasts_gives, lasts_by, lasts_spend, Steady, steady_gives, steady_then, steady_choose, steady_unless, steady_flow, Under, under, steady_begin, steady_turns}

-- ---- parts that are done at once

read_grows : (o : Option ℕ) (s : State) → IsPrefixOf s.output (written {A = ℕ} (elim o [ None ↦ Wrong Index s.output | Some w ↦ Gives w s ]))
read_grows None s = begins_refl s.output
read_grows (Some w) s = begins_refl s.output

read_lasts : (o : Option ℕ) (s : State)
    → Lasts {A = ℕ} {B = ℕ} Under s.steps (elim o [ None ↦ Wrong Index s.output | Some w ↦ Gives w s ]) (λ m j. elim o [ None ↦ Wrong Index s.output | Some w ↦ Gives w (at s j) ])
read_lasts None s = λ j b w. refl
read_lasts (Some w) s = lasts_gives Under w s

read_steady : (x : List ℕ) (i : ℕ) → Steady Under (λ (n : ℕ) s. read_element x i s)
read_steady x i = record {
  grows = λ n s. read_grows (slice_get (global_words s.globals x) i) s;
  lasts = λ n s w. read_lasts (slice_get (global_words s.globals x) i) s;
}

write_grows : (b : Bool) (gs : List Global) (s : State) → IsPrefixOf s.output (written (if b then Gives Falls (record s { globals = gs }) else Wrong Index s.output))
write_grows true gs s = begins_refl s.output
write_grows false gs s = begins_refl s.output

write_lasts : (b : Bool) (gs : List Global) (s : State)
    → Lasts {A = Flow} {B = ℕ} Under s.steps (if b then Gives Falls (record s { globals = gs }) else Wrong Index s.output) (λ m j. if b then Gives Falls (record (at s j) { globals = gs }) else Wrong Index s.output)
write_lasts true gs s = lasts_gives Under Falls (record s { globals = gs })
write_lasts false gs s = λ j b w. refl

write_element_steady : (x : List ℕ) (i w : ℕ) → Steady Under (λ (n : ℕ) s. write_element x i w s)
write_element_steady x i w = record {
  grows = λ n s. write_grows (nat_lt i (length (global_words s.globals x))) (with_element x i w s.globals) s;
  lasts = λ n s u. write_lasts (nat_lt i (length (global_words s.globals x))) (with_element x i w s.globals) s;
}

stored_grows : (b : Bool) (ls : List Local) (gs : List Global) (s : State) → IsPrefixOf s.output (if b then record s { locals = ls } else record s { globals = gs }).output
stored_grows true ls gs s = begins_refl s.output
stored_grows false ls gs s = begins_refl s.output

stored_lasts : (b : Bool) (ls : List Local) (gs : List Global) (s : State)
    → Lasts {A = Flow} {B = ℕ} Under s.steps (Gives Falls (if b then record s { locals = ls } else record s { globals = gs })) (λ m j. Gives Falls (if b then record (at s j) { locals = ls } else record (at s j) { globals = gs }))
stored_lasts true ls gs s = lasts_gives Under Falls (record s { locals = ls })
stored_lasts false ls gs s = lasts_gives Under Falls (record s { globals = gs })

stored_steady : (x : List ℕ) (w : ℕ) → Steady Under (λ (n : ℕ) s. Gives Falls (stored x w s))
stored_steady x w = record {
  grows = λ n s. stored_grows (is_some (local_word s.locals x)) (with_local_word x w s.locals) (with_element x 0 w s.globals) s;
  lasts = λ n s u. stored_lasts (is_some (local_word s.locals x)) (with_local_word x w s.locals) (with_element x 0 w s.globals) s;
}

given_steady : (op : BinaryOperator) (o : Option ℕ) → Steady Under (λ (n : ℕ) s. given op o s)
given_steady op None = record { grows = λ n s. begins_refl s.output; lasts = λ n s w. λ j b v. refl }
given_steady op (Some w) = steady_gives Under w

variable_steady : (x : List ℕ) → Steady Under (λ (n : ℕ) s. Gives (variable_word x s) s)
variable_steady x = record { grows = λ n s. begins_refl s.output; lasts = λ n s w. lasts_gives Under (variable_word x s) s }

-- ---- expressions, assignments and statements, if the facts hold for each call

module _ (call : ℕ → Calls) (steady : (f ws : List ℕ) → Steady Under (λ n s. call n f ws s)) where
  mutual
    pub evaluate_steady : (e : Expr) (bs : List Binding) → Steady Under (λ n s. evaluate e bs (call n) s)
    evaluate_steady (Number t k) bs = steady_gives Under k
    evaluate_steady (Variable x) bs = variable_steady x.text
    evaluate_steady (Element x e) bs =
        steady_then Under under (λ n s. evaluate e bs (call n) s) (λ ls i n t. read_element x.text i t) (evaluate_steady e bs) (λ ls i. read_steady x.text i)
    evaluate_steady (Call f es) bs =
        steady_then Under under (λ n s. evaluate_all es bs (call n) s) (λ ls ws n t. call n f.text ws t) (evaluate_all_steady es bs) (λ ls ws. steady f.text ws)
    evaluate_steady (Parenthesised e) bs = evaluate_steady e bs
    evaluate_steady (Unary op e) bs =
        steady_then Under under (λ n s. evaluate e bs (call n) s) (λ ls a n t. Gives (unary_word op a) t) (evaluate_steady e bs) (λ ls a. steady_gives Under (unary_word op a))
    evaluate_steady (Cast t e) bs = evaluate_steady e bs
    evaluate_steady (Binary op left right) bs =
        steady_then Under under (λ n s. evaluate left bs (call n) s)
        (λ ls a n t. unless_decided (decided op a) (λ u. then_do (evaluate right bs (call n) u) (λ b v. given op (binary_word op (working_type op (value_type bs left) (value_type bs right)) a b) v)) t)
        (evaluate_steady left bs)
        (λ ls a. steady_unless Under (decided op a)
        (λ n u. then_do (evaluate right bs (call n) u) (λ b v. given op (binary_word op (working_type op (value_type bs left) (value_type bs right)) a b) v))
        (steady_then Under under (λ n u. evaluate right bs (call n) u) (λ ls b n v. given op (binary_word op (working_type op (value_type bs left) (value_type bs right)) a b) v)
        (evaluate_steady right bs) (λ ls b. given_steady op (binary_word op (working_type op (value_type bs left) (value_type bs right)) a b))))
    evaluate_steady (Conditional c a b) bs =
        steady_then Under under (λ n s. evaluate c bs (call n) s) (λ ls w n t. choose w (evaluate a bs (call n)) (evaluate b bs (call n)) t) (evaluate_steady c bs)
        (λ ls w. steady_choose Under w (λ n t. evaluate a bs (call n) t) (λ n t. evaluate b bs (call n) t) (evaluate_steady a bs) (evaluate_steady b bs))

    pub evaluate_all_steady : (es : Exprs) (bs : List Binding) → Steady Under (λ n s. evaluate_all es bs (call n) s)
    evaluate_all_steady none bs = steady_gives Under []
    evaluate_all_steady (more e rest) bs =
        steady_then Under under (λ n s. evaluate e bs (call n) s) (λ ls w n t. then_do (evaluate_all rest bs (call n) t) (λ ws u. Gives (w ∷ ws) u)) (evaluate_steady e bs)
        (λ ls w. steady_then Under under (λ n t. evaluate_all rest bs (call n) t) (λ ls ws n u. Gives (w ∷ ws) u) (evaluate_all_steady rest bs) (λ ls ws. steady_gives Under (w ∷ ws)))

  evaluate_or_steady : (w : ℕ) (e : Option Expr) (bs : List Binding) → Steady Under (λ n s. evaluate_or w e bs (call n) s)
  evaluate_or_steady w None bs = steady_gives Under w
  evaluate_or_steady w (Some e) bs = evaluate_steady e bs

  destination_steady : (t : Target) (bs : List Binding) → Steady Under (λ n s. destination t bs (call n) s)
  destination_steady (AtVariable x) bs = steady_gives Under (ToVariable x.text)
  destination_steady (AtElement x e) bs =
      steady_then Under under (λ n s. evaluate e bs (call n) s) (λ ls i n t. Gives (ToElement x.text i) t) (evaluate_steady e bs) (λ ls i. steady_gives Under (ToElement x.text i))

  old_steady : (d : Destination) → Steady Under (λ (n : ℕ) s. old_value d s)
  old_steady (ToVariable x) = variable_steady x
  old_steady (ToElement x i) = read_steady x i

  write_steady : (d : Destination) (w : ℕ) → Steady Under (λ (n : ℕ) s. write d w s)
  write_steady (ToVariable x) w = stored_steady x w
  write_steady (ToElement x i) w = write_element_steady x i w

  new_steady : (op : Option BinaryOperator) (t u : Scalar) (d : Destination) (w : ℕ) → Steady Under (λ (n : ℕ) s. new_value op t u d w s)
  new_steady None t u d w = steady_gives Under w
  new_steady (Some op) t u d w =
      steady_then Under under (λ n s. old_value d s) (λ ls old n v. given op (binary_word op (working_type op t u) old w) v) (old_steady d)
      (λ ls old. given_steady op (binary_word op (working_type op t u) old w))

  -- the facts hold for the end of an assignment: the operator, then the write
  assigned_steady : (op : Option BinaryOperator) (t u : Scalar) (d : Destination) (w : ℕ) → Steady Under (λ (n : ℕ) s. then_do (new_value op t u d w s) (λ new v. write d new v))
  assigned_steady op t u d w =
      steady_then Under under (λ n s. new_value op t u d w s) (λ ls new n v. write d new v) (new_steady op t u d w) (λ ls new. write_steady d new)

  perform_steady : (a : Action) (bs : List Binding) → Steady Under (λ n s. perform a bs (call n) s)
  perform_steady (Assign op target e) bs =
      steady_then Under under (λ n s. destination target bs (call n) s)
      (λ ls d n t. then_do (evaluate e bs (call n) t) (λ w u. then_do (new_value (applied_operator op) (target_type bs target) (value_type bs e) d w u) (λ new v. write d new v)))
      (destination_steady target bs)
      (λ ls d. steady_then Under under (λ n t. evaluate e bs (call n) t)
      (λ ls w n u. then_do (new_value (applied_operator op) (target_type bs target) (value_type bs e) d w u) (λ new v. write d new v)) (evaluate_steady e bs)
      (λ ls w. assigned_steady (applied_operator op) (target_type bs target) (value_type bs e) d w))
  perform_steady (Step op target) bs =
      steady_then Under under (λ n s. destination target bs (call n) s)
      (λ ls d n t. then_do (new_value (applied_operator (step_operator op)) (target_type bs target) Int d 1 t) (λ new v. write d new v)) (destination_steady target bs)
      (λ ls d. assigned_steady (applied_operator (step_operator op)) (target_type bs target) Int d 1)
  perform_steady (Evaluate e) bs =
      steady_then Under under (λ n s. evaluate e bs (call n) s) (λ ls w n t. Gives Falls t) (evaluate_steady e bs) (λ ls w. steady_gives Under Falls)

  optional_steady : (a : Option Action) (bs : List Binding) → Steady Under (λ n s. perform_optional a bs (call n) s)
  optional_steady None bs = steady_gives Under Falls
  optional_steady (Some a) bs = perform_steady a bs

  -- the facts hold for what comes after a declaration of a local, whose word is 0
  behind_local : {A : Type 0} (x : List ℕ) (part : ℕ → State → Run A) → Steady Under part → Steady Under (λ n s. part n (with_local x s))
  behind_local x part p = record { grows = λ n s. p.grows n (with_local x s); lasts = λ n s w. p.lasts n (with_local x s) w }

  -- the facts hold for what comes after a write to a variable
  behind_stored : (x : List ℕ) (w : ℕ) (part : ℕ → State → Run Flow) → Steady Under part → Steady Under (λ n s. part n (stored x w s))
  behind_stored x w part p =
      steady_then Under under (λ n s. Gives Falls (stored x w s)) (λ ls flow n u. part n u) (stored_steady x w) (λ ls flow. p)

  declare_steady : (t : Scalar) (ds : List Declarator) (v : Visible) → Steady Under (λ n s. declare t ds (call n) v s)
  declare_steady t [] v = steady_gives Under Falls
  declare_steady t (d ∷ rest) v =
      steady_then Under under (λ n s. evaluate_or 0 d.initial (in_scope (declared d.name.text (scope.Variable t) v)) (call n) (with_local d.name.text s))
      (λ ls w n u. declare t rest (call n) (declared d.name.text (scope.Variable t) v) (stored d.name.text w u))
      (behind_local d.name.text (λ n s. evaluate_or 0 d.initial (in_scope (declared d.name.text (scope.Variable t) v)) (call n) s) (evaluate_or_steady 0 d.initial (in_scope (declared d.name.text (scope.Variable t) v))))
      (λ ls w. behind_stored d.name.text w (λ n u. declare t rest (call n) (declared d.name.text (scope.Variable t) v) u) (declare_steady t rest (declared d.name.text (scope.Variable t) v)))

  start_steady : (first : Beginning) (v : Visible) → Steady Under (λ n s. start first (call n) v s)
  start_steady (Declares t ds) v = declare_steady t ds v
  start_steady (Performs a) v = optional_steady a (in_scope v)

  block_steady : (part : ℕ → State → Run Flow) → Steady Under part → Steady Under (λ n s. in_block (part n) s)
  block_steady part p =
      steady_then Under under part (λ ls flow n t. Gives flow (left_scope (length ls) t)) p
      (λ ls flow. record { grows = λ n s. begins_refl s.output; lasts = λ n s w. lasts_gives Under flow (left_scope (length ls) s) })

  return_steady : (e : Option Expr) (bs : List Binding) → Steady Under (λ n s. return e bs (call n) s)
  return_steady e bs =
      steady_then Under under (λ n s. evaluate_or 0 e bs (call n) s) (λ ls w n t. Gives (Returns w) t) (evaluate_or_steady 0 e bs) (λ ls w. steady_gives Under (Returns w))

  mutual
    pub execute_steady : (s : Stmt) (v : Visible) → Steady Under (λ n t. execute s n (call n) v t)
    execute_steady (Block all) v = block_steady (λ n t. execute_all all n (call n) (opened v) t) (execute_all_steady all (opened v))
    execute_steady (tree.Local t ds) v = declare_steady t ds v
    execute_steady (Perform a) v = optional_steady a (in_scope v)
    execute_steady (Return at e) v = return_steady e (in_scope v)
    execute_steady (Break at) v = steady_gives Under Breaks
    execute_steady (Continue at) v = steady_gives Under Continues
    execute_steady (If c a) v =
        steady_then Under under (λ n s. evaluate c (in_scope v) (call n) s) (λ ls w n t. choose w (in_block (execute a n (call n) (opened v))) (λ u. Gives Falls u) t) (evaluate_steady c (in_scope v))
        (λ ls w. steady_choose Under w (λ n t. in_block (execute a n (call n) (opened v)) t) (λ n u. Gives Falls u)
        (block_steady (λ n t. execute a n (call n) (opened v) t) (execute_steady a (opened v))) (steady_gives Under Falls))
    execute_steady (IfElse c a b) v =
        steady_then Under under (λ n s. evaluate c (in_scope v) (call n) s)
        (λ ls w n t. choose w (in_block (execute a n (call n) (opened v))) (in_block (execute b n (call n) (opened v))) t) (evaluate_steady c (in_scope v))
        (λ ls w. steady_choose Under w (λ n t. in_block (execute a n (call n) (opened v)) t) (λ n t. in_block (execute b n (call n) (opened v)) t)
        (block_steady (λ n t. execute a n (call n) (opened v) t) (execute_steady a (opened v))) (block_steady (λ n t. execute b n (call n) (opened v) t) (execute_steady b (opened v))))
    execute_steady (While c body) v =
        steady_turns (λ n s. evaluate c (in_scope v) (call n) s) (λ n s. in_block (execute body n (call n) (opened v)) s) (λ n t. Gives Falls t)
        (evaluate_steady c (in_scope v)) (block_steady (λ n t. execute body n (call n) (opened v) t) (execute_steady body (opened v))) (steady_gives Under Falls)
    execute_steady (DoWhile body c) v =
        steady_begin (λ n s. in_block (execute body n (call n) (opened v)) s)
        (λ n s. turns (suc n) (evaluate c (in_scope v) (call n)) (in_block (execute body n (call n) (opened v))) (λ t. Gives Falls t) s)
        (block_steady (λ n t. execute body n (call n) (opened v) t) (execute_steady body (opened v)))
        (steady_turns (λ n s. evaluate c (in_scope v) (call n) s) (λ n s. in_block (execute body n (call n) (opened v)) s) (λ n t. Gives Falls t)
        (evaluate_steady c (in_scope v)) (block_steady (λ n t. execute body n (call n) (opened v) t) (execute_steady body (opened v))) (steady_gives Under Falls))
    execute_steady (For first c behind body) v =
        block_steady
        (λ n t. then_do (start first (call n) (opened v) t) (λ flow u. turns (suc n) (evaluate_or 1 c (in_scope (scope_behind_beginning first (opened v))) (call n))
        (in_block (execute body n (call n) (opened (scope_behind_beginning first (opened v))))) (perform_optional behind (in_scope (scope_behind_beginning first (opened v))) (call n)) u))
        (steady_then Under under (λ n t. start first (call n) (opened v) t)
        (λ ls flow n u. turns (suc n) (evaluate_or 1 c (in_scope (scope_behind_beginning first (opened v))) (call n))
        (in_block (execute body n (call n) (opened (scope_behind_beginning first (opened v))))) (perform_optional behind (in_scope (scope_behind_beginning first (opened v))) (call n)) u)
        (start_steady first (opened v))
        (λ ls flow. steady_turns (λ n s. evaluate_or 1 c (in_scope (scope_behind_beginning first (opened v))) (call n) s)
        (λ n s. in_block (execute body n (call n) (opened (scope_behind_beginning first (opened v)))) s) (λ n s. perform_optional behind (in_scope (scope_behind_beginning first (opened v))) (call n) s)
        (evaluate_or_steady 1 c (in_scope (scope_behind_beginning first (opened v))))
        (block_steady (λ n t. execute body n (call n) (opened (scope_behind_beginning first (opened v))) t) (execute_steady body (opened (scope_behind_beginning first (opened v)))))
        (optional_steady behind (in_scope (scope_behind_beginning first (opened v))))))

    pub execute_all_steady : (ss : Stmts) (v : Visible) → Steady Under (λ n t. execute_all ss n (call n) v t)
    execute_all_steady end v = steady_gives Under Falls
    execute_all_steady (next first rest) v =
        steady_then Under under (λ n s. execute first n (call n) v s) (λ ls flow n t. behind_flow flow (execute_all rest n (call n) (scope_behind first v)) t) (execute_steady first v)
        (λ ls flow. steady_flow Under flow (λ n t. execute_all rest n (call n) (scope_behind first v) t) (execute_all_steady rest (scope_behind first v)))

  run_body_steady : (f : Function) (ws : List ℕ) → Steady Under (λ n s. run_body f n (call n) ws s)
  run_body_steady f ws =
      steady_then Under under (λ n s. execute_all f.body n (call n) f.visible (record s { locals = bound f.parameters ws [] }))
      (λ ls flow n t. Gives (result_of flow) (record t { locals = ls }))
      (record {
        grows = λ n s. (execute_all_steady f.body f.visible).grows n (record s { locals = bound f.parameters ws [] });
        lasts = λ n s w. (execute_all_steady f.body f.visible).lasts n (record s { locals = bound f.parameters ws [] }) w;
      })
      (λ ls flow. record { grows = λ n s. begins_refl s.output; lasts = λ n s w. lasts_gives Under (result_of flow) (record s { locals = ls }) })

  pub run_optional_steady : (f : Option Function) (ws : List ℕ) → Steady Under (λ n s. run_optional f n (call n) ws s)
  run_optional_steady None ws = steady_gives Under 0
  run_optional_steady (Some f) ws = run_body_steady f ws

-- ---- calls

-- a call once its name and the number of open calls are tested, given what its body does
abbrev pub begun : (writes reads allowed : Bool) → (ℕ → State → Run ℕ) → List ℕ → ℕ → State → Run ℕ
begun writes reads allowed body ws n s =
    elim writes [
      | true ↦ Gives 0 (record s { output = s.output ++ ws })
      | false ↦ elim reads [
        | true ↦ read_input s.input s
        | false ↦ spend (λ t. elim allowed [ true ↦ body n t | false ↦ Wrong Depth t.output ]) s
      ]
    ]

-- the bound of a body; a call's bound is one greater
abbrev UpTo : ℕ → ℕ → Type 0
UpTo k n = k < suc n

input_grows : (input : List ℕ) (s : State) → IsPrefixOf s.output (written (read_input input s))
input_grows [] s = (read_mark ∷ [], refl)
input_grows (w ∷ rest) s = (read_mark ∷ [], refl)

input_lasts : (input : List ℕ) (s : State) → Lasts {A = ℕ} {B = ℕ} UpTo s.steps (read_input input s) (λ m j. read_input input (at s j))
input_lasts [] s = lasts_gives UpTo 0 (record s { output = s.output ++ read_mark ∷ [] })
input_lasts (w ∷ rest) s = lasts_gives UpTo w (record s { input = rest; output = s.output ++ read_mark ∷ [] })

begun_grows : (writes reads allowed : Bool) (body : ℕ → State → Run ℕ) (ws : List ℕ) → (allowed ≡ true → Steady Under body) → (n : ℕ) (s : State)
    → IsPrefixOf s.output (written (begun writes reads allowed body ws n s))
begun_grows true reads allowed body ws f n s = (ws, refl)
begun_grows false true allowed body ws f n s = input_grows s.input s
begun_grows false false true body ws f n s = begins_spend s.steps (λ t. body n t) s ((f refl).grows n)
begun_grows false false false body ws f n s = begins_spend {A = ℕ} s.steps (λ t. Wrong Depth t.output) s (λ u. begins_refl u.output)

begun_lasts : (writes reads allowed : Bool) (body : ℕ → State → Run ℕ) (ws : List ℕ) → (allowed ≡ true → Steady Under body) → (n : ℕ) (s : State) → s.steps < suc n
    → Lasts UpTo s.steps (begun writes reads allowed body ws n s) (λ m j. begun writes reads allowed body ws m (at s j))
begun_lasts true reads allowed body ws f n s lt = lasts_gives UpTo 0 (record s { output = s.output ++ ws })
begun_lasts false true allowed body ws f n s lt = input_lasts s.input s
begun_lasts false false true body ws f n s lt =
    lasts_spend UpTo Under s.steps s (λ t. body n t) (λ m t. body m t) (λ j b v. omega arith) (λ i e. (f refl).lasts n (at s i) (omega arith)) (f refl).grows
begun_lasts false false false body ws f n s lt =
    lasts_spend {A = ℕ} {B = ℕ} UpTo Under s.steps s (λ t. Wrong Depth t.output) (λ m t. Wrong Depth t.output) (λ j b v. omega arith) (λ i e. λ j b v. refl) (λ b u. begins_refl u.output)

-- what the body of a call does
abbrev pub body_part : List Function → ℕ → List ℕ → List ℕ → ℕ → State → Run ℕ
body_part fs opened f ws n s = run_optional (function_named fs f) n (calls n fs (opened + 1)) ws s

abbrev pub call_part : List Function → ℕ → List ℕ → List ℕ → ℕ → State → Run ℕ
call_part fs opened f ws n s =
    begun (same_name f (codes "write_word")) (same_name f (codes "read_word")) (nat_lt opened most_open) (body_part fs opened f ws) ws n s

abbrev one_less : ℕ → ℕ
one_less zero = zero
one_less (suc n) = n

calls_unfold : (fs : List Function) (opened : ℕ) (f ws : List ℕ) (n : ℕ) (s : State) → 0 < n → calls n fs opened f ws s ≡ call_part fs opened f ws (one_less n) s
calls_unfold fs opened f ws zero s h = absurd (omega arith)
calls_unfold fs opened f ws (suc n) s h = refl

calls_grow : (fs : List Function) (opened : ℕ) (f ws : List ℕ) → (nat_lt opened most_open ≡ true → Steady Under (body_part fs opened f ws)) → (n : ℕ) (s : State)
    → IsPrefixOf s.output (written (calls n fs opened f ws s))
calls_grow fs opened f ws h zero s = begins_refl s.output
calls_grow fs opened f ws h (suc n) s =
    begun_grows (same_name f (codes "write_word")) (same_name f (codes "read_word")) (nat_lt opened most_open) (body_part fs opened f ws) ws h n s

up_to_less : (k n : ℕ) → k < n → k < suc (one_less n)
up_to_less k zero h = absurd (omega arith)
up_to_less k (suc n) h = h

calls_last : (fs : List Function) (opened : ℕ) (f ws : List ℕ) → (nat_lt opened most_open ≡ true → Steady Under (body_part fs opened f ws)) → (n : ℕ) (s : State) → s.steps < n
    → Lasts Under s.steps (calls n fs opened f ws s) (λ m j. calls m fs opened f ws (at s j))
calls_last fs opened f ws h zero s lt = absurd (omega arith)
calls_last fs opened f ws h (suc n) s lt =
    lasts_by Under UpTo one_less s.steps (call_part fs opened f ws n s) (λ m j. call_part fs opened f ws m (at s j)) (λ m j. calls m fs opened f ws (at s j))
    up_to_less (λ j m v. calls_unfold fs opened f ws m (at s j) (omega arith))
    (begun_lasts (same_name f (codes "write_word")) (same_name f (codes "read_word")) (nat_lt opened most_open) (body_part fs opened f ws) ws h n s lt)

abbrev CallsSteady : List Function → ℕ → Type 0
CallsSteady fs opened = (f ws : List ℕ) → Steady Under (λ n s. calls n fs opened f ws s)

calls_at : (fs : List Function) (opened : ℕ) → (nat_lt opened most_open ≡ true → CallsSteady fs (opened + 1)) → CallsSteady fs opened
calls_at fs opened h = λ f ws.
    let body : nat_lt opened most_open ≡ true → Steady Under (body_part fs opened f ws) = λ e. run_optional_steady (λ n. calls n fs (opened + 1)) (h e) (function_named fs f) ws in
    record { grows = calls_grow fs opened f ws body; lasts = calls_last fs opened f ws body }

not_allowed : (fs : List Function) (opened : ℕ) → 1024 ≤ opened → CallsSteady fs opened
not_allowed fs opened h = calls_at fs opened (λ e. elim (leb_tells (suc opened) most_open) [ inl t ↦ absurd (let x = t.1 in omega arith) | inr t ↦ absurd (true≢false (sym e ∙ t.0)) ])

calls_down : (fs : List Function) (k opened : ℕ) → opened + k ≡ 1024 → CallsSteady fs opened
calls_down fs zero opened e = not_allowed fs opened (omega arith)
calls_down fs (suc k) opened e = calls_at fs opened (λ h. calls_down fs k (opened + 1) (omega arith))

pub calls_steady : (fs : List Function) (opened : ℕ) → CallsSteady fs opened
calls_steady fs opened =
    elim (leb_tells opened 1024) [ inl t ↦ calls_down fs (1024 - opened) opened (let x = t.1 in omega arith) | inr t ↦ not_allowed fs opened (let x = t.1 in omega arith) ]
