-- What a program does depends on no place and on no parentheses.
use Rattle.std.proofs.Common.{◌≡◌, ℕ, zero, suc, ◌+◌, ◌-◌, ◌%◌, ◌^◌, ◌&&◌, Bool, true, false, if◌then◌else◌, List, [], ◌∷◌, ◌++◌, length, map, replicate, nat_lt, Option, Some, None, option_map, unwrap_or, codes, refl, sym, ap, ◌∙◌}
use Rattle.cc_ast.specs.scalar.Scalar.{Scalar}
use Rattle.cc_ast.specs.scalar.Scalar.TheVariants.{Int}
use Rattle.cc_ast.specs.Tree.{Name, Expr, Exprs, none, more, Number, Variable, Element, Call, Parenthesised, Unary, Cast, Binary, Conditional, Target, AtVariable, AtElement, Action, Assign, Step, Evaluate, Declarator, Beginning, Declares, Performs, Stmt, Stmts, end, next, Block, Local, Perform, Return, Break, Continue, If, IfElse, While, DoWhile, For, ConstantExpr, Parameter, Signature, Object, Single, Array, Bytes, External, Declaration, Definition, Objects}
use Rattle.cc_types.specs.Names.{same_name}
use Rattle.cc_types.specs.Operators.{common_type, working_type, binary_type, unary_type, unary_word, binary_word, decided, applied_operator, step_operator, is_true}
use Rattle.cc_types.specs.Scope as scope
use Rattle.cc_types.specs.Scope.{Binding, Visible, in_scope, opened, declared, all_declared, scope_behind, scope_behind_beginning, parameter_declared, parameters_declared, FileScope, first_file_scope, function_entity, with_declared, with_function, with_object, with_objects, file_scope_behind, body_scope}
use Rattle.cc_types.specs.Types.{value_type, target_type, is_constant, constant_value, constant_word, decided_or, with_word, elements_of_word, array_length, initial_word, zeros_behind, object_width}
use Rattle.cc_types.specs.Limits.{objects}
use Rattle.cc_c_semantics.specs.declared.cause.Cause.TheVariants.{Depth}
use Rattle.cc_c_semantics.specs.Meaning.{State, Run, Gives, Wrong, Flow, Falls, Returns, then_do, choose, Calls, read_element, given, unless_decided, evaluate, evaluate_all, evaluate_or, ToElement, destination, new_value, write, perform, perform_optional, spend, behind_flow, begin_body, turns, with_local, stored, declare, start, in_block, return, execute, execute_all, Function, text_of, functions_from, functions, function_named, bound, result_of, run_optional, read_input, most_open, calls, initial_global, initial_globals, outcome_of, observed_behavior}
use Rattle.cc_wide.specs.Places.{name_only, bare, all_bare, bare_optional, bare_target, bare_action, bare_declarators, bare_beginning, bare_statement, bare_statements, bare_constant, bare_signature, bare_object, bare_external, PlacesMeanNothing}

-- ---- types and constants

bare_type : (e : Expr) (bs : List Binding) → value_type bs (bare e) ≡ value_type bs e
bare_type (Number t n) bs = refl
bare_type (Variable x) bs = refl
bare_type (Element x e) bs = refl
bare_type (Call f es) bs = refl
bare_type (Parenthesised e) bs = bare_type e bs
bare_type (Unary op e) bs = ap (unary_type op) (bare_type e bs)
bare_type (Cast t e) bs = refl
bare_type (Binary op a b) bs = λ i. binary_type op (bare_type a bs i) (bare_type b bs i)
bare_type (Conditional c a b) bs = λ i. common_type (bare_type a bs i) (bare_type b bs i)

bare_is : (e : Expr) → is_constant (bare e) ≡ is_constant e
bare_is (Number t n) = refl
bare_is (Variable x) = refl
bare_is (Element x e) = refl
bare_is (Call f es) = refl
bare_is (Parenthesised e) = bare_is e
bare_is (Unary op e) = bare_is e
bare_is (Cast t e) = bare_is e
bare_is (Binary op a b) = λ i. bare_is a i && bare_is b i
bare_is (Conditional c a b) = λ i. bare_is c i && (bare_is a i && bare_is b i)

bare_value : (e : Expr) → constant_value (bare e) ≡ constant_value e
bare_value (Number t n) = refl
bare_value (Variable x) = refl
bare_value (Element x e) = refl
bare_value (Call f es) = refl
bare_value (Parenthesised e) = bare_value e
bare_value (Unary op e) = ap (option_map (unary_word op)) (bare_value e)
bare_value (Cast t e) = bare_value e
bare_value (Binary op a b) =
    λ i. with_word (bare_value a i) (λ x. decided_or (decided op x) (with_word (bare_value b i) (λ y. binary_word op (working_type op (bare_type a [] i) (bare_type b [] i)) x y)))
bare_value (Conditional c a b) = λ i. with_word (bare_value c i) (λ w. if is_true w then bare_value a i else bare_value b i)

bare_word : (c : ConstantExpr) → constant_word (bare_constant c) ≡ constant_word c
bare_word c = λ i. if bare_is c.expr i then bare_value c.expr i else None

bare_initial : (c : Option ConstantExpr) → initial_word (option_map bare_constant c) ≡ initial_word c
bare_initial None = refl
bare_initial (Some c) = ap (λ (o : Option ℕ). unwrap_or o 0) (bare_word c)

bare_count : (es : List ConstantExpr) → length (map bare_constant es) ≡ length es
bare_count [] = refl
bare_count (e ∷ rest) = ap suc (bare_count rest)

bare_length : (n : Option ConstantExpr) (es : List ConstantExpr) → array_length (option_map bare_constant n) (map bare_constant es) ≡ array_length n es
bare_length None es = ap Some (bare_count es)
bare_length (Some c) es = λ i. option_map (elements_of_word (bare_type c.expr [] i)) (bare_word c i)

bare_words : (keep : ℕ → ℕ) (es : List ConstantExpr) → map (λ (c : ConstantExpr). keep (initial_word (Some c))) (map bare_constant es) ≡ map (λ (c : ConstantExpr). keep (initial_word (Some c))) es
bare_words keep [] = refl
bare_words keep (e ∷ rest) = λ i. keep (bare_initial (Some e) i) ∷ bare_words keep rest i

bare_zeros : (n : Option ConstantExpr) (es : List ConstantExpr) → zeros_behind (option_map bare_constant n) (map bare_constant es) ≡ zeros_behind n es
bare_zeros n es = λ i. replicate (unwrap_or (bare_length n es i) 0 - bare_count es i) 0

bare_global : (o : Object) → initial_global (bare_object o) ≡ initial_global o
bare_global (Single x e) = λ i. record { name = x.text; width = object_width (Single x e); words = bare_initial e i ∷ [] }
bare_global (Array x n es) = λ i. record { name = x.text; width = object_width (Array x n es); words = bare_words (λ w. w) es i ++ bare_zeros n es i }
bare_global (Bytes x n es) = λ i. record { name = x.text; width = object_width (Bytes x n es); words = bare_words (λ w. w % 2 ^ 8) es i ++ bare_zeros n es i }

-- ---- expressions and actions

module _ (bs : List Binding) (call : Calls) where
  mutual
    bare_evaluate : (e : Expr) → evaluate (bare e) bs call ≡ evaluate e bs call
    bare_evaluate (Number t n) = refl
    bare_evaluate (Variable x) = refl
    bare_evaluate (Element x e) = λ i s. then_do (bare_evaluate e i s) (λ j t. read_element x.text j t)
    bare_evaluate (Call f es) = λ i s. then_do (bare_evaluate_all es i s) (λ ws t. call f.text ws t)
    bare_evaluate (Parenthesised e) = bare_evaluate e
    bare_evaluate (Unary op e) = λ i s. then_do (bare_evaluate e i s) (λ a t. Gives (unary_word op a) t)
    bare_evaluate (Cast t e) = bare_evaluate e
    bare_evaluate (Binary op a b) =
        λ i s. then_do (bare_evaluate a i s) (λ x t. unless_decided (decided op x)
        (λ u. then_do (bare_evaluate b i u) (λ y v. given op (binary_word op (working_type op (bare_type a bs i) (bare_type b bs i)) x y) v)) t)
    bare_evaluate (Conditional c a b) = λ i s. then_do (bare_evaluate c i s) (λ w t. choose w (bare_evaluate a i) (bare_evaluate b i) t)

    bare_evaluate_all : (es : Exprs) → evaluate_all (all_bare es) bs call ≡ evaluate_all es bs call
    bare_evaluate_all none = refl
    bare_evaluate_all (more e rest) = λ i s. then_do (bare_evaluate e i s) (λ w t. then_do (bare_evaluate_all rest i t) (λ ws u. Gives (w ∷ ws) u))

  bare_or : (w : ℕ) (e : Option Expr) → evaluate_or w (bare_optional e) bs call ≡ evaluate_or w e bs call
  bare_or w None = refl
  bare_or w (Some e) = bare_evaluate e

  bare_destination : (t : Target) → destination (bare_target t) bs call ≡ destination t bs call
  bare_destination (AtVariable x) = refl
  bare_destination (AtElement x e) = λ i s. then_do (bare_evaluate e i s) (λ j t. Gives (ToElement x.text j) t)

  bare_target_type : (t : Target) → target_type bs (bare_target t) ≡ target_type bs t
  bare_target_type (AtVariable x) = refl
  bare_target_type (AtElement x e) = refl

  bare_perform : (a : Action) → perform (bare_action a) bs call ≡ perform a bs call
  bare_perform (Assign op target e) =
      λ i s. then_do (bare_destination target i s) (λ d t. then_do (bare_evaluate e i t) (λ w u.
      then_do (new_value (applied_operator op) (bare_target_type target i) (bare_type e bs i) d w u) (λ new v. write d new v)))
  bare_perform (Step op target) =
      λ i s. then_do (bare_destination target i s) (λ d t.
      then_do (new_value (applied_operator (step_operator op)) (bare_target_type target i) Int d 1 t) (λ new v. write d new v))
  bare_perform (Evaluate e) = λ i s. then_do (bare_evaluate e i s) (λ w t. Gives Falls t)

  bare_perform_optional : (a : Option Action) → perform_optional (option_map bare_action a) bs call ≡ perform_optional a bs call
  bare_perform_optional None = refl
  bare_perform_optional (Some a) = bare_perform a

  bare_return : (e : Option Expr) → return (bare_optional e) bs call ≡ return e bs call
  bare_return e = λ i s. then_do (bare_or 0 e i s) (λ w t. Gives (Returns w) t)

-- ---- declarations and scopes

bare_declare : (t : Scalar) (ds : List Declarator) (call : Calls) (v : Visible) → declare t (bare_declarators ds) call v ≡ declare t ds call v
bare_declare t [] call v = refl
bare_declare t (d ∷ rest) call v =
    λ i s. then_do (bare_or (in_scope (declared d.name.text (scope.Variable t) v)) call 0 d.initial i (with_local d.name.text s))
    (λ w u. bare_declare t rest call (declared d.name.text (scope.Variable t) v) i (stored d.name.text w u))

bare_declared : (t : Scalar) (ds : List Declarator) (v : Visible) → all_declared t (bare_declarators ds) v ≡ all_declared t ds v
bare_declared t [] v = refl
bare_declared t (d ∷ rest) v = bare_declared t rest (declared d.name.text (scope.Variable t) v)

bare_start : (first : Beginning) (call : Calls) (v : Visible) → start (bare_beginning first) call v ≡ start first call v
bare_start (Declares t ds) call v = bare_declare t ds call v
bare_start (Performs a) call v = bare_perform_optional (in_scope v) call a

bare_beginning_scope : (first : Beginning) (v : Visible) → scope_behind_beginning (bare_beginning first) v ≡ scope_behind_beginning first v
bare_beginning_scope (Declares t ds) v = bare_declared t ds v
bare_beginning_scope (Performs a) v = refl

bare_scope : (s : Stmt) (v : Visible) → scope_behind (bare_statement s) v ≡ scope_behind s v
bare_scope (Block all) v = refl
bare_scope (Local t ds) v = bare_declared t ds v
bare_scope (Perform a) v = refl
bare_scope (Return at e) v = refl
bare_scope (Break at) v = refl
bare_scope (Continue at) v = refl
bare_scope (If c s) v = refl
bare_scope (IfElse c s r) v = refl
bare_scope (While c s) v = refl
bare_scope (DoWhile s c) v = refl
bare_scope (For first c behind s) v = refl

-- ---- statements

module _ (n : ℕ) (call : Calls) where
  mutual
    bare_execute : (s : Stmt) (v : Visible) → execute (bare_statement s) n call v ≡ execute s n call v
    bare_execute (Block all) v = λ i s. in_block (bare_execute_all all (opened v) i) s
    bare_execute (Local t ds) v = bare_declare t ds call v
    bare_execute (Perform a) v = bare_perform_optional (in_scope v) call a
    bare_execute (Return at e) v = bare_return (in_scope v) call e
    bare_execute (Break at) v = refl
    bare_execute (Continue at) v = refl
    bare_execute (If c a) v = λ i s. then_do (bare_evaluate (in_scope v) call c i s) (λ w t. choose w (in_block (bare_execute a (opened v) i)) (λ u. Gives Falls u) t)
    bare_execute (IfElse c a b) v =
        λ i s. then_do (bare_evaluate (in_scope v) call c i s) (λ w t. choose w (in_block (bare_execute a (opened v) i)) (in_block (bare_execute b (opened v) i)) t)
    bare_execute (While c body) v = λ i s. turns (suc n) (bare_evaluate (in_scope v) call c i) (in_block (bare_execute body (opened v) i)) (λ t. Gives Falls t) s
    bare_execute (DoWhile body c) v =
        λ i s. begin_body (in_block (bare_execute body (opened v) i))
        (turns (suc n) (bare_evaluate (in_scope v) call c i) (in_block (bare_execute body (opened v) i)) (λ t. Gives Falls t)) s
    bare_execute (For first c behind body) v =
        (λ i s. in_block (λ t. then_do (bare_start first call (opened v) i t) (λ flow u.
        turns (suc n) (bare_or (in_scope (scope_behind_beginning (bare_beginning first) (opened v))) call 1 c i)
        (in_block (bare_execute body (opened (scope_behind_beginning (bare_beginning first) (opened v))) i))
        (bare_perform_optional (in_scope (scope_behind_beginning (bare_beginning first) (opened v))) call behind i) u)) s)
        ∙ (λ i s. in_block (λ t. then_do (start first call (opened v) t) (λ flow u.
        turns (suc n) (evaluate_or 1 c (in_scope (bare_beginning_scope first (opened v) i)) call)
        (in_block (execute body n call (opened (bare_beginning_scope first (opened v) i))))
        (perform_optional behind (in_scope (bare_beginning_scope first (opened v) i)) call) u)) s)

    bare_execute_all : (all : Stmts) (v : Visible) → execute_all (bare_statements all) n call v ≡ execute_all all n call v
    bare_execute_all end v = refl
    bare_execute_all (next first rest) v =
        (λ i s. then_do (bare_execute first v i s) (λ flow t. behind_flow flow (bare_execute_all rest (scope_behind (bare_statement first) v) i) t))
        ∙ (λ i s. then_do (execute first n call v s) (λ flow t. behind_flow flow (execute_all rest n call (bare_scope first v i)) t))

-- ---- functions

abbrev bare_function : Function → Function
bare_function f = record { name = f.name; parameters = f.parameters; body = bare_statements f.body; visible = f.visible }

bare_names : (ps : List Parameter) → map (λ (p : Parameter). text_of p.name) (map (λ (p : Parameter). record { scalar = p.scalar; name = option_map name_only p.name }) ps) ≡ map (λ (p : Parameter). text_of p.name) ps
bare_names [] = refl
bare_names (p ∷ rest) = λ i. bare_text p.name i ∷ bare_names rest i
  where
    bare_text : (o : Option Name) → text_of (option_map name_only o) ≡ text_of o
    bare_text None = refl
    bare_text (Some x) = refl

bare_scalars : (ps : List Parameter)
    → map (λ (p : Parameter). p.scalar) (map (λ (p : Parameter). record { scalar = p.scalar; name = option_map name_only p.name }) ps) ≡ map (λ (p : Parameter). p.scalar) ps
bare_scalars [] = refl
bare_scalars (p ∷ rest) = λ i. p.scalar ∷ bare_scalars rest i

bare_entity : (s : Signature) → function_entity (bare_signature s) ≡ function_entity s
bare_entity s = ap (scope.Function s.result) (bare_scalars s.parameters)

bare_with : (s : Signature) (f : FileScope) → with_function (bare_signature s) f ≡ with_function s f
bare_with s f = λ i. with_declared s.name.text (bare_entity s i) f

bare_parameter : (t : Scalar) (o : Option Name) (v : Visible) → parameter_declared t (option_map name_only o) v ≡ parameter_declared t o v
bare_parameter t None v = refl
bare_parameter t (Some x) v = refl

bare_parameters : (ps : List Parameter) (v : Visible)
    → parameters_declared (map (λ (p : Parameter). record { scalar = p.scalar; name = option_map name_only p.name }) ps) v ≡ parameters_declared ps v
bare_parameters [] v = refl
bare_parameters (p ∷ rest) v = bare_parameters rest (parameter_declared p.scalar (option_map name_only p.name) v) ∙ ap (parameters_declared rest) (bare_parameter p.scalar p.name v)

bare_body_scope : (s : Signature) (f : FileScope) → body_scope (bare_signature s) f ≡ body_scope s f
bare_body_scope s f =
    bare_parameters s.parameters (record { inner = []; outer = (with_function (bare_signature s) f).bindings })
    ∙ ap (λ (g : FileScope). parameters_declared s.parameters (record { inner = []; outer = g.bindings })) (bare_with s f)

bare_object_scope : (t : Scalar) (o : Object) (f : FileScope) → with_object t (bare_object o) f ≡ with_object t o f
bare_object_scope t (Single x e) f = refl
bare_object_scope t (Array x n es) f = refl
bare_object_scope t (Bytes x n es) f = refl

bare_objects_scope : (t : Scalar) (os : List Object) (f : FileScope) → with_objects t (map bare_object os) f ≡ with_objects t os f
bare_objects_scope t [] f = refl
bare_objects_scope t (o ∷ rest) f = bare_objects_scope t rest (with_object t (bare_object o) f) ∙ ap (with_objects t rest) (bare_object_scope t o f)

bare_file_scope : (e : External) (f : FileScope) → file_scope_behind (bare_external e) f ≡ file_scope_behind e f
bare_file_scope (Declaration s) f = bare_with s f
bare_file_scope (Definition s body) f = ap (λ (g : FileScope). record g { defined = s.name.text ∷ f.defined }) (bare_with s f)
bare_file_scope (Objects t os) f = bare_objects_scope t os f

bare_functions : (es : List External) (f : FileScope) → functions_from (map bare_external es) f ≡ map bare_function (functions_from es f)
bare_functions [] f = refl
bare_functions (Declaration s ∷ rest) f =
    ap (functions_from (map bare_external rest)) (bare_file_scope (Declaration s) f) ∙ bare_functions rest (file_scope_behind (Declaration s) f)
bare_functions (Definition s body ∷ rest) f =
    λ i. record { name = s.name.text; parameters = bare_names s.parameters i; body = bare_statements body; visible = bare_body_scope s f i }
    ∷ (ap (functions_from (map bare_external rest)) (bare_file_scope (Definition s body) f) ∙ bare_functions rest (file_scope_behind (Definition s body) f)) i
bare_functions (Objects t os ∷ rest) f =
    ap (functions_from (map bare_external rest)) (bare_file_scope (Objects t os) f) ∙ bare_functions rest (file_scope_behind (Objects t os) f)

bare_named : (fs : List Function) (x : List ℕ) → function_named (map bare_function fs) x ≡ option_map bare_function (function_named fs x)
bare_named [] x = refl
bare_named (f ∷ rest) x = by (same_name f.name x) (bare_named rest x)
  where
    by : (c : Bool) → function_named (map bare_function rest) x ≡ option_map bare_function (function_named rest x)
        → (if c then Some (bare_function f) else function_named (map bare_function rest) x) ≡ option_map bare_function (if c then Some f else function_named rest x)
    by true ih = refl
    by false ih = ih

bare_run : (o : Option Function) (n : ℕ) (call : Calls) (ws : List ℕ) (s : State) → run_optional (option_map bare_function o) n call ws s ≡ run_optional o n call ws s
bare_run None n call ws s = refl
bare_run (Some f) n call ws s =
    ap (λ (go : State → Run Flow). then_do (go (record s { locals = bound f.parameters ws [] })) (λ flow t. Gives (result_of flow) (record t { locals = s.locals }))) (bare_execute_all n call f.body f.visible)

bare_calls : (n : ℕ) (fs : List Function) (opened : ℕ) → calls n (map bare_function fs) opened ≡ calls n fs opened
bare_calls zero fs opened = refl
bare_calls (suc n) fs opened = λ i f ws s.
    elim (same_name f (codes "write_word")) [
      | true ↦ Gives 0 (record s { output = s.output ++ ws })
      | false ↦ elim (same_name f (codes "read_word")) [
        | true ↦ read_input s.input s
        | false ↦ spend (λ t. elim (nat_lt opened most_open) [
          | true ↦ bare_body n fs opened f ws t (bare_calls n fs (opened + 1)) i
          | false ↦ Wrong Depth t.output
        ]) s
      ]
    ]
  where
    bare_body : (n : ℕ) (fs : List Function) (opened : ℕ) (f ws : List ℕ) (t : State) → calls n (map bare_function fs) (opened + 1) ≡ calls n fs (opened + 1)
        → run_optional (function_named (map bare_function fs) f) n (calls n (map bare_function fs) (opened + 1)) ws t ≡ run_optional (function_named fs f) n (calls n fs (opened + 1)) ws t
    bare_body n fs opened f ws t ih =
        (λ i. run_optional (bare_named fs f i) n (ih i) ws t) ∙ bare_run (function_named fs f) n (calls n fs (opened + 1)) ws t

-- ---- programs

objects_by : (os : List Object) (rest : List External) → map initial_global (objects (map bare_external rest)) ≡ map initial_global (objects rest)
    → map initial_global (map bare_object os ++ objects (map bare_external rest)) ≡ map initial_global (os ++ objects rest)
objects_by [] rest ih = ih
objects_by (o ∷ others) rest ih = λ i. bare_global o i ∷ objects_by others rest ih i

bare_objects : (es : List External) → map initial_global (objects (map bare_external es)) ≡ map initial_global (objects es)
bare_objects [] = refl
bare_objects (Declaration s ∷ rest) = bare_objects rest
bare_objects (Definition s body ∷ rest) = bare_objects rest
bare_objects (Objects t os ∷ rest) = objects_by os rest (bare_objects rest)

bare_program : (text other : List ℕ) (es : List External) (input : List ℕ) (n : ℕ)
    → observed_behavior (record { text = text; externals = map bare_external es }) input n ≡ observed_behavior (record { text = other; externals = es }) input n
bare_program text other es input n =
    (λ i. outcome_of (calls (suc n) (bare_functions es first_file_scope i) 0 (codes "main") [] (record { locals = []; globals = bare_objects es i; input = input; output = []; steps = n })))
    ∙ (λ i. outcome_of (bare_calls (suc n) (functions es) 0 i (codes "main") [] (record { locals = []; globals = initial_globals es; input = input; output = []; steps = n })))

pub places_mean_nothing : PlacesMeanNothing
places_mean_nothing text other a b e input n =
    sym (bare_program text text a input n)
    ∙ ap (λ (es : List External). observed_behavior (record { text = text; externals = es }) input n) e
    ∙ bare_program text other b input n
