-- In a typed unit each name in the body of a function refers to what the body needs.
use Rattle.std.proofs.Common.{◌≡◌, ℕ, zero, suc, ◌<◌, false, if◌then◌else◌, List, [], ◌∷◌, ◌++◌, length, map, inl, inr, Option, Some, None, slice_get, codes, refl, sym, ap, ◌∙◌, subst, arith}
use Rattle.cc_ast.specs.scalar.Scalar.{Scalar}
use Rattle.cc_ast.specs.Tree as tree
use Rattle.cc_ast.specs.Tree.{Expr, Exprs, none, more, Number, Variable, Element, Parenthesised, Unary, Cast, Binary, Conditional, Target, AtVariable, AtElement, Action, Assign, Step, Evaluate, Declarator, Beginning, Declares, Performs, Stmt, Stmts, end, next, Block, Perform, Return, Break, Continue, If, IfElse, While, DoWhile, For, Parameter, Signature, External, Declaration, Definition, Objects}
use Rattle.cc_types.specs.Names.{same_name}
use Rattle.cc_types.specs.Scope as scope
use Rattle.cc_types.specs.Scope.{found, Visible, in_scope, opened, scope_behind, scope_behind_beginning, FileScope, has_name, first_file_scope, with_objects, file_scope_behind, file_scope_behind_all, body_scope}
use Rattle.cc_types.specs.Rules.{broken, broken_if, array_errors, function_errors, count_of, void_errors, expression_errors, argument_errors, value_errors, optional_errors, target_errors, action_errors, optional_action_errors, declared_errors, beginning_errors, return_errors, Around, within_loop, statement_errors, statements_errors, signature_errors, external_errors, externals_errors, undefined_among, called_in, called_in_all, called_in_optional, called_in_target, called_in_action, called_in_optional_action, called_in_declared, called_in_beginning, called_in_statement, called_in_statements, called_in_external, called}
use Rattle.cc_types.specs.declared.rule.Rule.TheVariants.{Redeclared, WrongKind, BadAssign, BadReturn}
use Rattle.cc_types.specs.Typed.{IsTyped, definitions}
use Rattle.cc_layout.specs.Layout.{Layout, names_before, layout_of, callee}
use Rattle.cc_layout.specs.declared.layout.Callee.TheVariants.{WriteWord, ReadWord, Defined}
use Rattle.cc_layout.specs.Environment.{Environment, types_in, inner, with_local, behind, behind_beginning, parameter_names, environment_of, environments_from}
use Rattle.cc_c_semantics.specs.Meaning.{text_of, functions_from, functions}
use Rattle.cc_c_semantics.specs.Resolved.{arities, IsPlaced, IsVariable, IsCalled, ExprResolved, ExprsResolved, OptionalResolved, TargetResolved, ActionResolved, OptionalActionResolved, DeclaratorsResolved, BeginningResolved, StmtResolved, StmtsResolved, FunctionsAreResolved}
use Rattle.cc_c_semantics.proofs.Errors.{nil_left, nil_right, defined_left, defined_right, is_defined, variable_found, array_found, function_found}
use Rattle.cc_c_semantics.proofs.Named.{same_name_symm}
use Rattle.cc_c_semantics.proofs.Numbers.{function_of_name, arity_of_number, sized_number}
use Rattle.cc_c_semantics.proofs.Scoped.{Readable, Scoped, scoped_inner, scoped_local, with_locals_visible, scoped_locals, behind_is}
use Rattle.cc_c_semantics.proofs.Bodies.{Takes, Writes, Reads, Enters, final_scope, body_scoped}

-- ---- names

is_variable : (v : Environment) (x : List ℕ) → Readable v x → IsVariable v x
is_variable v x r =
    elim r [
      | inl q ↦ subst (λ o. IsPlaced o v x) (sym q.1) tt
      | inr q ↦ subst (λ o. IsPlaced o v x) (sym q.0) (sized_number v.layout.objects x q.1.0, q.1)
    ]

-- a call is right if it has as many words as its name takes
is_called_by : (unit : List External) (x : List ℕ) (count : ℕ) → Takes (layout_of unit).functions (functions unit) x count → IsCalled (arities unit) (callee (layout_of unit) x) count
is_called_by unit x count (Writes is one) =
    subst (λ b. IsCalled (arities unit) (if b then WriteWord else (if same_name (codes "read_word") x then ReadWord else Defined (names_before (layout_of unit).functions x))) count)
    (sym (same_name_symm (codes "write_word") x ∙ is)) one
is_called_by unit x count (Reads not_write is no_words) =
    subst (λ b. IsCalled (arities unit) (if b then WriteWord else (if same_name (codes "read_word") x then ReadWord else Defined (names_before (layout_of unit).functions x))) count)
    (sym (same_name_symm (codes "write_word") x ∙ not_write))
    (subst (λ b. IsCalled (arities unit) (if b then ReadWord else Defined (names_before (layout_of unit).functions x)) count) (sym (same_name_symm (codes "read_word") x ∙ is)) no_words)
is_called_by unit x count (Enters not_write not_read has many) =
    let g = function_of_name unit x has in
    subst (λ b. IsCalled (arities unit) (if b then WriteWord else (if same_name (codes "read_word") x then ReadWord else Defined (names_before (layout_of unit).functions x))) count)
    (sym (same_name_symm (codes "write_word") x ∙ not_write))
    (subst (λ b. IsCalled (arities unit) (if b then ReadWord else Defined (names_before (layout_of unit).functions x)) count) (sym (same_name_symm (codes "read_word") x ∙ not_read))
    (arity_of_number unit x g.0 g.1 ∙ ap Some (many g.0 g.1)))

-- ---- the tree

module _ (layout : Layout) (defined : List (List ℕ)) (Taken : List ℕ → ℕ → Type 0) (arities : List ℕ) (is_called : (x : List ℕ) (count : ℕ) → Taken x count → IsCalled arities (callee layout x) count) where
  abbrev Here : Environment → Type 0
  Here v = Scoped layout defined Taken v

  of_value : (e : Expr) (v : Environment) → value_errors (types_in v) e ≡ [] → expression_errors (types_in v) e ≡ []
  of_value e v o = nil_left (expression_errors (types_in v) e) (void_errors (types_in v) e) o

  mutual
    expr : (e : Expr) (v : Environment) → Here v → expression_errors (types_in v) e ≡ [] → undefined_among defined (called_in e) ≡ [] → ExprResolved arities v e
    expr (Number t n) v h e d = tt
    expr (Variable x) v h e d = let f = variable_found WrongKind (found (types_in v) x.text) x.at e in is_variable v x.text (h.variable x.text f.0 f.1)
    expr (Element x i) v h e d =
        let f = array_found (found (types_in v) x.text) x.at (nil_left (array_errors (found (types_in v) x.text) x.at) (value_errors (types_in v) i) e) in (
          h.element x.text f.0 f.1,
          expr i v h (of_value i v (nil_right (array_errors (found (types_in v) x.text) x.at) (value_errors (types_in v) i) e)) d,
        )
    expr (tree.Call f es) v h e d =
        let g = function_found (found (types_in v) f.text) (count_of es) f.at (nil_left (function_errors (found (types_in v) f.text) (count_of es) f.at) (argument_errors (types_in v) es) e) in
        let taken : Taken f.text (count_of es) = subst (Taken f.text) (sym g.3) (h.function f.text g.0 g.1 g.2 (is_defined defined f (called_in_all es) d)) in (
          subst (λ (p : Layout). IsCalled arities (callee p f.text) (count_of es)) (sym h.laid) (is_called f.text (count_of es) taken),
          exprs es v h (nil_right (function_errors (found (types_in v) f.text) (count_of es) f.at) (argument_errors (types_in v) es) e) (defined_right defined (f ∷ []) (called_in_all es) d),
        )
    expr (Parenthesised i) v h e d = expr i v h e d
    expr (Unary op i) v h e d = expr i v h (of_value i v e) d
    expr (Cast t i) v h e d = expr i v h (of_value i v e) d
    expr (Binary op a b) v h e d = (
      expr a v h (of_value a v (nil_left (value_errors (types_in v) a) (value_errors (types_in v) b) e)) (defined_left defined (called_in a) (called_in b) d),
      expr b v h (of_value b v (nil_right (value_errors (types_in v) a) (value_errors (types_in v) b) e)) (defined_right defined (called_in a) (called_in b) d),
    )
    expr (Conditional c a b) v h e d =
        let bs = types_in v in
        let e_ab = nil_right (value_errors bs c) (value_errors bs a ++ value_errors bs b) e in
        let d_ab = defined_right defined (called_in c) (called_in a ++ called_in b) d in (
          expr c v h (of_value c v (nil_left (value_errors bs c) (value_errors bs a ++ value_errors bs b) e)) (defined_left defined (called_in c) (called_in a ++ called_in b) d),
          expr a v h (of_value a v (nil_left (value_errors bs a) (value_errors bs b) e_ab)) (defined_left defined (called_in a) (called_in b) d_ab),
          expr b v h (of_value b v (nil_right (value_errors bs a) (value_errors bs b) e_ab)) (defined_right defined (called_in a) (called_in b) d_ab),
        )

    exprs : (es : Exprs) (v : Environment) → Here v → argument_errors (types_in v) es ≡ [] → undefined_among defined (called_in_all es) ≡ [] → ExprsResolved arities v es
    exprs none v h e d = tt
    exprs (more i rest) v h e d = (
      expr i v h (of_value i v (nil_left (value_errors (types_in v) i) (argument_errors (types_in v) rest) e)) (defined_left defined (called_in i) (called_in_all rest) d),
      exprs rest v h (nil_right (value_errors (types_in v) i) (argument_errors (types_in v) rest) e) (defined_right defined (called_in i) (called_in_all rest) d),
    )

  value : (e : Expr) (v : Environment) → Here v → value_errors (types_in v) e ≡ [] → undefined_among defined (called_in e) ≡ [] → ExprResolved arities v e
  value e v h o d = expr e v h (of_value e v o) d

  optional : (o : Option Expr) (v : Environment) → Here v → optional_errors (types_in v) o ≡ [] → undefined_among defined (called_in_optional o) ≡ [] → OptionalResolved arities v o
  optional None v h e d = tt
  optional (Some i) v h e d = value i v h e d

  target : (t : Target) (v : Environment) → Here v → target_errors (types_in v) t ≡ [] → undefined_among defined (called_in_target t) ≡ [] → TargetResolved arities v t
  target (AtVariable x) v h e d = let f = variable_found BadAssign (found (types_in v) x.text) x.at e in is_variable v x.text (h.variable x.text f.0 f.1)
  target (AtElement x i) v h e d =
      let f = array_found (found (types_in v) x.text) x.at (nil_left (array_errors (found (types_in v) x.text) x.at) (value_errors (types_in v) i) e) in (
        h.element x.text f.0 f.1,
        value i v h (nil_right (array_errors (found (types_in v) x.text) x.at) (value_errors (types_in v) i) e) d,
      )

  action : (a : Action) (v : Environment) → Here v → action_errors (types_in v) a ≡ [] → undefined_among defined (called_in_action a) ≡ [] → ActionResolved arities v a
  action (Assign op t i) v h e d = (
    target t v h (nil_left (target_errors (types_in v) t) (value_errors (types_in v) i) e) (defined_left defined (called_in_target t) (called_in i) d),
    value i v h (nil_right (target_errors (types_in v) t) (value_errors (types_in v) i) e) (defined_right defined (called_in_target t) (called_in i) d),
  )
  action (Step op t) v h e d = target t v h e d
  action (Evaluate i) v h e d = expr i v h e d

  optional_action : (a : Option Action) (v : Environment) → Here v → optional_action_errors (types_in v) a ≡ [] → undefined_among defined (called_in_optional_action a) ≡ [] → OptionalActionResolved arities v a
  optional_action None v h e d = tt
  optional_action (Some a) v h e d = action a v h e d

  declarators : (t : Scalar) (ds : List Declarator) (v : Environment) → Here v → declared_errors t ds v.visible ≡ [] → undefined_among defined (called_in_declared ds) ≡ [] → DeclaratorsResolved arities t ds v
  declarators t [] v h e d = tt
  declarators t (x ∷ rest) v h e d =
      let w = with_local t x.name.text v in
      let again = broken_if (scope.is_declared v.visible.inner x.name.text) Redeclared x.name.at in
      let others = declared_errors t rest w.visible in
      let behind_name = nil_right again (optional_errors (types_in w) x.initial ++ others) e in
      let g = scoped_local layout defined Taken t x.name.text v h in (
        optional x.initial w g (nil_left (optional_errors (types_in w) x.initial) others behind_name) (defined_left defined (called_in_optional x.initial) (called_in_declared rest) d),
        declarators t rest w g (nil_right (optional_errors (types_in w) x.initial) others behind_name) (defined_right defined (called_in_optional x.initial) (called_in_declared rest) d),
      )

  beginning : (s : Beginning) (v : Environment) → Here v → beginning_errors s v.visible ≡ [] → undefined_among defined (called_in_beginning s) ≡ [] → BeginningResolved arities s v
  beginning (Declares t ds) v h e d = declarators t ds v h e d
  beginning (Performs a) v h e d = optional_action a v h e d

  after_beginning : (s : Beginning) (v : Environment) → Here v → ((behind_beginning s v).visible ≡ scope_behind_beginning s v.visible) × Here (behind_beginning s v)
  after_beginning (Declares t ds) v h = (with_locals_visible t ds v, scoped_locals layout defined Taken t ds v h)
  after_beginning (Performs a) v h = (refl, h)

  -- the value of a return is resolved
  returned : (r : Option Scalar) (at : ℕ) (o : Option Expr) (v : Environment) → return_errors r (types_in v) at o ≡ [] → optional_errors (types_in v) o ≡ []
  returned r at None v e = refl
  returned None at (Some i) v e = nil_right (broken BadReturn at) (value_errors (types_in v) i) e
  returned (Some t) at (Some i) v e = e

  mutual
    stmt : (s : Stmt) (a : Around) (v : Environment) → Here v → statement_errors s a v.visible ≡ [] → undefined_among defined (called_in_statement s) ≡ [] → StmtResolved arities v s
    stmt (Block all) a v h e d = stmts all a (inner v) (scoped_inner layout defined Taken v h) e d
    stmt (tree.Local t ds) a v h e d = declarators t ds v h e d
    stmt (Perform x) a v h e d = optional_action x v h e d
    stmt (Return at o) a v h e d = optional o v h (returned a.result at o v e) d
    stmt (Break at) a v h e d = tt
    stmt (Continue at) a v h e d = tt
    stmt (If c s) a v h e d =
        let w = inner v in (
          value c v h (nil_left (value_errors (types_in v) c) (statement_errors s a w.visible) e) (defined_left defined (called_in c) (called_in_statement s) d),
          stmt s a w (scoped_inner layout defined Taken v h) (nil_right (value_errors (types_in v) c) (statement_errors s a w.visible) e) (defined_right defined (called_in c) (called_in_statement s) d),
        )
    stmt (IfElse c s r) a v h e d =
        let w = inner v in
        let both = statement_errors s a w.visible ++ statement_errors r a w.visible in
        let e_both = nil_right (value_errors (types_in v) c) both e in
        let d_both = defined_right defined (called_in c) (called_in_statement s ++ called_in_statement r) d in
        let g = scoped_inner layout defined Taken v h in (
          value c v h (nil_left (value_errors (types_in v) c) both e) (defined_left defined (called_in c) (called_in_statement s ++ called_in_statement r) d),
          stmt s a w g (nil_left (statement_errors s a w.visible) (statement_errors r a w.visible) e_both) (defined_left defined (called_in_statement s) (called_in_statement r) d_both),
          stmt r a w g (nil_right (statement_errors s a w.visible) (statement_errors r a w.visible) e_both) (defined_right defined (called_in_statement s) (called_in_statement r) d_both),
        )
    stmt (While c s) a v h e d =
        let w = inner v in (
          value c v h (nil_left (value_errors (types_in v) c) (statement_errors s (within_loop a) w.visible) e) (defined_left defined (called_in c) (called_in_statement s) d),
          stmt s (within_loop a) w (scoped_inner layout defined Taken v h) (nil_right (value_errors (types_in v) c) (statement_errors s (within_loop a) w.visible) e) (defined_right defined (called_in c) (called_in_statement s) d),
        )
    stmt (DoWhile s c) a v h e d =
        let w = inner v in (
          value c v h (nil_right (statement_errors s (within_loop a) w.visible) (value_errors (types_in v) c) e) (defined_right defined (called_in_statement s) (called_in c) d),
          stmt s (within_loop a) w (scoped_inner layout defined Taken v h) (nil_left (statement_errors s (within_loop a) w.visible) (value_errors (types_in v) c) e) (defined_left defined (called_in_statement s) (called_in c) d),
        )
    stmt (For first c step s) a v h e d =
        let w = inner v in
        let g = scoped_inner layout defined Taken v h in
        let b = after_beginning first w g in
        let u = behind_beginning first w in
        let x : Visible = scope_behind_beginning first (opened v.visible) in
        let of_s = statement_errors s (within_loop a) (opened x) in
        let of_step = optional_action_errors (in_scope x) step in
        let of_c = optional_errors (in_scope x) c in
        let e_c = nil_right (beginning_errors first w.visible) (of_c ++ (of_step ++ of_s)) e in
        let e_step = nil_right of_c (of_step ++ of_s) e_c in
        let d_c = defined_right defined (called_in_beginning first) (called_in_optional c ++ (called_in_optional_action step ++ called_in_statement s)) d in
        let d_step = defined_right defined (called_in_optional c) (called_in_optional_action step ++ called_in_statement s) d_c in (
          beginning first w g (nil_left (beginning_errors first w.visible) (of_c ++ (of_step ++ of_s)) e) (defined_left defined (called_in_beginning first) (called_in_optional c ++ (called_in_optional_action step ++ called_in_statement s)) d),
          optional c u b.1 (ap (λ (y : Visible). optional_errors (in_scope y) c) b.0 ∙ nil_left of_c (of_step ++ of_s) e_c) (defined_left defined (called_in_optional c) (called_in_optional_action step ++ called_in_statement s) d_c),
          optional_action step u b.1 (ap (λ (y : Visible). optional_action_errors (in_scope y) step) b.0 ∙ nil_left of_step of_s e_step) (defined_left defined (called_in_optional_action step) (called_in_statement s) d_step),
          stmt s (within_loop a) (inner u) (scoped_inner layout defined Taken u b.1) (ap (λ (y : Visible). statement_errors s (within_loop a) (opened y)) b.0 ∙ nil_right of_step of_s e_step)
              (defined_right defined (called_in_optional_action step) (called_in_statement s) d_step),
        )

    stmts : (ss : Stmts) (a : Around) (v : Environment) → Here v → statements_errors ss a v.visible ≡ [] → undefined_among defined (called_in_statements ss) ≡ [] → StmtsResolved arities v ss
    stmts end a v h e d = tt
    stmts (next first rest) a v h e d =
        let b = behind_is layout defined Taken first v h in (
          stmt first a v h (nil_left (statement_errors first a v.visible) (statements_errors rest a (scope_behind first v.visible)) e) (defined_left defined (called_in_statement first) (called_in_statements rest) d),
          stmts rest a (behind first v) b.scoped
              (ap (λ (y : Visible). statements_errors rest a y) b.visible ∙ nil_right (statement_errors first a v.visible) (statements_errors rest a (scope_behind first v.visible)) e)
              (defined_right defined (called_in_statement first) (called_in_statements rest) d),
        )

-- ---- functions

-- the function with number i among these external declarations
record Found (unit ds : List External) (f : FileScope) (i : ℕ) : Type 0 where
  signature : Signature
  body : Stmts
  environment : Environment
  definition : slice_get (definitions ds) i ≡ Some (Definition signature body)
  begins : slice_get (environments_from (layout_of unit) ds f) i ≡ Some environment
  locals : environment.locals ≡ parameter_names signature.parameters []
  layout : environment.layout ≡ layout_of unit
  function : slice_get (functions_from ds f) i
      ≡ Some (record { name = signature.name.text; parameters = map (λ (p : Parameter). text_of p.name) signature.parameters; body = body; visible = environment.visible })
  resolved : StmtsResolved (arities unit) environment body

module _ (unit : List External) (typed : IsTyped unit) where
  found_at : (ds : List External) (f : FileScope) (i : ℕ) → externals_errors ds f ≡ [] → undefined_among (final_scope unit).defined (called ds) ≡ [] → file_scope_behind_all ds f ≡ final_scope unit
      → i < length (functions_from ds f) → Found unit ds f i
  found_at [] f i o d whole lt = absurd (omega arith)
  found_at (Declaration s ∷ rest) f i o d whole lt =
      let f' = file_scope_behind (Declaration s) f in
      let r = found_at rest f' i (nil_right (external_errors (Declaration s) f) (externals_errors rest f') o) d whole lt in
      record { signature = r.signature; body = r.body; environment = r.environment; definition = r.definition; begins = r.begins; locals = r.locals; layout = r.layout; function = r.function; resolved = r.resolved }
  found_at (Objects t os ∷ rest) f i o d whole lt =
      let f' = with_objects t os f in
      let r = found_at rest f' i (nil_right (external_errors (Objects t os) f) (externals_errors rest f') o) (defined_right (final_scope unit).defined (called_in_external (Objects t os)) (called rest) d) whole lt in
      record { signature = r.signature; body = r.body; environment = r.environment; definition = r.definition; begins = r.begins; locals = r.locals; layout = r.layout; function = r.function; resolved = r.resolved }
  found_at (Definition s body ∷ rest) f zero o d whole lt =
      let f' = file_scope_behind (Definition s body) f in
      let here = nil_left (external_errors (Definition s body) f) (externals_errors rest f') o in
      let of_body = statements_errors body (record { result = s.result; in_loop = false }) (body_scope s f) in
      let again = broken_if (has_name f.defined s.name.text) Redeclared s.name.at in
      record {
        signature = s;
        body = body;
        environment = environment_of (layout_of unit) s f;
        definition = refl;
        begins = refl;
        locals = refl;
        layout = refl;
        function = refl;
        resolved = stmts (layout_of unit) (final_scope unit).defined (Takes (layout_of unit).functions (functions unit)) (arities unit) (is_called_by unit) body (record { result = s.result; in_loop = false })
            (environment_of (layout_of unit) s f) (body_scoped unit typed s body rest f whole) (nil_right again of_body (nil_right (signature_errors s f) (again ++ of_body) here))
            (defined_left (final_scope unit).defined (called_in_statements body) (called rest) d);
      }
  found_at (Definition s body ∷ rest) f (suc i) o d whole lt =
      let f' = file_scope_behind (Definition s body) f in
      let r = found_at rest f' i (nil_right (external_errors (Definition s body) f) (externals_errors rest f') o) (defined_right (final_scope unit).defined (called_in_statements body) (called rest) d) whole (omega (arith, lt)) in
      record { signature = r.signature; body = r.body; environment = r.environment; definition = r.definition; begins = r.begins; locals = r.locals; layout = r.layout; function = r.function; resolved = r.resolved }

pub functions_are_resolved : FunctionsAreResolved
functions_are_resolved unit typed f lt =
    let r = found_at unit typed unit first_file_scope f typed.0 typed.2 refl lt in
    record { signature = r.signature; body = r.body; environment = r.environment; definition = r.definition; begins = r.begins; locals = r.locals; layout = r.layout; function = r.function; resolved = r.resolved }
