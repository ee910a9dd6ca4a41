-- Each call in the code of a resolved body is of a function of the unit, with as many arguments as the function has
-- parameters.
use Rattle.std.proofs.Common.{◌≡◌, ℕ, zero, suc, ◌&&◌, Bool, true, false, if◌then◌else◌, List, [], ◌∷◌, ◌++◌, length, Option, Some, None, refl, sym, ap, subst, ◌∙◌, arith}
use Rattle.cc_tokens.specs.declared.scalar.Scalar.{Scalar}
use Rattle.cc_tokens.specs.declared.scalar.Scalar.TheVariants.{Int}
use Rattle.cc_ast.specs.declared.ast.BinaryOperator.{BinaryOperator}
use Rattle.cc_ast.specs.Tree as tree
use Rattle.cc_ast.specs.Tree.{External, Expr, Exprs, none, more, Number, Variable, Element, Parenthesised, Unary, Cast, Binary, Conditional, Target, AtVariable, AtElement, Action, Assign, Step, Evaluate, Declarator, Beginning, Declares, Performs, Stmt, Stmts, end, next, Perform, Break, Continue, IfElse, While, DoWhile, For}
use Rattle.cc_types.specs.Operators.{working_type, applied_operator, step_operator}
use Rattle.cc_types.specs.Types.{value_type, target_type}
use Rattle.cc_types.specs.Rules.{count_of}
use Rattle.cc_layout.specs.Layout.{Layout, callee}
use Rattle.cc_layout.specs.Environment.{Environment, number_in, types_in, inner, with_local, behind, behind_beginning}
use Rattle.cc_layout.specs.declared.layout.Callee.{Callee}
use Rattle.cc_layout.specs.declared.layout.Callee.TheVariants.{WriteWord, ReadWord, Defined}
use Rattle.cc_c_semantics.specs.Resolved.{arities, IsCalled, ExprResolved, ExprsResolved, OptionalResolved, TargetResolved, ActionResolved, OptionalActionResolved, DeclaratorsResolved, BeginningResolved, StmtResolved, StmtsResolved}
use Rattle.cc_cminor_language.specs.Cminor.{Expression, Constant, Local, Load, Statement, Skip, Set, Store, Sequence, If, Loop, Block, Exit, Return}
use Rattle.cc_cminor_language.specs.Code.{in_sequence}
use Rattle.cc_cminor_language.specs.Pair.{AreCalls}
use Rattle.cc_cminor.specs.internal.Lowering.{free, object_of, width_of, variable_of, variable_set, write_to, unary_of, binary_of, truth_of, condition, is_reversed, branch, Kind, Conjunction, Disjunction, Strict, kind, is_plain, are_plain, plain, all_plain, used, count, locals_from, invoked, called_on, connected, put_expr, put_all, using, using_or, combined, assigned, performed, performed_optional, initialised, declared_code, started, leaving, lowered, all_lowered, body_code}
use Rattle.cc_cminor.proofs.Known.{behind_layout, beginning_layout}

many : (es : Exprs) → count_of es ≡ count es
many none = refl
many (more e rest) = let h = many rest in omega arith

many_plain : (g : Layout) (v : Environment) (es : Exprs) → length (all_plain g v es) ≡ count es
many_plain g v none = refl
many_plain g v (more e rest) = ap suc (many_plain g v rest)

many_locals : (k n : ℕ) → length (locals_from k n) ≡ n
many_locals k zero = refl
many_locals k (suc n) = ap suc (many_locals (suc k) n)

module _ (unit : List External) (g : Layout) where
  -- each call in each statement of a list is right
  abbrev AllAreCalls : List Statement → Type 0
  AllAreCalls [] = Unit {0}
  AllAreCalls (s ∷ rest) = AreCalls unit s × AllAreCalls rest

  sequence_calls : (all : List Statement) → AllAreCalls all → AreCalls unit (in_sequence all)
  sequence_calls [] h = tt
  sequence_calls (a ∷ []) h = h.0
  sequence_calls (a ∷ b ∷ rest) h = (h.0, sequence_calls (b ∷ rest) h.1)

  append_calls : (ss ts : List Statement) → AllAreCalls ss → AllAreCalls ts → AllAreCalls (ss ++ ts)
  append_calls [] ts h i = i
  append_calls (s ∷ ss) ts h i = (h.0, append_calls ss ts h.1 i)

  used_calls : (b : Bool) (e : Expression) (code : Statement) (k : ℕ) (f : Expression → Statement) → AreCalls unit code → ((x : Expression) → AreCalls unit (f x)) → AreCalls unit (used b e code k f)
  used_calls true e code k f c h = h e
  used_calls false e code k f c h = (c, h (Local k))

  branch_calls : (e : Expression) (a b : Statement) → AreCalls unit a × AreCalls unit b → AreCalls unit (branch e a b)
  branch_calls e a b h = by (is_reversed e)
    where
      by : (r : Bool) → AreCalls unit (if r then If (condition e) b a else If (condition e) a b)
      by true = (h.1, h.0)
      by false = h

  invoked_calls : (c : Callee) (k : ℕ) (es : List Expression) → IsCalled (arities unit) c (length es) → AreCalls unit (invoked c k es)
  invoked_calls WriteWord k es h = (tt, tt)
  invoked_calls ReadWord k es h = tt
  invoked_calls (Defined f) k es h = h

  called_calls : (b : Bool) (es : List Expression) (code : Statement) (k n : ℕ) (c : Callee) → AreCalls unit code → length es ≡ n → IsCalled (arities unit) c n → AreCalls unit (called_on b es code k n (λ us. invoked c k us))
  called_calls true es code k n c p e h = invoked_calls c k es (subst (λ m. IsCalled (arities unit) c m) (sym e) h)
  called_calls false es code k n c p e h = (p, invoked_calls c k (locals_from k n) (subst (λ m. IsCalled (arities unit) c m) (sym (many_locals k n)) h))

  connected_calls : (kd : Kind) (op : BinaryOperator) (t : Scalar) (p q : Bool) (a b : Expression) (left right here : Statement) (k : ℕ) → AreCalls unit left → AreCalls unit right → AreCalls unit here → AreCalls unit (connected kd op t p q a b left right here k)
  connected_calls Conjunction op t p q a b left right here k l r h =
      used_calls p a left k (λ x. branch x (used q b here k (λ y. Set k (truth_of y))) (Set k (Constant 0))) l (λ x. branch_calls x (used q b here k (λ y. Set k (truth_of y))) (Set k (Constant 0)) (used_calls q b here k (λ y. Set k (truth_of y)) h (λ y. tt), tt))
  connected_calls Disjunction op t p q a b left right here k l r h =
      used_calls p a left k (λ x. branch x (Set k (Constant 1)) (used q b here k (λ y. Set k (truth_of y)))) l (λ x. branch_calls x (Set k (Constant 1)) (used q b here k (λ y. Set k (truth_of y))) (tt, used_calls q b here k (λ y. Set k (truth_of y)) h (λ y. tt)))
  connected_calls Strict op t p q a b left right here k l r h = by (p && q)
    where
      by : (both : Bool) → AreCalls unit (if both then Set k (binary_of op t a b) else Sequence left (used q b right (suc k) (λ y. Set k (binary_of op t (Local k) y))))
      by true = tt
      by false = (l, used_calls q b right (suc k) (λ y. Set k (binary_of op t (Local k) y)) r (λ y. tt))

  mutual
    put_calls : (e : Expr) (v : Environment) (k : ℕ) → v.layout ≡ g → ExprResolved (arities unit) v e → AreCalls unit (put_expr g v k e)
    put_calls (Number t n) v k is h = tt
    put_calls (Variable x) v k is h = tt
    put_calls (Element x e) v k is h = used_calls (is_plain e) (plain g v e) (put_expr g v k e) k (λ i. Set k (Load (width_of g x.text) (object_of g x.text) i)) (put_calls e v k is h.1) (λ x. tt)
    put_calls (tree.Call f es) v k is h =
        called_calls (are_plain es) (all_plain g v es) (in_sequence (put_all g v k es)) k (count es) (callee g f.text) (sequence_calls (put_all g v k es) (put_all_calls es v k is h.1)) (many_plain g v es)
        (subst (λ (l : Layout). IsCalled (arities unit) (callee l f.text) (count es)) is (subst (λ n. IsCalled (arities unit) (callee v.layout f.text) n) (many es) h.0))
    put_calls (Parenthesised e) v k is h = put_calls e v k is h
    put_calls (Unary op e) v k is h = used_calls (is_plain e) (plain g v e) (put_expr g v k e) k (λ a. Set k (unary_of op a)) (put_calls e v k is h) (λ x. tt)
    put_calls (Cast t e) v k is h = put_calls e v k is h
    put_calls (Binary op a b) v k is h =
        connected_calls (kind op) op (working_type op (value_type (types_in v) a) (value_type (types_in v) b)) (is_plain a) (is_plain b) (plain g v a) (plain g v b) (put_expr g v k a) (put_expr g v (suc k) b) (put_expr g v k b) k
        (put_calls a v k is h.0) (put_calls b v (suc k) is h.1) (put_calls b v k is h.1)
    put_calls (Conditional c a b) v k is h =
        used_calls (is_plain c) (plain g v c) (put_expr g v k c) k (λ x. branch x (put_expr g v k a) (put_expr g v k b)) (put_calls c v k is h.0) (λ x. branch_calls x (put_expr g v k a) (put_expr g v k b) (put_calls a v k is h.1, put_calls b v k is h.2))

    put_all_calls : (es : Exprs) (v : Environment) (k : ℕ) → v.layout ≡ g → ExprsResolved (arities unit) v es → AllAreCalls (put_all g v k es)
    put_all_calls none v k is h = tt
    put_all_calls (more e rest) v k is h = (put_calls e v k is h.0, put_all_calls rest v (suc k) is h.1)

  using_calls : (e : Expr) (v : Environment) (k : ℕ) (f : Expression → Statement) → v.layout ≡ g → ExprResolved (arities unit) v e → ((x : Expression) → AreCalls unit (f x)) → AreCalls unit (using g v k e f)
  using_calls e v k f is h i = used_calls (is_plain e) (plain g v e) (put_expr g v k e) k f (put_calls e v k is h) i

  using_or_calls : (e : Option Expr) (v : Environment) (k w : ℕ) (f : Expression → Statement) → v.layout ≡ g → OptionalResolved (arities unit) v e → ((x : Expression) → AreCalls unit (f x)) → AreCalls unit (using_or g v k w e f)
  using_or_calls None v k w f is h i = i (Constant w)
  using_or_calls (Some e) v k w f is h i = using_calls e v k f is h i

  write_calls : (o : Option ℕ) (n : ℕ) (e : Expression) → AreCalls unit (write_to o n e)
  write_calls None n e = tt
  write_calls (Some i) n e = tt

  assigned_calls : (target : Target) (v : Environment) (f : Scalar → Expression → Expression → Expression) (go : ℕ → (Expression → Statement) → Statement) → v.layout ≡ g → TargetResolved (arities unit) v target
      → ((k : ℕ) (f : Expression → Statement) → ((x : Expression) → AreCalls unit (f x)) → AreCalls unit (go k f)) → AreCalls unit (assigned g v target f go)
  assigned_calls (AtVariable x) v f go is h i =
      i (free v) (λ e. variable_set g v x.text (f (target_type (types_in v) (AtVariable x)) (variable_of g v x.text) e))
      (λ e. write_calls (number_in v.locals x.text) (object_of g x.text) (f (target_type (types_in v) (AtVariable x)) (variable_of g v x.text) e))
  assigned_calls (AtElement x e) v f go is h i = (
    put_calls e v (free v) is h.1,
    i (suc (free v)) (λ y. Store (width_of g x.text) (object_of g x.text) (Local (free v)) (f (target_type (types_in v) (AtElement x e)) (Load (width_of g x.text) (object_of g x.text) (Local (free v))) y)) (λ y. tt),
  )

  performed_calls : (a : Action) (v : Environment) → v.layout ≡ g → ActionResolved (arities unit) v a → AreCalls unit (performed g v a)
  performed_calls (Assign op target e) v is h =
      assigned_calls target v (λ t old new. combined (applied_operator op) t (value_type (types_in v) e) old new) (λ k f. using g v k e f) is h.0 (λ k f i. using_calls e v k f is h.1 i)
  performed_calls (Step op target) v is h =
      assigned_calls target v (λ t old new. combined (applied_operator (step_operator op)) t Int old new) (λ k f. f (Constant 1)) is h (λ k f i. i (Constant 1))
  performed_calls (Evaluate e) v is h = put_calls e v (free v) is h

  optional_calls : (a : Option Action) (v : Environment) → v.layout ≡ g → OptionalActionResolved (arities unit) v a → AreCalls unit (performed_optional g v a)
  optional_calls None v is h = tt
  optional_calls (Some a) v is h = performed_calls a v is h

  initialised_calls : (e : Option Expr) (v : Environment) (i : ℕ) → v.layout ≡ g → OptionalResolved (arities unit) v e → AllAreCalls (initialised g v i e)
  initialised_calls None v i is h = tt
  initialised_calls (Some e) v i is h = (using_calls e v (suc i) (λ x. Set i x) is h (λ x. tt), tt)

  declared_calls : (t : Scalar) (ds : List Declarator) (v : Environment) → v.layout ≡ g → DeclaratorsResolved (arities unit) t ds v → AllAreCalls (declared_code g t ds v)
  declared_calls t [] v is h = tt
  declared_calls t (d ∷ rest) v is h = (
    tt,
    append_calls (initialised g (with_local t d.name.text v) (free v) d.initial) (declared_code g t rest (with_local t d.name.text v))
        (initialised_calls d.initial (with_local t d.name.text v) (free v) is h.0) (declared_calls t rest (with_local t d.name.text v) is h.1),
  )

  started_calls : (first : Beginning) (v : Environment) → v.layout ≡ g → BeginningResolved (arities unit) first v → AreCalls unit (started g first v)
  started_calls (Declares t ds) v is h = sequence_calls (declared_code g t ds v) (declared_calls t ds v is h)
  started_calls (Performs a) v is h = optional_calls a v is h

  leaving_calls : (b : Bool) (i : ℕ) → AreCalls unit (leaving b i)
  leaving_calls true i = tt
  leaving_calls false i = tt

  mutual
    lowered_calls : (st : Stmt) (b : Bool) (v : Environment) → v.layout ≡ g → StmtResolved (arities unit) v st → AreCalls unit (lowered g b v st)
    lowered_calls (tree.Block all) b v is h = sequence_calls (all_lowered g b (inner v) all) (all_lowered_calls all b (inner v) is h)
    lowered_calls (tree.Local t ds) b v is h = sequence_calls (declared_code g t ds v) (declared_calls t ds v is h)
    lowered_calls (Perform a) b v is h = optional_calls a v is h
    lowered_calls (tree.Return at e) b v is h = using_or_calls e v (free v) 0 (λ x. Return x) is h (λ x. tt)
    lowered_calls (Break at) b v is h = leaving_calls b 1
    lowered_calls (Continue at) b v is h = leaving_calls b 0
    lowered_calls (tree.If c a) b v is h = using_calls c v (free v) (λ x. branch x (lowered g b (inner v) a) Skip) is h.0 (λ x. branch_calls x (lowered g b (inner v) a) Skip (lowered_calls a b (inner v) is h.1, tt))
    lowered_calls (IfElse c a e) b v is h =
        using_calls c v (free v) (λ x. branch x (lowered g b (inner v) a) (lowered g b (inner v) e)) is h.0 (λ x. branch_calls x (lowered g b (inner v) a) (lowered g b (inner v) e) (lowered_calls a b (inner v) is h.1, lowered_calls e b (inner v) is h.2))
    lowered_calls (While c body) b v is h =
        using_calls c v (free v) (λ x. branch x (Sequence (Block (lowered g true (inner v) body)) Skip) (Exit 0)) is h.0 (λ x. branch_calls x (Sequence (Block (lowered g true (inner v) body)) Skip) (Exit 0) ((lowered_calls body true (inner v) is h.1, tt), tt))
    lowered_calls (DoWhile body c) b v is h = (lowered_calls body true (inner v) is h.1, using_calls c v (free v) (λ x. branch x Skip (Exit 0)) is h.0 (λ x. branch_calls x Skip (Exit 0) (tt, tt)))
    lowered_calls (For first c step body) b v is h =
        let w : Environment = behind_beginning first (inner v) in
        let same : w.layout ≡ g = beginning_layout first (inner v) ∙ is in (
          started_calls first (inner v) is h.0,
          using_or_calls c w (free w) 1 (λ x. branch x (Sequence (Block (lowered g true (inner w) body)) (performed_optional g w step)) (Exit 0)) same h.1
              (λ x. branch_calls x (Sequence (Block (lowered g true (inner w) body)) (performed_optional g w step)) (Exit 0) ((lowered_calls body true (inner w) same h.3, optional_calls step w same h.2), tt)),
        )

    all_lowered_calls : (ss : Stmts) (b : Bool) (v : Environment) → v.layout ≡ g → StmtsResolved (arities unit) v ss → AllAreCalls (all_lowered g b v ss)
    all_lowered_calls end b v is h = tt
    all_lowered_calls (next first rest) b v is h = (lowered_calls first b v is h.0, all_lowered_calls rest b (behind first v) (behind_layout first v ∙ is) h.1)

  pub body_calls : (v : Environment) (body : Stmts) → v.layout ≡ g → StmtsResolved (arities unit) v body → AreCalls unit (body_code g v body)
  body_calls v body is h = sequence_calls (all_lowered g false v body) (all_lowered_calls body false v is h)
