-- Each exit in the code of a body leaves blocks that exist: a loop's body is inside two, and an exit occurs only in a loop.
use Rattle.std.proofs.Common.{ℕ, suc, ◌<◌, ◌≤◌, ◌&&◌, Bool, true, false, if◌then◌else◌, List, [], ◌∷◌, ◌++◌, Option, Some, None, arith}
use Rattle.cc_tokens.specs.declared.scalar.Scalar.{Scalar}
use Rattle.cc_tokens.specs.declared.scalar.Scalar.TheVariants.{Int}
use Rattle.cc_ast.specs.declared.ast.BinaryOperator.{BinaryOperator}
use Rattle.cc_ast.specs.Tree as tree
use Rattle.cc_ast.specs.Tree.{Expr, Exprs, none, more, Number, Variable, Element, Parenthesised, Unary, Cast, Binary, Conditional, Target, AtVariable, AtElement, Action, Assign, Step, Evaluate, Declarator, Beginning, Declares, Performs, Stmt, Stmts, end, next, Perform, Break, Continue, IfElse, While, DoWhile, For}
use Rattle.cc_types.specs.Operators.{working_type, applied_operator, step_operator}
use Rattle.cc_types.specs.Types.{value_type, target_type}
use Rattle.cc_layout.specs.Layout.{Layout, callee}
use Rattle.cc_layout.specs.Environment.{Environment, number_in, types_in, inner, with_local, behind, behind_beginning}
use Rattle.cc_layout.specs.declared.layout.Callee.{Callee}
use Rattle.cc_layout.specs.declared.layout.Callee.TheVariants.{WriteWord, ReadWord, Defined}
use Rattle.cc_cminor_language.specs.Cminor.{Expression, Constant, Local, Load, Statement, Skip, Set, Store, Sequence, If, Block, Exit, Return}
use Rattle.cc_cminor_language.specs.Code.{in_sequence}
use Rattle.cc_cminor.specs.internal.Lowering.{free, object_of, width_of, variable_of, variable_set, write_to, unary_of, binary_of, truth_of, condition, is_reversed, branch, Kind, Conjunction, Disjunction, Strict, kind, is_plain, are_plain, plain, all_plain, used, count, locals_from, invoked, called_on, connected, put_expr, put_all, using, using_or, combined, assigned, performed, performed_optional, initialised, declared_code, started, leaving, lowered, all_lowered, body_code}
use Rattle.cc_cminor_language.specs.Exits.{ExitsFit}

-- a statement in a loop is inside two blocks
abbrev InLoop : Bool → ℕ → Type 0
InLoop true d = 2 ≤ d
InLoop false d = Unit {0}

abbrev AllExitsFit : ℕ → List Statement → Type 0
AllExitsFit d [] = Unit {0}
AllExitsFit d (s ∷ rest) = ExitsFit d s × AllExitsFit d rest

sequence_exits : (d : ℕ) (all : List Statement) → AllExitsFit d all → ExitsFit d (in_sequence all)
sequence_exits d [] h = tt
sequence_exits d (a ∷ []) h = h.0
sequence_exits d (a ∷ b ∷ rest) h = (h.0, sequence_exits d (b ∷ rest) h.1)

append_exits : (d : ℕ) (ss ts : List Statement) → AllExitsFit d ss → AllExitsFit d ts → AllExitsFit d (ss ++ ts)
append_exits d [] ts h i = i
append_exits d (s ∷ ss) ts h i = (h.0, append_exits d ss ts h.1 i)

used_exits : (d : ℕ) (b : Bool) (e : Expression) (code : Statement) (k : ℕ) (f : Expression → Statement) → ExitsFit d code → ((x : Expression) → ExitsFit d (f x)) → ExitsFit d (used b e code k f)
used_exits d true e code k f c h = h e
used_exits d false e code k f c h = (c, h (Local k))

branch_exits : (d : ℕ) (e : Expression) (a b : Statement) → ExitsFit d a × ExitsFit d b → ExitsFit d (branch e a b)
branch_exits d e a b h = by (is_reversed e)
  where
    by : (r : Bool) → ExitsFit d (if r then If (condition e) b a else If (condition e) a b)
    by true = (h.1, h.0)
    by false = h

module _ (g : Layout) (d : ℕ) where
  invoked_exits : (c : Callee) (k : ℕ) (es : List Expression) → ExitsFit d (invoked c k es)
  invoked_exits WriteWord k es = (tt, tt)
  invoked_exits ReadWord k es = tt
  invoked_exits (Defined f) k es = tt

  called_exits : (b : Bool) (es : List Expression) (code : Statement) (k n : ℕ) (c : Callee) → ExitsFit d code → ExitsFit d (called_on b es code k n (λ us. invoked c k us))
  called_exits true es code k n c p = invoked_exits c k es
  called_exits false es code k n c p = (p, invoked_exits c k (locals_from k n))

  connected_exits : (kd : Kind) (op : BinaryOperator) (t : Scalar) (p q : Bool) (a b : Expression) (left right here : Statement) (k : ℕ) → ExitsFit d left → ExitsFit d right → ExitsFit d here → ExitsFit d (connected kd op t p q a b left right here k)
  connected_exits Conjunction op t p q a b left right here k l r h =
      used_exits d p a left k (λ x. branch x (used q b here k (λ y. Set k (truth_of y))) (Set k (Constant 0))) l (λ x. branch_exits d x (used q b here k (λ y. Set k (truth_of y))) (Set k (Constant 0)) (used_exits d q b here k (λ y. Set k (truth_of y)) h (λ y. tt), tt))
  connected_exits Disjunction op t p q a b left right here k l r h =
      used_exits d p a left k (λ x. branch x (Set k (Constant 1)) (used q b here k (λ y. Set k (truth_of y)))) l (λ x. branch_exits d x (Set k (Constant 1)) (used q b here k (λ y. Set k (truth_of y))) (tt, used_exits d q b here k (λ y. Set k (truth_of y)) h (λ y. tt)))
  connected_exits Strict op t p q a b left right here k l r h = by (p && q)
    where
      by : (both : Bool) → ExitsFit d (if both then Set k (binary_of op t a b) else Sequence left (used q b right (suc k) (λ y. Set k (binary_of op t (Local k) y))))
      by true = tt
      by false = (l, used_exits d q b right (suc k) (λ y. Set k (binary_of op t (Local k) y)) r (λ y. tt))

  mutual
    put_exits : (e : Expr) (v : Environment) (k : ℕ) → ExitsFit d (put_expr g v k e)
    put_exits (Number t n) v k = tt
    put_exits (Variable x) v k = tt
    put_exits (Element x e) v k = used_exits d (is_plain e) (plain g v e) (put_expr g v k e) k (λ i. Set k (Load (width_of g x.text) (object_of g x.text) i)) (put_exits e v k) (λ x. tt)
    put_exits (tree.Call f es) v k = called_exits (are_plain es) (all_plain g v es) (in_sequence (put_all g v k es)) k (count es) (callee g f.text) (sequence_exits d (put_all g v k es) (put_all_exits es v k))
    put_exits (Parenthesised e) v k = put_exits e v k
    put_exits (Unary op e) v k = used_exits d (is_plain e) (plain g v e) (put_expr g v k e) k (λ a. Set k (unary_of op a)) (put_exits e v k) (λ x. tt)
    put_exits (Cast t e) v k = put_exits e v k
    put_exits (Binary op a b) v k =
        connected_exits (kind op) op (working_type op (value_type (types_in v) a) (value_type (types_in v) b)) (is_plain a) (is_plain b) (plain g v a) (plain g v b) (put_expr g v k a) (put_expr g v (suc k) b) (put_expr g v k b) k
        (put_exits a v k) (put_exits b v (suc k)) (put_exits b v k)
    put_exits (Conditional c a b) v k =
        used_exits d (is_plain c) (plain g v c) (put_expr g v k c) k (λ x. branch x (put_expr g v k a) (put_expr g v k b)) (put_exits c v k) (λ x. branch_exits d x (put_expr g v k a) (put_expr g v k b) (put_exits a v k, put_exits b v k))

    put_all_exits : (es : Exprs) (v : Environment) (k : ℕ) → AllExitsFit d (put_all g v k es)
    put_all_exits none v k = tt
    put_all_exits (more e rest) v k = (put_exits e v k, put_all_exits rest v (suc k))

  using_exits : (e : Expr) (v : Environment) (k : ℕ) (f : Expression → Statement) → ((x : Expression) → ExitsFit d (f x)) → ExitsFit d (using g v k e f)
  using_exits e v k f i = used_exits d (is_plain e) (plain g v e) (put_expr g v k e) k f (put_exits e v k) i

  using_or_exits : (e : Option Expr) (v : Environment) (k w : ℕ) (f : Expression → Statement) → ((x : Expression) → ExitsFit d (f x)) → ExitsFit d (using_or g v k w e f)
  using_or_exits None v k w f i = i (Constant w)
  using_or_exits (Some e) v k w f i = using_exits e v k f i

  write_exits : (o : Option ℕ) (n : ℕ) (e : Expression) → ExitsFit d (write_to o n e)
  write_exits None n e = tt
  write_exits (Some i) n e = tt

  assigned_exits : (target : Target) (v : Environment) (f : Scalar → Expression → Expression → Expression) (go : ℕ → (Expression → Statement) → Statement)
      → ((k : ℕ) (f : Expression → Statement) → ((x : Expression) → ExitsFit d (f x)) → ExitsFit d (go k f)) → ExitsFit d (assigned g v target f go)
  assigned_exits (AtVariable x) v f go i =
      i (free v) (λ e. variable_set g v x.text (f (target_type (types_in v) (AtVariable x)) (variable_of g v x.text) e))
      (λ e. write_exits (number_in v.locals x.text) (object_of g x.text) (f (target_type (types_in v) (AtVariable x)) (variable_of g v x.text) e))
  assigned_exits (AtElement x e) v f go i = (
    put_exits e v (free v),
    i (suc (free v)) (λ y. Store (width_of g x.text) (object_of g x.text) (Local (free v)) (f (target_type (types_in v) (AtElement x e)) (Load (width_of g x.text) (object_of g x.text) (Local (free v))) y)) (λ y. tt),
  )

  performed_exits : (a : Action) (v : Environment) → ExitsFit d (performed g v a)
  performed_exits (Assign op target e) v =
      assigned_exits target v (λ t old new. combined (applied_operator op) t (value_type (types_in v) e) old new) (λ k f. using g v k e f) (λ k f i. using_exits e v k f i)
  performed_exits (Step op target) v =
      assigned_exits target v (λ t old new. combined (applied_operator (step_operator op)) t Int old new) (λ k f. f (Constant 1)) (λ k f i. i (Constant 1))
  performed_exits (Evaluate e) v = put_exits e v (free v)

  optional_exits : (a : Option Action) (v : Environment) → ExitsFit d (performed_optional g v a)
  optional_exits None v = tt
  optional_exits (Some a) v = performed_exits a v

  initialised_exits : (e : Option Expr) (v : Environment) (i : ℕ) → AllExitsFit d (initialised g v i e)
  initialised_exits None v i = tt
  initialised_exits (Some e) v i = (using_exits e v (suc i) (λ x. Set i x) (λ x. tt), tt)

  declared_exits : (t : Scalar) (ds : List Declarator) (v : Environment) → AllExitsFit d (declared_code g t ds v)
  declared_exits t [] v = tt
  declared_exits t (c ∷ rest) v = (
    tt,
    append_exits d (initialised g (with_local t c.name.text v) (free v) c.initial) (declared_code g t rest (with_local t c.name.text v))
        (initialised_exits c.initial (with_local t c.name.text v) (free v)) (declared_exits t rest (with_local t c.name.text v)),
  )

  started_exits : (first : Beginning) (v : Environment) → ExitsFit d (started g first v)
  started_exits (Declares t ds) v = sequence_exits d (declared_code g t ds v) (declared_exits t ds v)
  started_exits (Performs a) v = optional_exits a v

  leaving_exits : (b : Bool) (i : ℕ) → i < 2 → InLoop b d → ExitsFit d (leaving b i)
  leaving_exits true i lt h = let two : 2 ≤ d = h in omega arith
  leaving_exits false i lt h = tt

module _ (g : Layout) where
  mutual
    lowered_exits : (st : Stmt) (d : ℕ) (b : Bool) (v : Environment) → InLoop b d → ExitsFit d (lowered g b v st)
    lowered_exits (tree.Block all) d b v h = sequence_exits d (all_lowered g b (inner v) all) (all_lowered_exits all d b (inner v) h)
    lowered_exits (tree.Local t ds) d b v h = sequence_exits d (declared_code g t ds v) (declared_exits g d t ds v)
    lowered_exits (Perform a) d b v h = optional_exits g d a v
    lowered_exits (tree.Return at e) d b v h = using_or_exits g d e v (free v) 0 (λ x. Return x) (λ x. tt)
    lowered_exits (Break at) d b v h = leaving_exits g d b 1 (omega arith) h
    lowered_exits (Continue at) d b v h = leaving_exits g d b 0 (omega arith) h
    lowered_exits (tree.If c a) d b v h = using_exits g d c v (free v) (λ x. branch x (lowered g b (inner v) a) Skip) (λ x. branch_exits d x (lowered g b (inner v) a) Skip (lowered_exits a d b (inner v) h, tt))
    lowered_exits (IfElse c a e) d b v h =
        using_exits g d c v (free v) (λ x. branch x (lowered g b (inner v) a) (lowered g b (inner v) e)) (λ x. branch_exits d x (lowered g b (inner v) a) (lowered g b (inner v) e) (lowered_exits a d b (inner v) h, lowered_exits e d b (inner v) h))
    lowered_exits (While c body) d b v h =
        using_exits g (suc d) c v (free v) (λ x. branch x (Sequence (Block (lowered g true (inner v) body)) Skip) (Exit 0))
        (λ x. branch_exits (suc d) x (Sequence (Block (lowered g true (inner v) body)) Skip) (Exit 0) ((lowered_exits body (suc (suc d)) true (inner v) (omega arith), tt), omega arith))
    lowered_exits (DoWhile body c) d b v h = (
      lowered_exits body (suc (suc d)) true (inner v) (omega arith),
      using_exits g (suc d) c v (free v) (λ x. branch x Skip (Exit 0)) (λ x. branch_exits (suc d) x Skip (Exit 0) (tt, omega arith)),
    )
    lowered_exits (For first c step body) d b v h =
        let w : Environment = behind_beginning first (inner v) in (
          started_exits g d first (inner v),
          using_or_exits g (suc d) c w (free w) 1 (λ x. branch x (Sequence (Block (lowered g true (inner w) body)) (performed_optional g w step)) (Exit 0))
              (λ x. branch_exits (suc d) x (Sequence (Block (lowered g true (inner w) body)) (performed_optional g w step)) (Exit 0) ((lowered_exits body (suc (suc d)) true (inner w) (omega arith), optional_exits g (suc d) step w), omega arith)),
        )

    all_lowered_exits : (ss : Stmts) (d : ℕ) (b : Bool) (v : Environment) → InLoop b d → AllExitsFit d (all_lowered g b v ss)
    all_lowered_exits end d b v h = tt
    all_lowered_exits (next first rest) d b v h = (lowered_exits first d b v h, all_lowered_exits rest d b (behind first v) h)

  pub body_exits : (v : Environment) (body : Stmts) → ExitsFit 0 (body_code g v body)
  body_exits v body = sequence_exits 0 (all_lowered g false v body) (all_lowered_exits body 0 false v tt)
