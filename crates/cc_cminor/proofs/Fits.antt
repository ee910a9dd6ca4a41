-- The numbers in lowered code. Variables are numbered by depth, so a local's number is below the number of locals in scope.
-- Values that wait are above them; there are fewer of these than the full expression has tokens.
use Rattle.std.proofs.Common.{◌≡◌, ℕ, zero, suc, ◌+◌, ◌<◌, ◌≤◌, ◌&&◌, Bool, true, false, if◌then◌else◌, List, [], ◌∷◌, ◌++◌, length, map, Option, Some, None, option_map, unwrap_or, slice_get, refl, sym, ap, subst, ◌∙◌, arith}
use Rattle.std.proofs.lemmas.List.{length-append, length-map}
use Rattle.std.proofs.lemmas.Option.{slice_get_within}
use Rattle.cc_tokens.specs.declared.scalar.Scalar.{Scalar}
use Rattle.cc_tokens.specs.declared.scalar.Scalar.TheVariants.{Int}
use Rattle.cc_ast.specs.declared.ast.BinaryOperator.{BinaryOperator}
use Rattle.cc_ast.specs.declared.ast.UnaryOperator.{UnaryOperator}
use Rattle.cc_ast.specs.Tree as tree
use Rattle.cc_ast.specs.Tree.{Name, External, Expr, Exprs, none, more, Number, Variable, Element, Parenthesised, Cast, Conditional, Target, AtVariable, AtElement, Action, Assign, Step, Evaluate, Declarator, Beginning, Declares, Performs, Stmt, Stmts, end, next, Perform, Break, Continue, IfElse, While, DoWhile, For, Parameter}
use Rattle.cc_types.specs.Names.{same_name}
use Rattle.cc_types.specs.Operators.{working_type, applied_operator, step_operator}
use Rattle.cc_types.specs.Types.{value_type, target_type}
use Rattle.cc_types.specs.Rules.{count_of}
use Rattle.cc_types.specs.Limits.{declared_names, beginning_names, locals_of, locals}
use Rattle.cc_layout.specs.Layout.{Layout, LaidObject, object_number, callee}
use Rattle.cc_layout.specs.Environment.{Environment, number_in, types_in, inner, with_local, with_locals, behind, behind_beginning, parameter_names}
use Rattle.cc_resolve.specs.Operations.{operation, unary_operation}
use Rattle.cc_layout.specs.declared.layout.Callee.{Callee}
use Rattle.cc_layout.specs.declared.layout.Callee.TheVariants.{WriteWord, ReadWord, Defined}
use Rattle.cc_resolve.specs.declared.operations.UnaryOperation.{UnaryOperation}
use Rattle.cc_resolve.specs.declared.operations.UnaryOperation.TheVariants as single
use Rattle.cc_resolve.specs.declared.operations.BinaryOperation.{BinaryOperation}
use Rattle.cc_resolve.specs.declared.operations.BinaryOperation.TheVariants as word
use Rattle.cc_c_semantics.specs.Resolved.{arities, IsCalled, ExprResolved, ExprsResolved, OptionalResolved, TargetResolved, ActionResolved, OptionalActionResolved, DeclaratorsResolved, BeginningResolved, StmtResolved, StmtsResolved}
use Rattle.cc_words.specs.declared.operators.Unary.TheVariants as one
use Rattle.cc_words.specs.declared.operators.Binary as binary
use Rattle.cc_words.specs.declared.operators.Binary.TheVariants as two
use Rattle.cc_cminor_language.specs.Cminor.{Expression, Constant, Local, Unary, Binary, Load, Statement, Skip, Set, Store, Sequence, If, Loop, Block, Exit, Return}
use Rattle.cc_cminor_language.specs.Code.{in_sequence}
use Rattle.cc_cminor_language.specs.Numbers.{ExpressionBelow, ExpressionsBelow, StatementBelow}
use Rattle.cc_cminor.specs.internal.Lowering.{free, object_of, width_of, read_of, write_to, variable_of, variable_set, single_or, unary_of, operation_of, binary_of, is_truth, truth_of, is_nothing, is_constant, compared, condition, is_reversed, branch, Kind, Conjunction, Disjunction, Strict, kind, is_plain, are_plain, plain, all_plain, used, count, locals_from, last_value, invoked, called_on, connected, put_expr, put_all, using, using_or, combined, assigned, performed, performed_optional, initialised, declared_code, started, leaving, lowered, all_lowered, body_code}
use Rattle.cc_cminor.proofs.Known.{behind_layout, beginning_layout}
use Rattle.cc_cminor.proofs.Tokens.{tokens, tokens_all, tokens_or, target_tokens, action_tokens, optional_tokens}
use Rattle.cc_cminor.proofs.Longest.{larger, longest, longest_in, longest_declared, longest_beginning}

-- ---- numbers of names

abbrev Below : ℕ → Option ℕ → Type 0
Below n None = Unit {0}
Below n (Some i) = i < n

below_more : (n m : ℕ) (o : Option ℕ) → n ≤ m → Below n o → Below m o
below_more n m None le h = tt
below_more n m (Some i) le h = omega arith

below_next : (n : ℕ) (o : Option ℕ) → Below n o → Below (suc n) (option_map suc o)
below_next n None h = tt
below_next n (Some i) h = omega arith

number_below : (ns : List (List ℕ)) (x : List ℕ) → Below (length ns) (number_in ns x)
number_below [] x = tt
number_below (y ∷ ns) x = by (same_name y x) (number_below ns x)
  where
    by : (b : Bool) → Below (length ns) (number_in ns x) → Below (suc (length ns)) (if b then Some (length ns) else number_in ns x)
    by true h = omega arith
    by false h = below_more (length ns) (suc (length ns)) (number_in ns x) (omega arith) h

object_below : (ps : List LaidObject) (x : List ℕ) → Below (length ps) (object_number ps x)
object_below [] x = tt
object_below (p ∷ ps) x = by (same_name p.name x) (object_below ps x)
  where
    by : (b : Bool) → Below (length ps) (object_number ps x) → Below (suc (length ps)) (if b then Some 0 else option_map suc (object_number ps x))
    by true h = omega arith
    by false h = below_next (length ps) (object_number ps x) h

below_or : (n : ℕ) (o : Option ℕ) → Below n o → n ≤ 65536 → unwrap_or o 0 < 65536
below_or n None h le = omega arith
below_or n (Some i) h le = omega arith

-- ---- operators

single_fits : (op : Option UnaryOperation) (e : Expression) → ExpressionBelow 1024 e → ExpressionBelow 1024 (single_or op e)
single_fits None e h = h
single_fits (Some single.Negate) e h = h
single_fits (Some single.Complement) e h = h
single_fits (Some single.IsZero) e h = h

unary_fits : (op : UnaryOperator) (e : Expression) → ExpressionBelow 1024 e → ExpressionBelow 1024 (unary_of op e)
unary_fits op e h = single_fits (unary_operation op) e h

operation_fits : (op : BinaryOperation) (a b : Expression) → ExpressionBelow 1024 a → ExpressionBelow 1024 b → ExpressionBelow 1024 (operation_of op a b)
operation_fits word.GreaterSigned a b p q = (q, p)
operation_fits word.GreaterUnsigned a b p q = (q, p)
operation_fits word.GreaterOrEqualSigned a b p q = (q, p)
operation_fits word.GreaterOrEqualUnsigned a b p q = (q, p)
operation_fits op a b p q = (p, q)

binary_fits : (op : BinaryOperator) (t : Scalar) (a b : Expression) → ExpressionBelow 1024 a → ExpressionBelow 1024 b → ExpressionBelow 1024 (binary_of op t a b)
binary_fits op t a b p q = operation_fits (operation op t) a b p q

combined_fits : (op : Option BinaryOperator) (t u : Scalar) (old e : Expression) → ExpressionBelow 1024 old → ExpressionBelow 1024 e → ExpressionBelow 1024 (combined op t u old e)
combined_fits None t u old e p q = q
combined_fits (Some op) t u old e p q = binary_fits op (working_type op t u) old e p q

read_fits : (o : Option ℕ) (n : ℕ) → Below 1024 o → n < 65536 → ExpressionBelow 1024 (read_of o n)
read_fits None n h i = (i, tt)
read_fits (Some x) n h i = h

write_fits : (o : Option ℕ) (n : ℕ) (e : Expression) → Below 1024 o → n < 65536 → ExpressionBelow 1024 e → StatementBelow 1024 (write_to o n e)
write_fits None n e h i f = (i, tt, f)
write_fits (Some x) n e h i f = (h, f)

-- ---- statements in general

abbrev AllFit : List Statement → Type 0
AllFit [] = Unit {0}
AllFit (s ∷ rest) = StatementBelow 1024 s × AllFit rest

sequence_fits : (all : List Statement) → AllFit all → StatementBelow 1024 (in_sequence all)
sequence_fits [] h = tt
sequence_fits (a ∷ []) h = h.0
sequence_fits (a ∷ b ∷ rest) h = (h.0, sequence_fits (b ∷ rest) h.1)

append_fits : (ss ts : List Statement) → AllFit ss → AllFit ts → AllFit (ss ++ ts)
append_fits [] ts h i = i
append_fits (s ∷ ss) ts h i = (h.0, append_fits ss ts h.1 i)

-- a statement that uses a value fits, whatever the value is
abbrev Takes : (Expression → Statement) → Type 0
Takes f = (x : Expression) → ExpressionBelow 1024 x → StatementBelow 1024 (f x)

used_fits : (b : Bool) (e : Expression) (code : Statement) (k : ℕ) (f : Expression → Statement) → ExpressionBelow 1024 e → StatementBelow 1024 code → k < 1024 → Takes f → StatementBelow 1024 (used b e code k f)
used_fits true e code k f p c lt h = h e p
used_fits false e code k f p c lt h = (c, h (Local k) lt)

last_fits : (es : List Expression) → ExpressionsBelow 1024 es → ExpressionBelow 1024 (last_value es)
last_fits [] h = tt
last_fits (e ∷ []) h = h.0
last_fits (e ∷ f ∷ rest) h = last_fits (f ∷ rest) h.1

locals_fit : (k n : ℕ) → k + n ≤ 1024 → ExpressionsBelow 1024 (locals_from k n)
locals_fit k zero le = tt
locals_fit k (suc n) le = ((let lt : k < 1024 = omega arith in lt), locals_fit (suc k) n (omega arith))

many : (es : Exprs) → count_of es ≡ count es
many none = refl
many (more e rest) = let h = many rest in omega arith

a_token : (e : Expr) → 1 ≤ tokens e
a_token (Number t n) = omega arith
a_token (Variable x) = omega arith
a_token (Element x e) = omega arith
a_token (tree.Call f es) = omega arith
a_token (Parenthesised e) = omega arith
a_token (tree.Unary op e) = omega arith
a_token (Cast t e) = omega arith
a_token (tree.Binary op a b) = omega arith
a_token (Conditional c a b) = omega arith

few_arguments : (es : Exprs) → count es ≤ tokens_all es
few_arguments none = omega arith
few_arguments (more e rest) = let h = few_arguments rest in let t = a_token e in omega arith

module _ (unit : List External) (g : Layout) (functions : length (arities unit) ≤ 64) (objects : length g.objects ≤ 65536) where
  object_fits : (x : List ℕ) → object_of g x < 65536
  object_fits x = below_or (length g.objects) (object_number g.objects x) (object_below g.objects x) objects

  local_fits : (v : Environment) (x : List ℕ) → free v ≤ 1024 → Below 1024 (number_in v.locals x)
  local_fits v x le = below_more (length v.locals) 1024 (number_in v.locals x) le (number_below v.locals x)

  plain_fits : (e : Expr) (v : Environment) → free v ≤ 1024 → ExpressionBelow 1024 (plain g v e)
  plain_fits (Number t n) v le = tt
  plain_fits (Variable x) v le = read_fits (number_in v.locals x.text) (object_of g x.text) (local_fits v x.text le) (object_fits x.text)
  plain_fits (Element x e) v le = (object_fits x.text, plain_fits e v le)
  plain_fits (tree.Call f es) v le = tt
  plain_fits (Parenthesised e) v le = plain_fits e v le
  plain_fits (tree.Unary op e) v le = unary_fits op (plain g v e) (plain_fits e v le)
  plain_fits (Cast t e) v le = plain_fits e v le
  plain_fits (tree.Binary op a b) v le =
      binary_fits op (working_type op (value_type (types_in v) a) (value_type (types_in v) b)) (plain g v a) (plain g v b) (plain_fits a v le) (plain_fits b v le)
  plain_fits (Conditional c a b) v le = tt

  all_plain_fit : (es : Exprs) (v : Environment) → free v ≤ 1024 → ExpressionsBelow 1024 (all_plain g v es)
  all_plain_fit none v le = tt
  all_plain_fit (more e rest) v le = (plain_fits e v le, all_plain_fit rest v le)

  invoked_fits : (c : Callee) (k n : ℕ) (es : List Expression) → k < 1024 → IsCalled (arities unit) c n → ExpressionsBelow 1024 es → StatementBelow 1024 (invoked c k es)
  invoked_fits WriteWord k n es lt h i = (last_fits es i, (lt, tt))
  invoked_fits ReadWord k n es lt h i = lt
  invoked_fits (Defined f) k n es lt h i = (lt, (let in_unit = slice_get_within (arities unit) f n h in omega arith), i)

  called_fits : (b : Bool) (es : List Expression) (code : Statement) (k n : ℕ) (c : Callee) → ExpressionsBelow 1024 es → StatementBelow 1024 code → k < 1024 → k + n ≤ 1024 → IsCalled (arities unit) c n → StatementBelow 1024 (called_on b es code k n (λ us. invoked c k us))
  called_fits true es code k n c i p lt le h = invoked_fits c k n es lt h i
  called_fits false es code k n c i p lt le h = (p, invoked_fits c k n (locals_from k n) lt h (locals_fit k n le))

  equality_fits : (a b : Expression) → ExpressionBelow 1024 a → ExpressionBelow 1024 b → (n : Bool) → ExpressionBelow 1024 (if n then a else Binary two.Xor a b)
  equality_fits a b p q true = p
  equality_fits a b p q false = (p, q)

  either_fits : (op under : binary.Binary) (a b : Expression) → ExpressionBelow 1024 a → ExpressionBelow 1024 b → (c : Bool) → ExpressionBelow 1024 (if c then Binary op a b else Binary under b a)
  either_fits op under a b p q true = (p, q)
  either_fits op under a b p q false = (q, p)

  compared_fits : (op : binary.Binary) (a b : Expression) → ExpressionBelow 1024 a → ExpressionBelow 1024 b → ExpressionBelow 1024 (compared op a b)
  compared_fits two.LeS a b p q = either_fits two.LeS two.LtS a b p q (is_constant b)
  compared_fits two.LeU a b p q = either_fits two.LeU two.LtU a b p q (is_constant b)
  compared_fits two.Eq a b p q = equality_fits a b p q (is_nothing b)
  compared_fits two.Ne a b p q = equality_fits a b p q (is_nothing b)
  compared_fits op a b p q = (p, q)

  condition_fits : (e : Expression) → ExpressionBelow 1024 e → ExpressionBelow 1024 (condition e)
  condition_fits (Constant w) h = tt
  condition_fits (Local x) h = h
  condition_fits (Load width o a) h = h
  condition_fits (Unary one.IsZero a) h = condition_fits a h
  condition_fits (Unary one.Neg a) h = h
  condition_fits (Unary one.Complement a) h = h
  condition_fits (Binary op a b) h = compared_fits op a b h.0 h.1

  branch_fits : (e : Expression) (a b : Statement) → ExpressionBelow 1024 e × StatementBelow 1024 a × StatementBelow 1024 b → StatementBelow 1024 (branch e a b)
  branch_fits e a b h = by (is_reversed e)
    where
      by : (r : Bool) → StatementBelow 1024 (if r then If (condition e) b a else If (condition e) a b)
      by true = (condition_fits e h.0, h.2, h.1)
      by false = (condition_fits e h.0, h.1, h.2)

  truth_taken : (k : ℕ) → k < 1024 → Takes (λ y. Set k (truth_of y))
  truth_taken k lt = λ x h. (lt, by x h (is_truth x))
    where
      by : (x : Expression) → ExpressionBelow 1024 x → (b : Bool) → ExpressionBelow 1024 (if b then x else Unary one.IsZero (Unary one.IsZero x))
      by x h true = h
      by x h false = h

  connected_fits : (kd : Kind) (op : BinaryOperator) (t : Scalar) (p q : Bool) (a b : Expression) (left right here : Statement) (k : ℕ) → suc k < 1024 → ExpressionBelow 1024 a → ExpressionBelow 1024 b → StatementBelow 1024 left → StatementBelow 1024 right → StatementBelow 1024 here
      → StatementBelow 1024 (connected kd op t p q a b left right here k)
  connected_fits Conjunction op t p q a b left right here k lt x y l r h =
      used_fits p a left k (λ x. branch x (used q b here k (λ y. Set k (truth_of y))) (Set k (Constant 0))) x l (omega arith)
      (λ e i. branch_fits e (used q b here k (λ y. Set k (truth_of y))) (Set k (Constant 0)) (i, used_fits q b here k (λ y. Set k (truth_of y)) y h (omega arith) (truth_taken k (omega arith)), ((let d : k < 1024 = omega arith in d), tt)))
  connected_fits Disjunction op t p q a b left right here k lt x y l r h =
      used_fits p a left k (λ x. branch x (Set k (Constant 1)) (used q b here k (λ y. Set k (truth_of y)))) x l (omega arith)
      (λ e i. branch_fits e (Set k (Constant 1)) (used q b here k (λ y. Set k (truth_of y))) (i, ((let d : k < 1024 = omega arith in d), tt), used_fits q b here k (λ y. Set k (truth_of y)) y h (omega arith) (truth_taken k (omega arith))))
  connected_fits Strict op t p q a b left right here k lt x y l r h = by (p && q)
    where
      low : k < 1024
      low = omega arith

      by : (both : Bool) → StatementBelow 1024 (if both then Set k (binary_of op t a b) else Sequence left (used q b right (suc k) (λ y. Set k (binary_of op t (Local k) y))))
      by true = (low, binary_fits op t a b x y)
      by false = (l, used_fits q b right (suc k) (λ y. Set k (binary_of op t (Local k) y)) y r lt (λ e i. (low, binary_fits op t (Local k) e low i)))

  mutual
    put_fits : (e : Expr) (v : Environment) (k : ℕ) → v.layout ≡ g → ExprResolved (arities unit) v e → free v ≤ 1024 → k + tokens e ≤ 1024 → StatementBelow 1024 (put_expr g v k e)
    put_fits (Number t n) v k is h f le = ((let lt : k < 1024 = omega arith in lt), tt)
    put_fits (Variable x) v k is h f le = ((let lt : k < 1024 = omega arith in lt), plain_fits (Variable x) v f)
    put_fits (Element x e) v k is h f le =
        let lt : k < 1024 = omega arith in
        used_fits (is_plain e) (plain g v e) (put_expr g v k e) k (λ i. Set k (Load (width_of g x.text) (object_of g x.text) i)) (plain_fits e v f) (put_fits e v k is h.1 f (omega arith)) lt (λ y i. (lt, (object_fits x.text, i)))
    put_fits (tree.Call f es) v k is h fr le =
        let few = few_arguments es in
        called_fits (are_plain es) (all_plain g v es) (in_sequence (put_all g v k es)) k (count es) (callee g f.text) (all_plain_fit es v fr)
        (sequence_fits (put_all g v k es) (put_all_fit es v k is h.1 fr (omega arith))) (omega arith) (omega arith)
        (subst (λ (l : Layout). IsCalled (arities unit) (callee l f.text) (count es)) is (subst (λ n. IsCalled (arities unit) (callee v.layout f.text) n) (many es) h.0))
    put_fits (Parenthesised e) v k is h f le = put_fits e v k is h f (omega arith)
    put_fits (tree.Unary op e) v k is h f le =
        let lt : k < 1024 = omega arith in
        used_fits (is_plain e) (plain g v e) (put_expr g v k e) k (λ a. Set k (unary_of op a)) (plain_fits e v f) (put_fits e v k is h f (omega arith)) lt (λ y i. (lt, unary_fits op y i))
    put_fits (Cast t e) v k is h f le = put_fits e v k is h f (omega arith)
    put_fits (tree.Binary op a b) v k is h f le =
        let p = a_token a in let q = a_token b in
        connected_fits (kind op) op (working_type op (value_type (types_in v) a) (value_type (types_in v) b)) (is_plain a) (is_plain b) (plain g v a) (plain g v b) (put_expr g v k a) (put_expr g v (suc k) b) (put_expr g v k b) k
        (omega arith) (plain_fits a v f) (plain_fits b v f) (put_fits a v k is h.0 f (omega arith)) (put_fits b v (suc k) is h.1 f (omega arith)) (put_fits b v k is h.1 f (omega arith))
    put_fits (Conditional c a b) v k is h f le =
        used_fits (is_plain c) (plain g v c) (put_expr g v k c) k (λ x. branch x (put_expr g v k a) (put_expr g v k b)) (plain_fits c v f) (put_fits c v k is h.0 f (omega arith)) (omega arith)
        (λ x i. branch_fits x (put_expr g v k a) (put_expr g v k b) (i, put_fits a v k is h.1 f (omega arith), put_fits b v k is h.2 f (omega arith)))

    put_all_fit : (es : Exprs) (v : Environment) (k : ℕ) → v.layout ≡ g → ExprsResolved (arities unit) v es → free v ≤ 1024 → k + tokens_all es ≤ 1024 → AllFit (put_all g v k es)
    put_all_fit none v k is h f le = tt
    put_all_fit (more e rest) v k is h f le = let t = a_token e in (put_fits e v k is h.0 f (omega arith), put_all_fit rest v (suc k) is h.1 f (omega arith))

  using_fits : (e : Expr) (v : Environment) (k : ℕ) (f : Expression → Statement) → v.layout ≡ g → ExprResolved (arities unit) v e → free v ≤ 1024 → k + tokens e ≤ 1024 → Takes f → StatementBelow 1024 (using g v k e f)
  using_fits e v k f is h fr le i = let t = a_token e in used_fits (is_plain e) (plain g v e) (put_expr g v k e) k f (plain_fits e v fr) (put_fits e v k is h fr le) (omega arith) i

  using_or_fits : (e : Option Expr) (v : Environment) (k w : ℕ) (f : Expression → Statement) → v.layout ≡ g → OptionalResolved (arities unit) v e → free v ≤ 1024 → k + tokens_or e ≤ 1024 → Takes f → StatementBelow 1024 (using_or g v k w e f)
  using_or_fits None v k w f is h fr le i = i (Constant w) tt
  using_or_fits (Some e) v k w f is h fr le i = using_fits e v k f is h fr le i

  assigned_fits : (target : Target) (v : Environment) (r : ℕ) (f : Scalar → Expression → Expression → Expression) (go : ℕ → (Expression → Statement) → Statement) → v.layout ≡ g → TargetResolved (arities unit) v target
      → free v + target_tokens target + r ≤ 1024 → ((t : Scalar) (old e : Expression) → ExpressionBelow 1024 old → ExpressionBelow 1024 e → ExpressionBelow 1024 (f t old e))
      → ((k : ℕ) (f : Expression → Statement) → k + r ≤ 1024 → Takes f → StatementBelow 1024 (go k f)) → StatementBelow 1024 (assigned g v target f go)
  assigned_fits (AtVariable x) v r f go is h le p i =
      let t : Scalar = target_type (types_in v) (AtVariable x) in
      let fr : free v ≤ 1024 = omega arith in
      i (free v) (λ e. variable_set g v x.text (f t (variable_of g v x.text) e)) (omega arith)
      (λ e q. write_fits (number_in v.locals x.text) (object_of g x.text) (f t (variable_of g v x.text) e) (local_fits v x.text fr) (object_fits x.text)
      (p t (variable_of g v x.text) e (read_fits (number_in v.locals x.text) (object_of g x.text) (local_fits v x.text fr) (object_fits x.text)) q))
  assigned_fits (AtElement x e) v r f go is h le p i =
      let t : Scalar = target_type (types_in v) (AtElement x e) in
      let fr : free v ≤ 1024 = omega arith in
      let lt : free v < 1024 = omega arith in (
        put_fits e v (free v) is h.1 fr (omega arith),
        i (suc (free v)) (λ y. Store (width_of g x.text) (object_of g x.text) (Local (free v)) (f t (Load (width_of g x.text) (object_of g x.text) (Local (free v))) y)) (omega arith)
            (λ y q. (object_fits x.text, lt, p t (Load (width_of g x.text) (object_of g x.text) (Local (free v))) y (object_fits x.text, lt) q)),
      )

  performed_fits : (a : Action) (v : Environment) → v.layout ≡ g → ActionResolved (arities unit) v a → free v + action_tokens a ≤ 1024 → StatementBelow 1024 (performed g v a)
  performed_fits (Assign op target e) v is h le =
      assigned_fits target v (tokens e) (λ t old new. combined (applied_operator op) t (value_type (types_in v) e) old new) (λ k f. using g v k e f) is h.0 (omega arith)
      (λ t old new p q. combined_fits (applied_operator op) t (value_type (types_in v) e) old new p q) (λ k f fits i. using_fits e v k f is h.1 (omega arith) fits i)
  performed_fits (Step op target) v is h le =
      assigned_fits target v 0 (λ t old new. combined (applied_operator (step_operator op)) t Int old new) (λ k f. f (Constant 1)) is h (omega arith)
      (λ t old new p q. combined_fits (applied_operator (step_operator op)) t Int old new p q) (λ k f fits i. i (Constant 1) tt)
  performed_fits (Evaluate e) v is h le = put_fits e v (free v) is h (omega arith) le

  optional_fits : (a : Option Action) (v : Environment) → v.layout ≡ g → OptionalActionResolved (arities unit) v a → free v + optional_tokens a ≤ 1024 → StatementBelow 1024 (performed_optional g v a)
  optional_fits None v is h le = tt
  optional_fits (Some a) v is h le = performed_fits a v is h le

  initialised_fits : (e : Option Expr) (v : Environment) (i : ℕ) → v.layout ≡ g → OptionalResolved (arities unit) v e → free v ≤ 1024 → i < 1024 → suc i + tokens_or e ≤ 1024 → AllFit (initialised g v i e)
  initialised_fits None v i is h fr lt le = tt
  initialised_fits (Some e) v i is h fr lt le = (using_fits e v (suc i) (λ x. Set i x) is h fr le (λ x p. (lt, p)), tt)

  declared_fits : (t : Scalar) (ds : List Declarator) (v : Environment) → v.layout ≡ g → DeclaratorsResolved (arities unit) t ds v → free v + length ds ≤ 264 → longest_declared ds ≤ 512 → AllFit (declared_code g t ds v)
  declared_fits t [] v is h le short = tt
  declared_fits t (d ∷ rest) v is h le short =
      let w : Environment = with_local t d.name.text v in (
        ((let lt : free v < 1024 = omega arith in lt), tt),
        append_fits (initialised g w (free v) d.initial) (declared_code g t rest w)
            (initialised_fits d.initial w (free v) is h.0 (omega arith) (omega arith) (omega arith)) (declared_fits t rest w is h.1 (omega arith) (omega arith)),
      )

  started_fits : (first : Beginning) (v : Environment) → v.layout ≡ g → BeginningResolved (arities unit) first v → free v + length (beginning_names first) ≤ 264 → longest_beginning first ≤ 512 → StatementBelow 1024 (started g first v)
  started_fits (Declares t ds) v is h le short =
      let many = length-map ds (λ (d : Declarator). d.name) in sequence_fits (declared_code g t ds v) (declared_fits t ds v is h (omega arith) short)
  started_fits (Performs a) v is h le short = optional_fits a v is h (omega arith)

  leaving_fits : (b : Bool) (i : ℕ) → StatementBelow 1024 (leaving b i)
  leaving_fits true i = tt
  leaving_fits false i = tt

  declared_many : (t : Scalar) (ds : List Declarator) (v : Environment) → free (with_locals t ds v) ≡ free v + length ds
  declared_many t [] v = omega arith
  declared_many t (d ∷ rest) v = let h = declared_many t rest (with_local t d.name.text v) in omega arith

  behind_many : (st : Stmt) (v : Environment) → free (behind st v) ≤ free v + length (locals_of st)
  behind_many (tree.Local t ds) v = let h = declared_many t ds v in let m = length-map ds (λ (d : Declarator). d.name) in omega arith
  behind_many (tree.Block all) v = omega arith
  behind_many (Perform a) v = omega arith
  behind_many (tree.Return at e) v = omega arith
  behind_many (Break at) v = omega arith
  behind_many (Continue at) v = omega arith
  behind_many (tree.If c a) v = omega arith
  behind_many (IfElse c a e) v = omega arith
  behind_many (While c body) v = omega arith
  behind_many (DoWhile body c) v = omega arith
  behind_many (For first c step body) v = omega arith

  beginning_many : (first : Beginning) (v : Environment) → free (behind_beginning first v) ≤ free v + length (beginning_names first)
  beginning_many (Declares t ds) v = let h = declared_many t ds v in let m = length-map ds (λ (d : Declarator). d.name) in omega arith
  beginning_many (Performs a) v = omega arith

  mutual
    lowered_fits : (st : Stmt) (b : Bool) (v : Environment) → v.layout ≡ g → StmtResolved (arities unit) v st → free v + length (locals_of st) ≤ 264 → longest st ≤ 512 → StatementBelow 1024 (lowered g b v st)
    lowered_fits (tree.Block all) b v is h le short = sequence_fits (all_lowered g b (inner v) all) (all_lowered_fit all b (inner v) is h le short)
    lowered_fits (tree.Local t ds) b v is h le short =
        let many = length-map ds (λ (d : Declarator). d.name) in sequence_fits (declared_code g t ds v) (declared_fits t ds v is h (omega arith) short)
    lowered_fits (Perform a) b v is h le short = optional_fits a v is h (omega arith)
    lowered_fits (tree.Return at e) b v is h le short = using_or_fits e v (free v) 0 (λ x. Return x) is h (omega arith) (omega arith) (λ x i. i)
    lowered_fits (Break at) b v is h le short = leaving_fits b 1
    lowered_fits (Continue at) b v is h le short = leaving_fits b 0
    lowered_fits (tree.If c a) b v is h le short =
        using_fits c v (free v) (λ x. branch x (lowered g b (inner v) a) Skip) is h.0 (omega arith) (omega arith) (λ x i. branch_fits x (lowered g b (inner v) a) Skip (i, lowered_fits a b (inner v) is h.1 le (omega arith), tt))
    lowered_fits (IfElse c a e) b v is h le short =
        let both = length-append (locals_of a) (locals_of e) in
        using_fits c v (free v) (λ x. branch x (lowered g b (inner v) a) (lowered g b (inner v) e)) is h.0 (omega arith) (omega arith)
        (λ x i. branch_fits x (lowered g b (inner v) a) (lowered g b (inner v) e) (i, lowered_fits a b (inner v) is h.1 (omega arith) (omega arith), lowered_fits e b (inner v) is h.2 (omega arith) (omega arith)))
    lowered_fits (While c body) b v is h le short =
        using_fits c v (free v) (λ x. branch x (Sequence (Block (lowered g true (inner v) body)) Skip) (Exit 0)) is h.0 (omega arith) (omega arith)
        (λ x i. branch_fits x (Sequence (Block (lowered g true (inner v) body)) Skip) (Exit 0) (i, (lowered_fits body true (inner v) is h.1 le (omega arith), tt), tt))
    lowered_fits (DoWhile body c) b v is h le short = (
      lowered_fits body true (inner v) is h.1 le (omega arith),
      using_fits c v (free v) (λ x. branch x Skip (Exit 0)) is h.0 (omega arith) (omega arith) (λ x i. branch_fits x Skip (Exit 0) (i, tt, tt)),
    )
    lowered_fits (For first c step body) b v is h le short =
        let w : Environment = behind_beginning first (inner v) in
        let same : w.layout ≡ g = beginning_layout first (inner v) ∙ is in
        let both = length-append (beginning_names first) (locals_of body) in
        let now = beginning_many first (inner v) in (
          started_fits first (inner v) is h.0 (omega arith) (omega arith),
          using_or_fits c w (free w) 1 (λ x. branch x (Sequence (Block (lowered g true (inner w) body)) (performed_optional g w step)) (Exit 0)) same h.1 (omega arith) (omega arith)
              (λ x i. branch_fits x (Sequence (Block (lowered g true (inner w) body)) (performed_optional g w step)) (Exit 0) (i, (lowered_fits body true (inner w) same h.3 (omega arith) (omega arith), optional_fits step w same h.2 (omega arith)), tt)),
        )

    all_lowered_fit : (ss : Stmts) (b : Bool) (v : Environment) → v.layout ≡ g → StmtsResolved (arities unit) v ss → free v + length (locals ss) ≤ 264 → longest_in ss ≤ 512 → AllFit (all_lowered g b v ss)
    all_lowered_fit end b v is h le short = tt
    all_lowered_fit (next first rest) b v is h le short =
        let both = length-append (locals_of first) (locals rest) in
        let now = behind_many first v in (
          lowered_fits first b v is h.0 (omega arith) (omega arith),
          all_lowered_fit rest b (behind first v) (behind_layout first v ∙ is) h.1 (omega arith) (omega arith),
        )

  pub body_fits : (v : Environment) (body : Stmts) → v.layout ≡ g → StmtsResolved (arities unit) v body → free v + length (locals body) ≤ 264 → longest_in body ≤ 512 → StatementBelow 1024 (body_code g v body)
  body_fits v body is h le short = sequence_fits (all_lowered g false v body) (all_lowered_fit body false v is h le short)

pub parameters_many : (ps : List Parameter) (names : List (List ℕ)) → length (parameter_names ps names) ≡ length ps + length names
parameters_many [] names = omega arith
parameters_many (p ∷ rest) names = let h = parameters_many rest (elim p.name as (λ _. List ℕ) [ None ↦ [] | Some x ↦ x.text ] ∷ names) in omega arith
