-- The value built from the values of an expression's parts is the expression's value.
use Rattle.std.proofs.Common.{◌≡◌, ℕ, suc, ◌+◌, ◌<◌, ◌&&◌, Bool, true, false, List, [], ◌∷◌, length, drop, get_or, Option, Some, None, refl, sym, ap, ◌∙◌, arith, drop-cons}
use Rattle.cc_tokens.specs.declared.scalar.Scalar.{Scalar}
use Rattle.cc_ast.specs.declared.ast.BinaryOperator.{BinaryOperator}
use Rattle.cc_ast.specs.declared.ast.Expression as code
use Rattle.cc_ast.specs.internal.Arguments.{expressions_of}
use Rattle.cc_ast.specs.Tree as tree
use Rattle.cc_ast.specs.Tree.{Name, Expr, Exprs, none, more, Number, Variable, Element, Parenthesised, Cast, Conditional, Target, AtVariable, AtElement, Assign, Step, Evaluate}
use Rattle.cc_types.specs.Operators.{working_type}
use Rattle.cc_types.specs.Types.{value_type}
use Rattle.cc_layout.specs.Layout.{Layout, callee}
use Rattle.cc_layout.specs.Environment.{Environment, types_in}
use Rattle.cc_cminor_language.specs.Cminor.{Expression, Local, Load, Statement, Set, Sequence}
use Rattle.cc_cminor_language.specs.Code.{in_sequence}
use Rattle.cc_cminor.specs.internal.Lowering.{branch, object_of, width_of, binary_of, unary_of, Kind, Conjunction, Disjunction, Strict, kind, is_strict, is_plain, are_plain, plain, all_plain, used, called_on, count, locals_from, invoked, connected, put_expr, put_all, using, using_or}
use Rattle.cc_cminor.specs.internal.Taken.{Taken, taken_as, taken, taken_or, waiting, behind_code, put_in, right_from, joined, conditionally}

and_plain : (d : Kind) (p q : Bool) (op : BinaryOperator) (t : Scalar) (a b : Expression) (l r h : Statement) (k : ℕ)
    → is_strict d && (p && q) ≡ true → connected d op t p q a b l r h k ≡ Set k (binary_of op t a b)
and_plain Conjunction p q op t a b l r h k e = absurd (let f : false ≡ true = e in cc)
and_plain Disjunction p q op t a b l r h k e = absurd (let f : false ≡ true = e in cc)
and_plain Strict true true op t a b l r h k e = refl
and_plain Strict true false op t a b l r h k e = absurd (let f : false ≡ true = e in cc)
and_plain Strict false q op t a b l r h k e = absurd (let f : false ≡ true = e in cc)

used-is : (p : Bool) (e : Expression) (code : Statement) (k : ℕ) (f : Expression → Statement) → behind_code (taken_as p e code k).before (f (taken_as p e code k).value) ≡ used p e code k f
used-is true e code k f = refl
used-is false e code k f = refl

connected-is : (d : Kind) (op : BinaryOperator) (t : Scalar) (p q : Bool) (a b : Expression) (left : Statement) (right : ℕ → Statement) (k : ℕ) → (p ≡ true → left ≡ Set k a)
    → taken_as (is_strict d && (p && q)) (binary_of op t a b) (connected d op t p q a b left (right (suc k)) (right k) k) k
    ≡ joined d op t k (taken_as p a left k).before (taken_as p a left k).value (taken_as q b (right (right_from d k)) (right_from d k)).before (taken_as q b (right (right_from d k)) (right_from d k)).value
connected-is Conjunction op t true true a b left right k h = refl
connected-is Conjunction op t true false a b left right k h = refl
connected-is Conjunction op t false true a b left right k h = refl
connected-is Conjunction op t false false a b left right k h = refl
connected-is Disjunction op t true true a b left right k h = refl
connected-is Disjunction op t true false a b left right k h = refl
connected-is Disjunction op t false true a b left right k h = refl
connected-is Disjunction op t false false a b left right k h = refl
connected-is Strict op t true true a b left right k h = refl
connected-is Strict op t true false a b left right k h = ap (λ l. waiting k (Sequence l (Sequence (right (suc k)) (Set k (binary_of op t (Local k) (Local (suc k))))))) (h refl)
connected-is Strict op t false true a b left right k h = refl
connected-is Strict op t false false a b left right k h = refl

module _ (g : Layout) (v : Environment) where
  plain-put : (k : ℕ) (e : Expr) → is_plain e ≡ true → put_expr g v k e ≡ Set k (plain g v e)
  plain-put k (Number t n) h = refl
  plain-put k (Variable x) h = refl
  plain-put k (Element x e) h = ap (λ p. used p (plain g v e) (put_expr g v k e) k (λ i. Set k (Load (width_of g x.text) (object_of g x.text) i))) h
  plain-put k (tree.Call f es) h = absurd (let q : false ≡ true = h in cc)
  plain-put k (Parenthesised e) h = plain-put k e h
  plain-put k (tree.Unary op e) h = ap (λ p. used p (plain g v e) (put_expr g v k e) k (λ a. Set k (unary_of op a))) h
  plain-put k (Cast t e) h = plain-put k e h
  plain-put k (tree.Binary op a b) h =
      and_plain (kind op) (is_plain a) (is_plain b) op (working_type op (value_type (types_in v) a) (value_type (types_in v) b)) (plain g v a) (plain g v b) (put_expr g v k a) (put_expr g v (suc k) b) (put_expr g v k b) k h
  plain-put k (Conditional c a b) h = absurd (let q : false ≡ true = h in cc)

  -- the code that puts a value into a variable, and the code that uses one, are what the definition says
  pub put-is : (k : ℕ) (e : Expr) → put_in k (taken g v k e).before (taken g v k e).value ≡ put_expr g v k e
  put-is k e = by (is_plain e) refl
    where
      by : (p : Bool) → is_plain e ≡ p → put_in k (taken_as p (plain g v e) (put_expr g v k e) k).before (taken_as p (plain g v e) (put_expr g v k e) k).value ≡ put_expr g v k e
      by true h = sym (plain-put k e h)
      by false h = refl

  pub using-is : (k : ℕ) (e : Expr) (f : Expression → Statement) → behind_code (taken g v k e).before (f (taken g v k e).value) ≡ using g v k e f
  using-is k e f = used-is (is_plain e) (plain g v e) (put_expr g v k e) k f

  pub using_or-is : (k w : ℕ) (e : Option Expr) (f : Expression → Statement) → behind_code (taken_or g v k w e).before (f (taken_or g v k w e).value) ≡ using_or g v k w e f
  using_or-is k w None f = refl
  using_or-is k w (Some e) f = using-is k e f

  pub plain-is : (k : ℕ) (e : Expr) → is_plain e ≡ true → (taken g v k e).value ≡ plain g v e
  plain-is k e h = ap (λ p. (taken_as p (plain g v e) (put_expr g v k e) k).value) h

  -- operators
  binary-is : (k : ℕ) (op : BinaryOperator) (a b : Expr)
      → joined (kind op) op (working_type op (value_type (types_in v) a) (value_type (types_in v) b)) k (taken g v k a).before (taken g v k a).value
      (taken g v (right_from (kind op) k) b).before (taken g v (right_from (kind op) k) b).value ≡ taken g v k (tree.Binary op a b)
  binary-is k op a b =
      sym (connected-is (kind op) op (working_type op (value_type (types_in v) a) (value_type (types_in v) b)) (is_plain a) (is_plain b) (plain g v a) (plain g v b) (put_expr g v k a) (λ j. put_expr g v j b) k (plain-put k a))

  conditional-is : (k : ℕ) (c a b : Expr)
      → conditionally k (taken g v k c).before (taken g v k c).value (put_in k (taken g v k a).before (taken g v k a).value) (put_in k (taken g v k b).before (taken g v k b).value) ≡ taken g v k (Conditional c a b)
  conditional-is k c a b =
      ap (λ s. conditionally k (taken g v k c).before (taken g v k c).value s (put_in k (taken g v k b).before (taken g v k b).value)) (put-is k a)
      ∙ ap (λ s. conditionally k (taken g v k c).before (taken g v k c).value (put_expr g v k a) s) (put-is k b)
      ∙ ap (waiting k) (using-is k c (λ x. branch x (put_expr g v k a) (put_expr g v k b)))

  pub binary-value : (k n : ℕ) (op : BinaryOperator) (t u : Scalar) (a b : Expr) (x y : Taken) → x ≡ taken g v k a → n ≡ right_from (kind op) k → y ≡ taken g v n b
      → t ≡ value_type (types_in v) a → u ≡ value_type (types_in v) b → joined (kind op) op (working_type op t u) k x.before x.value y.before y.value ≡ taken g v k (tree.Binary op a b)
  binary-value k n op t u a b x y ex en ey et eu =
      ap (λ s. joined (kind op) op (working_type op s u) k x.before x.value y.before y.value) et
      ∙ ap (λ s. joined (kind op) op (working_type op (value_type (types_in v) a) s) k x.before x.value y.before y.value) eu
      ∙ ap (λ (z : Taken). joined (kind op) op (working_type op (value_type (types_in v) a) (value_type (types_in v) b)) k z.before z.value y.before y.value) ex
      ∙ ap (λ (z : Taken). joined (kind op) op (working_type op (value_type (types_in v) a) (value_type (types_in v) b)) k (taken g v k a).before (taken g v k a).value z.before z.value)
      (ey ∙ ap (λ m. taken g v m b) en)
      ∙ binary-is k op a b

  pub conditional-value : (k : ℕ) (c a b : Expr) (x y z : Taken) → x ≡ taken g v k c → y ≡ taken g v k a → z ≡ taken g v k b
      → conditionally k x.before x.value (put_in k y.before y.value) (put_in k z.before z.value) ≡ taken g v k (Conditional c a b)
  conditional-value k c a b x y z ex ey ez =
      ap (λ (u : Taken). conditionally k u.before u.value (put_in k y.before y.value) (put_in k z.before z.value)) ex
      ∙ ap (λ (u : Taken). conditionally k (taken g v k c).before (taken g v k c).value (put_in k u.before u.value) (put_in k z.before z.value)) ey
      ∙ ap (λ (u : Taken). conditionally k (taken g v k c).before (taken g v k c).value (put_in k (taken g v k a).before (taken g v k a).value) (put_in k u.before u.value)) ez
      ∙ conditional-is k c a b

  -- calls
  pub call-code : (k : ℕ) (f : Name) (es : Exprs) → are_plain es ≡ false
      → put_expr g v k (tree.Call f es) ≡ Sequence (in_sequence (put_all g v k es)) (invoked (callee g f.text) k (locals_from k (count es)))
  call-code k f es h = ap (λ p. called_on p (all_plain g v es) (in_sequence (put_all g v k es)) k (count es) (λ us. invoked (callee g f.text) k us)) h

pub count-is : (es : List code.Expression) → count (expressions_of es) ≡ length es
count-is [] = refl
count-is (e ∷ es) = ap suc (count-is es)

pub drop-item : {A : Type 0} (l : List A) (i : ℕ) (x : A) → i < length l → x ≡ get_or l i x → drop i l ≡ x ∷ drop (i + 1) l
drop-item l i x h e = drop-cons l i x h ∙ ap (λ y. y ∷ drop (suc i) l) (sym e) ∙ ap (λ k. x ∷ drop k l) (let k : suc i ≡ i + 1 = omega arith in k)
