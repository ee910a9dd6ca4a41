-- Expressions read no hidden local, and leave all locals as they are.
use Rattle.std.proofs.Common.{◌≡◌, ℕ, zero, suc, false, List, [], ◌∷◌, Option, Some, None, unwrap_or, slice_get, refl, sym, ap, subst}
use Rattle.cc_ast.specs.scalar.Scalar.{Scalar}
use Rattle.cc_ast.specs.declared.ast.BinaryOperator.{BinaryOperator}
use Rattle.cc_ast.specs.Tree.{Expr, Exprs, none, more, Number, Variable, Element, Call, Parenthesised, Unary, Cast, Binary, Conditional}
use Rattle.cc_types.specs.Operators.{common_type, working_type, binary_type, unary_type, unary_word, binary_word, decided}
use Rattle.cc_types.specs.Scope.{Binding, found}
use Rattle.cc_types.specs.Types.{variable_type, element_type, result_type, or_int, value_type}
use Rattle.cc_c_semantics.specs.declared.cause.Cause.TheVariants.{Index}
use Rattle.cc_c_semantics.specs.Meaning.{Local, State, Run, Gives, Going, Wrong, then_do, choose, Calls, local_word, global_words, variable_word, read_element, given, unless_decided, evaluate, evaluate_all, evaluate_or, Destination, ToVariable, ToElement, old_value, new_value}
use Rattle.cc_wide.specs.Lowering.{is_reserved, ExprIsOwn, ExprsAreOwn, OptionalIsOwn}

-- a state with other locals
abbrev pub at : State → List Local → State
at s ls = record s { locals = ls }

-- a part of a run leaves the locals L; and with the locals M the other one does the same and leaves M
abbrev pub Twin : {A : Type 0} → List Local → List Local → Run A → Run A → Type 0
Twin L M (Gives x t) q = (t.locals ≡ L) × (q ≡ Gives x (at t M))
Twin L M (Going output) q = q ≡ Going output
Twin L M (Wrong cause output) q = q ≡ Wrong cause output

-- a call does the same whatever its caller's locals, and leaves them
abbrev pub SeesNone : Calls → Calls → Type 0
SeesNone call called = (f ws : List ℕ) (s : State) (L M : List Local) → Twin L M (call f ws (at s L)) (called f ws (at s M))

-- the program's names denote the same
abbrev pub Alike : List Binding → List Binding → Type 0
Alike bs cs = (x : List ℕ) → is_reserved x ≡ false → found bs x ≡ found cs x

pub alike_types : (e : Expr) (bs cs : List Binding) → Alike bs cs → ExprIsOwn e → value_type bs e ≡ value_type cs e
alike_types (Number t n) bs cs k h = refl
alike_types (Variable x) bs cs k h = ap variable_type (k x.text h)
alike_types (Element x e) bs cs k h = ap element_type (k x.text h.0)
alike_types (Call f es) bs cs k h = ap (λ o. or_int (result_type o)) (k f.text h.0)
alike_types (Parenthesised e) bs cs k h = alike_types e bs cs k h
alike_types (Unary op e) bs cs k h = ap (unary_type op) (alike_types e bs cs k h)
alike_types (Cast t e) bs cs k h = refl
alike_types (Binary op a b) bs cs k h = λ i. binary_type op (alike_types a bs cs k h.0 i) (alike_types b bs cs k h.1 i)
alike_types (Conditional c a b) bs cs k h = λ i. common_type (alike_types a bs cs k h.1 i) (alike_types b bs cs k h.2 i)

-- what a word is written to, if it is no hidden local
abbrev pub IsOwnPlace : Destination → Type 0
IsOwnPlace (ToVariable x) = is_reserved x ≡ false
IsOwnPlace (ToElement x i) = Unit {0}

module _ (L M : List Local) (reads : (x : List ℕ) → is_reserved x ≡ false → local_word L x ≡ local_word M x) where
  -- two parts of a run are twins
  abbrev Tw : {A : Type 0} → (State → Run A) → (State → Run A) → Type 0
  Tw part was = (s : State) → Twin L M (part (at s L)) (was (at s M))

  twin_then : {A B : Type 0} (r q : Run A) (go went : A → State → Run B) → Twin L M r q → ((x : A) → Tw (go x) (went x)) → Twin L M (then_do r go) (then_do q went)
  twin_then (Gives x t) q go went h f =
      subst (λ z. Twin L M (go x t) (then_do z went)) (sym h.1) (subst (λ ls. Twin L M (go x (at t ls)) (went x (at t M))) (sym h.0) (f x t))
  twin_then (Going output) q go went h f = ap (λ z. then_do z went) h
  twin_then (Wrong cause output) q go went h f = ap (λ z. then_do z went) h

  tw_then : {A B : Type 0} (part was : State → Run A) (go went : A → State → Run B) → Tw part was → ((x : A) → Tw (go x) (went x)) → Tw (λ s. then_do (part s) go) (λ s. then_do (was s) went)
  tw_then part was go went h f = λ s. twin_then (part (at s L)) (was (at s M)) go went (h s) f

  tw_give : {A : Type 0} (x : A) → Tw (λ s. Gives x s) (λ s. Gives x s)
  tw_give x = λ s. (refl, refl)

  tw_choose : {A : Type 0} (w : ℕ) (a b c d : State → Run A) → Tw a c → Tw b d → Tw (λ s. choose w a b s) (λ s. choose w c d s)
  tw_choose zero a b c d p q = q
  tw_choose (suc w) a b c d p q = p

  tw_unless : (o : Option ℕ) (go went : State → Run ℕ) → Tw go went → Tw (λ s. unless_decided o go s) (λ s. unless_decided o went s)
  tw_unless None go went p = p
  tw_unless (Some w) go went p = tw_give w

  tw_given : (op : BinaryOperator) (o : Option ℕ) → Tw (given op o) (given op o)
  tw_given op None = λ s. refl
  tw_given op (Some w) = tw_give w

  tw_given_by : (op : BinaryOperator) (o p : Option ℕ) → o ≡ p → Tw (given op o) (given op p)
  tw_given_by op o p e = subst (λ y. Tw (given op o) (given op y)) e (tw_given op o)

  tw_variable : (x : List ℕ) → is_reserved x ≡ false → Tw (λ s. Gives (variable_word x s) s) (λ s. Gives (variable_word x s) s)
  tw_variable x q = λ s. (refl, ap (λ (o : Option ℕ). Gives (unwrap_or o (unwrap_or (slice_get (global_words s.globals x) 0) 0)) (at s M)) (sym (reads x q)))

  read_by : (o : Option ℕ) (s : State)
      → Twin L M (elim o [ None ↦ Wrong Index s.output | Some w ↦ Gives w (at s L) ]) (elim o [ None ↦ Wrong Index s.output | Some w ↦ Gives w (at s M) ])
  read_by None s = refl
  read_by (Some w) s = (refl, refl)

  tw_read : (x : List ℕ) (i : ℕ) → Tw (read_element x i) (read_element x i)
  tw_read x i = λ s. read_by (slice_get (global_words s.globals x) i) s

  tw_old : (d : Destination) → IsOwnPlace d → Tw (old_value d) (old_value d)
  tw_old (ToVariable x) h = tw_variable x h
  tw_old (ToElement x i) h = tw_read x i

  pub tw_new : (op : Option BinaryOperator) (t t' u u' : Scalar) → t ≡ t' → u ≡ u' → (d : Destination) → IsOwnPlace d → (w : ℕ) → Tw (new_value op t u d w) (new_value op t' u' d w)
  tw_new None t t' u u' e f d h w = tw_give w
  tw_new (Some op) t t' u u' e f d h w =
      tw_then (old_value d) (old_value d) _ _ (tw_old d h) (λ old. tw_given_by op (binary_word op (working_type op t u) old w) (binary_word op (working_type op t' u') old w) (λ i. binary_word op (working_type op (e i) (f i)) old w))

  module _ (call called : Calls) (sees : SeesNone call called) (bs cs : List Binding) (alike : Alike bs cs) where
    mutual
      pub tw_evaluate : (e : Expr) → ExprIsOwn e → Tw (evaluate e bs call) (evaluate e cs called)
      tw_evaluate (Number t n) h = tw_give n
      tw_evaluate (Variable x) h = tw_variable x.text h
      tw_evaluate (Element x e) h = tw_then (evaluate e bs call) (evaluate e cs called) _ _ (tw_evaluate e h.1) (λ i. tw_read x.text i)
      tw_evaluate (Call f es) h = tw_then (evaluate_all es bs call) (evaluate_all es cs called) _ _ (tw_evaluate_all es h.1) (λ ws s. sees f.text ws s L M)
      tw_evaluate (Parenthesised e) h = tw_evaluate e h
      tw_evaluate (Unary op e) h = tw_then (evaluate e bs call) (evaluate e cs called) _ _ (tw_evaluate e h) (λ a. tw_give (unary_word op a))
      tw_evaluate (Cast t e) h = tw_evaluate e h
      tw_evaluate (Binary op left right) h =
          tw_then (evaluate left bs call) (evaluate left cs called) _ _ (tw_evaluate left h.0) (λ a. tw_unless (decided op a) _ _
          (tw_then (evaluate right bs call) (evaluate right cs called) _ _ (tw_evaluate right h.1)
          (λ b. tw_given_by op (binary_word op (working_type op (value_type bs left) (value_type bs right)) a b) (binary_word op (working_type op (value_type cs left) (value_type cs right)) a b)
          (λ i. binary_word op (working_type op (alike_types left bs cs alike h.0 i) (alike_types right bs cs alike h.1 i)) a b))))
      tw_evaluate (Conditional c a b) h =
          tw_then (evaluate c bs call) (evaluate c cs called) _ _ (tw_evaluate c h.0)
          (λ w. tw_choose w (evaluate a bs call) (evaluate b bs call) (evaluate a cs called) (evaluate b cs called) (tw_evaluate a h.1) (tw_evaluate b h.2))

      tw_evaluate_all : (es : Exprs) → ExprsAreOwn es → Tw (evaluate_all es bs call) (evaluate_all es cs called)
      tw_evaluate_all none h = tw_give []
      tw_evaluate_all (more e rest) h =
          tw_then (evaluate e bs call) (evaluate e cs called) _ _ (tw_evaluate e h.0)
          (λ w. tw_then (evaluate_all rest bs call) (evaluate_all rest cs called) _ _ (tw_evaluate_all rest h.1) (λ ws. tw_give (w ∷ ws)))

    pub tw_or : (w : ℕ) (e : Option Expr) → OptionalIsOwn e → Tw (evaluate_or w e bs call) (evaluate_or w e cs called)
    tw_or w None h = tw_give w
    tw_or w (Some e) h = tw_evaluate e h
