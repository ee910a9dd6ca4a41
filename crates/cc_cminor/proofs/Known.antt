-- What is known about the names of a body, over one layout. It is what the meaning's laws say about a typed unit's functions,
-- except for the numbers of arguments.
use Rattle.std.proofs.Common.{◌≡◌, ℕ, ◌<◌, List, [], ◌∷◌, length, Option, Some, None, slice_get, refl, sym, ◌∙◌, subst, arith}
use Rattle.std.proofs.lemmas.Option.{slice_get_within}
use Rattle.cc_tokens.specs.declared.scalar.Scalar.{Scalar}
use Rattle.cc_ast.specs.Tree as tree
use Rattle.cc_ast.specs.Tree.{Expr, Exprs, none, more, Number, Variable, Element, Parenthesised, Unary, Cast, Binary, Conditional, Target, AtVariable, AtElement, Action, Assign, Step, Evaluate, Declarator, Beginning, Declares, Performs, Stmt, Stmts, end, next, Block, Perform, Return, Break, Continue, If, IfElse, While, DoWhile, For}
use Rattle.cc_types.specs.Rules.{count_of}
use Rattle.cc_layout.specs.Layout.{Layout, object_number, extent_of, callee}
use Rattle.cc_layout.specs.Environment.{Environment, number_in, inner, with_local, with_locals, behind, behind_beginning}
use Rattle.cc_layout.specs.declared.layout.Callee.{Callee}
use Rattle.cc_layout.specs.declared.layout.Callee.TheVariants.{WriteWord, ReadWord, Defined}
use Rattle.cc_cminor.specs.internal.Lowering.{count}
use Rattle.cc_c_semantics.specs.Resolved as resolved

abbrev pub IsObject : Layout → List ℕ → Type 0
IsObject g x = (number : ℕ) × (object_number g.objects x ≡ Some number)

abbrev pub IsPlaced : Layout → Option ℕ → List ℕ → Type 0
IsPlaced g None x = IsObject g x × resolved.IsOneWord (extent_of g.objects x)
IsPlaced g (Some i) x = Unit {0}

abbrev pub IsVariable : Layout → Environment → List ℕ → Type 0
IsVariable g v x = IsPlaced g (number_in v.locals x) x

abbrev pub IsCalled : Layout → Callee → ℕ → Type 0
IsCalled g WriteWord n = n ≡ 1
IsCalled g ReadWord n = n ≡ 0
IsCalled g (Defined f) n = f < length g.functions

abbrev mutual
  pub Known : Layout → Environment → Expr → Type 0
  Known g v (Number t n) = Unit {0}
  Known g v (Variable x) = IsVariable g v x.text
  Known g v (Element x e) = IsObject g x.text × Known g v e
  Known g v (tree.Call f es) = IsCalled g (callee g f.text) (count es) × AllKnown g v es
  Known g v (Parenthesised e) = Known g v e
  Known g v (Unary op e) = Known g v e
  Known g v (Cast t e) = Known g v e
  Known g v (Binary op a b) = Known g v a × Known g v b
  Known g v (Conditional c a b) = Known g v c × Known g v a × Known g v b

  pub AllKnown : Layout → Environment → Exprs → Type 0
  AllKnown g v none = Unit {0}
  AllKnown g v (more e rest) = Known g v e × AllKnown g v rest

abbrev pub KnownOr : Layout → Environment → Option Expr → Type 0
KnownOr g v None = Unit {0}
KnownOr g v (Some e) = Known g v e

abbrev pub KnownTarget : Layout → Environment → Target → Type 0
KnownTarget g v (AtVariable x) = IsVariable g v x.text
KnownTarget g v (AtElement x e) = IsObject g x.text × Known g v e

abbrev pub KnownAction : Layout → Environment → Action → Type 0
KnownAction g v (Assign op target e) = KnownTarget g v target × Known g v e
KnownAction g v (Step op target) = KnownTarget g v target
KnownAction g v (Evaluate e) = Known g v e

abbrev pub KnownOptional : Layout → Environment → Option Action → Type 0
KnownOptional g v None = Unit {0}
KnownOptional g v (Some a) = KnownAction g v a

abbrev pub KnownDeclared : Layout → Scalar → List Declarator → Environment → Type 0
KnownDeclared g t [] v = Unit {0}
KnownDeclared g t (d ∷ rest) v = KnownOr g (with_local t d.name.text v) d.initial × KnownDeclared g t rest (with_local t d.name.text v)

abbrev pub KnownBeginning : Layout → Beginning → Environment → Type 0
KnownBeginning g (Declares t ds) v = KnownDeclared g t ds v
KnownBeginning g (Performs a) v = KnownOptional g v a

abbrev mutual
  pub KnownIn : Layout → Environment → Stmt → Type 0
  KnownIn g v (Block all) = AllKnownIn g (inner v) all
  KnownIn g v (tree.Local t ds) = KnownDeclared g t ds v
  KnownIn g v (Perform a) = KnownOptional g v a
  KnownIn g v (Return at e) = KnownOr g v e
  KnownIn g v (Break at) = Unit {0}
  KnownIn g v (Continue at) = Unit {0}
  KnownIn g v (If c a) = Known g v c × KnownIn g (inner v) a
  KnownIn g v (IfElse c a e) = Known g v c × KnownIn g (inner v) a × KnownIn g (inner v) e
  KnownIn g v (While c body) = Known g v c × KnownIn g (inner v) body
  KnownIn g v (DoWhile body c) = Known g v c × KnownIn g (inner v) body
  KnownIn g v (For first c step body) =
      KnownBeginning g first (inner v) × KnownOr g (behind_beginning first (inner v)) c × KnownOptional g (behind_beginning first (inner v)) step × KnownIn g (inner (behind_beginning first (inner v))) body

  pub AllKnownIn : Layout → Environment → Stmts → Type 0
  AllKnownIn g v end = Unit {0}
  AllKnownIn g v (next first rest) = KnownIn g v first × AllKnownIn g (behind first v) rest

-- ---- by the laws of the meaning

same_layout : (t : Scalar) (ds : List Declarator) (v : Environment) → (with_locals t ds v).layout ≡ v.layout
same_layout t [] v = refl
same_layout t (d ∷ rest) v = same_layout t rest (with_local t d.name.text v)

pub behind_layout : (st : Stmt) (v : Environment) → (behind st v).layout ≡ v.layout
behind_layout (tree.Local t ds) v = same_layout t ds v
behind_layout st v = refl

pub beginning_layout : (first : Beginning) (v : Environment) → (behind_beginning first v).layout ≡ v.layout
beginning_layout (Declares t ds) v = same_layout t ds v
beginning_layout (Performs a) v = refl

same_count : (es : Exprs) → count_of es ≡ count es
same_count none = refl
same_count (more e rest) = let h = same_count rest in omega arith

module _ (a : List ℕ) (g : Layout) (many : length a ≡ length g.functions) where
  placed_of : (o : Option ℕ) (v : Environment) (x : List ℕ) → v.layout ≡ g → resolved.IsPlaced o v x → IsPlaced g o x
  placed_of None v x e h = (subst (λ (g : Layout). IsObject g x) e h.0, subst (λ (g : Layout). resolved.IsOneWord (extent_of g.objects x)) e h.1)
  placed_of (Some i) v x e h = tt

  variable_of : (v : Environment) (x : List ℕ) → v.layout ≡ g → resolved.IsVariable v x → IsVariable g v x
  variable_of v x e h = placed_of (number_in v.locals x) v x e h

  object_of : (v : Environment) (x : List ℕ) → v.layout ≡ g → resolved.IsObject v x → IsObject g x
  object_of v x e h = subst (λ (g : Layout). IsObject g x) e h

  called_of : (c : Callee) (n : ℕ) → resolved.IsCalled a c n → IsCalled g c n
  called_of WriteWord n h = h
  called_of ReadWord n h = h
  called_of (Defined f) n h = let lt = slice_get_within a f n h in omega arith

  call_of : (v : Environment) (x : List ℕ) (n : ℕ) → v.layout ≡ g → resolved.IsCalled a (callee v.layout x) n → IsCalled g (callee g x) n
  call_of v x n e h = called_of (callee g x) n (subst (λ (g : Layout). resolved.IsCalled a (callee g x) n) e h)

  mutual
    pub known_of : (e : Expr) (v : Environment) → v.layout ≡ g → resolved.ExprResolved a v e → Known g v e
    known_of (Number t n) v e h = tt
    known_of (Variable x) v e h = variable_of v x.text e h
    known_of (Element x i) v e h = (object_of v x.text e h.0, known_of i v e h.1)
    known_of (tree.Call f es) v e h = (subst (IsCalled g (callee g f.text)) (same_count es) (call_of v f.text (count_of es) e h.0), all_known_of es v e h.1)
    known_of (Parenthesised i) v e h = known_of i v e h
    known_of (Unary op i) v e h = known_of i v e h
    known_of (Cast t i) v e h = known_of i v e h
    known_of (Binary op l r) v e h = (known_of l v e h.0, known_of r v e h.1)
    known_of (Conditional c l r) v e h = (known_of c v e h.0, known_of l v e h.1, known_of r v e h.2)

    all_known_of : (es : Exprs) (v : Environment) → v.layout ≡ g → resolved.ExprsResolved a v es → AllKnown g v es
    all_known_of none v e h = tt
    all_known_of (more i rest) v e h = (known_of i v e h.0, all_known_of rest v e h.1)

  or_of : (o : Option Expr) (v : Environment) → v.layout ≡ g → resolved.OptionalResolved a v o → KnownOr g v o
  or_of None v e h = tt
  or_of (Some i) v e h = known_of i v e h

  target_of : (t : Target) (v : Environment) → v.layout ≡ g → resolved.TargetResolved a v t → KnownTarget g v t
  target_of (AtVariable x) v e h = variable_of v x.text e h
  target_of (AtElement x i) v e h = (object_of v x.text e h.0, known_of i v e h.1)

  action_of : (x : Action) (v : Environment) → v.layout ≡ g → resolved.ActionResolved a v x → KnownAction g v x
  action_of (Assign op t i) v e h = (target_of t v e h.0, known_of i v e h.1)
  action_of (Step op t) v e h = target_of t v e h
  action_of (Evaluate i) v e h = known_of i v e h

  optional_of : (x : Option Action) (v : Environment) → v.layout ≡ g → resolved.OptionalActionResolved a v x → KnownOptional g v x
  optional_of None v e h = tt
  optional_of (Some x) v e h = action_of x v e h

  declared_of : (t : Scalar) (ds : List Declarator) (v : Environment) → v.layout ≡ g → resolved.DeclaratorsResolved a t ds v → KnownDeclared g t ds v
  declared_of t [] v e h = tt
  declared_of t (d ∷ rest) v e h = (or_of d.initial (with_local t d.name.text v) e h.0, declared_of t rest (with_local t d.name.text v) e h.1)

  beginning_of : (first : Beginning) (v : Environment) → v.layout ≡ g → resolved.BeginningResolved a first v → KnownBeginning g first v
  beginning_of (Declares t ds) v e h = declared_of t ds v e h
  beginning_of (Performs x) v e h = optional_of x v e h

  mutual
    known_in : (st : Stmt) (v : Environment) → v.layout ≡ g → resolved.StmtResolved a v st → KnownIn g v st
    known_in (Block all) v e h = all_known_in all (inner v) e h
    known_in (tree.Local t ds) v e h = declared_of t ds v e h
    known_in (Perform x) v e h = optional_of x v e h
    known_in (Return at i) v e h = or_of i v e h
    known_in (Break at) v e h = tt
    known_in (Continue at) v e h = tt
    known_in (If c s) v e h = (known_of c v e h.0, known_in s (inner v) e h.1)
    known_in (IfElse c s r) v e h = (known_of c v e h.0, known_in s (inner v) e h.1, known_in r (inner v) e h.2)
    known_in (While c s) v e h = (known_of c v e h.0, known_in s (inner v) e h.1)
    known_in (DoWhile s c) v e h = (known_of c v e h.0, known_in s (inner v) e h.1)
    known_in (For first c step s) v e h =
        let w : Environment = behind_beginning first (inner v) in
        let f : w.layout ≡ g = beginning_layout first (inner v) ∙ e in
        (beginning_of first (inner v) e h.0, or_of c w f h.1, optional_of step w f h.2, known_in s (inner w) f h.3)

    pub all_known_in : (ss : Stmts) (v : Environment) → v.layout ≡ g → resolved.StmtsResolved a v ss → AllKnownIn g v ss
    all_known_in end v e h = tt
    all_known_in (next first rest) v e h = (known_in first v e h.0, all_known_in rest (behind first v) (behind_layout first v ∙ e) h.1)
