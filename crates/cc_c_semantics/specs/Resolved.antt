-- What the names in the bodies of a typed unit refer to: a variable that is read or assigned is a local in scope or an object of
-- one word; a name that is indexed is an object; and a call is a call of a builtin or of a function of the unit, with as many
-- arguments as that has parameters.
use Rattle.std.specs.Prelude.{◌≡◌, ℕ, ◌<◌, List, [], ◌∷◌, length, map, Option, Some, None, slice_get}
use Rattle.cc_simulation.specs.operators.Width.TheVariants.{Word}
use Rattle.cc_ast.specs.scalar.Scalar.{Scalar}
use Rattle.cc_ast.specs.Tree as tree
use Rattle.cc_ast.specs.Tree.{Expr, Exprs, none, more, Number, Variable, Element, Parenthesised, Unary, Cast, Binary, Conditional, Target, AtVariable, AtElement, Action, Assign, Step, Evaluate, Declarator, Beginning, Declares, Performs, Stmt, Stmts, end, next, Block, Perform, Return, Break, Continue, If, IfElse, While, DoWhile, For, Parameter, Signature, External, Definition}
use Rattle.cc_types.specs.Rules.{count_of}
use Rattle.cc_types.specs.Typed.{IsTyped, definitions}
use Rattle.cc_layout.specs.Layout.{object_number, extent_of, layout_of, callee}
use Rattle.cc_layout.specs.declared.layout.Extent.{Extent}
use Rattle.cc_layout.specs.declared.layout.Callee.{Callee}
use Rattle.cc_layout.specs.declared.layout.Callee.TheVariants.{WriteWord, ReadWord, Defined}
use Rattle.cc_layout.specs.Environment.{Environment, number_in, inner, with_local, behind, behind_beginning, parameter_names, environments}
use Rattle.cc_c_semantics.specs.Meaning.{Function, text_of, functions}

-- how many parameters each function has, in the order of definitions
abbrev pub arities : List External → List ℕ
arities unit = map (λ (g : Function). length g.parameters) (functions unit)

-- ---- names

-- a name at file scope is the name of an object
abbrev pub IsObject : Environment → List ℕ → Type 0
IsObject v x = (number : ℕ) × (object_number v.layout.objects x ≡ Some number)

-- an object of one word
abbrev pub IsOneWord : Extent → Type 0
IsOneWord e = (e.length ≡ 1) × (e.width ≡ Word)

-- a variable is a local in scope, or else an object of one word
abbrev pub IsPlaced : Option ℕ → Environment → List ℕ → Type 0
IsPlaced None v x = IsObject v x × IsOneWord (extent_of v.layout.objects x)
IsPlaced (Some number) v x = Unit {0}

abbrev pub IsVariable : Environment → List ℕ → Type 0
IsVariable v x = IsPlaced (number_in v.locals x) v x

-- this number of arguments is right for a builtin, or for a function of the unit, given how many parameters each function has
abbrev pub IsCalled : (arities : List ℕ) → Callee → (count : ℕ) → Type 0
IsCalled arities WriteWord count = count ≡ 1
IsCalled arities ReadWord count = count ≡ 0
IsCalled arities (Defined f) count = slice_get arities f ≡ Some count

-- ---- each name in an expression, an action, a statement

abbrev mutual
  pub ExprResolved : List ℕ → Environment → Expr → Type 0
  ExprResolved arities v (Number t n) = Unit {0}
  ExprResolved arities v (Variable x) = IsVariable v x.text
  ExprResolved arities v (Element x e) = IsObject v x.text × ExprResolved arities v e
  ExprResolved arities v (tree.Call f es) = IsCalled arities (callee v.layout f.text) (count_of es) × ExprsResolved arities v es
  ExprResolved arities v (Parenthesised e) = ExprResolved arities v e
  ExprResolved arities v (Unary op e) = ExprResolved arities v e
  ExprResolved arities v (Cast t e) = ExprResolved arities v e
  ExprResolved arities v (Binary op a b) = ExprResolved arities v a × ExprResolved arities v b
  ExprResolved arities v (Conditional c a b) = ExprResolved arities v c × ExprResolved arities v a × ExprResolved arities v b

  pub ExprsResolved : List ℕ → Environment → Exprs → Type 0
  ExprsResolved arities v none = Unit {0}
  ExprsResolved arities v (more e rest) = ExprResolved arities v e × ExprsResolved arities v rest

abbrev pub OptionalResolved : List ℕ → Environment → Option Expr → Type 0
OptionalResolved arities v None = Unit {0}
OptionalResolved arities v (Some e) = ExprResolved arities v e

abbrev pub TargetResolved : List ℕ → Environment → Target → Type 0
TargetResolved arities v (AtVariable x) = IsVariable v x.text
TargetResolved arities v (AtElement x e) = IsObject v x.text × ExprResolved arities v e

abbrev pub ActionResolved : List ℕ → Environment → Action → Type 0
ActionResolved arities v (Assign op t e) = TargetResolved arities v t × ExprResolved arities v e
ActionResolved arities v (Step op t) = TargetResolved arities v t
ActionResolved arities v (Evaluate e) = ExprResolved arities v e

abbrev pub OptionalActionResolved : List ℕ → Environment → Option Action → Type 0
OptionalActionResolved arities v None = Unit {0}
OptionalActionResolved arities v (Some a) = ActionResolved arities v a

-- declared locals, each in scope in its own initialiser
abbrev pub DeclaratorsResolved : List ℕ → Scalar → List Declarator → Environment → Type 0
DeclaratorsResolved arities t [] v = Unit {0}
DeclaratorsResolved arities t (d ∷ rest) v =
    OptionalResolved arities (with_local t d.name.text v) d.initial × DeclaratorsResolved arities t rest (with_local t d.name.text v)

-- the first part of a `for` header
abbrev pub BeginningResolved : List ℕ → Beginning → Environment → Type 0
BeginningResolved arities (Declares t ds) v = DeclaratorsResolved arities t ds v
BeginningResolved arities (Performs a) v = OptionalActionResolved arities v a

abbrev mutual
  pub StmtResolved : List ℕ → Environment → Stmt → Type 0
  StmtResolved arities v (Block all) = StmtsResolved arities (inner v) all
  StmtResolved arities v (tree.Local t ds) = DeclaratorsResolved arities t ds v
  StmtResolved arities v (Perform a) = OptionalActionResolved arities v a
  StmtResolved arities v (Return at e) = OptionalResolved arities v e
  StmtResolved arities v (Break at) = Unit {0}
  StmtResolved arities v (Continue at) = Unit {0}
  StmtResolved arities v (If c s) = ExprResolved arities v c × StmtResolved arities (inner v) s
  StmtResolved arities v (IfElse c s r) = ExprResolved arities v c × StmtResolved arities (inner v) s × StmtResolved arities (inner v) r
  StmtResolved arities v (While c s) = ExprResolved arities v c × StmtResolved arities (inner v) s
  StmtResolved arities v (DoWhile s c) = ExprResolved arities v c × StmtResolved arities (inner v) s
  StmtResolved arities v (For first c step s) =
      BeginningResolved arities first (inner v)
      × OptionalResolved arities (behind_beginning first (inner v)) c
      × OptionalActionResolved arities (behind_beginning first (inner v)) step
      × StmtResolved arities (inner (behind_beginning first (inner v))) s

  pub StmtsResolved : List ℕ → Environment → Stmts → Type 0
  StmtsResolved arities v end = Unit {0}
  StmtsResolved arities v (next first rest) = StmtResolved arities v first × StmtsResolved arities (behind first v) rest

-- ---- functions

-- function f of a unit: its definition, the environment in which its body begins, and the fact that each name of the body is resolved
pub record IsResolved (unit : List External) (f : ℕ) : Type 0 where
  pub signature : Signature
  pub body : Stmts
  pub environment : Environment
  pub definition : slice_get (definitions unit) f ≡ Some (Definition signature body)
  pub begins : slice_get (environments unit) f ≡ Some environment
  pub locals : environment.locals ≡ parameter_names signature.parameters []
  pub layout : environment.layout ≡ layout_of unit
  -- the function as the meaning defines it
  pub function : slice_get (functions unit) f
      ≡ Some (record { name = signature.name.text; parameters = map (λ (p : Parameter). text_of p.name) signature.parameters; body = body; visible = environment.visible })
  pub resolved : StmtsResolved (arities unit) environment body

-- in a typed unit each function is resolved
abbrev pub FunctionsAreResolved : Type 0
FunctionsAreResolved = (unit : List External) → IsTyped unit → (f : ℕ) → f < length (functions unit) → IsResolved unit f
