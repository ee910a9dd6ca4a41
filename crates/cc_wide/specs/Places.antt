-- A tree without the places of its names and keywords. What a program does depends on no place.
use Rattle.std.specs.Prelude.{◌≡◌, ℕ, List, map, Option, option_map}
use Rattle.cc_ast.specs.Tree.{Name, Expr, Exprs, none, more, Number, Variable, Element, Call, Parenthesised, Unary, Cast, Binary, Conditional, Target, AtVariable, AtElement, Action, Assign, Step, Evaluate, Declarator, Beginning, Declares, Performs, Stmt, Stmts, end, next, Block, Local, Perform, Return, Break, Continue, If, IfElse, While, DoWhile, For, ConstantExpr, Parameter, Signature, Object, Single, Array, Bytes, External, Declaration, Definition, Objects}
use Rattle.cc_c_semantics.specs.Meaning.{observed_behavior}

abbrev pub name_only : Name → Name
name_only x = record { text = x.text; at = 0 }

-- an expression; parentheses go too, since the tree shows what they group
abbrev mutual
  pub bare : Expr → Expr
  bare (Number t n) = Number t n
  bare (Variable x) = Variable (name_only x)
  bare (Element x e) = Element (name_only x) (bare e)
  bare (Call f es) = Call (name_only f) (all_bare es)
  bare (Parenthesised e) = bare e
  bare (Unary op e) = Unary op (bare e)
  bare (Cast t e) = Cast t (bare e)
  bare (Binary op a b) = Binary op (bare a) (bare b)
  bare (Conditional c a b) = Conditional (bare c) (bare a) (bare b)

  pub all_bare : Exprs → Exprs
  all_bare none = none
  all_bare (more e rest) = more (bare e) (all_bare rest)

abbrev pub bare_optional : Option Expr → Option Expr
bare_optional e = option_map bare e

abbrev pub bare_target : Target → Target
bare_target (AtVariable x) = AtVariable (name_only x)
bare_target (AtElement x e) = AtElement (name_only x) (bare e)

abbrev pub bare_action : Action → Action
bare_action (Assign op target e) = Assign op (bare_target target) (bare e)
bare_action (Step op target) = Step op (bare_target target)
bare_action (Evaluate e) = Evaluate (bare e)

abbrev pub bare_declarators : List Declarator → List Declarator
bare_declarators ds = map (λ (d : Declarator). record { name = name_only d.name; initial = bare_optional d.initial }) ds

abbrev pub bare_beginning : Beginning → Beginning
bare_beginning (Declares t ds) = Declares t (bare_declarators ds)
bare_beginning (Performs a) = Performs (option_map bare_action a)

abbrev mutual
  pub bare_statement : Stmt → Stmt
  bare_statement (Block all) = Block (bare_statements all)
  bare_statement (Local t ds) = Local t (bare_declarators ds)
  bare_statement (Perform a) = Perform (option_map bare_action a)
  bare_statement (Return at e) = Return 0 (bare_optional e)
  bare_statement (Break at) = Break 0
  bare_statement (Continue at) = Continue 0
  bare_statement (If c s) = If (bare c) (bare_statement s)
  bare_statement (IfElse c s r) = IfElse (bare c) (bare_statement s) (bare_statement r)
  bare_statement (While c s) = While (bare c) (bare_statement s)
  bare_statement (DoWhile s c) = DoWhile (bare_statement s) (bare c)
  bare_statement (For first c behind s) = For (bare_beginning first) (bare_optional c) (option_map bare_action behind) (bare_statement s)

  pub bare_statements : Stmts → Stmts
  bare_statements end = end
  bare_statements (next first rest) = next (bare_statement first) (bare_statements rest)

abbrev pub bare_constant : ConstantExpr → ConstantExpr
bare_constant c = record { at = 0; expr = bare c.expr }

abbrev pub bare_signature : Signature → Signature
bare_signature s =
    record { result = s.result; name = name_only s.name; parameters = map (λ (p : Parameter). record { scalar = p.scalar; name = option_map name_only p.name }) s.parameters }

abbrev pub bare_object : Object → Object
bare_object (Single x e) = Single (name_only x) (option_map bare_constant e)
bare_object (Array x n es) = Array (name_only x) (option_map bare_constant n) (map bare_constant es)
bare_object (Bytes x n es) = Bytes (name_only x) (option_map bare_constant n) (map bare_constant es)

abbrev pub bare_external : External → External
bare_external (Declaration s) = Declaration (bare_signature s)
bare_external (Definition s body) = Definition (bare_signature s) (bare_statements body)
bare_external (Objects t os) = Objects t (map bare_object os)

-- two units that differ in places and parentheses alone
abbrev pub AreAlike : List External → List External → Type 0
AreAlike a b = map bare_external a ≡ map bare_external b

-- they do the same
abbrev pub PlacesMeanNothing : Type 0
PlacesMeanNothing = (text other : List ℕ) (a b : List External) → AreAlike a b → (input : List ℕ) (n : ℕ)
    → observed_behavior (record { text = text; externals = a }) input n ≡ observed_behavior (record { text = other; externals = b }) input n
