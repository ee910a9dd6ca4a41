-- Tests for what is lowered.
use Rattle.std.specs.Prelude.{ℕ, suc, ◌-◌, nat_lt, Bool, true, false, not, ◌&&◌, ◌||◌, is_some, List, [], ◌∷◌, Option, Some, None}
use Rattle.cc_ast.specs.Tree as tree
use Rattle.cc_ast.specs.Tree.{Name, Expr, Exprs, none, more, Number, Variable, Element, Call, Parenthesised, Unary, Cast, Binary, Conditional, Target, AtVariable, AtElement, Action, Assign, Step, Evaluate, Declarator, Beginning, Declares, Performs}
use Rattle.cc_wide.specs.WideTree.{WideStmt, Block, Local, Perform, Return, Break, Continue, If, IfElse, While, DoWhile, For, Switch, WideStmts, end, next, Sections, last, section, WideExternal, Declaration, Definition, Objects}
use Rattle.cc_wide.specs.Lowering.{is_reserved, Around, Outside, Loop, Caught, within, nesting_of_all}
use Rattle.cc_wide_text.specs.Forms.{label_of, wide_statements}

abbrev pub own_name : Name → Bool
own_name x = not (is_reserved x.text)

abbrev mutual
  pub own_expression : Expr → Bool
  own_expression (Number t n) = true
  own_expression (Variable x) = own_name x
  own_expression (Element x e) = own_name x && own_expression e
  own_expression (Call f es) = own_name f && own_expressions es
  own_expression (Parenthesised e) = own_expression e
  own_expression (Unary op e) = own_expression e
  own_expression (Cast t e) = own_expression e
  own_expression (Binary op a b) = own_expression a && own_expression b
  own_expression (Conditional c a b) = own_expression c && (own_expression a && own_expression b)

  pub own_expressions : Exprs → Bool
  own_expressions none = true
  own_expressions (more e rest) = own_expression e && own_expressions rest

abbrev pub own_optional : Option Expr → Bool
own_optional None = true
own_optional (Some e) = own_expression e

abbrev pub own_target : Target → Bool
own_target (AtVariable x) = own_name x
own_target (AtElement x e) = own_name x && own_expression e

abbrev pub own_action : Action → Bool
own_action (Assign op target e) = own_target target && own_expression e
own_action (Step op target) = own_target target
own_action (Evaluate e) = own_expression e

abbrev pub own_optional_action : Option Action → Bool
own_optional_action None = true
own_optional_action (Some a) = own_action a

abbrev pub own_declarators : List Declarator → Bool
own_declarators [] = true
own_declarators (d ∷ rest) = (own_name d.name && own_optional d.initial) && own_declarators rest

abbrev pub own_beginning : Beginning → Bool
own_beginning (Declares t ds) = own_declarators ds
own_beginning (Performs a) = own_optional_action a

abbrev pub may_continue : Around → Bool
may_continue Outside = false
may_continue Loop = true
may_continue (Caught c) = true

abbrev mutual
  pub lowers : (m : ℕ) → Around → (d : ℕ) → WideStmt → Bool
  lowers m a d (Block all) = all_lower m a d all
  lowers m a d (Local t ds) = own_declarators ds
  lowers m a d (Perform action) = own_optional_action action
  lowers m a d (Return at e) = own_optional e
  lowers m a d (Break at) = true
  lowers m a d (Continue at) = may_continue a
  lowers m a d (If c s) = own_expression c && lowers m a d s
  lowers m a d (IfElse c s r) = own_expression c && (lowers m a d s && lowers m a d r)
  lowers m a d (While c s) = own_expression c && lowers m Loop d s
  lowers m a d (DoWhile s c) = lowers m Loop d s && own_expression c
  lowers m a d (For first c behind s) = own_beginning first && (own_optional c && (own_optional_action behind && lowers m Loop d s))
  lowers m a d (Switch e all) = nat_lt d m && (own_expression e && sections_lower m (within a d) (suc d) all)

  pub all_lower : (m : ℕ) → Around → (d : ℕ) → WideStmts → Bool
  all_lower m a d end = true
  all_lower m a d (next first rest) = lowers m a d first && all_lower m a d rest

  pub sections_lower : (m : ℕ) → Around → (d : ℕ) → Sections → Bool
  sections_lower m a d last = true
  sections_lower m a d (section ls body rest) = all_lower m a d body && sections_lower m a d rest

-- the same of the statements that are no labels
abbrev pub unlabelled_lower : (m : ℕ) → Around → (d : ℕ) → WideStmts → Bool
unlabelled_lower m a d end = true
unlabelled_lower m a d (next s rest) = (is_some (label_of s) || lowers m a d s) && unlabelled_lower m a d rest

abbrev pub external_lowers : WideExternal → Bool
external_lowers (Declaration s) = true
external_lowers (Definition s body) = all_lower (nesting_of_all body) Outside 0 body
external_lowers (Objects t os) = true

abbrev pub unit_lowers : List WideExternal → Bool
unit_lowers [] = true
unit_lowers (e ∷ rest) = external_lowers e && unit_lowers rest

-- ---- of marked trees

-- of the `while` in a switch's mark, and of its block
abbrev pub block_lowers : (m : ℕ) → Around → (d : ℕ) → tree.Stmt → Bool
block_lowers m a d (tree.Block all) = unlabelled_lower m a d (wide_statements all)
block_lowers m a d s = false

abbrev pub switch_lowers : (m : ℕ) → Around → (d : ℕ) → tree.Stmt → Bool
switch_lowers m a d (tree.While e s) = nat_lt d m && (own_expression e && block_lowers m (within a d) (suc d) s)
switch_lowers m a d s = false

-- at most l switches are inside one another
abbrev mutual
  pub is_shallow : (l : ℕ) → WideStmt → Bool
  is_shallow l (Block all) = are_shallow l all
  is_shallow l (Local t ds) = true
  is_shallow l (Perform a) = true
  is_shallow l (Return at e) = true
  is_shallow l (Break at) = true
  is_shallow l (Continue at) = true
  is_shallow l (If c s) = is_shallow l s
  is_shallow l (IfElse c s r) = is_shallow l s && is_shallow l r
  is_shallow l (While c s) = is_shallow l s
  is_shallow l (DoWhile s c) = is_shallow l s
  is_shallow l (For first c behind s) = is_shallow l s
  is_shallow l (Switch e all) = nat_lt 0 l && sections_shallow (l - 1) all

  pub are_shallow : (l : ℕ) → WideStmts → Bool
  are_shallow l end = true
  are_shallow l (next first rest) = is_shallow l first && are_shallow l rest

  pub sections_shallow : (l : ℕ) → Sections → Bool
  sections_shallow l last = true
  sections_shallow l (section ls body rest) = are_shallow l body && sections_shallow l rest
