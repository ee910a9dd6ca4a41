-- The program of wide C that a marked tree of C is: each `while ( __switch ) while ( e ) { .. }` is a `switch`, and in its block each
-- `__case = c ;` and `__default ;` is a label.
use Rattle.std.specs.Prelude.{ℕ, Bool, true, false, if◌then◌else◌, List, [], ◌∷◌, map, Option, Some, None}
use Rattle.cc_ast.specs.declared.ast.AssignmentOperator.{AssignmentOperator}
use Rattle.cc_ast.specs.declared.ast.AssignmentOperator.TheVariants as assignment
use Rattle.cc_ast.specs.Tree as tree
use Rattle.cc_ast.specs.Tree.{Name, Expr, Number, Variable, Element, Call, Parenthesised, Unary, Cast, Binary, Conditional, Target, AtVariable, AtElement, Action, Assign, Step, Evaluate, Stmt, Stmts, External}
use Rattle.cc_types.specs.Names.{same_name}
use Rattle.cc_wide.specs.WideTree as wide
use Rattle.cc_wide.specs.WideTree.{Label, Case, Default, WideStmt, Block, Local, Perform, Return, Break, Continue, If, IfElse, While, DoWhile, For, Switch, WideStmts, end, next, Sections, last, section, WideExternal}
use Rattle.cc_wide_text.specs.Marks.{switch_mark, case_mark, default_mark}

-- ---- marks

-- the expression is this name
abbrev pub is_name : List ℕ → Expr → Bool
is_name mark (Variable x) = same_name x.text mark
is_name mark (Number t n) = false
is_name mark (Element x e) = false
is_name mark (Call f es) = false
is_name mark (Parenthesised e) = false
is_name mark (Unary op e) = false
is_name mark (Cast t e) = false
is_name mark (Binary op a b) = false
is_name mark (Conditional c a b) = false

-- the label that an assignment to a variable is, or an expression whose value is not used
abbrev pub case_of : AssignmentOperator → Target → Expr → Option Label
case_of assignment.Plain (AtVariable x) e = if same_name x.text case_mark then Some (Case (record { at = x.at; expr = e })) else None
case_of op t e = None

abbrev pub label_of_action : Action → Option Label
label_of_action (Assign op t e) = case_of op t e
label_of_action (Step op t) = None
label_of_action (Evaluate e) = if is_name default_mark e then Some Default else None

-- the label that a statement is
abbrev pub label_of : WideStmt → Option Label
label_of (Perform (Some a)) = label_of_action a
label_of s = None

-- ---- the sections of a switch

-- the statements up to the first label, and the sections from there on
pub record Parts : Type 0 where
  pub front : WideStmts
  pub sections : Sections

-- a label and what follows it: another label of the same section, or the section's statements
abbrev pub with_label : Label → WideStmts → Sections → Sections
with_label l end (section ls body rest) = section (l ∷ ls) body rest
with_label l end last = section (l ∷ []) end last
with_label l (next s ss) all = section (l ∷ []) (next s ss) all

abbrev pub with_statement : Option Label → WideStmt → Parts → Parts
with_statement (Some l) s p = record { front = end; sections = with_label l p.front p.sections }
with_statement None s p = record p { front = next s p.front }

abbrev pub parts_of : WideStmts → Parts
parts_of end = record { front = end; sections = last }
parts_of (next s rest) = with_statement (label_of s) s (parts_of rest)

-- ---- statements

-- a marked `while`: no statement of its block precedes the first label
abbrev pub switch_of : Expr → Expr → WideStmts → (front : WideStmts) → Sections → WideStmt
switch_of c e all end sections = Switch e sections
switch_of c e all (next s ss) sections = While c (While e (Block all))

abbrev pub marked_while : Expr → WideStmt → WideStmt
marked_while c (While e (Block all)) = switch_of c e all (parts_of all).front (parts_of all).sections
marked_while c s = While c s

abbrev pub while_of : Bool → Expr → WideStmt → WideStmt
while_of true c s = marked_while c s
while_of false c s = While c s

abbrev mutual
  pub wide_statement : Stmt → WideStmt
  wide_statement (tree.Block all) = Block (wide_statements all)
  wide_statement (tree.Local t ds) = Local t ds
  wide_statement (tree.Perform a) = Perform a
  wide_statement (tree.Return at e) = Return at e
  wide_statement (tree.Break at) = Break at
  wide_statement (tree.Continue at) = Continue at
  wide_statement (tree.If c s) = If c (wide_statement s)
  wide_statement (tree.IfElse c s r) = IfElse c (wide_statement s) (wide_statement r)
  wide_statement (tree.While c s) = while_of (is_name switch_mark c) c (wide_statement s)
  wide_statement (tree.DoWhile s c) = DoWhile (wide_statement s) c
  wide_statement (tree.For first c behind s) = For first c behind (wide_statement s)

  pub wide_statements : Stmts → WideStmts
  wide_statements tree.end = end
  wide_statements (tree.next s rest) = next (wide_statement s) (wide_statements rest)

-- ---- a unit

abbrev pub wide_external : External → WideExternal
wide_external (tree.Declaration s) = wide.Declaration s
wide_external (tree.Definition s body) = wide.Definition s (wide_statements body)
wide_external (tree.Objects t os) = wide.Objects t os

abbrev pub wide_unit : List External → List WideExternal
wide_unit es = map wide_external es
