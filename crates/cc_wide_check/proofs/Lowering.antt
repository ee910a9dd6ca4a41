-- The tests of what is lowered hold exactly of that.
use Rattle.std.proofs.Common.{◌≡◌, ℕ, suc, nat_lt, Bool, true, false, not, ◌&&◌, ◌||◌, is_some, List, [], ◌∷◌, Option, Some, None, refl, ap, ◌∙◌, sym}
use Rattle.std.specs.Bool.{Decides}
use Rattle.std.proofs.lemmas.Bool.{and_parts, and_from, false≢true, not-true}
use Rattle.std.proofs.lemmas.Bool.Decides.{Decides-and, Decides-ltb}
use Rattle.cc_ast.specs.Tree as tree
use Rattle.cc_ast.specs.Tree.{Name, Expr, Exprs, none, more, Number, Variable, Element, Call, Parenthesised, Unary, Cast, Binary, Conditional, Target, AtVariable, AtElement, Action, Assign, Step, Evaluate, Declarator, Beginning, Declares, Performs, Stmt, Stmts}
use Rattle.cc_wide.specs.WideTree.{Label, WideStmt, Block, Local, Perform, Return, Break, Continue, If, IfElse, While, DoWhile, For, Switch, WideStmts, end, next, Sections, last, section, WideExternal, Declaration, Definition, Objects}
use Rattle.cc_wide.specs.Lowering.{is_reserved, Around, Outside, Loop, Caught, within, IsOwn, ExprIsOwn, ExprsAreOwn, OptionalIsOwn, TargetIsOwn, ActionIsOwn, OptionalActionIsOwn, DeclaratorsAreOwn, BeginningIsOwn, MayContinue, Lowers, AllLower, SectionsLower, UnitLowers, nesting_of_all}
use Rattle.cc_wide_text.specs.Marks.{switch_mark}
use Rattle.cc_wide_text.specs.Forms.{is_name, label_of, Parts, with_label, with_statement, parts_of, wide_statement, wide_statements}
use Rattle.cc_wide_check.specs.internal.Switches.{begins, begins_while, is_switch}
use Rattle.cc_wide_check.specs.internal.Lowers.{own_name, own_expression, own_expressions, own_optional, own_target, own_action, own_optional_action, own_declarators, own_beginning, may_continue, lowers, all_lower, sections_lower, unlabelled_lower, switch_lowers, unit_lowers}
use Rattle.cc_wide_check.proofs.Switches.{switch-is, entered}

-- ---- three and four tests

pub three : {P Q R : Type 0} → (x y z : Bool) → Decides x P → Decides y Q → Decides z R → Decides (x && (y && z)) (P × Q × R)
three x y z p q r =
    (λ h. let s = and_parts x (y && z) h in let t = and_parts y z s.1 in (p.0 s.0, q.0 t.0, r.0 t.1), λ h. and_from x (y && z) (p.1 h.0) (and_from y z (q.1 h.1) (r.1 h.2)))

four : {P Q R S : Type 0} → (x y z w : Bool) → Decides x P → Decides y Q → Decides z R → Decides w S → Decides (x && (y && (z && w))) (P × Q × R × S)
four x y z w p q r o = (
  λ h.
      let s = and_parts x (y && (z && w)) h in let t = and_parts y (z && w) s.1 in let u = and_parts z w t.1 in (p.0 s.0, q.0 t.0, r.0 u.0, o.0 u.1),
  λ h. and_from x (y && (z && w)) (p.1 h.0) (and_from y (z && w) (q.1 h.1) (and_from z w (r.1 h.2) (o.1 h.3))),
)

pub always : Decides true (Unit {0})
always = (λ h. tt, λ h. refl)

-- ---- names

name-own : (x : Name) → Decides (own_name x) (IsOwn x)
name-own x = (λ h. not-true (is_reserved x.text) h, λ h. ap not h)

mutual
  expression-own : (e : Expr) → Decides (own_expression e) (ExprIsOwn e)
  expression-own (Number t n) = always
  expression-own (Variable x) = name-own x
  expression-own (Element x e) = Decides-and (own_name x) (own_expression e) (name-own x) (expression-own e)
  expression-own (Call f es) = Decides-and (own_name f) (own_expressions es) (name-own f) (expressions-own es)
  expression-own (Parenthesised e) = expression-own e
  expression-own (Unary op e) = expression-own e
  expression-own (Cast t e) = expression-own e
  expression-own (Binary op a b) = Decides-and (own_expression a) (own_expression b) (expression-own a) (expression-own b)
  expression-own (Conditional c a b) = three (own_expression c) (own_expression a) (own_expression b) (expression-own c) (expression-own a) (expression-own b)

  expressions-own : (es : Exprs) → Decides (own_expressions es) (ExprsAreOwn es)
  expressions-own none = always
  expressions-own (more e rest) = Decides-and (own_expression e) (own_expressions rest) (expression-own e) (expressions-own rest)

optional-own : (e : Option Expr) → Decides (own_optional e) (OptionalIsOwn e)
optional-own None = always
optional-own (Some e) = expression-own e

target-own : (t : Target) → Decides (own_target t) (TargetIsOwn t)
target-own (AtVariable x) = name-own x
target-own (AtElement x e) = Decides-and (own_name x) (own_expression e) (name-own x) (expression-own e)

action-own : (a : Action) → Decides (own_action a) (ActionIsOwn a)
action-own (Assign op t e) = Decides-and (own_target t) (own_expression e) (target-own t) (expression-own e)
action-own (Step op t) = target-own t
action-own (Evaluate e) = expression-own e

optional_action-own : (a : Option Action) → Decides (own_optional_action a) (OptionalActionIsOwn a)
optional_action-own None = always
optional_action-own (Some a) = action-own a

declarators-own : (ds : List Declarator) → Decides (own_declarators ds) (DeclaratorsAreOwn ds)
declarators-own [] = always
declarators-own (d ∷ rest) =
    let n = name-own d.name in
    let i = optional-own d.initial in
    let r = declarators-own rest in (
      λ h.
          let p = and_parts (own_name d.name && own_optional d.initial) (own_declarators rest) h in
          let q = and_parts (own_name d.name) (own_optional d.initial) p.0 in
          (n.0 q.0, i.0 q.1, r.0 p.1),
      λ h.
          and_from (own_name d.name && own_optional d.initial) (own_declarators rest) (and_from (own_name d.name) (own_optional d.initial) (n.1 h.0) (i.1 h.1)) (r.1 h.2),
    )

beginning-own : (b : Beginning) → Decides (own_beginning b) (BeginningIsOwn b)
beginning-own (Declares t ds) = declarators-own ds
beginning-own (Performs a) = optional_action-own a

-- ---- statements

continue-may : (a : Around) → Decides (may_continue a) (MayContinue a)
continue-may Outside = (λ h. absurd (false≢true h), λ h. absurd h)
continue-may Loop = always
continue-may (Caught c) = always

mutual
  statement-lowers : (m : ℕ) (a : Around) (d : ℕ) (s : WideStmt) → Decides (lowers m a d s) (Lowers m a d s)
  statement-lowers m a d (Block all) = statements-lower m a d all
  statement-lowers m a d (Local t ds) = declarators-own ds
  statement-lowers m a d (Perform action) = optional_action-own action
  statement-lowers m a d (Return at e) = optional-own e
  statement-lowers m a d (Break at) = always
  statement-lowers m a d (Continue at) = continue-may a
  statement-lowers m a d (If c s) = Decides-and (own_expression c) (lowers m a d s) (expression-own c) (statement-lowers m a d s)
  statement-lowers m a d (IfElse c s r) =
      three (own_expression c) (lowers m a d s) (lowers m a d r) (expression-own c) (statement-lowers m a d s) (statement-lowers m a d r)
  statement-lowers m a d (While c s) = Decides-and (own_expression c) (lowers m Loop d s) (expression-own c) (statement-lowers m Loop d s)
  statement-lowers m a d (DoWhile s c) = Decides-and (lowers m Loop d s) (own_expression c) (statement-lowers m Loop d s) (expression-own c)
  statement-lowers m a d (For first c behind s) =
      four (own_beginning first) (own_optional c) (own_optional_action behind) (lowers m Loop d s) (beginning-own first) (optional-own c) (optional_action-own behind)
      (statement-lowers m Loop d s)
  statement-lowers m a d (Switch e all) =
      three (nat_lt d m) (own_expression e) (sections_lower m (within a d) (suc d) all) (Decides-ltb d m) (expression-own e) (sections-lower m (within a d) (suc d) all)

  pub statements-lower : (m : ℕ) (a : Around) (d : ℕ) (all : WideStmts) → Decides (all_lower m a d all) (AllLower m a d all)
  statements-lower m a d end = always
  statements-lower m a d (next first rest) =
      Decides-and (lowers m a d first) (all_lower m a d rest) (statement-lowers m a d first) (statements-lower m a d rest)

  sections-lower : (m : ℕ) (a : Around) (d : ℕ) (all : Sections) → Decides (sections_lower m a d all) (SectionsLower m a d all)
  sections-lower m a d last = always
  sections-lower m a d (section ls body rest) =
      Decides-and (all_lower m a d body) (sections_lower m a d rest) (statements-lower m a d body) (sections-lower m a d rest)

pub unit-lowers : (unit : List WideExternal) → Decides (unit_lowers unit) (UnitLowers unit)
unit-lowers [] = always
unit-lowers (Declaration s ∷ rest) = unit-lowers rest
unit-lowers (Definition s body ∷ rest) =
    Decides-and (all_lower (nesting_of_all body) Outside 0 body) (unit_lowers rest) (statements-lower (nesting_of_all body) Outside 0 body) (unit-lowers rest)
unit-lowers (Objects t os ∷ rest) = unit-lowers rest

-- ---- the statements of a marked block

and_assoc : (x y z : Bool) → ((x && y) && z) ≡ (x && (y && z))
and_assoc true y z = refl
and_assoc false y z = refl

label-lower : (m : ℕ) (a : Around) (d : ℕ) (l : Label) (front : WideStmts) (all : Sections)
    → sections_lower m a d (with_label l front all) ≡ (all_lower m a d front && sections_lower m a d all)
label-lower m a d l end (section ls body rest) = refl
label-lower m a d l end last = refl
label-lower m a d l (next s ss) all = refl

step-lower : (m : ℕ) (a : Around) (d : ℕ) (o : Option Label) (s : WideStmt) (p : Parts)
    → (all_lower m a d (with_statement o s p).front && sections_lower m a d (with_statement o s p).sections)
    ≡ ((is_some o || lowers m a d s) && (all_lower m a d p.front && sections_lower m a d p.sections))
step-lower m a d None s p = and_assoc (lowers m a d s) (all_lower m a d p.front) (sections_lower m a d p.sections)
step-lower m a d (Some l) s p = label-lower m a d l p.front p.sections

parts-lower : (m : ℕ) (a : Around) (d : ℕ) (ws : WideStmts)
    → (all_lower m a d (parts_of ws).front && sections_lower m a d (parts_of ws).sections) ≡ unlabelled_lower m a d ws
parts-lower m a d end = refl
parts-lower m a d (next s rest) =
    step-lower m a d (label_of s) s (parts_of rest) ∙ ap (λ b. (is_some (label_of s) || lowers m a d s) && b) (parts-lower m a d rest)

block-lowers : (m : ℕ) (a : Around) (d : ℕ) (ws : Stmts) → begins ws ≡ true
    → sections_lower m a d (parts_of (wide_statements ws)).sections ≡ unlabelled_lower m a d (wide_statements ws)
block-lowers m a d ws h =
    sym (ap (λ f. all_lower m a d f && sections_lower m a d (parts_of (wide_statements ws)).sections) (entered ws h)) ∙ parts-lower m a d (wide_statements ws)

-- a switch may be lowered if its marked block may
pub switch-lowers : (m : ℕ) (a : Around) (d : ℕ) (c : Expr) (s : Stmt) → is_switch c s ≡ true → lowers m a d (wide_statement (tree.While c s)) ≡ switch_lowers m a d s
switch-lowers m a d c (tree.While e (tree.Block ws)) h =
    ap (lowers m a d) (switch-is c e ws h)
    ∙ ap (λ b. nat_lt d m && (own_expression e && b)) (block-lowers m (within a d) (suc d) ws ((and_parts (is_name switch_mark c) (begins ws) h).1))
switch-lowers m a d c s h = absurd (false≢true ((and_parts (is_name switch_mark c) (begins_while s) h).1))
