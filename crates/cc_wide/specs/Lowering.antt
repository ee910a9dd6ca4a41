-- How a program of wide C becomes one of C. A switch becomes a loop of one turn, in which `break` ends it. A function's switches keep the
-- number of the section with which they go on in locals of their own: the switches inside d others have local number d. These are declared
-- before all other locals of the body, and their names begin with two underscores, as no name of the program does (C99 7.1.3).
use Rattle.std.specs.Prelude.{◌≡◌, ℕ, zero, suc, ◌+◌, ◌/◌, ◌<◌, max, nat_lt, nat_le, Bool, true, false, ◌&&◌, ◌==◌, if◌then◌else◌, List, [], ◌∷◌, map, Option, Some, None}
use Rattle.cc_ast.specs.scalar.Scalar.TheVariants.{Unsigned, Int}
use Rattle.cc_ast.specs.declared.ast.BinaryOperator.TheVariants.{Equal, Less, LessOrEqual}
use Rattle.cc_ast.specs.declared.ast.AssignmentOperator.TheVariants.{Plain}
use Rattle.cc_ast.specs.Tree as tree
use Rattle.cc_ast.specs.Tree.{Name, Expr, Exprs, none, more, Number, Variable, Element, Call, Parenthesised, Unary, Cast, Binary, Conditional, Target, AtVariable, AtElement, Action, Assign, Step, Evaluate, Declarator, Beginning, Declares, Performs, Stmt, Stmts, Parameter, Signature, External}
use Rattle.cc_wide.specs.WideTree.{Label, Case, Default, WideStmt, Block, Local, Perform, Return, Break, Continue, If, IfElse, While, DoWhile, For, Switch, WideStmts, end, next, Sections, last, section, WideExternal, Declaration, Definition, Objects}
use Rattle.cc_wide.specs.WideMeaning.{label_word, default_of}

-- ---- names

-- a name that begins with two underscores (C99 7.1.3)
abbrev pub is_reserved : List ℕ → Bool
is_reserved [] = false
is_reserved (a ∷ []) = false
is_reserved (a ∷ b ∷ rest) = (a == 95) && (b == 95)

-- one `s` more than this number
abbrev pub marks : ℕ → List ℕ
marks zero = 115 ∷ []
marks (suc d) = 115 ∷ marks d

-- the local of the switches inside d others: __s, __ss, __sss and so on
abbrev pub hidden_name : ℕ → List ℕ
hidden_name d = 95 ∷ 95 ∷ marks d

abbrev pub hidden : ℕ → Name
hidden d = record { text = hidden_name d; at = 0 }

-- ---- statements

-- what `continue` does: there is no loop; or it goes to the loop; or it has to leave the switches of number c first, and those outside them
pub data Around : Type 0 where
  Outside : Around
  Loop : Around
  Caught : ℕ → Around

-- x = e;
abbrev pub sets : ℕ → Expr → Stmt
sets d e = tree.Perform (Some (Assign Plain (AtVariable (hidden d)) e))

-- x == n, x < n, x <= n
abbrev pub equals : ℕ → ℕ → Expr
equals d n = Binary Equal (Variable (hidden d)) (Number Unsigned n)

abbrev pub less_than : ℕ → ℕ → Expr
less_than d n = Binary Less (Variable (hidden d)) (Number Unsigned n)

abbrev pub at_most : ℕ → ℕ → Expr
at_most d n = Binary LessOrEqual (Variable (hidden d)) (Number Unsigned n)

-- ---- the choice of a section

-- a case: its label's word, and the number of its section
pub record Entry : Type 0 where
  pub word : ℕ
  pub number : ℕ

-- the cases of a switch, in the order of their labels, if the first section has number i
abbrev pub cases_of_labels : (i : ℕ) → List Label → List Entry → List Entry
cases_of_labels i [] rest = rest
cases_of_labels i (Case c ∷ ls) rest = record { word = label_word c; number = i } ∷ cases_of_labels i ls rest
cases_of_labels i (Default ∷ ls) rest = cases_of_labels i ls rest

abbrev pub cases_of : (i : ℕ) → Sections → List Entry
cases_of i last = []
cases_of i (section ls body rest) = cases_of_labels i ls (cases_of (suc i) rest)

abbrev pub words_of : List Entry → List ℕ
words_of cs = map (λ (c : Entry). c.word) cs

-- the word is at least this one, and below the other, if there is one
abbrev pub is_below : Option ℕ → ℕ → Bool
is_below None w = true
is_below (Some high) w = nat_lt w high

abbrev pub in_range : (low : ℕ) → (high : Option ℕ) → ℕ → Bool
in_range low high w = nat_le low w && is_below high w

-- how many of the words are in the range
abbrev pub count_in : (low : ℕ) → (high : Option ℕ) → List ℕ → ℕ
count_in low high [] = 0
count_in low high (w ∷ ws) = if in_range low high w then suc (count_in low high ws) else count_in low high ws

-- the first word in the range with so many words of the range below it; 0 if there is none
abbrev pub middle_from : (low : ℕ) → (high : Option ℕ) → (below : ℕ) → (all : List ℕ) → List ℕ → ℕ
middle_from low high below all [] = 0
middle_from low high below all (w ∷ ws) =
    if in_range low high w && (count_in low (Some w) all == below) then w else middle_from low high below all ws

abbrev pub middle : (low : ℕ) → (high : Option ℕ) → List ℕ → ℕ
middle low high ws = middle_from low high (count_in low high ws / 2) ws ws

-- the number of the section with which the switch goes on, given that the word in local d is in the range: x == c ? i : ..
abbrev pub chain : (d default low : ℕ) → (high : Option ℕ) → List Entry → Expr
chain d n low high [] = Number Unsigned n
chain d n low high (c ∷ cs) =
    if in_range low high c.word then Conditional (equals d c.word) (Number Unsigned c.number) (chain d n low high cs) else chain d n low high cs

-- how many cases are tried one after another, and how many sections
abbrev pub few_cases : ℕ
few_cases = 4

abbrev pub few_sections : ℕ
few_sections = 8

-- The word in local d, which is in the range, becomes that number. If the range has more than a few cases, it is halved: if (x < m) .. else ..
abbrev pub choice : (levels : ℕ) → (d default low : ℕ) → (high : Option ℕ) → List Entry → Stmt
choice zero d n low high cs = sets d (chain d n low high cs)
choice (suc levels) d n low high cs =
    if nat_le (count_in low high (words_of cs)) few_cases then sets d (chain d n low high cs)
    else tree.IfElse (less_than d (middle low high (words_of cs))) (choice levels d n low (Some (middle low high (words_of cs))) cs) (choice levels d n (middle low high (words_of cs)) high cs)

-- among all cases of a switch; there are no more levels than cases
abbrev pub choice_of : (d : ℕ) → Sections → Stmt
choice_of d all = choice (count_in 0 None (words_of (cases_of 1 all))) d (default_of all) 0 None (cases_of 1 all)

-- ---- groups of sections

abbrev pub count_of : Stmts → ℕ
count_of tree.end = 0
count_of (tree.next s rest) = suc (count_of rest)

-- the first h statements, and those after them
abbrev pub first_of : (h : ℕ) → Stmts → Stmts
first_of zero ss = tree.end
first_of (suc h) tree.end = tree.end
first_of (suc h) (tree.next s rest) = tree.next s (first_of h rest)

abbrev pub after_first : (h : ℕ) → Stmts → Stmts
after_first zero ss = ss
after_first (suc h) tree.end = tree.end
after_first (suc h) (tree.next s rest) = after_first h rest

-- The sections after number i. If they are more than a few, the first half of them is a group, which is entered if one of its sections
-- is executed.
abbrev pub grouped : (levels : ℕ) → (d i : ℕ) → Stmts → Stmts
grouped zero d i ss = ss
grouped (suc levels) d i ss =
    if nat_le (count_of ss) few_sections then ss
    else tree.next (tree.If (at_most d (i + count_of ss / 2)) (tree.Block (grouped levels d i (first_of (count_of ss / 2) ss))))
    (grouped levels d (i + count_of ss / 2) (after_first (count_of ss / 2) ss))

-- all sections of a switch; there are no more levels than sections
abbrev pub groups_of : (d : ℕ) → Stmts → Stmts
groups_of d ss = grouped (count_of ss) d 0 ss

-- ---- around a switch

-- a `continue` that has to leave a switch writes the number 0 first, which no section has
abbrev pub continuing : Around → ℕ → Stmt
continuing Outside at = tree.Continue at
continuing Loop at = tree.Continue at
continuing (Caught c) at = tree.Block (tree.next (sets c (Number Unsigned 0)) (tree.next (tree.Break at) tree.end))

-- after a switch: the `continue` that it has been left by, if one may be
abbrev pub after : Around → ℕ → Stmts
after Outside d = tree.end
after Loop d = tree.next (tree.If (equals d 0) (continuing Loop 0)) tree.end
after (Caught c) d = tree.next (tree.If (equals d 0) (continuing (Caught c) 0)) tree.end

-- around the statements of a switch
abbrev pub within : Around → ℕ → Around
within Outside d = Outside
within Loop d = Caught d
within (Caught c) d = Caught d

abbrev mutual
  -- a statement inside d switches
  pub lowered : Around → ℕ → WideStmt → Stmt
  lowered a d (Block all) = tree.Block (all_lowered a d all)
  lowered a d (Local t ds) = tree.Local t ds
  lowered a d (Perform action) = tree.Perform action
  lowered a d (Return at e) = tree.Return at e
  lowered a d (Break at) = tree.Break at
  lowered a d (Continue at) = continuing a at
  lowered a d (If c s) = tree.If c (lowered a d s)
  lowered a d (IfElse c s r) = tree.IfElse c (lowered a d s) (lowered a d r)
  lowered a d (While c s) = tree.While c (lowered Loop d s)
  lowered a d (DoWhile s c) = tree.DoWhile (lowered Loop d s) c
  lowered a d (For first c behind s) = tree.For first c behind (lowered Loop d s)
  lowered a d (Switch e all) =
      tree.Block (tree.next (sets d e) (tree.next (choice_of d all)
      (tree.next (tree.DoWhile (tree.Block (groups_of d (sections_lowered (within a d) d 1 all))) (Number Int 0)) (after a d))))

  pub all_lowered : Around → ℕ → WideStmts → Stmts
  all_lowered a d end = tree.end
  all_lowered a d (next first rest) = tree.next (lowered a d first) (all_lowered a d rest)

  -- the sections of a switch with local d, each executed if its number is at least the local's
  pub sections_lowered : Around → (d i : ℕ) → Sections → Stmts
  sections_lowered a d i last = tree.end
  sections_lowered a d i (section ls body rest) =
      tree.next (tree.If (at_most d i) (tree.Block (all_lowered a (suc d) body))) (sections_lowered a d (suc i) rest)

-- ---- functions and units

-- how many switches are inside one another
abbrev mutual
  pub nesting : WideStmt → ℕ
  nesting (Block all) = nesting_of_all all
  nesting (Local t ds) = 0
  nesting (Perform a) = 0
  nesting (Return at e) = 0
  nesting (Break at) = 0
  nesting (Continue at) = 0
  nesting (If c s) = nesting s
  nesting (IfElse c s r) = max (nesting s) (nesting r)
  nesting (While c s) = nesting s
  nesting (DoWhile s c) = nesting s
  nesting (For first c behind s) = nesting s
  nesting (Switch e all) = suc (nesting_of_sections all)

  pub nesting_of_all : WideStmts → ℕ
  nesting_of_all end = 0
  nesting_of_all (next first rest) = max (nesting first) (nesting_of_all rest)

  pub nesting_of_sections : Sections → ℕ
  nesting_of_sections last = 0
  nesting_of_sections (section ls body rest) = max (nesting_of_all body) (nesting_of_sections rest)

-- the declarations of this many hidden locals
abbrev pub hidden_declarators : ℕ → List Declarator
hidden_declarators zero = []
hidden_declarators (suc d) = record { name = hidden d; initial = None } ∷ hidden_declarators d

abbrev pub body_with : ℕ → Stmts → Stmts
body_with zero body = body
body_with (suc d) body = tree.next (tree.Local Unsigned (hidden_declarators (suc d))) body

abbrev pub lowered_body : WideStmts → Stmts
lowered_body body = body_with (nesting_of_all body) (all_lowered Outside 0 body)

abbrev pub lowered_external : WideExternal → External
lowered_external (Declaration s) = tree.Declaration s
lowered_external (Definition s body) = tree.Definition s (lowered_body body)
lowered_external (Objects t os) = tree.Objects t os

abbrev pub lowered_unit : List WideExternal → List External
lowered_unit unit = map lowered_external unit

-- ---- what is lowered: no name is reserved, and each `continue` is in a loop

abbrev pub IsOwn : Name → Type 0
IsOwn x = is_reserved x.text ≡ false

abbrev mutual
  pub ExprIsOwn : Expr → Type 0
  ExprIsOwn (Number t n) = Unit {0}
  ExprIsOwn (Variable x) = IsOwn x
  ExprIsOwn (Element x e) = IsOwn x × ExprIsOwn e
  ExprIsOwn (Call f es) = IsOwn f × ExprsAreOwn es
  ExprIsOwn (Parenthesised e) = ExprIsOwn e
  ExprIsOwn (Unary op e) = ExprIsOwn e
  ExprIsOwn (Cast t e) = ExprIsOwn e
  ExprIsOwn (Binary op a b) = ExprIsOwn a × ExprIsOwn b
  ExprIsOwn (Conditional c a b) = ExprIsOwn c × ExprIsOwn a × ExprIsOwn b

  pub ExprsAreOwn : Exprs → Type 0
  ExprsAreOwn none = Unit {0}
  ExprsAreOwn (more e rest) = ExprIsOwn e × ExprsAreOwn rest

abbrev pub OptionalIsOwn : Option Expr → Type 0
OptionalIsOwn None = Unit {0}
OptionalIsOwn (Some e) = ExprIsOwn e

abbrev pub TargetIsOwn : Target → Type 0
TargetIsOwn (AtVariable x) = IsOwn x
TargetIsOwn (AtElement x e) = IsOwn x × ExprIsOwn e

abbrev pub ActionIsOwn : Action → Type 0
ActionIsOwn (Assign op target e) = TargetIsOwn target × ExprIsOwn e
ActionIsOwn (Step op target) = TargetIsOwn target
ActionIsOwn (Evaluate e) = ExprIsOwn e

abbrev pub OptionalActionIsOwn : Option Action → Type 0
OptionalActionIsOwn None = Unit {0}
OptionalActionIsOwn (Some a) = ActionIsOwn a

abbrev pub DeclaratorsAreOwn : List Declarator → Type 0
DeclaratorsAreOwn [] = Unit {0}
DeclaratorsAreOwn (d ∷ rest) = IsOwn d.name × OptionalIsOwn d.initial × DeclaratorsAreOwn rest

abbrev pub BeginningIsOwn : Beginning → Type 0
BeginningIsOwn (Declares t ds) = DeclaratorsAreOwn ds
BeginningIsOwn (Performs a) = OptionalActionIsOwn a

-- a `continue` may be here
abbrev pub MayContinue : Around → Type 0
MayContinue Outside = ⊥
MayContinue Loop = Unit {0}
MayContinue (Caught c) = Unit {0}

-- a statement inside d switches of a function that has m hidden locals
abbrev mutual
  pub Lowers : (m : ℕ) → Around → (d : ℕ) → WideStmt → Type 0
  Lowers m a d (Block all) = AllLower m a d all
  Lowers m a d (Local t ds) = DeclaratorsAreOwn ds
  Lowers m a d (Perform action) = OptionalActionIsOwn action
  Lowers m a d (Return at e) = OptionalIsOwn e
  Lowers m a d (Break at) = Unit {0}
  Lowers m a d (Continue at) = MayContinue a
  Lowers m a d (If c s) = ExprIsOwn c × Lowers m a d s
  Lowers m a d (IfElse c s r) = ExprIsOwn c × Lowers m a d s × Lowers m a d r
  Lowers m a d (While c s) = ExprIsOwn c × Lowers m Loop d s
  Lowers m a d (DoWhile s c) = Lowers m Loop d s × ExprIsOwn c
  Lowers m a d (For first c behind s) = BeginningIsOwn first × OptionalIsOwn c × OptionalActionIsOwn behind × Lowers m Loop d s
  Lowers m a d (Switch e all) = (d < m) × ExprIsOwn e × SectionsLower m (within a d) (suc d) all

  pub AllLower : (m : ℕ) → Around → (d : ℕ) → WideStmts → Type 0
  AllLower m a d end = Unit {0}
  AllLower m a d (next first rest) = Lowers m a d first × AllLower m a d rest

  pub SectionsLower : (m : ℕ) → Around → (d : ℕ) → Sections → Type 0
  SectionsLower m a d last = Unit {0}
  SectionsLower m a d (section ls body rest) = AllLower m a d body × SectionsLower m a d rest

abbrev pub UnitLowers : List WideExternal → Type 0
UnitLowers [] = Unit {0}
UnitLowers (Declaration s ∷ rest) = UnitLowers rest
UnitLowers (Definition s body ∷ rest) = AllLower (nesting_of_all body) Outside 0 body × UnitLowers rest
UnitLowers (Objects t os ∷ rest) = UnitLowers rest
