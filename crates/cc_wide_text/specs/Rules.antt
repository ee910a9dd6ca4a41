-- What a switch may be (C99 6.8.1; 6.8.4.2, paragraph 3). All other rules are those of C: the program to which a unit is lowered has to
-- keep them.
use Rattle.std.specs.Prelude.{◌≡◌, ◌≢◌, ℕ, ◌≤◌, List, [], ◌∷◌, ◌++◌, length, Some}
use Rattle.std.specs.List.{AllByRecursion}
use Rattle.cc_types.specs.Types.{constant_word}
use Rattle.cc_wide.specs.WideTree.{Label, Case, Default, WideStmt, Block, Local, Perform, Return, Break, Continue, If, IfElse, While, DoWhile, For, Switch, WideStmts, end, next, Sections, last, section, WideExternal, Declaration, Definition, Objects}
use Rattle.cc_wide.specs.WideMeaning.{label_word}

-- all labels of a switch; the words of its cases; its `default` labels
abbrev pub labels_of : Sections → List Label
labels_of last = []
labels_of (section ls body rest) = ls ++ labels_of rest

abbrev pub case_words : List Label → List ℕ
case_words [] = []
case_words (Case c ∷ rest) = label_word c ∷ case_words rest
case_words (Default ∷ rest) = case_words rest

abbrev pub defaults : List Label → List Label
defaults [] = []
defaults (Case c ∷ rest) = defaults rest
defaults (Default ∷ rest) = Default ∷ defaults rest

-- each case has a constant expression, no two have the same word, and there is at most one `default`
abbrev pub AreConstant : List Label → Type 0
AreConstant [] = Unit {0}
AreConstant (Case c ∷ rest) = ((w : ℕ) × (constant_word c ≡ Some w)) × AreConstant rest
AreConstant (Default ∷ rest) = AreConstant rest

abbrev pub AreDifferent : List ℕ → Type 0
AreDifferent [] = Unit {0}
AreDifferent (w ∷ ws) = AllByRecursion (λ v. v ≢ w) ws × AreDifferent ws

abbrev pub AreLabels : List Label → Type 0
AreLabels ls = AreConstant ls × AreDifferent (case_words ls) × (length (defaults ls) ≤ 1)

-- each section has statements, and no declarations: a later section could see these
abbrev pub IsStatement : WideStmt → Type 0
IsStatement (Local t ds) = ⊥
IsStatement s = Unit {0}

abbrev pub AreStatements : WideStmts → Type 0
AreStatements end = Unit {0}
AreStatements (next s rest) = IsStatement s × AreStatements rest

abbrev pub HaveStatements : Sections → Type 0
HaveStatements last = Unit {0}
HaveStatements (section ls end rest) = ⊥
HaveStatements (section ls (next s ss) rest) = AreStatements (next s ss) × HaveStatements rest

-- so it is for every switch
abbrev mutual
  pub KeepsLabels : WideStmt → Type 0
  KeepsLabels (Block all) = AllKeepLabels all
  KeepsLabels (Local t ds) = Unit {0}
  KeepsLabels (Perform a) = Unit {0}
  KeepsLabels (Return at e) = Unit {0}
  KeepsLabels (Break at) = Unit {0}
  KeepsLabels (Continue at) = Unit {0}
  KeepsLabels (If c s) = KeepsLabels s
  KeepsLabels (IfElse c s r) = KeepsLabels s × KeepsLabels r
  KeepsLabels (While c s) = KeepsLabels s
  KeepsLabels (DoWhile s c) = KeepsLabels s
  KeepsLabels (For first c behind s) = KeepsLabels s
  KeepsLabels (Switch e all) = AreLabels (labels_of all) × HaveStatements all × SectionsKeepLabels all

  pub AllKeepLabels : WideStmts → Type 0
  AllKeepLabels end = Unit {0}
  AllKeepLabels (next first rest) = KeepsLabels first × AllKeepLabels rest

  pub SectionsKeepLabels : Sections → Type 0
  SectionsKeepLabels last = Unit {0}
  SectionsKeepLabels (section ls body rest) = AllKeepLabels body × SectionsKeepLabels rest

abbrev pub UnitKeepsLabels : List WideExternal → Type 0
UnitKeepsLabels [] = Unit {0}
UnitKeepsLabels (Declaration s ∷ rest) = UnitKeepsLabels rest
UnitKeepsLabels (Definition s body ∷ rest) = AllKeepLabels body × UnitKeepsLabels rest
UnitKeepsLabels (Objects t os ∷ rest) = UnitKeepsLabels rest
