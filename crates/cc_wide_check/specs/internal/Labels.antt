-- Tests for the rules of labels.
use Rattle.std.specs.Prelude.{ℕ, nat_eq, nat_le, Bool, true, false, not, ◌&&◌, is_some, List, [], ◌∷◌, length, Option, Some, None}
use Rattle.cc_ast.specs.Tree as tree
use Rattle.cc_types.specs.Types.{constant_word}
use Rattle.cc_wide.specs.WideTree.{Label, Case, Default, WideStmt, Block, Local, Perform, Return, Break, Continue, If, IfElse, While, DoWhile, For, Switch, WideStmts, end, next, Sections, last, section, WideExternal, Declaration, Definition, Objects}
use Rattle.cc_wide_text.specs.Forms.{label_of, wide_statements}
use Rattle.cc_wide_text.specs.Rules.{labels_of, case_words, defaults}

abbrev pub all_constant : List Label → Bool
all_constant [] = true
all_constant (Case c ∷ rest) = is_some (constant_word c) && all_constant rest
all_constant (Default ∷ rest) = all_constant rest

-- no word is w
abbrev pub lacks : ℕ → List ℕ → Bool
lacks w [] = true
lacks w (v ∷ vs) = not (nat_eq v w) && lacks w vs

abbrev pub different : List ℕ → Bool
different [] = true
different (w ∷ ws) = lacks w ws && different ws

abbrev pub are_labels : List Label → Bool
are_labels ls = all_constant ls && (different (case_words ls) && nat_le (length (defaults ls)) 1)

abbrev pub is_statement : WideStmt → Bool
is_statement (Local t ds) = false
is_statement s = true

abbrev pub are_statements : WideStmts → Bool
are_statements end = true
are_statements (next s rest) = is_statement s && are_statements rest

abbrev pub have_statements : Sections → Bool
have_statements last = true
have_statements (section ls end rest) = false
have_statements (section ls (next s ss) rest) = are_statements (next s ss) && have_statements rest

abbrev mutual
  pub keeps_labels : WideStmt → Bool
  keeps_labels (Block all) = all_keep_labels all
  keeps_labels (Local t ds) = true
  keeps_labels (Perform a) = true
  keeps_labels (Return at e) = true
  keeps_labels (Break at) = true
  keeps_labels (Continue at) = true
  keeps_labels (If c s) = keeps_labels s
  keeps_labels (IfElse c s r) = keeps_labels s && keeps_labels r
  keeps_labels (While c s) = keeps_labels s
  keeps_labels (DoWhile s c) = keeps_labels s
  keeps_labels (For first c behind s) = keeps_labels s
  keeps_labels (Switch e all) = are_labels (labels_of all) && (have_statements all && sections_keep_labels all)

  pub all_keep_labels : WideStmts → Bool
  all_keep_labels end = true
  all_keep_labels (next first rest) = keeps_labels first && all_keep_labels rest

  pub sections_keep_labels : Sections → Bool
  sections_keep_labels last = true
  sections_keep_labels (section ls body rest) = all_keep_labels body && sections_keep_labels rest

abbrev pub external_keeps_labels : WideExternal → Bool
external_keeps_labels (Declaration s) = true
external_keeps_labels (Definition s body) = all_keep_labels body
external_keeps_labels (Objects t os) = true

abbrev pub unit_keeps_labels : List WideExternal → Bool
unit_keeps_labels [] = true
unit_keeps_labels (e ∷ rest) = external_keeps_labels e && unit_keeps_labels rest

-- ---- the labels among the statements of a marked block

abbrev pub with_label : Option Label → List Label → List Label
with_label None ls = ls
with_label (Some l) ls = l ∷ ls

abbrev pub labels_in : WideStmts → List Label
labels_in end = []
labels_in (next s rest) = with_label (label_of s) (labels_in rest)

-- no statement declares locals, and none of the labels, the one before these statements among them, comes last
abbrev pub are_filled : (label : Bool) → WideStmts → Bool
are_filled label end = not label
are_filled label (next s rest) = is_statement s && are_filled (is_some (label_of s)) rest

-- ---- the marked block of a switch

abbrev pub are_good : WideStmts → Bool
are_good ws =
    all_constant (labels_in ws) && (different (case_words (labels_in ws)) && (nat_le (length (defaults (labels_in ws))) 1 && are_filled false ws))

abbrev pub good_block : tree.Stmt → Bool
good_block (tree.Block all) = are_good (wide_statements all)
good_block s = false

-- the same given the second `while` of a switch's mark
abbrev pub good_switch : tree.Stmt → Bool
good_switch (tree.While e s) = good_block s
good_switch s = false
