-- The tests for the rules of labels hold exactly of these rules.
use Rattle.std.proofs.Common.{◌≡◌, ◌≢◌, ℕ, nat_eq, nat_le, Bool, true, false, not, ◌&&◌, is_some, List, [], ◌∷◌, length, Option, Some, None, refl, ap, ◌∙◌, sym}
use Rattle.std.specs.Bool.{Decides}
use Rattle.std.specs.List.{AllByRecursion}
use Rattle.std.proofs.lemmas.Bool.{and_parts, false≢true, leb-true, le-leb}
use Rattle.std.proofs.lemmas.Bool.Decides.{Decides-and, Decides-not, Decides-eqb}
use Rattle.cc_ast.specs.Tree as tree
use Rattle.cc_ast.specs.Tree.{Expr, Stmt, Stmts}
use Rattle.cc_types.specs.Types.{constant_word}
use Rattle.cc_wide.specs.WideTree.{Label, Case, Default, WideStmt, Block, Local, Perform, Return, Break, Continue, If, IfElse, While, DoWhile, For, Switch, WideStmts, end, next, Sections, last, section, WideExternal, Declaration, Definition, Objects}
use Rattle.cc_wide_text.specs.Marks.{switch_mark}
use Rattle.cc_wide_text.specs.Forms as forms
use Rattle.cc_wide_text.specs.Forms.{is_name, label_of, Parts, with_statement, parts_of, wide_statement, wide_statements}
use Rattle.cc_wide_text.specs.Rules.{labels_of, case_words, defaults, AreConstant, AreDifferent, AreLabels, IsStatement, AreStatements, HaveStatements, KeepsLabels, AllKeepLabels, SectionsKeepLabels, UnitKeepsLabels}
use Rattle.cc_wide_check.specs.internal.Switches.{begins, begins_while, is_switch}
use Rattle.cc_wide_check.specs.internal.Labels.{all_constant, lacks, different, are_labels, is_statement, are_statements, have_statements, keeps_labels, all_keep_labels, sections_keep_labels, unit_keeps_labels, with_label, labels_in, are_filled, are_good, good_switch}
use Rattle.cc_wide_check.proofs.Lowering.{three, always}
use Rattle.cc_wide_check.proofs.Parts as parts
use Rattle.cc_wide_check.proofs.Parts.{body_of, rest_of, labelled, same_body, same_rest, and_assoc}
use Rattle.cc_wide_check.proofs.Switches.{entered, switch-is, second-is}

-- ---- labels

some-is : (o : Option ℕ) → Decides (is_some o) ((w : ℕ) × (o ≡ Some w))
some-is None = (λ h. absurd (false≢true h), λ h. ap is_some h.1)
some-is (Some w) = (λ h. (w, refl), λ h. refl)

constant-are : (ls : List Label) → Decides (all_constant ls) (AreConstant ls)
constant-are [] = always
constant-are (Case c ∷ rest) = Decides-and (is_some (constant_word c)) (all_constant rest) (some-is (constant_word c)) (constant-are rest)
constant-are (Default ∷ rest) = constant-are rest

lacks-is : (w : ℕ) (ws : List ℕ) → Decides (lacks w ws) (AllByRecursion (λ v. v ≢ w) ws)
lacks-is w [] = always
lacks-is w (v ∷ vs) = Decides-and (not (nat_eq v w)) (lacks w vs) (Decides-not (nat_eq v w) (Decides-eqb v w)) (lacks-is w vs)

different-are : (ws : List ℕ) → Decides (different ws) (AreDifferent ws)
different-are [] = always
different-are (w ∷ ws) = Decides-and (lacks w ws) (different ws) (lacks-is w ws) (different-are ws)

labels-are : (ls : List Label) → Decides (are_labels ls) (AreLabels ls)
labels-are ls =
    three (all_constant ls) (different (case_words ls)) (nat_le (length (defaults ls)) 1) (constant-are ls) (different-are (case_words ls))
    (leb-true (length (defaults ls)) 1, le-leb (length (defaults ls)) 1)

-- ---- statements

statement-is : (s : WideStmt) → Decides (is_statement s) (IsStatement s)
statement-is (Local t ds) = (λ h. absurd (false≢true h), λ h. absurd h)
statement-is s = always

statements-are : (ws : WideStmts) → Decides (are_statements ws) (AreStatements ws)
statements-are end = always
statements-are (next s rest) = Decides-and (is_statement s) (are_statements rest) (statement-is s) (statements-are rest)

sections-have : (all : Sections) → Decides (have_statements all) (HaveStatements all)
sections-have last = always
sections-have (section ls end rest) = (λ h. absurd (false≢true h), λ h. absurd h)
sections-have (section ls (next s ss) rest) = Decides-and (are_statements (next s ss)) (have_statements rest) (statements-are (next s ss)) (sections-have rest)

mutual
  statement-keeps : (s : WideStmt) → Decides (keeps_labels s) (KeepsLabels s)
  statement-keeps (Block all) = statements-keep all
  statement-keeps (Local t ds) = always
  statement-keeps (Perform a) = always
  statement-keeps (Return at e) = always
  statement-keeps (Break at) = always
  statement-keeps (Continue at) = always
  statement-keeps (If c s) = statement-keeps s
  statement-keeps (IfElse c s r) = Decides-and (keeps_labels s) (keeps_labels r) (statement-keeps s) (statement-keeps r)
  statement-keeps (While c s) = statement-keeps s
  statement-keeps (DoWhile s c) = statement-keeps s
  statement-keeps (For first c behind s) = statement-keeps s
  statement-keeps (Switch e all) =
      three (are_labels (labels_of all)) (have_statements all) (sections_keep_labels all) (labels-are (labels_of all)) (sections-have all) (sections-keep all)

  statements-keep : (ws : WideStmts) → Decides (all_keep_labels ws) (AllKeepLabels ws)
  statements-keep end = always
  statements-keep (next first rest) = Decides-and (keeps_labels first) (all_keep_labels rest) (statement-keeps first) (statements-keep rest)

  sections-keep : (all : Sections) → Decides (sections_keep_labels all) (SectionsKeepLabels all)
  sections-keep last = always
  sections-keep (section ls body rest) = Decides-and (all_keep_labels body) (sections_keep_labels rest) (statements-keep body) (sections-keep rest)

pub unit-keeps : (unit : List WideExternal) → Decides (unit_keeps_labels unit) (UnitKeepsLabels unit)
unit-keeps [] = always
unit-keeps (Declaration s ∷ rest) = unit-keeps rest
unit-keeps (Definition s body ∷ rest) = Decides-and (all_keep_labels body) (unit_keeps_labels rest) (statements-keep body) (unit-keeps rest)
unit-keeps (Objects t os ∷ rest) = unit-keeps rest

-- ---- the labels of a marked block

labels-with : (l : Label) (f : WideStmts) (ss : Sections) → labels_of (forms.with_label l f ss) ≡ l ∷ labels_of ss
labels-with l end (section ls body rest) = refl
labels-with l end last = refl
labels-with l (next s rest) ss = refl

labels-step : (o : Option Label) (s : WideStmt) (p : Parts) → labels_of (with_statement o s p).sections ≡ with_label o (labels_of p.sections)
labels-step None s p = refl
labels-step (Some l) s p = labels-with l p.front p.sections

block-labels : (ws : WideStmts) → labels_of (parts_of ws).sections ≡ labels_in ws
block-labels end = refl
block-labels (next s rest) = labels-step (label_of s) s (parts_of rest) ∙ ap (with_label (label_of s)) (block-labels rest)

-- ---- a label is no switch, and declares nothing

label-keeps : (s : WideStmt) → is_some (label_of s) ≡ true → keeps_labels s ≡ true
label-keeps (Perform a) h = refl
label-keeps s h = absurd (false≢true h)

label-is : (s : WideStmt) → is_some (label_of s) ≡ true → is_statement s ≡ true
label-is (Perform a) h = refl
label-is s h = absurd (false≢true h)

-- ---- the statements of a marked block

keep-with : (l : Label) (f : WideStmts) (ss : Sections) → sections_keep_labels (forms.with_label l f ss) ≡ (all_keep_labels f && sections_keep_labels ss)
keep-with l end (section ls body rest) = refl
keep-with l end last = refl
keep-with l (next s rest) ss = refl

keep-step : (o : Option Label) (s : WideStmt) (p : Parts) → (is_some o ≡ true → keeps_labels s ≡ true)
    → (all_keep_labels (with_statement o s p).front && sections_keep_labels (with_statement o s p).sections)
    ≡ (keeps_labels s && (all_keep_labels p.front && sections_keep_labels p.sections))
keep-step None s p h = and_assoc (keeps_labels s) (all_keep_labels p.front) (sections_keep_labels p.sections)
keep-step (Some l) s p h = keep-with l p.front p.sections ∙ sym (ap (λ b. b && (all_keep_labels p.front && sections_keep_labels p.sections)) (h refl))

block-keeps : (ws : WideStmts) → (all_keep_labels (parts_of ws).front && sections_keep_labels (parts_of ws).sections) ≡ all_keep_labels ws
block-keeps end = refl
block-keeps (next s rest) = keep-step (label_of s) s (parts_of rest) (label-keeps s) ∙ ap (λ b. keeps_labels s && b) (block-keeps rest)

-- ---- each section has statements

same_have : (ls ks : List Label) (body : WideStmts) (rest : Sections) → have_statements (section ls body rest) ≡ have_statements (section ks body rest)
same_have ls ks end rest = refl
same_have ls ks (next s ss) rest = refl

record IsFilled (go : Bool → Bool) (p : Parts) : Type 0 where
  first : go false ≡ (are_statements p.front && have_statements p.sections)
  more : go true ≡ have_statements (section [] (body_of p.front p.sections) (rest_of p.front p.sections))

have-with : (l : Label) (f : WideStmts) (ss : Sections) → have_statements (section [] (body_of f ss) (rest_of f ss)) ≡ have_statements (forms.with_label l f ss)
have-with l f ss =
    same_have [] (l ∷ parts.labels_of f ss) (body_of f ss) (rest_of f ss) ∙ sym (ap have_statements (labelled l f ss))

filled-step : (go : Bool → Bool) (o : Option Label) (s : WideStmt) (p : Parts) → (is_some o ≡ true → is_statement s ≡ true) → IsFilled go p
    → IsFilled (λ label. is_statement s && go (is_some o)) (with_statement o s p)
filled-step go None s p h f =
    let both = ap (λ b. is_statement s && b) f.first ∙ sym (and_assoc (is_statement s) (are_statements p.front) (have_statements p.sections)) in
    record { first = both; more = both }
filled-step go (Some l) s p h f =
    let both = ap (λ b. b && go true) (h refl) ∙ f.more in
    record {
      first = both ∙ have-with l p.front p.sections;
      more = both ∙ sym (ap (λ b. have_statements (section [] b (rest_of end (forms.with_label l p.front p.sections)))) (same_body l p.front p.sections)
          ∙ ap (λ r. have_statements (section [] (body_of p.front p.sections) r)) (same_rest l p.front p.sections));
    }

block-filled : (ws : WideStmts) → IsFilled (λ label. are_filled label ws) (parts_of ws)
block-filled end = record { first = refl; more = refl }
block-filled (next s rest) = filled-step (λ label. are_filled label rest) (label_of s) s (parts_of rest) (label-is s) (block-filled rest)

-- ---- a switch

regroup : (a b c d e : Bool) → ((a && (b && c)) && (d && e)) ≡ ((a && (b && (c && d))) && e)
regroup true true true d e = refl
regroup true true false d e = refl
regroup true false c d e = refl
regroup false b c d e = refl

switch_by : (ws : WideStmts) → (parts_of ws).front ≡ end
    → (are_labels (labels_of (parts_of ws).sections) && (have_statements (parts_of ws).sections && sections_keep_labels (parts_of ws).sections)) ≡ (are_good ws && all_keep_labels ws)
switch_by ws h =
    let p = parts_of ws in
    let ls = labels_in ws in
    let filled : have_statements p.sections ≡ are_filled false ws = sym ((block-filled ws).first ∙ ap (λ f. are_statements f && have_statements p.sections) h) in
    let keeps : sections_keep_labels p.sections ≡ all_keep_labels ws = sym (ap (λ f. all_keep_labels f && sections_keep_labels p.sections) h) ∙ block-keeps ws in
    ap (λ x. are_labels x && (have_statements p.sections && sections_keep_labels p.sections)) (block-labels ws)
    ∙ ap (λ x. are_labels ls && (x && sections_keep_labels p.sections)) filled
    ∙ ap (λ x. are_labels ls && (are_filled false ws && x)) keeps
    ∙ regroup (all_constant ls) (different (case_words ls)) (nat_le (length (defaults ls)) 1) (are_filled false ws) (all_keep_labels ws)

pub switch-keeps : (c : Expr) (s : Stmt) → is_switch c s ≡ true → keeps_labels (wide_statement (tree.While c s)) ≡ (good_switch s && keeps_labels (wide_statement s))
switch-keeps c (tree.While e (tree.Block ws)) h =
    ap keeps_labels (switch-is c e ws h) ∙ switch_by (wide_statements ws) (entered ws ((and_parts (is_name switch_mark c) (begins ws) h).1))
    ∙ sym (ap (λ w. are_good (wide_statements ws) && keeps_labels w) (second-is e ws))
switch-keeps c s h = absurd (false≢true ((and_parts (is_name switch_mark c) (begins_while s) h).1))
