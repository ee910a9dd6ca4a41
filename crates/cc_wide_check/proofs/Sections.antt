-- The choice and the sections that are found by reading a marked block statement by statement are those of the switch.
use Rattle.std.proofs.Common.{◌≡◌, ℕ, zero, suc, ◌/◌, nat_le, Bool, true, false, ◌&&◌, ◌||◌, if◌then◌else◌, is_some, List, [], ◌∷◌, Option, Some, None, refl, ap, ◌∙◌, sym, arith, ne_eqb}
use Rattle.std.proofs.lemmas.Bool.{and_parts, and_right, false≢true}
use Rattle.cc_ast.specs.scalar.Scalar.TheVariants.{Int, Unsigned}
use Rattle.cc_ast.specs.declared.ast.AssignmentOperator.TheVariants.{Plain}
use Rattle.cc_ast.specs.Tree as tree
use Rattle.cc_ast.specs.Tree.{Expr, Number, Variable, Element, Call, Parenthesised, Unary, Cast, Binary, Conditional, AtVariable, AtElement, Action, Assign, Step, Evaluate, Stmt, Stmts}
use Rattle.cc_wide.specs.Places.{bare, bare_statement, bare_statements}
use Rattle.cc_wide.specs.WideTree.{Label, Case, Default, WideStmt, Switch, WideStmts, end, next, Sections, last, section}
use Rattle.cc_wide.specs.WideMeaning.{label_word, has_default, section_with, past, default_of}
use Rattle.cc_wide.specs.Lowering.{Around, hidden, sets, equals, at_most, Entry, cases_of_labels, cases_of, words_of, in_range, count_in, middle, chain, few_cases, few_sections, choice, choice_of, count_of, grouped, groups_of, lowered, all_lowered, sections_lowered, within, after}
use Rattle.cc_wide_text.specs.Marks.{switch_mark}
use Rattle.cc_wide_text.specs.Forms.{is_name, label_of, Parts, with_label, with_statement, parts_of, wide_statement, wide_statements}
use Rattle.cc_wide_check.specs.internal.Switches.{begins, begins_while, is_switch}
use Rattle.cc_wide_text.specs.Rules.{case_words}
use Rattle.cc_wide_check.specs.internal.Labels as labels
use Rattle.cc_wide_check.specs.internal.Labels.{labels_in}
use Rattle.cc_wide_check.specs.internal.Equal.{equal_assignment, equal_name, equal_expression, equal_statement, equal_statements}
use Rattle.cc_wide_check.specs.internal.Sections.{begun, default_step, default_number, case_step, cases_in, otherwise, go_on, is_chain, are_few, is_choice, halves, is_halved, is_assigned, block_of, opened_first, opened, is_end, go_through, statement_step, section_step, are_sections, enters, are_grouped, two_groups, are_halved, section_number, section_count, assigned, is_run, is_value, is_chosen, third, second, parts, is_switched, of_switch}
use Rattle.cc_wide_check.proofs.Parts.{body_of, rest_of, labels_of, labelled, more_labels, same_body, same_rest, and_assoc}
use Rattle.cc_wide_check.proofs.Switches.{switch-is}

and_true : (x : Bool) → (x && true) ≡ x
and_true true = refl
and_true false = refl

-- ---- the number of the section after `default`

abbrev number : ℕ → Sections → ℕ
number i all = section_with has_default i all (past i all)

-- in section i, whose labels so far are no `default`, and go on with these
abbrev numbered : ℕ → List Label → Sections → ℕ
numbered i ls rest = if has_default ls then i else number (suc i) rest

record IsNumbered (go : ℕ → Bool → ℕ) (p : Parts) : Type 0 where
  first : (n : ℕ) → go n false ≡ number (suc n) p.sections
  more : (n : ℕ) → go n true ≡ numbered n (labels_of p.front p.sections) (rest_of p.front p.sections)

numbered-step : (go : ℕ → Bool → ℕ) (o : Option Label) (s : WideStmt) (p : Parts) → IsNumbered go p → IsNumbered (λ n b. default_step go n b o) (with_statement o s p)
numbered-step go None s p h = record { first = λ n. h.first n; more = λ n. h.first n }
numbered-step go (Some (Case c)) s p h =
    let rest = rest_of p.front p.sections in
    record {
      first = λ n. h.more (suc n) ∙ sym (ap (number (suc n)) (labelled (Case c) p.front p.sections));
      more = λ n. h.more n ∙ sym (ap (λ ls. numbered n ls (rest_of end (with_label (Case c) p.front p.sections))) (more_labels (Case c) p.front p.sections)
          ∙ ap (numbered n (Case c ∷ labels_of p.front p.sections)) (same_rest (Case c) p.front p.sections));
    }
numbered-step go (Some Default) s p h =
    record {
      first = λ n. sym (ap (number (suc n)) (labelled Default p.front p.sections));
      more = λ n. sym (ap (λ ls. numbered n ls (rest_of end (with_label Default p.front p.sections))) (more_labels Default p.front p.sections));
    }

numbers : (ws : WideStmts) → IsNumbered (λ n b. default_number n b ws) (parts_of ws)
numbers end = record { first = λ n. refl; more = λ n. refl }
numbers (next s rest) = numbered-step (λ n b. default_number n b rest) (label_of s) s (parts_of rest) (numbers rest)

-- ---- the choice

chosen_if : (p q : Bool) (rest x : Expr) → go_on (λ f. equal_expression f x) (if p && q then Some rest else None) ≡ (p && (q && equal_expression rest x))
chosen_if true true rest x = refl
chosen_if true false rest x = refl
chosen_if false q rest x = refl

otherwise-is : (t v x e : Expr) → go_on (λ f. equal_expression f x) (otherwise t v e) ≡ equal_expression e (Conditional t v x)
otherwise-is t v x (Conditional c a rest) = chosen_if (equal_expression c t) (equal_expression a v) rest x
otherwise-is t v x e = refl

go_on-is : (go g : Expr → Bool) → ((e : Expr) → go e ≡ g e) → (o : Option Expr) → go_on go o ≡ go_on g o
go_on-is go g h None = refl
go_on-is go g h (Some e) = h e

-- ---- the cases

record AreCases (go : ℕ → Bool → List Entry) (p : Parts) : Type 0 where
  first : (n : ℕ) → go n false ≡ cases_of (suc n) p.sections
  more : (n : ℕ) → go n true ≡ cases_of_labels n (labels_of p.front p.sections) (cases_of (suc n) (rest_of p.front p.sections))

case-step : (go : ℕ → Bool → List Entry) (o : Option Label) (s : WideStmt) (p : Parts) → AreCases go p → AreCases (λ n b. case_step go n b o) (with_statement o s p)
case-step go None s p h = record { first = λ n. h.first n; more = λ n. h.first n }
case-step go (Some (Case c)) s p h =
    let ls = labels_of p.front p.sections in
    let rest = rest_of p.front p.sections in
    let one : ℕ → Entry = λ n. record { word = label_word c; number = n } in
    record {
      first = λ n. ap (λ (cs : List Entry). one (suc n) ∷ cs) (h.more (suc n)) ∙ sym (ap (cases_of (suc n)) (labelled (Case c) p.front p.sections));
      more = λ n. ap (λ (cs : List Entry). one n ∷ cs) (h.more n)
          ∙ sym (ap (λ k. cases_of_labels n k (cases_of (suc n) (rest_of end (with_label (Case c) p.front p.sections)))) (more_labels (Case c) p.front p.sections)
          ∙ ap (λ r. cases_of_labels n (Case c ∷ ls) (cases_of (suc n) r)) (same_rest (Case c) p.front p.sections));
    }
case-step go (Some Default) s p h =
    let ls = labels_of p.front p.sections in
    record {
      first = λ n. h.more (suc n) ∙ sym (ap (cases_of (suc n)) (labelled Default p.front p.sections));
      more = λ n. h.more n
          ∙ sym (ap (λ k. cases_of_labels n k (cases_of (suc n) (rest_of end (with_label Default p.front p.sections)))) (more_labels Default p.front p.sections)
          ∙ ap (λ r. cases_of_labels n (Default ∷ ls) (cases_of (suc n) r)) (same_rest Default p.front p.sections));
    }

cases-are : (ws : WideStmts) → AreCases (λ n b. cases_in n b ws) (parts_of ws)
cases-are end = record { first = λ n. refl; more = λ n. refl }
cases-are (next s rest) = case-step (λ n b. cases_in n b rest) (label_of s) s (parts_of rest) (cases-are rest)

-- their words
words-step : (go : ℕ → Bool → List Entry) (ls : List Label) (o : Option Label) (n : ℕ) (b : Bool) → ((m : ℕ) (c : Bool) → words_of (go m c) ≡ case_words ls)
    → words_of (case_step go n b o) ≡ case_words (labels.with_label o ls)
words-step go ls None n b h = h n false
words-step go ls (Some (Case c)) n b h = ap (λ (ws : List ℕ). label_word c ∷ ws) (h (begun b n) true)
words-step go ls (Some Default) n b h = h (begun b n) true

pub words-in : (ws : WideStmts) (n : ℕ) (b : Bool) → words_of (cases_in n b ws) ≡ case_words (labels_in ws)
words-in end n b = refl
words-in (next s rest) n b = words-step (λ m c. cases_in m c rest) (labels_in rest) (label_of s) n b (λ m c. words-in rest m c)

-- ---- the chain

chain-step : (b : Bool) (d default low : ℕ) (high : Option ℕ) (c : Entry) (cs : List Entry) (e : Expr) → ((f : Expr) → is_chain d default low high cs f ≡ equal_expression f (bare (chain d default low high cs)))
    → go_on (is_chain d default low high cs) (if b then otherwise (equals d c.word) (Number Unsigned c.number) e else Some e)
    ≡ equal_expression e (bare (if b then Conditional (equals d c.word) (Number Unsigned c.number) (chain d default low high cs) else chain d default low high cs))
chain-step true d default low high c cs e h =
    go_on-is (is_chain d default low high cs) (λ f. equal_expression f (bare (chain d default low high cs))) h (otherwise (equals d c.word) (Number Unsigned c.number) e)
    ∙ otherwise-is (equals d c.word) (Number Unsigned c.number) (bare (chain d default low high cs)) e
chain-step false d default low high c cs e h = h e

chain-is : (d default low : ℕ) (high : Option ℕ) (cs : List Entry) (e : Expr) → is_chain d default low high cs e ≡ equal_expression e (bare (chain d default low high cs))
chain-is d default low high [] e = refl
chain-is d default low high (c ∷ cs) e = chain-step (in_range low high c.word) d default low high c cs e (λ f. chain-is d default low high cs f)

-- ---- the choice

few_of : (levels few count : ℕ) → are_few (suc levels) few count ≡ nat_le count few
few_of levels few count = ap (λ b. b || nat_le count few) (ne_eqb (suc levels) 0 (λ (e : suc levels ≡ 0). omega (arith, e)))

choice-few : (levels d default low : ℕ) (high : Option ℕ) (cs : List Entry) → are_few levels few_cases (count_in low high (words_of cs)) ≡ true
    → choice levels d default low high cs ≡ sets d (chain d default low high cs)
choice-few zero d default low high cs h = refl
choice-few (suc levels) d default low high cs h =
    let m = middle low high (words_of cs) in
    ap (λ (b : Bool). if b then sets d (chain d default low high cs) else halves levels d default low m high cs) (sym (few_of levels few_cases (count_in low high (words_of cs))) ∙ h)

choice-halved : (levels d default low : ℕ) (high : Option ℕ) (cs : List Entry) → are_few (suc levels) few_cases (count_in low high (words_of cs)) ≡ false
    → choice (suc levels) d default low high cs ≡ halves levels d default low (middle low high (words_of cs)) high cs
choice-halved levels d default low high cs h =
    let m = middle low high (words_of cs) in
    ap (λ (b : Bool). if b then sets d (chain d default low high cs) else halves levels d default low m high cs) (sym (few_of levels few_cases (count_in low high (words_of cs))) ∙ h)

-- no halves, and two
-- ---- the sections

ends : (body : Stmts) → is_end body ≡ equal_statements body tree.end
ends tree.end = refl
ends (tree.next s rest) = refl

statement-step : (s : Stmt) (f i : Stmts) (go : Stmts → Stmts → Bool) → ((x y : Stmts) → go x y ≡ (equal_statements x f && equal_statements y i)) → (body ifs : Stmts)
    → statement_step s go body ifs ≡ (equal_statements body (tree.next s f) && equal_statements ifs i)
statement-step s f i go h tree.end ifs = refl
statement-step s f i go h (tree.next t rest) ifs =
    ap (λ b. equal_statement t s && b) (h rest ifs) ∙ sym (and_assoc (equal_statement t s) (equal_statements rest f) (equal_statements ifs i))

opened_block-is : (s : Stmt) (rest f i : Stmts) (go : Stmts → Stmts → Bool) → ((x y : Stmts) → go x y ≡ (equal_statements x f && equal_statements y i))
    → go_through (λ body. go body rest) (block_of s) ≡ (equal_statement s (tree.Block f) && equal_statements rest i)
opened_block-is (tree.Block body) rest f i go h = h body rest
opened_block-is s rest f i go h = refl

opened_by : (b : Bool) (s : Stmt) (rest f i : Stmts) (go : Stmts → Stmts → Bool) → ((x y : Stmts) → go x y ≡ (equal_statements x f && equal_statements y i))
    → go_through (λ body. go body rest) (if b then block_of s else None) ≡ ((b && equal_statement s (tree.Block f)) && equal_statements rest i)
opened_by true s rest f i go h = opened_block-is s rest f i go h
opened_by false s rest f i go h = refl

opened_first-is : (d n : ℕ) (s : Stmt) (rest f i : Stmts) (go : Stmts → Stmts → Bool) → ((x y : Stmts) → go x y ≡ (equal_statements x f && equal_statements y i))
    → go_through (λ body. go body rest) (opened_first d n s) ≡ (equal_statement s (tree.If (at_most d n) (tree.Block f)) && equal_statements rest i)
opened_first-is d n (tree.If c s) rest f i go h = opened_by (equal_expression c (at_most d n)) s rest f i go h
opened_first-is d n s rest f i go h = refl

opened-is : (d n : ℕ) (ifs f i : Stmts) (go : Stmts → Stmts → Bool) → ((x y : Stmts) → go x y ≡ (equal_statements x f && equal_statements y i))
    → opened d n go ifs ≡ equal_statements ifs (tree.next (tree.If (at_most d n) (tree.Block f)) i)
opened-is d n tree.end f i go h = refl
opened-is d n (tree.next s rest) f i go h = opened_first-is d n s rest f i go h

-- what is left of the section that has begun, and of those after it
abbrev are_left : Around → (d n : ℕ) → WideStmts → Sections → (body ifs : Stmts) → Bool
are_left a d n front ss body ifs =
    equal_statements body (bare_statements (all_lowered a (suc d) front)) && equal_statements ifs (bare_statements (sections_lowered a d (suc n) ss))

record AreSectionsOf (a : Around) (d : ℕ) (go : ℕ → Bool → Stmts → Stmts → Bool) (p : Parts) : Type 0 where
  first : (n : ℕ) (body ifs : Stmts) → go n false body ifs ≡ are_left a d n p.front p.sections body ifs
  more : (n : ℕ) (body ifs : Stmts) → go n true body ifs ≡ are_left a d n (body_of p.front p.sections) (rest_of p.front p.sections) body ifs

section-step : (a : Around) (d : ℕ) (go : ℕ → Bool → Stmts → Stmts → Bool) (o : Option Label) (s : WideStmt) (p : Parts) → AreSectionsOf a d go p
    → AreSectionsOf a d (λ n b x y. section_step d (bare_statement (lowered a (suc d) s)) go (is_some o) n b x y) (with_statement o s p)
section-step a d go None s p h =
    let one = bare_statement (lowered a (suc d) s) in
    let f = bare_statements (all_lowered a (suc d) p.front) in
    record {
      first = λ n body ifs. statement-step one f (bare_statements (sections_lowered a d (suc n) p.sections)) (go n false) (h.first n) body ifs;
      more = λ n body ifs. statement-step one f (bare_statements (sections_lowered a d (suc n) p.sections)) (go n false) (h.first n) body ifs;
    }
section-step a d go (Some l) s p h =
    let b = body_of p.front p.sections in
    let r = rest_of p.front p.sections in
    record {
      first = λ n body ifs. ap (λ x. x && opened d (suc n) (go (suc n) true) ifs) (ends body)
          ∙ ap (λ x. equal_statements body tree.end && x) (opened-is d (suc n) ifs (bare_statements (all_lowered a (suc d) b)) (bare_statements (sections_lowered a d (suc (suc n)) r)) (go (suc n) true) (h.more (suc n)))
          ∙ sym (ap (λ x. equal_statements body tree.end && equal_statements ifs (bare_statements (sections_lowered a d (suc n) x))) (labelled l p.front p.sections));
      more = λ n body ifs. h.more n body ifs
          ∙ sym (ap (λ x. are_left a d n x (rest_of end (with_label l p.front p.sections)) body ifs) (same_body l p.front p.sections)
          ∙ ap (λ x. are_left a d n b x body ifs) (same_rest l p.front p.sections));
    }

all_sections : (a : Around) (d : ℕ) (ws : WideStmts) → AreSectionsOf a d (λ n b x y. are_sections a d n b ws x y) (parts_of ws)
all_sections a d end =
    record {
      first = λ n body ifs. ap (λ x. x && is_end ifs) (ends body) ∙ ap (λ x. equal_statements body tree.end && x) (ends ifs);
      more = λ n body ifs. ap (λ x. x && is_end ifs) (ends body) ∙ ap (λ x. equal_statements body tree.end && x) (ends ifs);
    }
all_sections a d (next s rest) = section-step a d (λ n b x y. are_sections a d n b rest x y) (label_of s) s (parts_of rest) (all_sections a d rest)

-- ---- a whole switch

pub assigned-is : (d : ℕ) (x : Expr) (s : Stmt) → equal_statement s (bare_statement (sets d x)) ≡ go_on (λ f. equal_expression f (bare x)) (assigned d s)
assigned-is d x (tree.Perform None) = refl
assigned-is d x (tree.Perform (Some (Assign op (AtVariable y) f))) = sym (chosen_if (equal_assignment op Plain) (equal_name y (hidden d)) f (bare x))
assigned-is d x (tree.Perform (Some (Assign op (AtElement y i) f))) = and_right (equal_assignment op Plain) false refl
assigned-is d x (tree.Perform (Some (Step op t))) = refl
assigned-is d x (tree.Perform (Some (Evaluate f))) = refl
assigned-is d x s = refl

pub chosen-few : (levels d default low : ℕ) (high : Option ℕ) (ws : WideStmts) (s : Stmt) → are_few levels few_cases (count_in low high (case_words (labels_in ws))) ≡ true
    → is_assigned d default low high (cases_in 0 false ws) s ≡ is_choice levels d default low high (cases_in 0 false ws) s
chosen-few levels d default low high ws s h =
    let cs = cases_in 0 false ws in
    go_on-is (is_chain d default low high cs) (λ f. equal_expression f (bare (chain d default low high cs))) (chain-is d default low high cs) (assigned d s)
    ∙ sym (assigned-is d (chain d default low high cs) s)
    ∙ sym (ap (λ x. equal_statement s (bare_statement x)) (choice-few levels d default low high cs (ap (λ k. are_few levels few_cases (count_in low high k)) (words-in ws 0 false) ∙ h)))

pub chosen-halved : (levels l d default low : ℕ) (high : Option ℕ) (ws : WideStmts) (s : Stmt) → levels ≡ suc l → are_few levels few_cases (count_in low high (case_words (labels_in ws))) ≡ false
    → is_halved l d default low (middle low high (case_words (labels_in ws))) high (cases_in 0 false ws) s ≡ is_choice levels d default low high (cases_in 0 false ws) s
chosen-halved levels l d default low high ws s is h =
    let cs = cases_in 0 false ws in
    ap (λ k. is_halved l d default low (middle low high k) high cs s) (sym (words-in ws 0 false))
    ∙ sym (ap (λ x. equal_statement s (bare_statement x))
    (ap (λ n. choice n d default low high cs) is ∙ choice-halved l d default low high cs
    (ap (λ n. are_few n few_cases (count_in low high (words_of cs))) (sym is) ∙ ap (λ k. are_few levels few_cases (count_in low high k)) (words-in ws 0 false) ∙ h)))

chosen-is : (d : ℕ) (ws : WideStmts) (s : Stmt) → equal_statement s (bare_statement (choice_of d (parts_of ws).sections)) ≡ is_chosen d ws s
chosen-is d ws s =
    let ss = (parts_of ws).sections in
    ap (λ cs. equal_statement s (bare_statement (choice (count_in 0 None (words_of cs)) d (default_of ss) 0 None cs))) (sym ((cases-are ws).first 0))
    ∙ ap (λ ns. equal_statement s (bare_statement (choice (count_in 0 None ns) d (default_of ss) 0 None (cases_in 0 false ws)))) (words-in ws 0 false)
    ∙ ap (λ n. equal_statement s (bare_statement (choice (count_in 0 None (case_words (labels_in ws))) d n 0 None (cases_in 0 false ws)))) (sym ((numbers ws).first 0))

-- ---- groups of sections

counted_of : (a : Around) (d i : ℕ) (ss : Sections) → count_of (sections_lowered a d i ss) ≡ section_number ss
counted_of a d i last = refl
counted_of a d i (section ls body rest) = ap suc (counted_of a d (suc i) rest)

-- sections one after another, if nothing precedes them
pub sections-are : (a : Around) (d n : ℕ) (ws : WideStmts) (ifs : Stmts) → (parts_of ws).front ≡ end
    → are_sections a d n false ws tree.end ifs ≡ equal_statements ifs (bare_statements (sections_lowered a d (suc n) (parts_of ws).sections))
sections-are a d n ws ifs e = (all_sections a d ws).first n tree.end ifs ∙ ap (λ f. are_left a d n f (parts_of ws).sections tree.end ifs) e

grouped-few : (levels d n : ℕ) (ss : Stmts) → are_few levels few_sections (count_of ss) ≡ true → grouped levels d n ss ≡ ss
grouped-few zero d n ss h = refl
grouped-few (suc levels) d n ss h = ap (λ (b : Bool). if b then ss else two_groups levels d n (count_of ss / 2) ss) (sym (few_of levels few_sections (count_of ss)) ∙ h)

grouped-halved : (levels d n : ℕ) (ss : Stmts) → are_few (suc levels) few_sections (count_of ss) ≡ false → grouped (suc levels) d n ss ≡ two_groups levels d n (count_of ss / 2) ss
grouped-halved levels d n ss h = ap (λ (b : Bool). if b then ss else two_groups levels d n (count_of ss / 2) ss) (sym (few_of levels few_sections (count_of ss)) ∙ h)

pub groups-few : (a : Around) (levels d n : ℕ) (ws : WideStmts) (ifs : Stmts) → (parts_of ws).front ≡ end → are_few levels few_sections (section_count ws) ≡ true
    → are_sections a d n false ws tree.end ifs ≡ are_grouped a levels d n ws ifs
groups-few a levels d n ws ifs e h =
    let flat = sections_lowered a d (suc n) (parts_of ws).sections in
    sections-are a d n ws ifs e
    ∙ sym (ap (λ x. equal_statements ifs (bare_statements x)) (grouped-few levels d n flat (ap (are_few levels few_sections) (counted_of a d (suc n) (parts_of ws).sections) ∙ h)))

pub groups-halved : (a : Around) (levels l d n : ℕ) (ws : WideStmts) (ifs : Stmts) → levels ≡ suc l → are_few levels few_sections (section_count ws) ≡ false
    → are_halved a l d n (section_count ws / 2) ws ifs ≡ are_grouped a levels d n ws ifs
groups-halved a levels l d n ws ifs is h =
    let flat = sections_lowered a d (suc n) (parts_of ws).sections in
    let count = counted_of a d (suc n) (parts_of ws).sections in
    ap (λ k. equal_statements ifs (bare_statements (two_groups l d n (k / 2) flat))) (sym count)
    ∙ sym (ap (λ x. equal_statements ifs (bare_statements x))
    (ap (λ k. grouped k d n flat) is ∙ grouped-halved l d n flat (ap (λ k. are_few k few_sections (count_of flat)) (sym is) ∙ ap (are_few levels few_sections) count ∙ h)))

groups-are : (a : Around) (d : ℕ) (ws : WideStmts) (ifs : Stmts)
    → equal_statements ifs (bare_statements (groups_of d (sections_lowered a d 1 (parts_of ws).sections))) ≡ are_grouped a (section_count ws) d 0 ws ifs
groups-are a d ws ifs =
    ap (λ k. equal_statements ifs (bare_statements (grouped k d 0 (sections_lowered a d 1 (parts_of ws).sections)))) (counted_of a d 1 (parts_of ws).sections)

-- a block that begins with a label enters its sections
pub entering : (ws : Stmts) → enters (wide_statements ws) ≡ begins ws
entering tree.end = refl
entering (tree.next s rest) = refl

block-is : (a : Around) (d : ℕ) (ws : Stmts) → begins ws ≡ true → (ifs : Stmts)
    → equal_statements ifs (bare_statements (groups_of d (sections_lowered a d 1 (parts_of (wide_statements ws)).sections)))
    ≡ (enters (wide_statements ws) && are_grouped a (section_count (wide_statements ws)) d 0 (wide_statements ws) ifs)
block-is a d ws h ifs =
    groups-are a d (wide_statements ws) ifs
    ∙ sym (ap (λ b. b && are_grouped a (section_count (wide_statements ws)) d 0 (wide_statements ws) ifs) (entering ws ∙ h))

run_by : (p : Bool) (ifs : Stmts) (go : Stmts → Bool) (x : Bool) → x ≡ go ifs → (x && p) ≡ go_through go (if p then Some ifs else None)
run_by true ifs go x h = and_true x ∙ h
run_by false ifs go x h = and_right x false refl

no_run : (p : Bool) (go : Stmts → Bool) → false ≡ go_through go (if p then None else None)
no_run true go = refl
no_run false go = refl

run_block-is : (a : Around) (d : ℕ) (ws : Stmts) → begins ws ≡ true → (s : Stmt) (c : Expr)
    → (equal_statement s (tree.Block (bare_statements (groups_of d (sections_lowered a d 1 (parts_of (wide_statements ws)).sections)))) && equal_expression c (Number Int 0))
    ≡ is_run a d (wide_statements ws) (tree.DoWhile s c)
run_block-is a d ws h (tree.Block ifs) c =
    run_by (equal_expression c (Number Int 0)) ifs (λ x. enters (wide_statements ws) && are_grouped a (section_count (wide_statements ws)) d 0 (wide_statements ws) x)
    (equal_statements ifs (bare_statements (groups_of d (sections_lowered a d 1 (parts_of (wide_statements ws)).sections)))) (block-is a d ws h ifs)
run_block-is a d ws h s c = no_run (equal_expression c (Number Int 0)) (λ x. enters (wide_statements ws) && are_grouped a (section_count (wide_statements ws)) d 0 (wide_statements ws) x)

run-is : (a : Around) (d : ℕ) (ws : Stmts) → begins ws ≡ true → (s : Stmt)
    → equal_statement s (tree.DoWhile (tree.Block (bare_statements (groups_of d (sections_lowered a d 1 (parts_of (wide_statements ws)).sections)))) (Number Int 0)) ≡ is_run a d (wide_statements ws) s
run-is a d ws h (tree.DoWhile s c) = run_block-is a d ws h s c
run-is a d ws h s = refl

third-is : (a : Around) (d : ℕ) (ws : Stmts) → begins ws ≡ true → (ss : Stmts)
    → equal_statements ss (tree.next (tree.DoWhile (tree.Block (bare_statements (groups_of d (sections_lowered (within a d) d 1 (parts_of (wide_statements ws)).sections)))) (Number Int 0)) (bare_statements (after a d)))
    ≡ third a d (wide_statements ws) ss
third-is a d ws h tree.end = refl
third-is a d ws h (tree.next s rest) = ap (λ b. b && equal_statements rest (bare_statements (after a d))) (run-is (within a d) d ws h s)

second-is : (a : Around) (d : ℕ) (ws : Stmts) → begins ws ≡ true → (ss : Stmts)
    → equal_statements ss (tree.next (bare_statement (choice_of d (parts_of (wide_statements ws)).sections))
    (tree.next (tree.DoWhile (tree.Block (bare_statements (groups_of d (sections_lowered (within a d) d 1 (parts_of (wide_statements ws)).sections)))) (Number Int 0)) (bare_statements (after a d))))
    ≡ second a d (wide_statements ws) ss
second-is a d ws h tree.end = refl
second-is a d ws h (tree.next s rest) =
    ap (λ b. b && equal_statements rest (tree.next (tree.DoWhile (tree.Block (bare_statements (groups_of d (sections_lowered (within a d) d 1 (parts_of (wide_statements ws)).sections)))) (Number Int 0)) (bare_statements (after a d)))) (chosen-is d (wide_statements ws) s)
    ∙ ap (λ b. is_chosen d (wide_statements ws) s && b) (third-is a d ws h rest)

parts-are : (a : Around) (d : ℕ) (e : Expr) (ws : Stmts) → begins ws ≡ true → (ss : Stmts)
    → equal_statement (tree.Block ss) (bare_statement (lowered a d (Switch e (parts_of (wide_statements ws)).sections))) ≡ parts a d e (wide_statements ws) ss
parts-are a d e ws h tree.end = refl
parts-are a d e ws h (tree.next s rest) =
    ap (λ b. b && equal_statements rest (tree.next (bare_statement (choice_of d (parts_of (wide_statements ws)).sections))
    (tree.next (tree.DoWhile (tree.Block (bare_statements (groups_of d (sections_lowered (within a d) d 1 (parts_of (wide_statements ws)).sections)))) (Number Int 0)) (bare_statements (after a d))))) (assigned-is d e s)
    ∙ ap (λ b. is_value d e s && b) (second-is a d ws h rest)

switched-is : (a : Around) (d : ℕ) (e : Expr) (ws : Stmts) → begins ws ≡ true → (s : Stmt)
    → equal_statement s (bare_statement (lowered a d (Switch e (parts_of (wide_statements ws)).sections))) ≡ is_switched a d e (wide_statements ws) s
switched-is a d e ws h (tree.Block ss) = parts-are a d e ws h ss
switched-is a d e ws h s = refl

-- a statement is a lowered switch if it is that of the switch's marked block
pub switch-same : (a : Around) (d : ℕ) (c : Expr) (marked s : Stmt) → is_switch c marked ≡ true
    → equal_statement s (bare_statement (lowered a d (wide_statement (tree.While c marked)))) ≡ of_switch a d marked s
switch-same a d c (tree.While e (tree.Block ws)) s h =
    ap (λ w. equal_statement s (bare_statement (lowered a d w))) (switch-is c e ws h) ∙ switched-is a d e ws ((and_parts (is_name switch_mark c) (begins ws) h).1) s
switch-same a d c marked s h = absurd (false≢true ((and_parts (is_name switch_mark c) (begins_while marked) h).1))
