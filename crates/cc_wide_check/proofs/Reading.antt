-- The sections of a switch while its marked block is read.
use Rattle.std.proofs.Common.{◌≡◌, ℕ, suc, ◌+◌, ◌<◌, ◌≤◌, Bool, true, false, ◌&&◌, is_some, List, [], ◌∷◌, length, drop, get_or, Option, Some, None, refl, sym, ap, ◌∙◌, arith, drop-cons, nat_eq, inl, inr}
use Rattle.std.specs.Option.{MatchOption}
use Rattle.std.proofs.Math.ListN.{drop_of_length-le}
use Rattle.std.proofs.lemmas.Bool.{and_right, cases_lt, ne_eqb, eq-eqb}
use Rattle.cc_types.proofs.Items.{drop-item}
use Rattle.cc_ast.specs.Erase.{statement_tree, statements_of}
use Rattle.cc_ast.specs.Tree as tree
use Rattle.cc_ast.specs.Tree.{Stmt, Stmts}
use Rattle.cc_ast.specs.declared.ast.Statement.{Statement}
use Rattle.cc_wide.specs.Places.{bare_statement, bare_statements}
use Rattle.cc_wide.specs.Lowering.{Around}
use Rattle.cc_wide.specs.WideTree as wide
use Rattle.cc_wide_check.specs.declared.marks.Label.{Label}
use Rattle.cc_wide_check.specs.internal.Equal.{equal_statement, equal_statements}
use Rattle.cc_wide_check.specs.internal.Sections.{opened_first, opened, is_end, go_through, statement_step, label_step, are_sections}
use Rattle.cc_wide_check.specs.internal.Views.{label_tree, wide_of}

-- whether a label was found
pub match-some : (o : Option Label) (w : Option wide.Label) → MatchOption o (w ≡ None) (λ l. w ≡ Some (label_tree l)) → is_some w ≡ is_some o
match-some None w h = ap is_some h
match-some (Some l) w h = ap is_some h

abbrev pub bare_of : List Statement → Stmts
bare_of l = bare_statements (statements_of l)

pub nothing-left : (l : List Statement) (i : ℕ) → length l ≤ i → is_end (bare_of (drop i l)) ≡ true
nothing-left l i h = ap (λ k. is_end (bare_of k)) (drop_of_length-le l h)

pub something-left : (l : List Statement) (i : ℕ) → i < length l → is_end (bare_of (drop i l)) ≡ false
something-left [] i h = absurd (omega (arith, h))
something-left (s ∷ rest) i h =
    ap (λ k. is_end (bare_of k)) (drop-cons (s ∷ rest) i s h)

one_more : (n : ℕ) → suc n ≡ n + 1
one_more n = omega arith

-- a section begins
pub opened-read : (d n i : ℕ) (ifs : List Statement) (s : Statement) (body : List Statement) (go : ℕ → Bool → Stmts → Stmts → Bool) (l : Stmts) → i < length ifs → s ≡ get_or ifs i s
    → opened_first d (n + 1) (bare_statement (statement_tree s)) ≡ Some (bare_of body) → is_end l ≡ true
    → label_step d go n false l (bare_of (drop i ifs)) ≡ go (n + 1) true (bare_of body) (bare_of (drop (i + 1) ifs))
opened-read d n i ifs s body go l less is h e =
    ap (λ b. b && opened d (suc n) (go (suc n) true) (bare_of (drop i ifs))) e
    ∙ ap (λ k. opened d (suc n) (go (suc n) true) (bare_of k)) (drop-item ifs i s less is)
    ∙ ap (λ m. go_through (λ body. go m true body (bare_of (drop (i + 1) ifs))) (opened_first d m (bare_statement (statement_tree s)))) (one_more n)
    ∙ ap (go_through (λ body. go (n + 1) true body (bare_of (drop (i + 1) ifs)))) h

pub unopened-read : (d n i : ℕ) (ifs : List Statement) (s : Statement) (go : ℕ → Bool → Stmts → Stmts → Bool) (l : Stmts) → i < length ifs → s ≡ get_or ifs i s
    → opened_first d (n + 1) (bare_statement (statement_tree s)) ≡ None → label_step d go n false l (bare_of (drop i ifs)) ≡ false
unopened-read d n i ifs s go l less is h =
    and_right (is_end l) (opened d (suc n) (go (suc n) true) (bare_of (drop i ifs)))
    (ap (λ k. opened d (suc n) (go (suc n) true) (bare_of k)) (drop-item ifs i s less is)
    ∙ ap (λ m. go_through (λ body. go m true body (bare_of (drop (i + 1) ifs))) (opened_first d m (bare_statement (statement_tree s)))) (one_more n)
    ∙ ap (go_through (λ body. go (n + 1) true body (bare_of (drop (i + 1) ifs)))) h)

-- no section is left
pub ended-read : (d n i : ℕ) (ifs : List Statement) (go : ℕ → Bool → Stmts → Stmts → Bool) (l : Stmts) → length ifs ≤ i → label_step d go n false l (bare_of (drop i ifs)) ≡ false
ended-read d n i ifs go l long =
    and_right (is_end l) (opened d (suc n) (go (suc n) true) (bare_of (drop i ifs)))
    (ap (λ k. opened d (suc n) (go (suc n) true) (bare_of k)) (drop_of_length-le ifs long))

-- the section that has begun is not at its end
pub unended-read : (d n i : ℕ) (ifs : List Statement) (go : ℕ → Bool → Stmts → Stmts → Bool) (body : List Statement) (j : ℕ) → j < length body
    → label_step d go n false (bare_of (drop j body)) (bare_of (drop i ifs)) ≡ false
unended-read d n i ifs go body j less = ap (λ b. b && opened d (suc n) (go (suc n) true) (bare_of (drop i ifs))) (something-left body j less)

-- a statement of a section
pub statement-read : (s : Stmt) (go : Stmts → Stmts → Bool) (ifs : Stmts) (body : List Statement) (i : ℕ) (x : Statement) → i < length body → x ≡ get_or body i x
    → equal_statement (bare_statement (statement_tree x)) s ≡ true → statement_step s go (bare_of (drop i body)) ifs ≡ go (bare_of (drop (i + 1) body)) ifs
statement-read s go ifs body i x less is same =
    ap (λ k. statement_step s go (bare_of k) ifs) (drop-item body i x less is) ∙ ap (λ b. b && go (bare_of (drop (i + 1) body)) ifs) same

pub statement-differs : (s : Stmt) (go : Stmts → Stmts → Bool) (ifs : Stmts) (body : List Statement) (i : ℕ) (x : Statement) → i < length body → x ≡ get_or body i x
    → equal_statement (bare_statement (statement_tree x)) s ≡ false → statement_step s go (bare_of (drop i body)) ifs ≡ false
statement-differs s go ifs body i x less is differs =
    ap (λ k. statement_step s go (bare_of k) ifs) (drop-item body i x less is) ∙ ap (λ b. b && go (bare_of (drop (i + 1) body)) ifs) differs

pub statement-past : (s : Stmt) (go : Stmts → Stmts → Bool) (ifs : Stmts) (body : List Statement) (i : ℕ) → length body ≤ i → statement_step s go (bare_of (drop i body)) ifs ≡ false
statement-past s go ifs body i long = ap (λ k. statement_step s go (bare_of k) ifs) (drop_of_length-le body long)

-- two statements are no others
pub fewer-than_two : (l : List Statement) (a b : Stmt) → length l < 2 → false ≡ equal_statements (bare_of l) (tree.next a (tree.next b tree.end))
fewer-than_two [] a b h = refl
fewer-than_two (x ∷ []) a b h = sym (and_right (equal_statement (bare_statement (statement_tree x)) a) false refl)
fewer-than_two (x ∷ y ∷ l) a b h = absurd (omega (arith, h))

pub more-than_two : (l : List Statement) (a b : Stmt) → 3 ≤ length l → false ≡ equal_statements (bare_of l) (tree.next a (tree.next b tree.end))
more-than_two [] a b h = absurd (omega (arith, h))
more-than_two (x ∷ []) a b h = absurd (omega (arith, h))
more-than_two (x ∷ y ∷ []) a b h = absurd (omega (arith, h))
more-than_two (x ∷ y ∷ z ∷ l) a b h =
    sym (and_right (equal_statement (bare_statement (statement_tree x)) a) (equal_statement (bare_statement (statement_tree y)) b && false)
    (and_right (equal_statement (bare_statement (statement_tree y)) b) false refl))

-- the whole block has been read
pub read-all : (a : Around) (d n : ℕ) (label : Bool) (all : List Statement) (i : ℕ) (body ifs : Stmts) → length all ≤ i
    → are_sections a d n label (wide_of (drop i all)) body ifs ≡ (is_end body && is_end ifs)
read-all a d n label all i body ifs long = ap (λ k. are_sections a d n label (wide_of k) body ifs) (drop_of_length-le all long)

pub none-left : (n : ℕ) (ifs : List Statement) → n ≤ length ifs → nat_eq n (length ifs) ≡ is_end (bare_of (drop n ifs))
none-left n ifs h =
    elim (cases_lt n (length ifs)) [
      | inl less ↦ ne_eqb n (length ifs) (λ (e : n ≡ length ifs). omega (arith, less, e)) ∙ sym (something-left ifs n less)
      | inr long ↦ eq-eqb n (length ifs) (omega (arith, h, long)) ∙ sym (nothing-left ifs n long)
    ]
