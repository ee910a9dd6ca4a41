-- The statements of a marked block before the cut are its first sections, and those from it on are the others.
use denote.Param.Weighed.{most, most-append}
use Rattle.std.proofs.Common.{◌≡◌, ℕ, zero, suc, ◌+◌, ◌-◌, ◌≤◌, max, Bool, true, false, ◌&&◌, if◌then◌else◌, is_some, List, [], ◌∷◌, length, take, drop, get_or, Option, Some, None, refl, ap, ◌∙◌, sym, arith}
use Rattle.std.proofs.lemmas.List.{take-append-drop, take_rest}
use Rattle.cc_ast.specs.Erase.{statement_tree}
use Rattle.cc_types.proofs.Items.{drop-item}
use Rattle.cc_ast.specs.Tree as tree
use Rattle.cc_ast.specs.Tree.{Expr, Stmt, Stmts}
use Rattle.cc_ast.specs.declared.ast.Statement.{Statement}
use Rattle.cc_wide.specs.Places.{bare_statement, bare_statements}
use Rattle.cc_wide.specs.WideTree.{Label, WideStmt, WideStmts, end, next, Sections, last, section}
use Rattle.cc_wide.specs.Lowering.{Around, at_most, first_of, after_first, grouped, sections_lowered}
use Rattle.cc_wide.proofs.Groups.{first_sections, after_sections, first_lowered, after_lowered}
use Rattle.cc_wide_text.specs.Forms.{label_of, Parts, with_label, with_statement, parts_of, wide_statement}
use Rattle.cc_wide_check.specs.internal.Equal.{equal_expression, equal_statement, equal_statements}
use Rattle.cc_wide_check.specs.internal.Groups.{count_step, counted, cut_step, cut_at}
use Rattle.cc_wide_check.specs.internal.Sections.{block_of, opened_first, go_through, are_grouped, are_halved, section_number, section_count}
use Rattle.cc_wide_check.specs.internal.Views.{wide_of}
use Rattle.cc_wide_check.proofs.Reading.{bare_of}
use Rattle.cc_wide_check.proofs.Parts.{body_of, rest_of, labels_of, labelled, same_rest}

-- ---- how many sections there are

record IsCount (go : ℕ → Bool → ℕ) (p : Parts) : Type 0 where
  first : (n : ℕ) → go n false ≡ n + section_number p.sections
  more : (n : ℕ) → go n true ≡ n + section_number (rest_of p.front p.sections)

count-step : (go : ℕ → Bool → ℕ) (o : Option Label) (s : WideStmt) (p : Parts) → IsCount go p → IsCount (λ n b. count_step go n b (is_some o)) (with_statement o s p)
count-step go None s p h = record { first = λ n. h.first n; more = λ n. h.first n }
count-step go (Some l) s p h =
    let rest = section_number (rest_of p.front p.sections) in
    record {
      first = λ n. h.more (suc n) ∙ (let same : suc n + rest ≡ n + suc rest = omega arith in same) ∙ sym (ap (λ ss. n + section_number ss) (labelled l p.front p.sections));
      more = λ n. h.more n ∙ sym (ap (λ ss. n + section_number ss) (same_rest l p.front p.sections));
    }

counts : (ws : WideStmts) → IsCount (λ n b. counted n b ws) (parts_of ws)
counts end = record { first = λ n. (let same : n ≡ n + 0 = omega arith in same); more = λ n. (let same : n ≡ n + 0 = omega arith in same) }
counts (next s rest) = count-step (λ n b. counted n b rest) (label_of s) s (parts_of rest) (counts rest)

pub counted-is : (ws : WideStmts) → counted 0 false ws ≡ section_count ws
counted-is ws = (counts ws).first 0 ∙ (let same : 0 + section_number (parts_of ws).sections ≡ section_number (parts_of ws).sections = omega arith in same)

pub fewer : (h : ℕ) (ss : Sections) → section_number (first_sections h ss) ≤ section_number ss
fewer zero ss = omega arith
fewer (suc h) last = omega arith
fewer (suc h) (section ls body rest) = let k = fewer h rest in omega (arith, k)

pub others : (h : ℕ) (ss : Sections) → h ≤ section_number ss → h + section_number (after_sections h ss) ≡ section_number ss
others zero ss le = omega arith
others (suc h) last le = absurd (omega (arith, le))
others (suc h) (section ls body rest) le = let k = others h rest (omega (arith, le)) in omega (arith, k)

-- ---- the cut

abbrev first_wide : ℕ → WideStmts → WideStmts
first_wide zero ws = end
first_wide (suc n) end = end
first_wide (suc n) (next s rest) = next s (first_wide n rest)

abbrev after_wide : ℕ → WideStmts → WideStmts
after_wide zero ws = ws
after_wide (suc n) end = end
after_wide (suc n) (next s rest) = after_wide n rest

wide-take : (n : ℕ) (l : List Statement) → wide_of (take n l) ≡ first_wide n (wide_of l)
wide-take zero l = refl
wide-take (suc n) [] = refl
wide-take (suc n) (s ∷ l) = ap (next (wide_statement (statement_tree s))) (wide-take n l)

wide-drop : (n : ℕ) (l : List Statement) → wide_of (drop n l) ≡ after_wide n (wide_of l)
wide-drop zero l = refl
wide-drop (suc n) [] = refl
wide-drop (suc n) (s ∷ l) = wide-drop n l

abbrev parted : WideStmts → Sections → Parts
parted f ss = record { front = f; sections = ss }

-- the parts of the first n statements of some, and of those after them, given the label of the first one
abbrev first_parts : Option Label → ℕ → WideStmt → WideStmts → Parts
first_parts o zero s rest = parted end last
first_parts o (suc n) s rest = with_statement o s (parts_of (first_wide n rest))

abbrev after_parts : Option Label → ℕ → WideStmt → WideStmts → Parts
after_parts o zero s rest = with_statement o s (parts_of rest)
after_parts o (suc n) s rest = parts_of (after_wide n rest)

first-are : (n : ℕ) (s : WideStmt) (rest : WideStmts) → parts_of (first_wide n (next s rest)) ≡ first_parts (label_of s) n s rest
first-are zero s rest = refl
first-are (suc n) s rest = refl

after-are : (n : ℕ) (s : WideStmt) (rest : WideStmts) → parts_of (after_wide n (next s rest)) ≡ after_parts (label_of s) n s rest
after-are zero s rest = refl
after-are (suc n) s rest = refl

none-first : (h : ℕ) → first_sections h last ≡ last
none-first zero = refl
none-first (suc h) = refl

none-after : (h : ℕ) → after_sections h last ≡ last
none-after zero = refl
none-after (suc h) = refl

record IsCut (ws : WideStmts) : Type 0 where
  first : (h : ℕ) → parts_of (first_wide (cut_at h false ws) ws) ≡ parted (parts_of ws).front (first_sections h (parts_of ws).sections)
  after : (h : ℕ) → parts_of (after_wide (cut_at h false ws) ws) ≡ parted end (after_sections h (parts_of ws).sections)
  -- the section that has begun, with one more label in front
  more : (h : ℕ) (l : Label) → with_label l (parts_of (first_wide (cut_at h true ws) ws)).front (parts_of (first_wide (cut_at h true ws) ws)).sections
      ≡ section (l ∷ labels_of (parts_of ws).front (parts_of ws).sections) (body_of (parts_of ws).front (parts_of ws).sections) (first_sections h (rest_of (parts_of ws).front (parts_of ws).sections))
  later : (h : ℕ) → parts_of (after_wide (cut_at h true ws) ws) ≡ parted end (after_sections h (rest_of (parts_of ws).front (parts_of ws).sections))

module _ (s : WideStmt) (rest : WideStmts) (c : IsCut rest) where
  abbrev p : Parts
  p = parts_of rest

  abbrev at : (h : ℕ) → (label : Bool) → Option Label → ℕ
  at h label o = cut_step (λ k b. cut_at k b rest) h label (is_some o)

  first-by : (o : Option Label) (h : ℕ) → first_parts o (at h false o) s rest ≡ parted (with_statement o s p).front (first_sections h (with_statement o s p).sections)
  first-by None h = ap (λ q. with_statement None s q) (c.first h)
  first-by (Some l) zero = refl
  first-by (Some l) (suc h) = ap (parted end) (c.more h l) ∙ sym (ap (λ ss. parted end (first_sections (suc h) ss)) (labelled l p.front p.sections))

  after-by : (o : Option Label) (h : ℕ) → after_parts o (at h false o) s rest ≡ parted end (after_sections h (with_statement o s p).sections)
  after-by None h = c.after h
  after-by (Some l) zero = refl
  after-by (Some l) (suc h) = c.later h ∙ sym (ap (λ ss. parted end (after_sections (suc h) ss)) (labelled l p.front p.sections))

  more-by : (o : Option Label) (h : ℕ) (l : Label) → with_label l (first_parts o (at h true o) s rest).front (first_parts o (at h true o) s rest).sections
      ≡ section (l ∷ labels_of (with_statement o s p).front (with_statement o s p).sections) (body_of (with_statement o s p).front (with_statement o s p).sections)
      (first_sections h (rest_of (with_statement o s p).front (with_statement o s p).sections))
  more-by None h l = ap (λ (q : Parts). section (l ∷ []) (next s q.front) q.sections) (c.first h)
  more-by (Some k) h l =
      ap (with_label l end) (c.more h k)
      ∙ sym (ap (λ ss. section (l ∷ labels_of end ss) (body_of end ss) (first_sections h (rest_of end ss))) (labelled k p.front p.sections))

  later-by : (o : Option Label) (h : ℕ) → after_parts o (at h true o) s rest ≡ parted end (after_sections h (rest_of (with_statement o s p).front (with_statement o s p).sections))
  later-by None h = c.after h
  later-by (Some k) h = c.later h ∙ sym (ap (λ ss. parted end (after_sections h (rest_of end ss))) (labelled k p.front p.sections))

  cut-next : IsCut (next s rest)
  cut-next =
      record {
        first = λ h. first-are (at h false (label_of s)) s rest ∙ first-by (label_of s) h;
        after = λ h. after-are (at h false (label_of s)) s rest ∙ after-by (label_of s) h;
        more = λ h l. ap (λ (q : Parts). with_label l q.front q.sections) (first-are (at h true (label_of s)) s rest) ∙ more-by (label_of s) h l;
        later = λ h. after-are (at h true (label_of s)) s rest ∙ later-by (label_of s) h;
      }

cuts : (ws : WideStmts) → IsCut ws
cuts end =
    record {
      first = λ h. sym (ap (parted end) (none-first h));
      after = λ h. sym (ap (parted end) (none-after h));
      more = λ h l. sym (ap (section (l ∷ []) end) (none-first h));
      later = λ h. sym (ap (parted end) (none-after h));
    }
cuts (next s rest) = cut-next s rest (cuts rest)

pub first-part : (h : ℕ) (all : List Statement) → parts_of (wide_of (take (cut_at h false (wide_of all)) all)) ≡ parted (parts_of (wide_of all)).front (first_sections h (parts_of (wide_of all)).sections)
first-part h all = ap parts_of (wide-take (cut_at h false (wide_of all)) all) ∙ (cuts (wide_of all)).first h

pub other-part : (h : ℕ) (all : List Statement) → parts_of (wide_of (drop (cut_at h false (wide_of all)) all)) ≡ parted end (after_sections h (parts_of (wide_of all)).sections)
other-part h all = ap parts_of (wide-drop (cut_at h false (wide_of all)) all) ∙ (cuts (wide_of all)).after h

-- ---- two groups

block_equal : (b : Bool) (s : Stmt) (f : Stmts) → go_through (λ x. equal_statements x f) (if b then block_of s else None) ≡ (b && equal_statement s (tree.Block f))
block_equal true (tree.Block body) f = refl
block_equal true s f = refl
block_equal false s f = refl

opened-equal : (d n : ℕ) (s : Stmt) (f : Stmts) → go_through (λ x. equal_statements x f) (opened_first d n s) ≡ equal_statement s (tree.If (at_most d n) (tree.Block f))
opened-equal d n (tree.If c s) f = block_equal (equal_expression c (at_most d n)) s f
opened-equal d n s f = refl

-- the first group is not there
pub unopened-halves : (a : Around) (levels d n h : ℕ) (ws : WideStmts) (s : Stmt) (rest : Stmts) → opened_first d (n + h) s ≡ None → false ≡ are_halved a levels d n h ws (tree.next s rest)
unopened-halves a levels d n h ws s rest e =
    let flat = sections_lowered a d (suc n) (parts_of ws).sections in
    let group = bare_statements (grouped levels d n (first_of h flat)) in
    sym (ap (λ b. b && equal_statements rest (bare_statements (grouped levels d (n + h) (after_first h flat)))) (sym (opened-equal d (n + h) s group) ∙ ap (go_through (λ x. equal_statements x group)) e))

-- both groups are there
pub opened-halves : (a : Around) (levels d n h : ℕ) (all : List Statement) (at : ℕ) (s : Stmt) (body rest : Stmts) → at ≡ cut_at h false (wide_of all) → opened_first d (n + h) s ≡ Some body
    → (are_grouped a levels d n (wide_of (take at all)) body && are_grouped a levels d (n + h) (wide_of (drop at all)) rest) ≡ are_halved a levels d n h (wide_of all) (tree.next s rest)
opened-halves a levels d n h all at s body rest is e =
    let ss = (parts_of (wide_of all)).sections in
    let flat = sections_lowered a d (suc n) ss in
    let group = bare_statements (grouped levels d n (first_of h flat)) in
    let one : are_grouped a levels d n (wide_of (take at all)) body ≡ equal_statement s (tree.If (at_most d (n + h)) (tree.Block group)) =
    ap (λ k. are_grouped a levels d n (wide_of (take k all)) body) is
    ∙ ap (λ (q : Parts). equal_statements body (bare_statements (grouped levels d n (sections_lowered a d (suc n) q.sections)))) (first-part h all)
    ∙ ap (λ x. equal_statements body (bare_statements (grouped levels d n x))) (sym (first_lowered h ss a d (suc n)))
    ∙ sym (ap (go_through (λ x. equal_statements x group)) e) ∙ opened-equal d (n + h) s group in
    let other : are_grouped a levels d (n + h) (wide_of (drop at all)) rest ≡ equal_statements rest (bare_statements (grouped levels d (n + h) (after_first h flat))) =
    ap (λ k. are_grouped a levels d (n + h) (wide_of (drop k all)) rest) is
    ∙ ap (λ (q : Parts). equal_statements rest (bare_statements (grouped levels d (n + h) (sections_lowered a d (suc (n + h)) q.sections)))) (other-part h all)
    ∙ ap (λ x. equal_statements rest (bare_statements (grouped levels d (n + h) x))) (sym (after_lowered h ss a d n)) in
    λ i. one i && other i

-- ---- while the code reads them

-- the depth of a list is that of its deeper part
pub most-halves : {X : Type 0} (measure : X → ℕ) (i : ℕ) (xs : List X) → most measure xs ≡ max (most measure (take i xs)) (most measure (drop i xs))
most-halves measure i xs = sym (ap (most measure) (take-append-drop i xs)) ∙ most-append measure (take i xs) (drop i xs)

module _ (h : ℕ) (all : List Statement) (at : ℕ) (is : at ≡ cut_at h false (wide_of all)) where
  pub first-front : (parts_of (wide_of (take at all))).front ≡ (parts_of (wide_of all)).front
  first-front = ap (λ k. (parts_of (wide_of (take k all))).front) is ∙ ap (λ (p : Parts). p.front) (first-part h all)

  pub first-count : section_count (wide_of (take at all)) ≤ section_count (wide_of all)
  first-count =
      let e : section_count (wide_of (take at all)) ≡ section_number (first_sections h (parts_of (wide_of all)).sections) =
      ap (λ k. section_count (wide_of (take k all))) is ∙ ap (λ (p : Parts). section_number p.sections) (first-part h all) in
      let k = fewer h (parts_of (wide_of all)).sections in
      omega (arith, e, k)

  pub other-front : (parts_of (wide_of (take (length all - at) (drop at all)))).front ≡ end
  other-front =
      ap (λ l. (parts_of (wide_of l)).front) (take_rest all at) ∙ ap (λ k. (parts_of (wide_of (drop k all))).front) is ∙ ap (λ (p : Parts). p.front) (other-part h all)

  pub other-count : h ≤ section_count (wide_of all) → h + section_count (wide_of (take (length all - at) (drop at all))) ≡ section_count (wide_of all)
  other-count le =
      let e : section_count (wide_of (take (length all - at) (drop at all))) ≡ section_number (after_sections h (parts_of (wide_of all)).sections) =
      ap (λ l. section_count (wide_of l)) (take_rest all at) ∙ ap (λ k. section_count (wide_of (drop k all))) is ∙ ap (λ (p : Parts). section_number p.sections) (other-part h all) in
      let k = others h (parts_of (wide_of all)).sections le in
      omega (arith, e, k)

  module _ (a : Around) (levels d n : ℕ) (ifs : List Statement) (first : Statement) (some : 1 ≤ length ifs) (item : first ≡ get_or ifs 0 first) where
    items : ifs ≡ first ∷ drop 1 ifs
    items = drop-item ifs 0 first (omega (arith, some)) item

    pub no-halves : opened_first d (n + h) (bare_statement (statement_tree first)) ≡ None → false ≡ are_halved a levels d n h (wide_of all) (bare_of ifs)
    no-halves e =
        unopened-halves a levels d n h (wide_of all) (bare_statement (statement_tree first)) (bare_of (drop 1 ifs)) e
        ∙ sym (ap (λ l. are_halved a levels d n h (wide_of all) (bare_of l)) items)

    pub both-halves : (body : List Statement) → opened_first d (n + h) (bare_statement (statement_tree first)) ≡ Some (bare_of body)
        → (are_grouped a levels d n (wide_of (take at all)) (bare_of body)
        && are_grouped a levels d (n + h) (wide_of (take (length all - at) (drop at all))) (bare_of (take (length ifs - 1) (drop 1 ifs)))) ≡ are_halved a levels d n h (wide_of all) (bare_of ifs)
    both-halves body e =
        ap (λ l. are_grouped a levels d n (wide_of (take at all)) (bare_of body) && are_grouped a levels d (n + h) (wide_of l) (bare_of (take (length ifs - 1) (drop 1 ifs)))) (take_rest all at)
        ∙ ap (λ l. are_grouped a levels d n (wide_of (take at all)) (bare_of body) && are_grouped a levels d (n + h) (wide_of (drop at all)) (bare_of l)) (take_rest ifs 1)
        ∙ opened-halves a levels d n h all at (bare_statement (statement_tree first)) (bare_of body) (bare_of (drop 1 ifs)) is e
        ∙ sym (ap (λ l. are_halved a levels d n h (wide_of all) (bare_of l)) items)
