-- A unit fits if and only if it is a translation.
use Rattle.std.proofs.Common.{◌≡◌, ℕ, zero, suc, ◌-◌, ◌<◌, ◌≤◌, max, nat_lt, nat_le, Bool, true, false, not, ◌&&◌, if◌then◌else◌, is_none, List, [], ◌∷◌, length, map, Option, Some, None, refl, ap, ◌∙◌, sym, subst, arith}
use Rattle.std.specs.Bool.{Decides}
use Rattle.std.specs.Cmp.Lexicographic.{pointwise}
use Rattle.std.proofs.lemmas.Bool.{and_parts, and_from, false≢true, not-true, ltb-true, leb-true, leb-false, lt-ltb, le-leb, lt-leb}
use Rattle.std.proofs.lemmas.Bool.Decides.{Decides-and, Decides-at, nat_tests}
use Rattle.cc_ast.specs.scalar.Scalar.TheVariants.{Unsigned}
use Rattle.cc_ast.specs.Tree as tree
use Rattle.cc_ast.specs.Tree.{Expr, Declarator, Stmt, Stmts, External}
use Rattle.cc_wide.specs.Places.{bare_statements, bare_declarators, bare_signature, bare_object, bare_external}
use Rattle.cc_wide.specs.WideTree.{Label, WideStmt, Block, Local, Perform, Return, Break, Continue, If, IfElse, While, DoWhile, For, Switch, WideStmts, end, next, Sections, last, section, WideExternal, Declaration, Definition, Objects}
use Rattle.cc_wide.specs.Lowering.{Outside, hidden, hidden_declarators, all_lowered, body_with, lowered_body, lowered_external, lowered_unit, nesting, nesting_of_all, nesting_of_sections, AllLower, UnitLowers}
use Rattle.cc_wide.specs.Laws.{IsTranslation}
use Rattle.cc_wide_text.specs.Marks.{switch_mark}
use Rattle.cc_wide_text.specs.Forms.{is_name, label_of, Parts, with_label, with_statement, parts_of, wide_statement, wide_statements}
use Rattle.cc_wide_check.specs.internal.Switches.{begins, begins_while, is_switch}
use Rattle.cc_wide_check.specs.internal.Equal.{equal_option, equal_scalar, equal_name, equal_expression, equal_declarator, equal_statements, equal_signature, equal_object}
use Rattle.cc_wide_check.specs.internal.Lowers.{all_lower, is_shallow, are_shallow, sections_shallow}
use Rattle.cc_wide_check.specs.internal.Units.{are_hidden, is_nesting, fit_with, fit_declared, body_fits, external_fits, unit_fits}
use Rattle.cc_wide_check.proofs.Equal.{decided, scalar-is, scalar-same, declarators-are, declarators-same, statements-are, statements-same, signature-is, signature-same, objects-are, objects-same}
use Rattle.cc_wide_check.proofs.Lowering.{statements-lower}
use Rattle.cc_wide_check.proofs.Parts.{and_assoc}
use Rattle.cc_wide_check.proofs.Switches.{entered, switch-is, second-is}

-- ---- how many switches are inside one another

max-le : (a b l : ℕ) → nat_le (max a b) l ≡ (nat_le a l && nat_le b l)
max-le a b l = grind (arith, nat_tests)

suc-le : (n l : ℕ) → nat_le (suc n) l ≡ (nat_lt 0 l && nat_le n (l - 1))
suc-le n l = grind (arith, nat_tests)

zero-le : (l : ℕ) → nat_le 0 l ≡ true
zero-le l = le-leb 0 l (omega arith)

both : (a b c d : Bool) → a ≡ b → c ≡ d → (a && c) ≡ (b && d)
both a b c d p q = ap (λ x. x && c) p ∙ ap (λ x. b && x) q

mutual
  shallow-is : (l : ℕ) (s : WideStmt) → is_shallow l s ≡ nat_le (nesting s) l
  shallow-is l (Block all) = shallow-are l all
  shallow-is l (Local t ds) = sym (zero-le l)
  shallow-is l (Perform a) = sym (zero-le l)
  shallow-is l (Return at e) = sym (zero-le l)
  shallow-is l (Break at) = sym (zero-le l)
  shallow-is l (Continue at) = sym (zero-le l)
  shallow-is l (If c s) = shallow-is l s
  shallow-is l (IfElse c s r) =
      both (is_shallow l s) (nat_le (nesting s) l) (is_shallow l r) (nat_le (nesting r) l) (shallow-is l s) (shallow-is l r) ∙ sym (max-le (nesting s) (nesting r) l)
  shallow-is l (While c s) = shallow-is l s
  shallow-is l (DoWhile s c) = shallow-is l s
  shallow-is l (For first c behind s) = shallow-is l s
  shallow-is l (Switch e all) = ap (λ b. nat_lt 0 l && b) (shallow-sections (l - 1) all) ∙ sym (suc-le (nesting_of_sections all) l)

  shallow-are : (l : ℕ) (all : WideStmts) → are_shallow l all ≡ nat_le (nesting_of_all all) l
  shallow-are l end = sym (zero-le l)
  shallow-are l (next s rest) =
      both (is_shallow l s) (nat_le (nesting s) l) (are_shallow l rest) (nat_le (nesting_of_all rest) l) (shallow-is l s) (shallow-are l rest)
      ∙ sym (max-le (nesting s) (nesting_of_all rest) l)

  shallow-sections : (l : ℕ) (all : Sections) → sections_shallow l all ≡ nat_le (nesting_of_sections all) l
  shallow-sections l last = sym (zero-le l)
  shallow-sections l (section ls body rest) =
      both (are_shallow l body) (nat_le (nesting_of_all body) l) (sections_shallow l rest) (nat_le (nesting_of_sections rest) l) (shallow-are l body) (shallow-sections l rest)
      ∙ sym (max-le (nesting_of_all body) (nesting_of_sections rest) l)

-- ---- of a marked switch

shallow-label : (l : ℕ) (s : WideStmt) (k : Label) → label_of s ≡ Some k → is_shallow l s ≡ true
shallow-label l (Perform a) k h = refl
shallow-label l s k h = cc

shallow-with : (l : ℕ) (k : Label) (f : WideStmts) (ss : Sections) → sections_shallow l (with_label k f ss) ≡ (are_shallow l f && sections_shallow l ss)
shallow-with l k end (section ls body rest) = refl
shallow-with l k end last = refl
shallow-with l k (next s rest) ss = refl

shallow-step : (l : ℕ) (o : Option Label) (s : WideStmt) (p : Parts) → ((k : Label) → o ≡ Some k → is_shallow l s ≡ true)
    → (are_shallow l (with_statement o s p).front && sections_shallow l (with_statement o s p).sections)
    ≡ (is_shallow l s && (are_shallow l p.front && sections_shallow l p.sections))
shallow-step l None s p h = and_assoc (is_shallow l s) (are_shallow l p.front) (sections_shallow l p.sections)
shallow-step l (Some k) s p h = shallow-with l k p.front p.sections ∙ sym (ap (λ b. b && (are_shallow l p.front && sections_shallow l p.sections)) (h k refl))

block-shallow : (l : ℕ) (ws : WideStmts) → (are_shallow l (parts_of ws).front && sections_shallow l (parts_of ws).sections) ≡ are_shallow l ws
block-shallow l end = refl
block-shallow l (next s rest) = shallow-step l (label_of s) s (parts_of rest) (shallow-label l s) ∙ ap (λ b. is_shallow l s && b) (block-shallow l rest)

pub switch-shallow : (l : ℕ) (c : Expr) (s : Stmt) → is_switch c s ≡ true → is_shallow l (wide_statement (tree.While c s)) ≡ (nat_lt 0 l && is_shallow (l - 1) (wide_statement s))
switch-shallow l c (tree.While e (tree.Block ws)) h =
    let p = parts_of (wide_statements ws) in
    ap (is_shallow l) (switch-is c e ws h)
    ∙ ap (λ b. nat_lt 0 l && b)
    (sym (ap (λ f. are_shallow (l - 1) f && sections_shallow (l - 1) p.sections) (entered ws ((and_parts (is_name switch_mark c) (begins ws) h).1)))
    ∙ block-shallow (l - 1) (wide_statements ws) ∙ sym (ap (is_shallow (l - 1)) (second-is e ws)))
switch-shallow l c s h = absurd (false≢true ((and_parts (is_name switch_mark c) (begins_while s) h).1))

-- ---- hidden locals

hidden-bare : (n : ℕ) → bare_declarators (hidden_declarators n) ≡ hidden_declarators n
hidden-bare zero = refl
hidden-bare (suc n) = ap (λ ds. record { name = hidden n; initial = None } ∷ ds) (hidden-bare n)

hidden-length : (n : ℕ) → length (hidden_declarators n) ≡ n
hidden-length zero = refl
hidden-length (suc n) = ap suc (hidden-length n)

none-is : (o : Option Expr) → is_none o ≡ equal_option equal_expression o None
none-is None = refl
none-is (Some e) = refl

hidden-are : (ds : List Declarator) → are_hidden ds ≡ pointwise equal_declarator ds (hidden_declarators (length ds))
hidden-are [] = refl
hidden-are (d ∷ rest) =
    both (equal_name d.name (hidden (length rest)) && is_none d.initial) (equal_declarator d (record { name = hidden (length rest); initial = None })) (are_hidden rest)
    (pointwise equal_declarator rest (hidden_declarators (length rest))) (ap (λ b. equal_name d.name (hidden (length rest)) && b) (none-is d.initial)) (hidden-are rest)

nesting-is : (n : ℕ) (all : WideStmts) → Decides (is_nesting n all) ((0 < n) × (n ≡ nesting_of_all all))
nesting-is n all =
    let this = shallow-are n all in
    let less = shallow-are (n - 1) all in (
      λ h.
          let p = and_parts (nat_lt 0 n) (are_shallow n all && not (are_shallow (n - 1) all)) h in
          let q = and_parts (are_shallow n all) (not (are_shallow (n - 1) all)) p.1 in
          let some : 0 < n = ltb-true 0 n p.0 in
          let low : nesting_of_all all ≤ n = leb-true (nesting_of_all all) n (sym this ∙ q.0) in
          let high : n - 1 < nesting_of_all all = leb-false (nesting_of_all all) (n - 1) (sym less ∙ not-true (are_shallow (n - 1) all) q.1) in
          let same : n ≡ nesting_of_all all = omega arith in
          (some, same),
      λ h.
          let some : 0 < n = h.0 in
          let same : n ≡ nesting_of_all all = h.1 in
          let low : nesting_of_all all ≤ n = omega arith in
          let high : n - 1 < nesting_of_all all = omega arith in
          and_from (nat_lt 0 n) (are_shallow n all && not (are_shallow (n - 1) all)) (lt-ltb 0 n some)
          (and_from (are_shallow n all) (not (are_shallow (n - 1) all)) (this ∙ le-leb (nesting_of_all all) n low)
          (ap not (less ∙ lt-leb (nesting_of_all all) (n - 1) high))),
    )

-- ---- bodies

-- what a body is that fits
abbrev Fits : WideStmts → Stmts → Type 0
Fits all body = AllLower (nesting_of_all all) Outside 0 all × (body ≡ bare_statements (lowered_body all))

same-body : (n : ℕ) (all : WideStmts) (body : Stmts) → n ≡ nesting_of_all all → Decides (fit_with n all body) (AllLower (nesting_of_all all) Outside 0 all × (body ≡ bare_statements (all_lowered Outside 0 all)))
same-body n all body e =
    let test = equal_statements body (bare_statements (all_lowered Outside 0 all)) in
    let does = Decides-and (all_lower (nesting_of_all all) Outside 0 all) test (statements-lower (nesting_of_all all) Outside 0 all)
    (decided equal_statements statements-are statements-same body (bare_statements (all_lowered Outside 0 all))) in
    Decides-at (fit_with n all body) (all_lower (nesting_of_all all) Outside 0 all && test) (ap (λ m. all_lower m Outside 0 all && test) e) does

declared : (m : ℕ) (all : WideStmts) → 0 < m → bare_statements (body_with m (all_lowered Outside 0 all)) ≡ tree.next (tree.Local Unsigned (hidden_declarators m)) (bare_statements (all_lowered Outside 0 all))
declared zero all h = absurd (omega (arith, h))
declared (suc m) all h = ap (λ ds. tree.next (tree.Local Unsigned ds) (bare_statements (all_lowered Outside 0 all))) (hidden-bare (suc m))

fit_declared-is : (all : WideStmts) (body : Stmts) → 0 < nesting_of_all all → Decides (fit_declared all body) (Fits all body)
fit_declared-is all tree.end some =
    let whole = declared (nesting_of_all all) all some in
    (λ h. absurd (false≢true h), λ h. let e : tree.end ≡ tree.next (tree.Local Unsigned (hidden_declarators (nesting_of_all all))) (bare_statements (all_lowered Outside 0 all)) = h.1 ∙ whole in cc)
fit_declared-is all (tree.next (tree.Local t ds) rest) some =
    let m = nesting_of_all all in
    let whole = declared m all some in
    let does = same-body (length ds) all rest in (
      λ h.
          let p = and_parts (equal_scalar t Unsigned) (are_hidden ds && (is_nesting (length ds) all && fit_with (length ds) all rest)) h in
          let q = and_parts (are_hidden ds) (is_nesting (length ds) all && fit_with (length ds) all rest) p.1 in
          let r = and_parts (is_nesting (length ds) all) (fit_with (length ds) all rest) q.1 in
          let n = ((nesting-is (length ds) all).0 r.0).1 in
          let type = scalar-is t Unsigned p.0 in
          let names = declarators-are ds (hidden_declarators (length ds)) (sym (hidden-are ds) ∙ q.0) ∙ ap hidden_declarators n in
          let body = (does n).0 r.1 in
          let b = body.1 in
          (body.0, (λ i. tree.next (tree.Local (type i) (names i)) (b i)) ∙ sym whole),
      λ h.
          let e : tree.next (tree.Local t ds) rest ≡ tree.next (tree.Local Unsigned (hidden_declarators m)) (bare_statements (all_lowered Outside 0 all)) = h.1 ∙ whole in
          let type : t ≡ Unsigned = cc in
          let names : ds ≡ hidden_declarators m = cc in
          let others : rest ≡ bare_statements (all_lowered Outside 0 all) = cc in
          let n : length ds ≡ m = ap length names ∙ hidden-length m in
          let some_ds : 0 < length ds = subst (λ (k : ℕ). 0 < k) (sym n) some in
          and_from (equal_scalar t Unsigned) (are_hidden ds && (is_nesting (length ds) all && fit_with (length ds) all rest)) (subst (λ u. equal_scalar t u ≡ true) type (scalar-same t))
          (and_from (are_hidden ds) (is_nesting (length ds) all && fit_with (length ds) all rest)
          (hidden-are ds ∙ ap (λ k. pointwise equal_declarator ds (hidden_declarators k)) n ∙ subst (λ x. pointwise equal_declarator ds x ≡ true) names (declarators-same ds))
          (and_from (is_nesting (length ds) all) (fit_with (length ds) all rest) ((nesting-is (length ds) all).1 (some_ds, n)) ((does n).1 (h.0, others)))),
    )
fit_declared-is all (tree.next s rest) some =
    let whole = declared (nesting_of_all all) all some in (
      λ h. absurd (false≢true h),
      λ h.
          let e : tree.next s rest ≡ tree.next (tree.Local Unsigned (hidden_declarators (nesting_of_all all))) (bare_statements (all_lowered Outside 0 all)) = h.1 ∙ whole in
          cc,
    )

body-by : (all : WideStmts) (body : Stmts) (b : Bool) → are_shallow 0 all ≡ b → Decides (if b then fit_with 0 all body else fit_declared all body) (Fits all body)
body-by all body true h =
    let low : nesting_of_all all ≤ 0 = leb-true (nesting_of_all all) 0 (sym (shallow-are 0 all) ∙ h) in
    let zero_is : 0 ≡ nesting_of_all all = omega arith in
    let does = same-body 0 all body zero_is in
    let whole = ap (λ m. bare_statements (body_with m (all_lowered Outside 0 all))) zero_is in
    (λ p. let q = does.0 p in (q.0, q.1 ∙ whole), λ p. does.1 (p.0, p.1 ∙ sym whole))
body-by all body false h =
    let some : 0 < nesting_of_all all = leb-false (nesting_of_all all) 0 (sym (shallow-are 0 all) ∙ h) in
    fit_declared-is all body some

body-is : (all : WideStmts) (body : Stmts) → Decides (body_fits all body) (Fits all body)
body-is all body = body-by all body (are_shallow 0 all) refl

-- ---- units

external-is : (w : WideExternal) (e : External) → Decides (external_fits w e) (UnitLowers (w ∷ []) × (e ≡ bare_external (lowered_external w)))
external-is (Declaration s) (tree.Declaration t) =
    let does = decided equal_signature signature-is signature-same t (bare_signature s) in
    (λ h. (tt, ap tree.Declaration (does.0 h)), λ h. let e : tree.Declaration t ≡ tree.Declaration (bare_signature s) = h.1 in let f : t ≡ bare_signature s = cc in does.1 f)
external-is (Definition s all) (tree.Definition t body) =
    let head = decided equal_signature signature-is signature-same t (bare_signature s) in
    let does = body-is all body in (
      λ h.
          let p = and_parts (equal_signature t (bare_signature s)) (body_fits all body) h in
          let f = head.0 p.0 in
          let q = does.0 p.1 in
          let g = q.1 in
          ((q.0, tt), (λ i. tree.Definition (f i) (g i))),
      λ h.
          let e : tree.Definition t body ≡ tree.Definition (bare_signature s) (bare_statements (lowered_body all)) = h.1 in
          let f : t ≡ bare_signature s = cc in
          let g : body ≡ bare_statements (lowered_body all) = cc in
          and_from (equal_signature t (bare_signature s)) (body_fits all body) (head.1 f) (does.1 (h.0.0, g)),
    )
external-is (Objects t os) (tree.Objects u ps) =
    let type = decided equal_scalar scalar-is scalar-same u t in
    let does = decided (pointwise equal_object) objects-are objects-same ps (map bare_object os) in (
      λ h.
          let p = and_parts (equal_scalar u t) (pointwise equal_object ps (map bare_object os)) h in
          let f = type.0 p.0 in
          let g = does.0 p.1 in
          (tt, (λ i. tree.Objects (f i) (g i))),
      λ h.
          let e : tree.Objects u ps ≡ tree.Objects t (map bare_object os) = h.1 in
          let f : u ≡ t = cc in
          let g : ps ≡ map bare_object os = cc in
          and_from (equal_scalar u t) (pointwise equal_object ps (map bare_object os)) (type.1 f) (does.1 g),
    )
external-is w e = (λ h. absurd (false≢true h), λ h. let f : e ≡ bare_external (lowered_external w) = h.1 in cc)

first_lowers : (w : WideExternal) (rest : List WideExternal) → UnitLowers (w ∷ rest) → UnitLowers (w ∷ [])
first_lowers (Declaration s) rest h = tt
first_lowers (Definition s all) rest h = (h.0, tt)
first_lowers (Objects t os) rest h = tt

rest_lowers : (w : WideExternal) (rest : List WideExternal) → UnitLowers (w ∷ rest) → UnitLowers rest
rest_lowers (Declaration s) rest h = h
rest_lowers (Definition s all) rest h = h.1
rest_lowers (Objects t os) rest h = h

all_lowers : (w : WideExternal) (rest : List WideExternal) → UnitLowers (w ∷ []) → UnitLowers rest → UnitLowers (w ∷ rest)
all_lowers (Declaration s) rest h r = r
all_lowers (Definition s all) rest h r = (h.0, r)
all_lowers (Objects t os) rest h r = r

unit-is : (unit : List WideExternal) (es : List External) → Decides (unit_fits unit es) (UnitLowers unit × (es ≡ map bare_external (lowered_unit unit)))
unit-is [] [] = (λ h. (tt, refl), λ h. refl)
unit-is [] (e ∷ es) = (λ h. absurd (false≢true h), λ h. let f : e ∷ es ≡ [] = h.1 in cc)
unit-is (w ∷ rest) [] =
    (λ h. absurd (false≢true h), λ h. let f : [] ≡ bare_external (lowered_external w) ∷ map bare_external (lowered_unit rest) = h.1 in cc)
unit-is (w ∷ rest) (e ∷ es) =
    let one = external-is w e in
    let others = unit-is rest es in (
      λ h.
          let p = and_parts (external_fits w e) (unit_fits rest es) h in
          let q = one.0 p.0 in
          let r = others.0 p.1 in
          let f = q.1 in
          let g = r.1 in
          (all_lowers w rest q.0 r.0, (λ i. f i ∷ g i)),
      λ h.
          let all : e ∷ es ≡ bare_external (lowered_external w) ∷ map bare_external (lowered_unit rest) = h.1 in
          let f : e ≡ bare_external (lowered_external w) = cc in
          let g : es ≡ map bare_external (lowered_unit rest) = cc in
          and_from (external_fits w e) (unit_fits rest es) (one.1 (first_lowers w rest h.0, f)) (others.1 (rest_lowers w rest h.0, g)),
    )

pub translation-is : (unit : List WideExternal) (es : List External) → Decides (unit_fits unit (map bare_external es)) (IsTranslation unit es)
translation-is unit es =
    let does = unit-is unit (map bare_external es) in
    (λ h. let p = does.0 h in record { lowers = p.0; alike = p.1 }, λ h. does.1 (h.lowers, h.alike))
