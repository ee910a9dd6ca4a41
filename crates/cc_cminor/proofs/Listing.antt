-- Declarations and statements one by one: the code so far, followed by that of the remaining ones, is the code of all.
use Rattle.std.proofs.Common.{◌≡◌, ℕ, suc, ◌+◌, arith, ◌++◌, Bool, true, Option, List, [], ◌∷◌, length, refl, ap, ◌∙◌}
use Rattle.std.proofs.lemmas.List.{append_assoc}
use Rattle.cc_tokens.specs.declared.scalar.Scalar.{Scalar}
use Rattle.cc_ast.specs.Tree.{Expr, Declarator, Beginning, Action, Stmt, Stmts, next, For}
use Rattle.cc_layout.specs.Layout.{Layout}
use Rattle.cc_layout.specs.Environment.{Environment, inner, with_locals, behind, behind_beginning}
use Rattle.cc_cminor_language.specs.Cminor.{Statement, Set, Sequence, Block, Loop, Exit}
use Rattle.cc_cminor.specs.internal.Lowering.{branch, free, using, declared_code, started, performed_optional, lowered, all_lowered, behind_all}
use Rattle.cc_cminor.specs.internal.Taken.{Taken, taken, taken_or, behind_code}
use Rattle.cc_cminor.proofs.Closing.{same-layout, in-beginning}
use Rattle.cc_cminor.proofs.Taking.{using-is, using_or-is}

pub initial-is : (g : Layout) (v : Environment) (n m : ℕ) (e : Expr) (x : Taken) → m ≡ n + 1 → x ≡ taken g v m e → behind_code x.before (Set n x.value) ≡ using g v (suc n) e (λ y. Set n y)
initial-is g v n m e x f h =
    ap (λ (y : Taken). behind_code y.before (Set n y.value)) (h ∙ ap (λ j. taken g v j e) (f ∙ (let k : n + 1 ≡ suc n = omega arith in k))) ∙ using-is g v (suc n) e (λ y. Set n y)

pub record Declaring (t : Scalar) (done : List Statement) (left : List Declarator) (v : Environment) (all : List Declarator) (w : Environment) : Type 0 where
  pub layout : v.layout ≡ w.layout
  pub names : with_locals t left v ≡ with_locals t all w
  pub code : done ++ declared_code w.layout t left v ≡ declared_code w.layout t all w

pub record Listing (b : Bool) (done : List Statement) (left : Stmts) (v : Environment) (all : Stmts) (w : Environment) : Type 0 where
  pub layout : v.layout ≡ w.layout
  pub names : behind_all left v ≡ behind_all all w
  pub code : done ++ all_lowered w.layout b v left ≡ all_lowered w.layout b w all

pub listing-next : (b : Bool) (done more : List Statement) (s : Stmt) (rest all : Stmts) (v u w : Environment) → Listing b done (next s rest) v all w
    → u ≡ behind s v → more ≡ done ++ (lowered v.layout b v s ∷ []) → Listing b more rest u all w
listing-next b done more s rest all v u w h e f = record {
  layout = ap (λ (x : Environment). x.layout) e ∙ same-layout s v ∙ h.layout;
  names = ap (behind_all rest) e ∙ h.names;
  code = ap (λ l. l ++ all_lowered w.layout b u rest) (f ∙ ap (λ g. done ++ (lowered g b v s ∷ [])) h.layout)
      ∙ ap (λ x. (done ++ (lowered w.layout b v s ∷ [])) ++ all_lowered w.layout b x rest) e
      ∙ append_assoc done (lowered w.layout b v s ∷ []) (all_lowered w.layout b (behind s v) rest) ∙ h.code;
}

-- the code of a `for` is that of its first part, followed by that of its other parts
pub for-is : (b : Bool) (v u x : Environment) (n : ℕ) (first : Beginning) (test : Option Expr) (step : Option Action) (body : Stmt) (t : Taken) (s0 s1 s2 : Statement)
    → u ≡ inner v → x ≡ behind_beginning first u → n ≡ length x.locals → t ≡ taken_or x.layout x n 1 test
    → s0 ≡ started u.layout first u → s1 ≡ lowered x.layout true (inner x) body → s2 ≡ performed_optional x.layout x step
    → Sequence s0 (Block (Loop (behind_code t.before (branch t.value (Sequence (Block s1) s2) (Exit 0))))) ≡ lowered v.layout b v (For first test step body)
for-is b v u x n first test step body t s0 s1 s2 eu ex en et e0 e1 e2 =
    let w : Environment = behind_beginning first (inner v) in
    let same : x ≡ w = ex ∙ ap (behind_beginning first) eu in
    let layout : w.layout ≡ v.layout = (in-beginning first v (inner v) w refl refl).layout in
    let begun : s0 ≡ started v.layout first (inner v) = e0 ∙ ap (λ (y : Environment). started y.layout first y) eu in
    let turn : s1 ≡ lowered v.layout true (inner w) body = e1 ∙ ap (λ (y : Environment). lowered y.layout true (inner y) body) same ∙ ap (λ g. lowered g true (inner w) body) layout in
    let stepped : s2 ≡ performed_optional v.layout w step = e2 ∙ ap (λ (y : Environment). performed_optional y.layout y step) same ∙ ap (λ g. performed_optional g w step) layout in
    let number : n ≡ free w = en ∙ ap (λ (y : Environment). length y.locals) same in
    let tested : t ≡ taken_or v.layout w (free w) 1 test =
    et ∙ ap (λ (y : Environment). taken_or y.layout y n 1 test) same ∙ ap (λ g. taken_or g w n 1 test) layout ∙ ap (λ m. taken_or v.layout w m 1 test) number in
    ap (λ s. Sequence s (Block (Loop (behind_code t.before (branch t.value (Sequence (Block s1) s2) (Exit 0)))))) begun
    ∙ ap (λ s. Sequence (started v.layout first (inner v)) (Block (Loop (behind_code t.before (branch t.value (Sequence (Block s) s2) (Exit 0)))))) turn
    ∙ ap (λ s. Sequence (started v.layout first (inner v)) (Block (Loop (behind_code t.before (branch t.value (Sequence (Block (lowered v.layout true (inner w) body)) s) (Exit 0)))))) stepped
    ∙ ap (λ (y : Taken). Sequence (started v.layout first (inner v)) (Block (Loop (behind_code y.before (branch y.value (Sequence (Block (lowered v.layout true (inner w) body)) (performed_optional v.layout w step)) (Exit 0)))))) tested
    ∙ ap (λ s. Sequence (started v.layout first (inner v)) (Block (Loop s)))
    (using_or-is v.layout w (free w) 1 test (λ e. branch e (Sequence (Block (lowered v.layout true (inner w) body)) (performed_optional v.layout w step)) (Exit 0)))
