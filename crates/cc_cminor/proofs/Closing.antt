-- At the end of a scope its locals are removed, and everything is as it was before the scope.
use Rattle.std.proofs.Common.{◌≡◌, ℕ, zero, suc, ◌+◌, ◌-◌, ◌≤◌, ◌<◌, List, [], ◌∷◌, ◌++◌, length, take, drop, refl, sym, ap, ◌∙◌, subst, arith}
use Rattle.cc_tokens.specs.declared.scalar.Scalar.{Scalar}
use Rattle.cc_ast.specs.Tree as tree
use Rattle.cc_ast.specs.Tree.{Declarator, Beginning, Declares, Performs, Stmt, Stmts, end, next}
use Rattle.cc_types.specs.Scope.{Binding}
use Rattle.cc_scope.specs.Bindings.{closed}
use Rattle.cc_layout.specs.Layout.{Layout}
use Rattle.std.proofs.lemmas.List.{length-drop, length-append}
use Rattle.std.proofs.Math.Seq.{take-append_seam, drop-append_seam}
use Rattle.cc_layout.specs.Environment.{Environment, inner, with_local, with_locals, behind, behind_beginning}
use Rattle.cc_cminor.specs.internal.Lowering.{behind_all}

-- some of the newest locals are removed, but none of the first `locals` ones
pub record Closing (locals : ℕ) (v w : Environment) : Type 0 where
  pub taken : ℕ
  pub few : taken ≤ length v.locals - locals
  pub names : w.locals ≡ drop taken v.locals
  pub outer : w.visible.outer ≡ v.visible.outer
  pub layout : w.layout ≡ v.layout

drop-one : (n : ℕ) (l : List (List ℕ)) → drop 1 (drop n l) ≡ drop (suc n) l
drop-one zero l = refl
drop-one (suc n) [] = refl
drop-one (suc n) (x ∷ l) = drop-one n l

-- if more than `locals` locals are left, `Closing` still holds after one more is removed
pub closing-next : (locals number : ℕ) (v w u : Environment) → Closing locals v w → number ≡ length w.locals → locals < number
    → u ≡ record w { visible = record w.visible { inner = drop 1 w.visible.inner }; locals = drop 1 w.locals } → Closing locals v u
closing-next locals number v w u h n lt e =
    let long : number ≡ length v.locals - h.taken = n ∙ ap (λ (l : List (List ℕ)). length l) h.names ∙ length-drop h.taken v.locals in
    let few = h.few in
    record {
      taken = h.taken + 1;
      few = omega arith;
      names = ap (λ (x : Environment). x.locals) e ∙ ap (drop 1) h.names ∙ drop-one h.taken v.locals ∙ ap (λ n. drop n v.locals) (let k : suc h.taken ≡ h.taken + 1 = omega arith in k);
      outer = ap (λ (x : Environment). x.visible.outer) e ∙ h.outer;
      layout = ap (λ (x : Environment). x.layout) e ∙ h.layout;
    }

-- a scope opened in v continues in w, possibly with more locals
pub record Within (v w : Environment) : Type 0 where
  pub newer : List (List ℕ)
  pub names : w.locals ≡ newer ++ v.locals
  pub outer : w.visible.outer ≡ v.visible.outer
  pub layout : w.layout ≡ v.layout

within-locals : (t : Scalar) (ds : List Declarator) (v w : Environment) → Within v w → Within v (with_locals t ds w)
within-locals t [] v w h = h
within-locals t (d ∷ ds) v w h =
    within-locals t ds v (with_local t d.name.text w)
    (record { newer = d.name.text ∷ h.newer; names = ap (λ l. d.name.text ∷ l) h.names; outer = h.outer; layout = h.layout })

within-same : (v : Environment) → Within v v
within-same v = record { newer = []; names = refl; outer = refl; layout = refl }

within-behind : (s : Stmt) (v w : Environment) → Within v w → Within v (behind s w)
within-behind (tree.Block all) v w h = h
within-behind (tree.Local t ds) v w h = within-locals t ds v w h
within-behind (tree.Perform a) v w h = h
within-behind (tree.Return at e) v w h = h
within-behind (tree.Break at) v w h = h
within-behind (tree.Continue at) v w h = h
within-behind (tree.If c a) v w h = h
within-behind (tree.IfElse c a e) v w h = h
within-behind (tree.While c s) v w h = h
within-behind (tree.DoWhile s c) v w h = h
within-behind (tree.For b c a s) v w h = h

within-beginning : (b : Beginning) (v w : Environment) → Within v w → Within v (behind_beginning b w)
within-beginning (Declares t ds) v w h = within-locals t ds v w h
within-beginning (Performs a) v w h = h

within-all : (ss : Stmts) (v w : Environment) → Within v w → Within v (behind_all ss w)
within-all end v w h = h
within-all (next s rest) v w h = within-all rest v (behind s w) (within-behind s v w h)

pub same-layout : (s : Stmt) (v : Environment) → (behind s v).layout ≡ v.layout
same-layout s v = (within-behind s v v (within-same v)).layout

drop-newer : (newer old : List (List ℕ)) → drop (length (newer ++ old) - length old) (newer ++ old) ≡ old
drop-newer [] old = ap (λ n. drop n old) (let e : length old - length old ≡ 0 = omega arith in e)
drop-newer (x ∷ newer) old =
    ap (λ n. drop n (x ∷ (newer ++ old))) (let h = longer newer old in let e : suc (length (newer ++ old)) - length old ≡ suc (length (newer ++ old) - length old) = omega arith in e) ∙ drop-newer newer old
  where
    longer : (newer old : List (List ℕ)) → length old ≤ length (newer ++ old)
    longer [] old = omega arith
    longer (x ∷ newer) old = let h = longer newer old in omega arith

-- closing the scope restores what was before it
closed-again : (v w : Environment) → Within (inner v) w
    → record w { visible = closed (length v.visible.inner) w.visible; locals = drop (length w.locals - length v.locals) w.locals } ≡ v
closed-again v w h =
    let n : ℕ = length v.visible.inner in
    let a : List Binding = v.visible.inner in
    let b : List Binding = v.visible.outer in
    let left : drop (length w.locals - length v.locals) w.locals ≡ v.locals = ap (λ l. drop (length l - length v.locals) l) h.names ∙ drop-newer h.newer v.locals in
    ap (λ o. at (take n o) (drop n o) (drop (length w.locals - length v.locals) w.locals) w.layout) h.outer
    ∙ ap (λ i. at i (drop n (a ++ b)) (drop (length w.locals - length v.locals) w.locals) w.layout) (take-append_seam a b)
    ∙ ap (λ o. at a o (drop (length w.locals - length v.locals) w.locals) w.layout) (drop-append_seam a b)
    ∙ ap (λ l. at a b l w.layout) left
    ∙ ap (λ g. at a b v.locals g) h.layout
  where
    at : List Binding → List Binding → List (List ℕ) → Layout → Environment
    at a b l g = record { visible = record { inner = a; outer = b }; locals = l; layout = g }

-- closing the scope by the numbers noted before it restores what was before it
pub closed-back : (v w u : Environment) (around locals : ℕ) → Within (inner v) w → around ≡ length v.visible.inner → locals ≡ length v.locals
    → u ≡ record w { visible = closed around w.visible; locals = drop (length w.locals - locals) w.locals } → u ≡ v
closed-back v w u around locals h a b e =
    e ∙ ap (λ n. record w { visible = closed n w.visible; locals = drop (length w.locals - locals) w.locals }) a
    ∙ ap (λ n. record w { visible = closed (length v.visible.inner) w.visible; locals = drop (length w.locals - n) w.locals }) b ∙ closed-again v w h

pub around-fits : (v w : Environment) (around : ℕ) → Within (inner v) w → around ≡ length v.visible.inner → around ≤ length w.visible.outer
around-fits v w around h a =
    let e : length w.visible.outer ≡ length v.visible.inner + length v.visible.outer = ap (λ (l : List Binding). length l) h.outer ∙ length-append v.visible.inner v.visible.outer in
    omega arith

-- a scope around a statement continues in the environment after the statement
pub in-statement : (s : Stmt) (v u w : Environment) → u ≡ inner v → w ≡ behind s u → Within (inner v) w
in-statement s v u w e f = subst (λ x. Within (inner v) x) (sym (f ∙ ap (behind s) e)) (within-behind s (inner v) (inner v) (within-same (inner v)))

pub in-list : (ss : Stmts) (v u w : Environment) → u ≡ inner v → w ≡ behind_all ss u → Within (inner v) w
in-list ss v u w e f = subst (λ x. Within (inner v) x) (sym (f ∙ ap (behind_all ss) e)) (within-all ss (inner v) (inner v) (within-same (inner v)))

pub in-beginning : (b : Beginning) (v u w : Environment) → u ≡ inner v → w ≡ behind_beginning b u → Within (inner v) w
in-beginning b v u w e f = subst (λ x. Within (inner v) x) (sym (f ∙ ap (behind_beginning b) e)) (within-beginning b (inner v) (inner v) (within-same (inner v)))
