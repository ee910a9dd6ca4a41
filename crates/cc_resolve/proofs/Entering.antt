-- A walk over the functions that a unit defines, one by one, up to the one with a given number.
use Rattle.std.proofs.Common.{◌≡◌, ℕ, suc, ◌<◌, List, [], ◌∷◌, length, Some, slice_get, Result, Ok, Err, OnOk, refl, sym, ap, ◌∙◌, subst, arith}
use Rattle.cc_ast.specs.scalar.Scalar.{Scalar}
use Rattle.cc_ast.specs.Erase.{external_trees}
use Rattle.cc_ast.specs.declared.ast.External as declared
use Rattle.cc_ast.specs.Tree.{Stmts, Signature, Object, External, Declaration, Definition, Objects}
use Rattle.cc_scope.specs.Bindings.{file_level, file_of}
use Rattle.cc_types.specs.Scope.{FileScope, first_file_scope, with_function, with_objects, file_scope_behind}
use Rattle.cc_types.specs.Typed.{definitions}
use Rattle.cc_types.proofs.FileScopes.{with_objects-same}
use Rattle.cc_layout.specs.Layout.{Layout, layout_of}
use Rattle.cc_layout.specs.Environment.{Environment, environment_of, environments_from, environments}

-- what file scope has declared after an external declaration depends only on what it had declared before it
pub behind-bindings : (e : External) (g h : FileScope) → g.bindings ≡ h.bindings → (file_scope_behind e g).bindings ≡ (file_scope_behind e h).bindings
behind-bindings (Declaration s) g h same = ap (λ bs. (with_function s (record { bindings = bs; defined = [] })).bindings) same
behind-bindings (Definition s body) g h same = ap (λ bs. (with_function s (record { bindings = bs; defined = [] })).bindings) same
behind-bindings (Objects t os) g h same = with_objects-same t os g h same

environments-same : (p : Layout) (es : List External) (g h : FileScope) → g.bindings ≡ h.bindings → environments_from p es g ≡ environments_from p es h
environments-same p [] g h same = refl
environments-same p (Declaration s ∷ es) g h same = environments-same p es (file_scope_behind (Declaration s) g) (file_scope_behind (Declaration s) h) (behind-bindings (Declaration s) g h same)
environments-same p (Definition s body ∷ es) g h same =
    ap (λ bs. environment_of p s (record { bindings = bs; defined = [] }) ∷ environments_from p es (file_scope_behind (Definition s body) g)) same
    ∙ ap (λ l. environment_of p s h ∷ l) (environments-same p es (file_scope_behind (Definition s body) g) (file_scope_behind (Definition s body) h) (behind-bindings (Definition s body) g h same))
environments-same p (Objects t os ∷ es) g h same = environments-same p es (file_scope_behind (Objects t os) g) (file_scope_behind (Objects t os) h) (behind-bindings (Objects t os) g h same)

length-environments : (p : Layout) (es : List External) (f : FileScope) → length (environments_from p es f) ≡ length (definitions es)
length-environments p [] f = refl
length-environments p (Declaration s ∷ es) f = length-environments p es (file_scope_behind (Declaration s) f)
length-environments p (Definition s body ∷ es) f = ap suc (length-environments p es (file_scope_behind (Definition s body) f))
length-environments p (Objects t os ∷ es) f = length-environments p es (file_scope_behind (Objects t os) f)

-- the state of the walk after some external declarations of a unit, if `left` more functions precede the one with the number
-- `function`
pub record Entering (all : List External) (function : ℕ) (v : Environment) (left : ℕ) (rest : List External) : Type 0 where
  pub inner : v.visible.inner ≡ []
  pub locals : v.locals ≡ []
  pub layout : v.layout ≡ layout_of all
  pub found : slice_get (environments_from (layout_of all) rest (file_of v.visible)) left ≡ slice_get (environments all) function
  pub bound : left < length (definitions rest)

-- before the first declaration, the state of the walk is as `Entering` says
pub Entering-first : (all : List External) (function : ℕ) (p : Layout) (v : Environment) → v ≡ record { visible = file_level first_file_scope.bindings; locals = []; layout = p } → p ≡ layout_of all
    → function < length (definitions all) → Entering all function v function all
Entering-first all function p v ev ep lt = record {
  inner = ap (λ (u : Environment). u.visible.inner) ev;
  locals = ap (λ (u : Environment). u.locals) ev;
  layout = ap (λ (u : Environment). u.layout) ev ∙ ep;
  found = ap (λ (l : List Environment). slice_get l function) (environments-same (layout_of all) all (file_of v.visible) first_file_scope (ap (λ (u : Environment). u.visible.outer) ev));
  bound = lt;
}

-- a declaration that defines no function leaves the functions that are still to come as they are
skipped : (all : List External) (function : ℕ) (v : Environment) (left : ℕ) (e : External) (rest : List External) (v' : Environment)
    → environments_from (layout_of all) (e ∷ rest) (file_of v.visible) ≡ environments_from (layout_of all) rest (file_scope_behind e (file_of v.visible)) → definitions (e ∷ rest) ≡ definitions rest
    → Entering all function v left (e ∷ rest) → v' ≡ record v { visible = file_level (file_scope_behind e (file_of v.visible)).bindings } → Entering all function v' left rest
skipped all function v left e rest v' none same before ev = record {
  inner = ap (λ (u : Environment). u.visible.inner) ev;
  locals = ap (λ (u : Environment). u.locals) ev ∙ before.locals;
  layout = ap (λ (u : Environment). u.layout) ev ∙ before.layout;
  found =
      ap (λ (l : List Environment). slice_get l left)
      (environments-same (layout_of all) rest (file_of v'.visible) (file_scope_behind e (file_of v.visible)) (ap (λ (u : Environment). u.visible.outer) ev) ∙ sym none)
      ∙ before.found;
  bound = omega (arith, before.bound, ap (λ (l : List External). length l) same);
}

pub Entering-declaration : (all : List External) (function : ℕ) (v : Environment) (left : ℕ) (s : Signature) (rest : List External) (v' : Environment)
    → Entering all function v left (Declaration s ∷ rest) → v' ≡ record v { visible = file_level (with_function s (file_of v.visible)).bindings } → Entering all function v' left rest
Entering-declaration all function v left s rest v' before ev = skipped all function v left (Declaration s) rest v' refl refl before ev

pub Entering-objects : (all : List External) (function : ℕ) (v : Environment) (left : ℕ) (t : Scalar) (os : List Object) (rest : List External) (v' : Environment)
    → Entering all function v left (Objects t os ∷ rest) → v' ≡ record v { visible = file_level (with_objects t os (file_of v.visible)).bindings } → Entering all function v' left rest
Entering-objects all function v left t os rest v' before ev = skipped all function v left (Objects t os) rest v' refl refl before ev

-- after the definition of another function, the state of the walk is as `Entering` says
pub Entering-definition : (all : List External) (function : ℕ) (v : Environment) (left left' : ℕ) (s : Signature) (body : Stmts) (rest : List External) (v' : Environment)
    → Entering all function v left (Definition s body ∷ rest) → left ≡ suc left' → v' ≡ record v { visible = file_level (with_function s (file_of v.visible)).bindings } → Entering all function v' left' rest
Entering-definition all function v left left' s body rest v' before next ev = record {
  inner = ap (λ (u : Environment). u.visible.inner) ev;
  locals = ap (λ (u : Environment). u.locals) ev ∙ before.locals;
  layout = ap (λ (u : Environment). u.layout) ev ∙ before.layout;
  found =
      ap (λ (l : List Environment). slice_get l left')
      (environments-same (layout_of all) rest (file_of v'.visible) (file_scope_behind (Definition s body) (file_of v.visible)) (ap (λ (u : Environment). u.visible.outer) ev))
      ∙ ap (λ k. slice_get (environments_from (layout_of all) (Definition s body ∷ rest) (file_of v.visible)) k) (sym next) ∙ before.found;
  bound = omega (arith, before.bound, next);
}

-- when the function with the number is reached, the environment is the one at the start of its body
pub Entering-found : (all : List External) (function : ℕ) (v : Environment) (s : Signature) (body : Stmts) (rest : List External) (v' : Environment)
    → Entering all function v 0 (Definition s body ∷ rest) → v' ≡ environment_of v.layout s (file_of v.visible) → slice_get (environments all) function ≡ Some v'
Entering-found all function v s body rest v' before ev =
    sym before.found ∙ ap Some (sym (ev ∙ ap (λ p. environment_of p s (file_of v.visible)) before.layout))

-- ---- the walk, in terms of the code

pub Entering-at : (all : List External) (function : ℕ) (v : Environment) (left : ℕ) (x y : declared.External) (rest : List declared.External)
    → x ≡ y → Entering all function v left (external_trees (x ∷ rest)) → Entering all function v left (external_trees (y ∷ rest))
Entering-at all function v left x y rest e h = subst (λ z. Entering all function v left (external_trees (z ∷ rest))) e h

pub Entering-as : (all : List External) (function : ℕ) (v w : Environment) (left k : ℕ) (rest : List External) → v ≡ w → left ≡ k → Entering all function w k rest → Entering all function v left rest
Entering-as all function v w left k rest e f h = subst (λ u. Entering all function u left rest) (sym e) (subst (λ n. Entering all function w n rest) (sym f) h)

pub Entering-ends : {A E : Type 0} (all : List External) (function : ℕ) (v : Environment) (left : ℕ) (s : Signature) (body : Stmts) (rest : List External) (v' : Environment) (r : Result A E)
    → Entering all function v left (Definition s body ∷ rest) → left ≡ 0 → OnOk r (v' ≡ environment_of v.layout s (file_of v.visible)) → OnOk r (slice_get (environments all) function ≡ Some v')
Entering-ends all function v left s body rest v' (Ok x) before none ev = Entering-found all function v s body rest v' (subst (λ n. Entering all function v n (Definition s body ∷ rest)) none before) ev
Entering-ends all function v left s body rest v' (Err e) before none ev = tt
