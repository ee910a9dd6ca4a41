-- What names in scope refer to, in an environment and after declarations, statements and parameters.
use Rattle.std.proofs.Common.{◌≡◌, ℕ, ◌+◌, ◌≤◌, Bool, true, false, if◌then◌else◌, List, [], ◌∷◌, ◌++◌, length, ◌⊎◌, inl, inr, Option, Some, None, refl, sym, ap, ◌∙◌, subst, arith, append_assoc}
use Rattle.cc_ast.specs.scalar.Scalar.{Scalar}
use Rattle.cc_types.specs.Names.{same_name}
use Rattle.cc_types.specs.Scope as scope
use Rattle.cc_types.specs.Scope.{found, all_declared, scope_behind, Visible, parameter_declared, parameters_declared}
use Rattle.cc_layout.specs.Environment.{Environment, types_in, inner, with_local, number_in, with_locals, behind, parameter_names}
use Rattle.cc_layout.specs.Layout.{Layout, extent_of}
use Rattle.cc_c_semantics.specs.Resolved.{IsObject, IsOneWord}
use Rattle.std.proofs.lemmas.List.{length-map}
use Rattle.cc_ast.specs.Tree as tree
use Rattle.cc_ast.specs.Tree.{Declarator, Stmt, Block, Perform, Return, Break, Continue, If, IfElse, While, DoWhile, For, Name, Parameter}
use Rattle.cc_types.specs.Limits.{locals_of}

-- a variable in scope is a local, or an object of one word
abbrev pub Readable : Environment → List ℕ → Type 0
Readable v x = ((i : ℕ) × (number_in v.locals x ≡ Some i)) ⊎ ((number_in v.locals x ≡ None) × IsOneWord (extent_of v.layout.objects x))

-- what names in scope refer to; `Takes f n` means that f is called with n words
pub record Scoped (layout : Layout) (defined : List (List ℕ)) (Takes : List ℕ → ℕ → Type 0) (v : Environment) : Type 0 where
  pub laid : v.layout ≡ layout
  pub variable : (x : List ℕ) (t : Scalar) → found (types_in v) x ≡ Some (scope.Variable t) → Readable v x
  pub element : (x : List ℕ) (t : Scalar) → found (types_in v) x ≡ Some (scope.Elements t) → IsObject v x
  pub function : (f : List ℕ) (r : Option Scalar) (ts : List Scalar) → found (types_in v) f ≡ Some (scope.Function r ts) → scope.has_name defined f ≡ true → Takes f (length ts)

pub scoped_inner : (layout : Layout) (defined : List (List ℕ)) (Takes : List ℕ → ℕ → Type 0) (v : Environment) → Scoped layout defined Takes v → Scoped layout defined Takes (inner v)
scoped_inner layout defined Takes v h = record { laid = h.laid; variable = h.variable; element = h.element; function = h.function }

local_readable : (v : Environment) (t u : Scalar) (x y : List ℕ) (b : Bool) → same_name x y ≡ b
    → (if b then Some (scope.Variable t) else found (types_in v) y) ≡ Some (scope.Variable u) → (found (types_in v) y ≡ Some (scope.Variable u) → Readable v y) → Readable (with_local t x v) y
local_readable v t u x y true eq e h = inl (length v.locals, ap (λ c. if c then Some (length v.locals) else number_in v.locals y) eq)
local_readable v t u x y false eq e h =
    let same : number_in (x ∷ v.locals) y ≡ number_in v.locals y = ap (λ c. if c then Some (length v.locals) else number_in v.locals y) eq in
    elim (h e) [ inl p ↦ inl (p.0, same ∙ p.1) | inr p ↦ inr (same ∙ p.0, p.1) ]

local_called : (v : Environment) (t : Scalar) (x f : List ℕ) (r : Option Scalar) (ts : List Scalar) (b : Bool)
    → (if b then Some (scope.Variable t) else found (types_in v) f) ≡ Some (scope.Function r ts) → found (types_in v) f ≡ Some (scope.Function r ts)
local_called v t x f r ts true e = absurd (let g : Some (scope.Variable t) ≡ Some (scope.Function r ts) = e in cc)
local_called v t x f r ts false e = e

local_indexed : (v : Environment) (t u : Scalar) (x y : List ℕ) (b : Bool)
    → (if b then Some (scope.Variable t) else found (types_in v) y) ≡ Some (scope.Elements u) → found (types_in v) y ≡ Some (scope.Elements u)
local_indexed v t u x y true e = absurd (let g : Some (scope.Variable t) ≡ Some (scope.Elements u) = e in cc)
local_indexed v t u x y false e = e

pub scoped_local : (layout : Layout) (defined : List (List ℕ)) (Takes : List ℕ → ℕ → Type 0) (t : Scalar) (x : List ℕ) (v : Environment)
    → Scoped layout defined Takes v → Scoped layout defined Takes (with_local t x v)
scoped_local layout defined Takes t x v h = record {
  laid = h.laid;
  variable = λ y u e. local_readable v t u x y (same_name x y) refl e (h.variable y u);
  element = λ y u e. h.element y u (local_indexed v t u x y (same_name x y) e);
  function = λ f r ts e d. h.function f r ts (local_called v t x f r ts (same_name x f) e) d;
}

-- ---- declarations and statements

pub with_locals_visible : (t : Scalar) (ds : List Declarator) (v : Environment) → (with_locals t ds v).visible ≡ all_declared t ds v.visible
with_locals_visible t [] v = refl
with_locals_visible t (d ∷ rest) v = with_locals_visible t rest (with_local t d.name.text v)

pub with_locals_layout : (t : Scalar) (ds : List Declarator) (v : Environment) → (with_locals t ds v).layout ≡ v.layout
with_locals_layout t [] v = refl
with_locals_layout t (d ∷ rest) v = with_locals_layout t rest (with_local t d.name.text v)

pub with_locals_length : (t : Scalar) (ds : List Declarator) (v : Environment) → length (with_locals t ds v).locals ≡ length v.locals + length ds
with_locals_length t [] v = omega arith
with_locals_length t (d ∷ rest) v = let e = with_locals_length t rest (with_local t d.name.text v) in omega arith

pub with_locals_over : (t : Scalar) (ds : List Declarator) (v : Environment) → (extra : List (List ℕ)) × ((with_locals t ds v).locals ≡ extra ++ v.locals)
with_locals_over t [] v = ([], refl)
with_locals_over t (d ∷ rest) v =
    let e = with_locals_over t rest (with_local t d.name.text v) in (e.0 ++ d.name.text ∷ [], e.1 ∙ sym (append_assoc e.0 (d.name.text ∷ []) v.locals))

pub scoped_locals : (layout : Layout) (defined : List (List ℕ)) (Takes : List ℕ → ℕ → Type 0) (t : Scalar) (ds : List Declarator) (v : Environment)
    → Scoped layout defined Takes v → Scoped layout defined Takes (with_locals t ds v)
scoped_locals layout defined Takes t [] v h = h
scoped_locals layout defined Takes t (d ∷ rest) v h = scoped_locals layout defined Takes t rest (with_local t d.name.text v) (scoped_local layout defined Takes t d.name.text v h)

-- what is known about the environment after a statement
pub record Behind (layout : Layout) (defined : List (List ℕ)) (Takes : List ℕ → ℕ → Type 0) (s : Stmt) (v : Environment) : Type 0 where
  pub visible : (behind s v).visible ≡ scope_behind s v.visible
  pub laid : (behind s v).layout ≡ v.layout
  pub extra : List (List ℕ)
  pub locals : (behind s v).locals ≡ extra ++ v.locals
  pub room : length (behind s v).locals ≤ length v.locals + length (locals_of s)
  pub scoped : Scoped layout defined Takes (behind s v)

stays : (layout : Layout) (defined : List (List ℕ)) (Takes : List ℕ → ℕ → Type 0) (s : Stmt) (v : Environment) → behind s v ≡ v → scope_behind s v.visible ≡ v.visible → Scoped layout defined Takes v → Behind layout defined Takes s v
stays layout defined Takes s v e f h =
    let l : length (behind s v).locals ≡ length v.locals = ap (λ (w : Environment). length w.locals) e in
    record {
      visible = ap (λ (w : Environment). w.visible) e ∙ sym f;
      laid = ap (λ (w : Environment). w.layout) e;
      extra = [];
      locals = ap (λ (w : Environment). w.locals) e;
      room = omega arith;
      scoped = subst (Scoped layout defined Takes) (sym e) h;
    }

pub behind_is : (layout : Layout) (defined : List (List ℕ)) (Takes : List ℕ → ℕ → Type 0) (s : Stmt) (v : Environment) → Scoped layout defined Takes v → Behind layout defined Takes s v
behind_is layout defined Takes (tree.Local t ds) v h =
    let e = with_locals_over t ds v in
    let l = with_locals_length t ds v in
    let m = length-map ds (λ (d : Declarator). d.name) in
    record {
      visible = with_locals_visible t ds v;
      laid = with_locals_layout t ds v;
      extra = e.0;
      locals = e.1;
      room = omega arith;
      scoped = scoped_locals layout defined Takes t ds v h;
    }
behind_is layout defined Takes (Block all) v h = stays layout defined Takes (Block all) v refl refl h
behind_is layout defined Takes (Perform a) v h = stays layout defined Takes (Perform a) v refl refl h
behind_is layout defined Takes (Return at e) v h = stays layout defined Takes (Return at e) v refl refl h
behind_is layout defined Takes (Break at) v h = stays layout defined Takes (Break at) v refl refl h
behind_is layout defined Takes (Continue at) v h = stays layout defined Takes (Continue at) v refl refl h
behind_is layout defined Takes (If c a) v h = stays layout defined Takes (If c a) v refl refl h
behind_is layout defined Takes (IfElse c a b) v h = stays layout defined Takes (IfElse c a b) v refl refl h
behind_is layout defined Takes (While c a) v h = stays layout defined Takes (While c a) v refl refl h
behind_is layout defined Takes (DoWhile a c) v h = stays layout defined Takes (DoWhile a c) v refl refl h
behind_is layout defined Takes (For f c b a) v h = stays layout defined Takes (For f c b a) v refl refl h

-- ---- parameters

scoped_unnamed : (layout : Layout) (defined : List (List ℕ)) (T : List ℕ → ℕ → Type 0) (visible : Visible) (names : List (List ℕ)) → Scoped layout defined T (record { visible = visible; locals = names; layout = layout })
    → Scoped layout defined T (record { visible = visible; locals = [] ∷ names; layout = layout })
scoped_unnamed layout defined T visible names h = record {
  laid = refl;
  variable = λ x t e. unnamed x (same_name [] x) refl (h.variable x t e);
  element = h.element;
  function = h.function;
}
  where
    unnamed : (x : List ℕ) (b : Bool) → same_name [] x ≡ b → Readable (record { visible = visible; locals = names; layout = layout }) x → Readable (record { visible = visible; locals = [] ∷ names; layout = layout }) x
    unnamed x true e r = inl (length names, ap (λ c. if c then Some (length names) else number_in names x) e)
    unnamed x false e r =
        let same : number_in ([] ∷ names) x ≡ number_in names x = ap (λ c. if c then Some (length names) else number_in names x) e in
        elim r [ inl q ↦ inl (q.0, same ∙ q.1) | inr q ↦ inr (same ∙ q.0, q.1) ]

scoped_parameter : (layout : Layout) (defined : List (List ℕ)) (T : List ℕ → ℕ → Type 0) (t : Scalar) (name : Option Name) (visible : Visible) (names : List (List ℕ))
    → Scoped layout defined T (record { visible = visible; locals = names; layout = layout })
    → Scoped layout defined T (record { visible = parameter_declared t name visible; locals = elim name [ None ↦ [] | Some x ↦ x.text ] ∷ names; layout = layout })
scoped_parameter layout defined T t None visible names h = scoped_unnamed layout defined T visible names h
scoped_parameter layout defined T t (Some x) visible names h = scoped_local layout defined T t x.text (record { visible = visible; locals = names; layout = layout }) h

pub scoped_parameters : (layout : Layout) (defined : List (List ℕ)) (T : List ℕ → ℕ → Type 0) (ps : List Parameter) (visible : Visible) (names : List (List ℕ))
    → Scoped layout defined T (record { visible = visible; locals = names; layout = layout })
    → Scoped layout defined T (record { visible = parameters_declared ps visible; locals = parameter_names ps names; layout = layout })
scoped_parameters layout defined T [] visible names h = h
scoped_parameters layout defined T (p ∷ rest) visible names h =
    scoped_parameters layout defined T rest (parameter_declared p.scalar p.name visible) (elim p.name [ None ↦ [] | Some x ↦ x.text ] ∷ names) (scoped_parameter layout defined T p.scalar p.name visible names h)
