-- The name of an array in a unit is the name of an object.
use Rattle.std.proofs.Common.{◌≡◌, ℕ, suc, ◌+◌, Bool, true, false, true≢false, ◌||◌, if◌then◌else◌, List, [], ◌∷◌, ◌++◌, ◌⊎◌, inl, inr, Some, option_map, refl, sym, ap, ◌∙◌}
use Rattle.cc_ast.specs.scalar.Scalar.{Scalar}
use Rattle.cc_ast.specs.scalar.Scalar.TheVariants.{Int}
use Rattle.cc_ast.specs.Tree.{Signature, Object, Single, Array, Bytes, External, Declaration, Definition, Objects}
use Rattle.cc_types.specs.Names.{same_name}
use Rattle.cc_types.specs.Scope.{Entity, Variable, Elements, found, is_declared, FileScope, with_declared, function_entity, with_function, with_object, with_objects, file_scope_behind, file_scope_behind_all}
use Rattle.cc_types.specs.Types.{object_elements}
use Rattle.cc_types.specs.Limits.{objects, object_name}
use Rattle.cc_layout.specs.Layout.{laid_from, object_number}

-- one of these objects has this name
abbrev is_named : List Object → List ℕ → Bool
is_named [] x = false
is_named (o ∷ rest) x = same_name (object_name o).text x || is_named rest x

-- an array was declared before, or is declared now
now_by : (f : FileScope) (y x : List ℕ) (e : Entity) (t : Scalar) (b c : Bool) → same_name y x ≡ c
    → (if b then found f.bindings x else (if c then Some e else found f.bindings x)) ≡ Some (Elements t) → (found f.bindings x ≡ Some (Elements t)) ⊎ ((c ≡ true) × (e ≡ Elements t))
now_by f y x e t true c p h = inl h
now_by f y x e t false true p h = inr (refl, cc)
now_by f y x e t false false p h = inl h

found_by : (f : FileScope) (y x : List ℕ) (e : Entity) (b : Bool) → found (if b then f.bindings else record { name = y; entity = e } ∷ f.bindings) x
    ≡ (if b then found f.bindings x else (if same_name y x then Some e else found f.bindings x))
found_by f y x e true = refl
found_by f y x e false = refl

declared_array : (y x : List ℕ) (e : Entity) (t : Scalar) (f : FileScope) → found (with_declared y e f).bindings x ≡ Some (Elements t) → (found f.bindings x ≡ Some (Elements t)) ⊎ ((same_name y x ≡ true) × (e ≡ Elements t))
declared_array y x e t f h = now_by f y x e t (is_declared f.bindings y) (same_name y x) refl (sym (found_by f y x e (is_declared f.bindings y)) ∙ h)

function_array : (s : Signature) (x : List ℕ) (t : Scalar) (f : FileScope) → found (with_function s f).bindings x ≡ Some (Elements t) → found f.bindings x ≡ Some (Elements t)
function_array s x t f h =
    elim (declared_array s.name.text x (function_entity s) t f h) [ inl e ↦ e | inr e ↦ absurd (let z : function_entity s ≡ Elements t = e.1 in cc) ]

object_array : (u : Scalar) (o : Object) (x : List ℕ) (t : Scalar) (f : FileScope) → found (with_object u o f).bindings x ≡ Some (Elements t) → (found f.bindings x ≡ Some (Elements t)) ⊎ (same_name (object_name o).text x ≡ true)
object_array u (Single y i) x t f h = elim (declared_array y.text x (Variable u) t f h) [ inl e ↦ inl e | inr e ↦ inr e.0 ]
object_array u (Array y n values) x t f h = elim (declared_array y.text x (Elements u) t f h) [ inl e ↦ inl e | inr e ↦ inr e.0 ]
object_array u (Bytes y n values) x t f h = elim (declared_array y.text x (Elements Int) t f h) [ inl e ↦ inl e | inr e ↦ inr e.0 ]

or_first : (a b : Bool) → a ≡ true → (a || b) ≡ true
or_first true b e = refl
or_first false b e = absurd (true≢false (sym e))

or_second : (a b : Bool) → b ≡ true → (a || b) ≡ true
or_second true b e = refl
or_second false b e = e

objects_array : (u : Scalar) (os : List Object) (x : List ℕ) (t : Scalar) (f : FileScope) → found (with_objects u os f).bindings x ≡ Some (Elements t) → (found f.bindings x ≡ Some (Elements t)) ⊎ (is_named os x ≡ true)
objects_array u [] x t f h = inl h
objects_array u (o ∷ rest) x t f h =
    elim (objects_array u rest x t (with_object u o f) h) [
      | inl e ↦ elim (object_array u o x t f e) [ inl q ↦ inl q | inr q ↦ inr (or_first (same_name (object_name o).text x) (is_named rest x) q) ]
      | inr e ↦ inr (or_second (same_name (object_name o).text x) (is_named rest x) e)
    ]

named_append : (os more : List Object) (x : List ℕ) → is_named (os ++ more) x ≡ (is_named os x || is_named more x)
named_append [] more x = refl
named_append (o ∷ rest) more x = ap (λ b. same_name (object_name o).text x || b) (named_append rest more x) ∙ or_assoc (same_name (object_name o).text x) (is_named rest x) (is_named more x)
  where
    or_assoc : (a b c : Bool) → (a || (b || c)) ≡ ((a || b) || c)
    or_assoc true b c = refl
    or_assoc false b c = refl

externals_array : (ds : List External) (x : List ℕ) (t : Scalar) (f : FileScope) → found (file_scope_behind_all ds f).bindings x ≡ Some (Elements t) → (found f.bindings x ≡ Some (Elements t)) ⊎ (is_named (objects ds) x ≡ true)
externals_array [] x t f h = inl h
externals_array (Declaration s ∷ rest) x t f h =
    elim (externals_array rest x t (file_scope_behind (Declaration s) f) h) [ inl e ↦ inl (function_array s x t f e) | inr e ↦ inr e ]
externals_array (Definition s body ∷ rest) x t f h =
    elim (externals_array rest x t (file_scope_behind (Definition s body) f) h) [ inl e ↦ inl (function_array s x t f e) | inr e ↦ inr e ]
externals_array (Objects u os ∷ rest) x t f h =
    elim (externals_array rest x t (with_objects u os f) h) [
      | inl e ↦ elim (objects_array u os x t f e) [ inl q ↦ inl q | inr q ↦ inr (named_append os (objects rest) x ∙ or_first (is_named os x) (is_named (objects rest) x) q) ]
      | inr e ↦ inr (named_append os (objects rest) x ∙ or_second (is_named os x) (is_named (objects rest) x) e)
    ]

-- a name among these objects has a number
number_by : (o : Object) (at : ℕ) (rest : List Object) (x : List ℕ) (b : Bool) → (b || is_named rest x) ≡ true
    → (is_named rest x ≡ true → (number : ℕ) × (object_number (laid_from (at + object_elements o) rest) x ≡ Some number))
    → (number : ℕ) × ((if b then Some 0 else option_map suc (object_number (laid_from (at + object_elements o) rest) x)) ≡ Some number)
number_by o at rest x true e ih = (0, refl)
number_by o at rest x false e ih = let h = ih e in (suc h.0, ap (option_map suc) h.1)

named_number : (at : ℕ) (os : List Object) (x : List ℕ) → is_named os x ≡ true → (number : ℕ) × (object_number (laid_from at os) x ≡ Some number)
named_number at [] x e = absurd (true≢false (sym e))
named_number at (o ∷ rest) x e = number_by o at rest x (same_name (object_name o).text x) e (named_number (at + object_elements o) rest x)

pub array_object : (ds : List External) (f : FileScope) (x : List ℕ) (t : Scalar) → ((y : List ℕ) (u : Scalar) → found f.bindings y ≡ Some (Elements u) → ⊥)
    → found (file_scope_behind_all ds f).bindings x ≡ Some (Elements t) → (number : ℕ) × (object_number (laid_from 0 (objects ds)) x ≡ Some number)
array_object ds f x t none h = elim (externals_array ds x t f h) [ inl e ↦ absurd (none x t e) | inr e ↦ named_number 0 (objects ds) x e ]
