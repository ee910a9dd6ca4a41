-- File scope in a typed unit: what a name denotes does not change; a function's name denotes a function with as many parameters
-- as the function has, and a variable's name denotes an object of one word.
use Rattle.std.proofs.Common.{◌≡◌, ℕ, suc, ◌+◌, ◌-◌, ◌%◌, ◌^◌, Bool, true, false, true≢false, not, ◌||◌, ◌&&◌, ◌==◌, if◌then◌else◌, List, [], ◌∷◌, ◌++◌, length, map, nat_lt, inl, inr, Option, Some, None, is_some, option_map, unwrap_or, refl, sym, ap, ◌∙◌, subst, arith, length-append, append_assoc, append-nil}
use Rattle.std.proofs.lemmas.List.{length-map, length-replicate}
use Rattle.std.proofs.lemmas.Bool.Decides.{leb_tells}
use Rattle.std.proofs.lemmas.Cmp.{nat_list_eq_equiv}
use Rattle.cc_simulation.specs.operators.Width.TheVariants.{Byte, Word}
use Rattle.cc_ast.specs.scalar.Scalar.{Scalar}
use Rattle.cc_ast.specs.scalar.Scalar.TheVariants.{Int}
use Rattle.cc_ast.specs.Tree.{Name, ConstantExpr, Parameter, Signature, Object, Single, Array, Bytes, External, Declaration, Definition, Objects}
use Rattle.cc_types.specs.Names.{same_name}
use Rattle.cc_types.specs.Scope.{Entity, Variable, Elements, Function, Binding, found, is_declared, FileScope, with_declared, function_entity, with_function, with_object, with_objects, file_scope_behind, file_scope_behind_all, same_scalar, same_scalars, same_result}
use Rattle.cc_types.specs.Types.{constant_word, elements_of_word, array_length, array_elements, object_elements, object_width, initial_word, zeros_behind, initial_words}
use Rattle.cc_types.specs.Types as types
use Rattle.cc_types.specs.Rules.{broken_if, differs, signature_errors, parameters_errors, optional_constant_errors, constants_errors, length_errors, named_array_errors, object_errors, objects_errors, value_errors, external_errors, externals_errors}
use Rattle.cc_types.specs.declared.rule.Rule.TheVariants.{Redeclared, WrongKind, WrongCount}
use Rattle.cc_types.specs.Limits.{objects, object_name}
use Rattle.cc_layout.specs.Layout.{LaidObject, laid_from, extent_of}
use Rattle.cc_c_semantics.specs.Resolved.{IsOneWord}
use Rattle.cc_c_semantics.proofs.Errors.{nil_left, nil_right, not_broken, or_left, or_right}
use Rattle.cc_c_semantics.proofs.Named.{name_is_itself, same_name_symm}

-- ---- names

-- a name may be replaced with an equal name
pub name_congr : (a x y : List ℕ) → same_name x y ≡ true → same_name a x ≡ same_name a y
name_congr a x y e = same_name_symm a x ∙ nat_list_eq_equiv.congr x y a e ∙ same_name_symm y a

pub found_same : (bs : List Binding) (x y : List ℕ) → same_name x y ≡ true → found bs x ≡ found bs y
found_same [] x y e = refl
found_same (b ∷ rest) x y e =
    ap (λ c. if c then Some b.entity else found rest x) (name_congr b.name x y e) ∙ ap (λ (o : Option Entity). if same_name b.name y then Some b.entity else o) (found_same rest x y e)

-- ---- what a name denotes does not change

keeps_by : (bs : List Binding) (y x : List ℕ) (e e' : Entity) (b c : Bool) → is_declared bs y ≡ b → same_name y x ≡ c → found bs x ≡ Some e
    → found (if b then bs else record { name = y; entity = e' } ∷ bs) x ≡ Some e
keeps_by bs y x e e' true c p q h = h
keeps_by bs y x e e' false true p q h = absurd (true≢false (sym (ap is_some (found_same bs y x q ∙ h)) ∙ p))
keeps_by bs y x e e' false false p q h = ap (λ k. if k then Some e' else found bs x) q ∙ h

pub keeps_declared : (y x : List ℕ) (e e' : Entity) (f : FileScope) → found f.bindings x ≡ Some e → found (with_declared y e' f).bindings x ≡ Some e
keeps_declared y x e e' f h = keeps_by f.bindings y x e e' (is_declared f.bindings y) (same_name y x) refl refl h

keeps_object : (t : Scalar) (o : Object) (f : FileScope) (x : List ℕ) (e : Entity) → found f.bindings x ≡ Some e → found (with_object t o f).bindings x ≡ Some e
keeps_object t (Single y i) f x e h = keeps_declared y.text x e (Variable t) f h
keeps_object t (Array y n values) f x e h = keeps_declared y.text x e (Elements t) f h
keeps_object t (Bytes y n values) f x e h = keeps_declared y.text x e (Elements Int) f h

keeps_objects : (t : Scalar) (os : List Object) (f : FileScope) (x : List ℕ) (e : Entity) → found f.bindings x ≡ Some e → found (with_objects t os f).bindings x ≡ Some e
keeps_objects t [] f x e h = h
keeps_objects t (o ∷ rest) f x e h = keeps_objects t rest (with_object t o f) x e (keeps_object t o f x e h)

keeps_external : (d : External) (f : FileScope) (x : List ℕ) (e : Entity) → found f.bindings x ≡ Some e → found (file_scope_behind d f).bindings x ≡ Some e
keeps_external (Declaration s) f x e h = keeps_declared s.name.text x e (function_entity s) f h
keeps_external (Definition s body) f x e h = keeps_declared s.name.text x e (function_entity s) f h
keeps_external (Objects t os) f x e h = keeps_objects t os f x e h

pub keeps_externals : (ds : List External) (f : FileScope) (x : List ℕ) (e : Entity) → found f.bindings x ≡ Some e → found (file_scope_behind_all ds f).bindings x ≡ Some e
keeps_externals [] f x e h = h
keeps_externals (d ∷ rest) f x e h = keeps_externals rest (file_scope_behind d f) x e (keeps_external d f x e h)

-- ---- functions and their parameters

not_true : (b : Bool) → not b ≡ false → b ≡ true
not_true true e = refl
not_true false e = absurd (true≢false e)

and_right : (a b : Bool) → (a && b) ≡ true → b ≡ true
and_right true b e = e
and_right false b e = absurd (true≢false (sym e))

same_scalars_length : (ts us : List Scalar) → same_scalars ts us ≡ true → length ts ≡ length us
same_scalars_length [] [] e = refl
same_scalars_length [] (u ∷ us) e = absurd (true≢false (sym e))
same_scalars_length (t ∷ ts) [] e = absurd (true≢false (sym e))
same_scalars_length (t ∷ ts) (u ∷ us) e = ap suc (same_scalars_length ts us (and_right (same_scalar t u) (same_scalars ts us) e))

-- the name denotes a function with this many parameters
pub record Takes (bs : List Binding) (x : List ℕ) (count : ℕ) : Type 0 where
  pub result : Option Scalar
  pub scalars : List Scalar
  pub is : found bs x ≡ Some (Function result scalars)
  pub many : length scalars ≡ count

takes_by : (s : Signature) (f : FileScope) (o : Option Entity) → found f.bindings s.name.text ≡ o → differs o (function_entity s) ≡ false
    → Takes (with_function s f).bindings s.name.text (length s.parameters)
takes_by s f None e d = record {
  result = s.result;
  scalars = map (λ (p : Parameter). p.scalar) s.parameters;
  is =
      ap (λ b. found (if b then f.bindings else record { name = s.name.text; entity = function_entity s } ∷ f.bindings) s.name.text) (ap is_some e)
      ∙ ap (λ b. if b then Some (function_entity s) else found f.bindings s.name.text) (name_is_itself s.name.text);
  many = length-map s.parameters (λ (p : Parameter). p.scalar);
}
takes_by s f (Some (Variable t)) e d = absurd (true≢false d)
takes_by s f (Some (Elements t)) e d = absurd (true≢false d)
takes_by s f (Some (Function r ts)) e d =
    let us : List Scalar = map (λ (p : Parameter). p.scalar) s.parameters in
    record {
      result = r;
      scalars = ts;
      is = keeps_declared s.name.text s.name.text (Function r ts) (function_entity s) f e;
      many =
          same_scalars_length ts us (and_right (same_result r s.result) (same_scalars ts us) (not_true (same_result r s.result && same_scalars ts us) d))
          ∙ length-map s.parameters (λ (p : Parameter). p.scalar);
    }

pub signature_takes : (s : Signature) (f : FileScope) → signature_errors s f ≡ [] → Takes (with_function s f).bindings s.name.text (length s.parameters)
signature_takes s f e =
    takes_by s f (found f.bindings s.name.text) refl
    (not_broken (differs (found f.bindings s.name.text) (function_entity s)) Redeclared s.name.at
    (nil_left (broken_if (differs (found f.bindings s.name.text) (function_entity s)) Redeclared s.name.at) (parameters_errors s.parameters (record { inner = []; outer = (with_function s f).bindings })) e))

-- ---- objects

-- one of these laid-out objects has this name
abbrev named_in : List LaidObject → List ℕ → Bool
named_in [] x = false
named_in (p ∷ rest) x = same_name p.name x || named_in rest x

named_append : (ps qs : List LaidObject) (x : List ℕ) → named_in (ps ++ qs) x ≡ (named_in ps x || named_in qs x)
named_append [] qs x = refl
named_append (p ∷ rest) qs x = ap (λ b. same_name p.name x || b) (named_append rest qs x) ∙ sym (or_assoc (same_name p.name x) (named_in rest x) (named_in qs x))
  where
    or_assoc : (a b c : Bool) → ((a || b) || c) ≡ (a || (b || c))
    or_assoc true b c = refl
    or_assoc false b c = refl

-- the first object with that name stays the first
extent_kept_by : (p : LaidObject) (rest qs : List LaidObject) (x : List ℕ) (b : Bool) → IsOneWord (if b then p.extent else extent_of rest x) → (IsOneWord (extent_of rest x) → IsOneWord (extent_of (rest ++ qs) x))
    → IsOneWord (if b then p.extent else extent_of (rest ++ qs) x)
extent_kept_by p rest qs x true e ih = e
extent_kept_by p rest qs x false e ih = ih e

extent_kept : (ps qs : List LaidObject) (x : List ℕ) → IsOneWord (extent_of ps x) → IsOneWord (extent_of (ps ++ qs) x)
extent_kept [] qs x e = absurd (let z : 0 ≡ 1 = e.0 in omega arith)
extent_kept (p ∷ rest) qs x e = extent_kept_by p rest qs x (same_name p.name x) e (extent_kept rest qs x)

-- an object is found if the objects before it have other names
extent_last : (ps : List LaidObject) (q : LaidObject) (x : List ℕ) → named_in ps x ≡ false → same_name q.name x ≡ true → extent_of (ps ++ q ∷ []) x ≡ q.extent
extent_last [] q x e h = ap (λ b. if b then q.extent else record { offset = 0; length = 0; width = Word }) h
extent_last (p ∷ rest) q x e h =
    ap (λ b. if b then p.extent else extent_of (rest ++ q ∷ []) x) (or_left (same_name p.name x) (named_in rest x) e) ∙ extent_last rest q x (or_right (same_name p.name x) (named_in rest x) e) h

-- each object's name is declared, and a variable's object has one word
record Sized (bs : List Binding) (ps : List LaidObject) : Type 0 where
  known : (x : List ℕ) → named_in ps x ≡ true → is_declared bs x ≡ true
  one : (x : List ℕ) (t : Scalar) → found bs x ≡ Some (Variable t) → IsOneWord (extent_of ps x)

declared_kept : (y x : List ℕ) (e' : Entity) (f : FileScope) (o : Option Entity) → found f.bindings x ≡ o → is_some o ≡ true → is_declared (with_declared y e' f).bindings x ≡ true
declared_kept y x e' f None e h = absurd (true≢false (sym h))
declared_kept y x e' f (Some z) e h = ap is_some (keeps_declared y x z e' f e)

-- once a name is declared, a look-up finds what it found before, or the new entity if the name was not declared before
new_by : (f : FileScope) (y x : List ℕ) (e' : Entity) (t : Scalar) (b c : Bool) (P : Type 0) → is_declared f.bindings y ≡ b → same_name y x ≡ c
    → found (if b then f.bindings else record { name = y; entity = e' } ∷ f.bindings) x ≡ Some (Variable t)
    → (found f.bindings x ≡ Some (Variable t) → P) → (b ≡ false → c ≡ true → e' ≡ Variable t → P) → P
new_by f y x e' t true c P p q h old new = old h
new_by f y x e' t false true P p q h old new = new refl refl (let g : Some e' ≡ Some (Variable t) = sym (ap (λ k. if k then Some e' else found f.bindings x) q) ∙ h in cc)
new_by f y x e' t false false P p q h old new = old (sym (ap (λ k. if k then Some e' else found f.bindings x) q) ∙ h)

sized_function : (s : Signature) (f : FileScope) (ps : List LaidObject) → Sized f.bindings ps → Sized (with_function s f).bindings ps
sized_function s f ps h = record {
  known = λ x e. declared_kept s.name.text x (function_entity s) f (found f.bindings x) refl (h.known x e);
  one = λ x t e.
      new_by f s.name.text x (function_entity s) t (is_declared f.bindings s.name.text) (same_name s.name.text x) (IsOneWord (extent_of ps x)) refl refl e (h.one x t)
      (λ p q g. absurd (let z : function_entity s ≡ Variable t = g in cc));
}

declared_now : (y : List ℕ) (e' : Entity) (f : FileScope) → is_declared (with_declared y e' f).bindings y ≡ true
declared_now y e' f = now (is_declared f.bindings y) refl
  where
    now : (b : Bool) → is_declared f.bindings y ≡ b → is_declared (if b then f.bindings else record { name = y; entity = e' } ∷ f.bindings) y ≡ true
    now true e = e
    now false e = ap (λ k. is_some (if k then Some e' else found f.bindings y)) (name_is_itself y)

-- if one more object has a declared name, the names of all objects are still declared
known_more : (y : List ℕ) (e' : Entity) (f : FileScope) (ps : List LaidObject) (q : LaidObject) (x : List ℕ) (b c : Bool) → named_in ps x ≡ b → same_name y x ≡ c → (b || (c || false)) ≡ true
    → Sized f.bindings ps → is_declared (with_declared y e' f).bindings x ≡ true
known_more y e' f ps q x true c p r e h = declared_kept y x e' f (found f.bindings x) refl (h.known x p)
known_more y e' f ps q x false true p r e h = sym (ap is_some (found_same (with_declared y e' f).bindings y x r)) ∙ declared_now y e' f
known_more y e' f ps q x false false p r e h = absurd (true≢false (sym e))

sized_new : (y : List ℕ) (e' : Entity) (f : FileScope) (ps : List LaidObject) (q : LaidObject) → q.name ≡ y → ((t : Scalar) → e' ≡ Variable t → IsOneWord q.extent) → Sized f.bindings ps
    → Sized (with_declared y e' f).bindings (ps ++ q ∷ [])
sized_new y e' f ps q is one h = record {
  known = λ x e.
      known_more y e' f ps q x (named_in ps x) (same_name y x) refl refl
      (ap (λ (z : List ℕ). named_in ps x || (same_name z x || false)) (sym is) ∙ sym (named_append ps (q ∷ []) x) ∙ e) h;
  one = λ x t e.
      new_by f y x e' t (is_declared f.bindings y) (same_name y x) (IsOneWord (extent_of (ps ++ q ∷ []) x)) refl refl e
      (λ old. extent_kept ps (q ∷ []) x (h.one x t old))
      (λ b c g.
      let fresh : named_in ps x ≡ false = unknown (named_in ps x) (λ k. true≢false (sym (h.known x k) ∙ ap is_some (sym (found_same f.bindings y x c)) ∙ b)) in
      subst IsOneWord (sym (extent_last ps q x fresh (ap (λ (z : List ℕ). same_name z x) is ∙ c))) (one t g));
}
  where
    unknown : (b : Bool) → (b ≡ true → ⊥) → b ≡ false
    unknown true h = absurd (h refl)
    unknown false h = refl

sized_object : (t : Scalar) (o : Object) (at : ℕ) (f : FileScope) (ps : List LaidObject) → Sized f.bindings ps
    → Sized (with_object t o f).bindings (ps ++ record { name = (object_name o).text; extent = record { offset = at; length = object_elements o; width = object_width o } } ∷ [])
sized_object t (Single y i) at f ps h =
    sized_new y.text (Variable t) f ps (record { name = y.text; extent = record { offset = at; length = 1; width = Word } }) refl (λ u e. (refl, refl)) h
sized_object t (Array y n values) at f ps h =
    sized_new y.text (Elements t) f ps (record { name = y.text; extent = record { offset = at; length = array_elements n values; width = Word } }) refl (λ u e. absurd (let z : Elements t ≡ Variable u = e in cc)) h
sized_object t (Bytes y n values) at f ps h =
    sized_new y.text (Elements Int) f ps (record { name = y.text; extent = record { offset = at; length = array_elements n values; width = Byte } }) refl (λ u e. absurd (let z : Elements Int ≡ Variable u = e in cc)) h

-- how many elements these objects have together
abbrev elements_of_objects : List Object → ℕ
elements_of_objects [] = 0
elements_of_objects (o ∷ rest) = object_elements o + elements_of_objects rest

laid_append : (at : ℕ) (os more : List Object) → laid_from at (os ++ more) ≡ laid_from at os ++ laid_from (at + elements_of_objects os) more
laid_append at [] more = ap (λ k. laid_from k more) (let z : at ≡ at + 0 = omega arith in z)
laid_append at (o ∷ rest) more =
    ap (λ (ps : List LaidObject). record { name = (object_name o).text; extent = record { offset = at; length = object_elements o; width = object_width o } } ∷ ps)
    (laid_append (at + object_elements o) rest more
    ∙ ap (λ k. laid_from (at + object_elements o) rest ++ laid_from k more) (let z : at + object_elements o + elements_of_objects rest ≡ at + (object_elements o + elements_of_objects rest) = omega arith in z))

sized_objects : (t : Scalar) (os : List Object) (at : ℕ) (f : FileScope) (ps : List LaidObject) → Sized f.bindings ps → Sized (with_objects t os f).bindings (ps ++ laid_from at os)
sized_objects t [] at f ps h = subst (Sized f.bindings) (sym (append-nil ps)) h
sized_objects t (o ∷ rest) at f ps h =
    let q : LaidObject = record { name = (object_name o).text; extent = record { offset = at; length = object_elements o; width = object_width o } } in
    subst (Sized (with_objects t rest (with_object t o f)).bindings) (append_assoc ps (q ∷ []) (laid_from (at + object_elements o) rest))
    (sized_objects t rest (at + object_elements o) (with_object t o f) (ps ++ q ∷ []) (sized_object t o at f ps h))

sized_externals : (ds : List External) (at : ℕ) (f : FileScope) (ps : List LaidObject) → Sized f.bindings ps → Sized (file_scope_behind_all ds f).bindings (ps ++ laid_from at (objects ds))
sized_externals [] at f ps h = subst (Sized f.bindings) (sym (append-nil ps)) h
sized_externals (Declaration s ∷ rest) at f ps h = sized_externals rest at (file_scope_behind (Declaration s) f) ps (sized_function s f ps h)
sized_externals (Definition s body ∷ rest) at f ps h = sized_externals rest at (file_scope_behind (Definition s body) f) ps (sized_function s f ps h)
sized_externals (Objects t os ∷ rest) at f ps h =
    let g = with_objects t os f in
    subst (Sized (file_scope_behind_all rest g).bindings)
    (append_assoc ps (laid_from at os) (laid_from (at + elements_of_objects os) (objects rest)) ∙ ap (λ (qs : List LaidObject). ps ++ qs) (sym (laid_append at os (objects rest))))
    (sized_externals rest (at + elements_of_objects os) g (ps ++ laid_from at os) (sized_objects t os at f ps h))

-- a variable of a unit is an object of one word
pub variable_size : (ds : List External) (f : FileScope) (x : List ℕ) (t : Scalar) → ((y : List ℕ) (u : Scalar) → found f.bindings y ≡ Some (Variable u) → ⊥) → found (file_scope_behind_all ds f).bindings x ≡ Some (Variable t)
    → IsOneWord (extent_of (laid_from 0 (objects ds)) x)
variable_size ds f x t none e = (sized_externals ds 0 f [] (record { known = λ y b. absurd (true≢false (sym b)); one = λ y u g. absurd (none y u g) })).one x t e

-- ---- the words of objects before the run

broken_not : (o : Option ℕ) → not (is_some o) ≡ false → (w : ℕ) × (o ≡ Some w)
broken_not None e = absurd (true≢false e)
broken_not (Some w) e = (w, refl)

-- an array's length is known, and is at least the length of its list
array_fits_by : (o : Option ℕ) (given at : ℕ) → length_errors o given at ≡ [] → (o ≡ None → ⊥) → given + (unwrap_or o 0 - given) ≡ unwrap_or o 0
array_fits_by None given at e h = absurd (h refl)
array_fits_by (Some k) given at e h =
    let less : nat_lt k given ≡ false = or_right (k == 0) (nat_lt k given) (not_broken (k == 0 || nat_lt k given) WrongCount at e) in
    elim (leb_tells (suc k) given) [ inl t ↦ absurd (true≢false (sym t.0 ∙ less)) | inr t ↦ (let z = t.1 in omega arith) ]

length_known_by : (n : Option ConstantExpr) (values : List ConstantExpr) (bs : List Binding) → optional_constant_errors bs n ≡ [] → array_length n values ≡ None → ⊥
length_known_by None values bs e h = let z : Some (length values) ≡ None = h in cc
length_known_by (Some c) values bs e h =
    let w = broken_not (constant_word c) (not_broken (not (is_some (constant_word c))) WrongKind c.at (nil_right (value_errors bs c.expr) (broken_if (not (is_some (constant_word c))) WrongKind c.at) e)) in
    let z : option_map (elements_of_word (types.value_type [] c.expr)) (constant_word c) ≡ Some (elements_of_word (types.value_type [] c.expr) w.0) = ap (option_map (elements_of_word (types.value_type [] c.expr))) w.1 in
    let y : Some (elements_of_word (types.value_type [] c.expr) w.0) ≡ None = sym z ∙ h in cc

-- before the run an array has as many words as elements, whatever the elements keep of the words in its list
array_size : (t : Scalar) (x : Name) (n : Option ConstantExpr) (values : List ConstantExpr) (word : ConstantExpr → ℕ) (f : FileScope) → named_array_errors t x n values f ≡ []
    → length (map word values ++ zeros_behind n values) ≡ array_elements n values
array_size t x n values word f e =
    let a = broken_if (is_declared f.bindings x.text) Redeclared x.at in
    let b = optional_constant_errors f.bindings n in
    let c = length_errors (array_length n values) (length values) x.at in
    let d = constants_errors (with_declared x.text (Elements t) f).bindings values in
    let e' = nil_right a (b ++ (c ++ d)) e in
    let of_n = nil_left b (c ++ d) e' in
    let of_length = nil_left c d (nil_right b (c ++ d) e') in
    length-append (map word values) (zeros_behind n values)
    ∙ ap (λ k. k + length {A = ℕ} (zeros_behind n values)) (length-map values word)
    ∙ ap (λ k. length values + k) (length-replicate (array_elements n values - length values) 0)
    ∙ array_fits_by (array_length n values) (length values) x.at of_length (length_known_by n values f.bindings of_n)

-- each object has as many words as elements
pub object_size : (t : Scalar) (o : Object) (f : FileScope) → object_errors t o f ≡ [] → length (initial_words o) ≡ object_elements o
object_size t (Single x i) f e = refl
object_size t (Array x n values) f e = array_size t x n values (λ (v : ConstantExpr). initial_word (Some v)) f e
object_size t (Bytes x n values) f e = array_size Int x n values (λ (v : ConstantExpr). initial_word (Some v) % 2 ^ 8) f e

-- each object of a list has as many words as elements
abbrev pub AllFit : List Object → Type 0
AllFit [] = Unit {0}
AllFit (o ∷ rest) = (length (initial_words o) ≡ object_elements o) × AllFit rest

fit_append : (os more : List Object) → AllFit os → AllFit more → AllFit (os ++ more)
fit_append [] more h g = g
fit_append (o ∷ rest) more h g = (h.0, fit_append rest more h.1 g)

objects_fit : (t : Scalar) (os : List Object) (f : FileScope) → objects_errors t os f ≡ [] → AllFit os
objects_fit t [] f e = tt
objects_fit t (o ∷ rest) f e =
    (object_size t o f (nil_left (object_errors t o f) (objects_errors t rest (with_object t o f)) e), objects_fit t rest (with_object t o f) (nil_right (object_errors t o f) (objects_errors t rest (with_object t o f)) e))

pub all_fit : (ds : List External) (f : FileScope) → externals_errors ds f ≡ [] → AllFit (objects ds)
all_fit [] f e = tt
all_fit (Declaration s ∷ rest) f e = all_fit rest (file_scope_behind (Declaration s) f) (nil_right (external_errors (Declaration s) f) (externals_errors rest (file_scope_behind (Declaration s) f)) e)
all_fit (Definition s body ∷ rest) f e = all_fit rest (file_scope_behind (Definition s body) f) (nil_right (external_errors (Definition s body) f) (externals_errors rest (file_scope_behind (Definition s body) f)) e)
all_fit (Objects t os ∷ rest) f e =
    fit_append os (objects rest) (objects_fit t os f (nil_left (objects_errors t os f) (externals_errors rest (with_objects t os f)) e))
    (all_fit rest (with_objects t os f) (nil_right (objects_errors t os f) (externals_errors rest (with_objects t os f)) e))
