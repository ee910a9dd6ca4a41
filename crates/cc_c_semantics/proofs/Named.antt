-- In a typed unit the functions have different names, and no function has a builtin's name. So a call by a function's name is a
-- call of that function, and each function has a meaning.
use Rattle.std.proofs.Common.{◌≡◌, ℕ, zero, suc, ◌+◌, ◌<◌, true, false, ◌||◌, if◌then◌else◌, List, [], ◌∷◌, ◌++◌, length, nat_lt, Option, Some, None, slice_get, unwrap_or, option_map, codes, refl, sym, ap, ◌∙◌, subst, arith}
use Rattle.std.proofs.lemmas.Bool.{lt-ltb}
use Rattle.std.proofs.lemmas.Option.{slice_get-map}
use Rattle.std.proofs.lemmas.Cmp.{nat_list_eq_equiv}
use Rattle.cc_ast.specs.scalar.Scalar.{Scalar}
use Rattle.cc_ast.specs.Tree.{Object, Single, Array, Bytes, External, Declaration, Definition, Objects}
use Rattle.cc_types.specs.Names.{same_name}
use Rattle.cc_types.specs.Scope.{FileScope, has_name, first_file_scope, with_object, with_objects, file_scope_behind, body_scope}
use Rattle.cc_types.specs.Rules.{broken_if, signature_errors, statements_errors, external_errors, externals_errors}
use Rattle.cc_types.specs.declared.rule.Rule.TheVariants.{Redeclared}
use Rattle.cc_types.specs.Typed.{IsTyped}
use Rattle.cc_c_semantics.specs.Meaning.{State, Function, functions_from, functions, function_named, calls, run_optional, most_open}
use Rattle.cc_c_semantics.specs.Function.{Shared, effect_of, state_within, name_of_function, call_function, body_of_function, TypedUnitsHaveMeaning}
use Rattle.cc_c_semantics.proofs.Errors.{nil_left, nil_right, not_broken, or_left, or_right}
use Rattle.cc_c_semantics.proofs.Steps.{begun, body_part}

pub name_is_itself : (x : List ℕ) → same_name x x ≡ true
name_is_itself x = nat_list_eq_equiv.refl x

pub same_name_symm : (x y : List ℕ) → same_name x y ≡ same_name y x
same_name_symm x y = nat_list_eq_equiv.symm x y

-- no function has a name in this list, or the name of an earlier function
abbrev pub Apart : List (List ℕ) → List Function → Type 0
Apart seen [] = Unit {0}
Apart seen (f ∷ rest) = (has_name seen f.name ≡ false) × Apart (f.name ∷ seen) rest

object_keeps : (t : Scalar) (o : Object) (f : FileScope) → (with_object t o f).defined ≡ f.defined
object_keeps t (Single x initial) f = refl
object_keeps t (Array x n values) f = refl
object_keeps t (Bytes x n values) f = refl

pub objects_keep : (t : Scalar) (os : List Object) (f : FileScope) → (with_objects t os f).defined ≡ f.defined
objects_keep t [] f = refl
objects_keep t (o ∷ rest) f = objects_keep t rest (with_object t o f) ∙ object_keeps t o f

apart_from : (externals : List External) (f : FileScope) → externals_errors externals f ≡ [] → Apart f.defined (functions_from externals f)
apart_from [] f e = tt
apart_from (Declaration s ∷ rest) f e =
    apart_from rest (file_scope_behind (Declaration s) f) (nil_right (external_errors (Declaration s) f) (externals_errors rest (file_scope_behind (Declaration s) f)) e)
apart_from (Definition s body ∷ rest) f e =
    let here = nil_left (external_errors (Definition s body) f) (externals_errors rest (file_scope_behind (Definition s body) f)) e in
    let behind = nil_right (external_errors (Definition s body) f) (externals_errors rest (file_scope_behind (Definition s body) f)) e in
    let again = nil_left (broken_if (has_name f.defined s.name.text) Redeclared s.name.at) (statements_errors body (record { result = s.result; in_loop = false }) (body_scope s f))
    (nil_right (signature_errors s f) (broken_if (has_name f.defined s.name.text) Redeclared s.name.at ++ statements_errors body (record { result = s.result; in_loop = false }) (body_scope s f)) here) in
    (not_broken (has_name f.defined s.name.text) Redeclared s.name.at again, apart_from rest (file_scope_behind (Definition s body) f) behind)
apart_from (Objects t os ∷ rest) f e =
    subst (λ names. Apart names (functions_from rest (with_objects t os f))) (objects_keep t os f)
    (apart_from rest (with_objects t os f) (nil_right (external_errors (Objects t os) f) (externals_errors rest (with_objects t os f)) e))

pub functions_apart : (unit : List External) → IsTyped unit → Apart first_file_scope.defined (functions unit)
functions_apart unit typed = apart_from unit first_file_scope typed.0

-- looking up a function's name finds that function
pub named_at : (seen : List (List ℕ)) (fs : List Function) (i : ℕ) (g : Function) → Apart seen fs → slice_get fs i ≡ Some g
    → (has_name seen g.name ≡ false) × (function_named fs g.name ≡ Some g)
named_at seen [] i g h e = absurd (let f : None ≡ Some g = e in cc)
named_at seen (f ∷ rest) zero g h e =
    let same : f ≡ g = cc in
    subst (λ (x : Function). (has_name seen x.name ≡ false) × (function_named (f ∷ rest) x.name ≡ Some x)) same
    (h.0, ap (λ b. if b then Some f else function_named rest f.name) (name_is_itself f.name))
named_at seen (f ∷ rest) (suc i) g h e =
    let later = named_at (f.name ∷ seen) rest i g h.1 e in (
      or_right (same_name f.name g.name) (has_name seen g.name) later.0,
      ap (λ b. if b then Some f else function_named rest g.name) (or_left (same_name f.name g.name) (has_name seen g.name) later.0) ∙ later.1,
    )

-- there is an element at every index below the length
pub there : {A : Type 0} (xs : List A) (i : ℕ) → i < length xs → (x : A) × (slice_get xs i ≡ Some x)
there [] i h = absurd (omega arith)
there (x ∷ xs) zero h = (x, refl)
there (x ∷ xs) (suc i) h = there xs i (omega arith)

-- the function with this number, and what is known about it
record Numbered (unit : List External) (f : ℕ) : Type 0 where
  function : Function
  is : slice_get (functions unit) f ≡ Some function
  name : name_of_function unit f ≡ function.name
  found : function_named (functions unit) function.name ≡ Some function
  no_write : same_name function.name (codes "write_word") ≡ false
  no_read : same_name function.name (codes "read_word") ≡ false

numbered : (unit : List External) (f : ℕ) → IsTyped unit → f < length (functions unit) → Numbered unit f
numbered unit f typed h =
    let g = there (functions unit) f h in
    let n = named_at first_file_scope.defined (functions unit) f g.0 (functions_apart unit typed) g.1 in
    let writes : same_name (codes "write_word") (g.0).name ≡ false = or_left (same_name (codes "write_word") (g.0).name) (same_name (codes "read_word") (g.0).name || false) n.0 in
    let reads : same_name (codes "read_word") (g.0).name ≡ false =
    or_left (same_name (codes "read_word") (g.0).name) false (or_right (same_name (codes "write_word") (g.0).name) (same_name (codes "read_word") (g.0).name || false) n.0) in
    record {
      function = g.0;
      is = g.1;
      name = ap (λ (o : Option (List ℕ)). unwrap_or o []) (slice_get-map (λ (x : Function). x.name) (functions unit) f ∙ ap (option_map (λ (x : Function). x.name)) g.1);
      found = n.1;
      no_write = same_name_symm (g.0).name (codes "write_word") ∙ writes;
      no_read = same_name_symm (g.0).name (codes "read_word") ∙ reads;
    }

-- a call of a name that is not a builtin's begins as `begun` says
pub call_begins : (fs : List Function) (opened : ℕ) (f ws : List ℕ) (n : ℕ) (s : State) → same_name f (codes "write_word") ≡ false → same_name f (codes "read_word") ≡ false
    → calls (suc n) fs opened f ws s ≡ begun false false (nat_lt opened most_open) (body_part fs opened f ws) ws n s
call_begins fs opened f ws n s p q =
    ap (λ b. begun b (same_name f (codes "read_word")) (nat_lt opened most_open) (body_part fs opened f ws) ws n s) p
    ∙ ap (λ b. begun false b (nat_lt opened most_open) (body_part fs opened f ws) ws n s) q

numbered_call : (unit : List External) (n opened f : ℕ) (ws : List ℕ) (h : Shared) (g : Numbered unit f)
    → call_function unit n opened f ws h ≡ effect_of (begun false false (nat_lt opened most_open) (body_part (functions unit) opened g.function.name ws) ws n (state_within n h))
numbered_call unit n opened f ws h g =
    ap (λ x. effect_of (calls (suc n) (functions unit) opened x ws (state_within n h))) g.name
    ∙ ap effect_of (call_begins (functions unit) opened g.function.name ws n (state_within n h) g.no_write g.no_read)

spends_a_step : (unit : List External) (n opened f : ℕ) (ws : List ℕ) (h : Shared) → Numbered unit f → opened < most_open
    → call_function unit (suc n) opened f ws h ≡ body_of_function unit n opened f ws h
spends_a_step unit n opened f ws h g lt =
    numbered_call unit (suc n) opened f ws h g
    ∙ ap (λ b. effect_of (begun false false b (body_part (functions unit) opened g.function.name ws) ws (suc n) (state_within (suc n) h))) (lt-ltb opened most_open lt)
    ∙ ap (λ o. effect_of (run_optional o (suc n) (calls (suc n) (functions unit) (opened + 1)) ws (state_within n h))) (g.found ∙ sym g.is)

pub typed_units_have_meaning : TypedUnitsHaveMeaning
typed_units_have_meaning unit typed = record {
  none_left = λ opened f ws h lt. numbered_call unit 0 opened f ws h (numbered unit f typed lt);
  too_deep = λ n f ws h lt. numbered_call unit (suc n) most_open f ws h (numbered unit f typed lt);
  spends = λ n opened f ws h lt less. spends_a_step unit n opened f ws h (numbered unit f typed lt) less;
}
