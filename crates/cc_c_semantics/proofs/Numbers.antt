-- Functions and objects are numbered as their names are.
use Rattle.std.proofs.Common.{◌≡◌, ℕ, suc, ◌+◌, ◌<◌, Bool, true, false, true≢false, ◌||◌, if◌then◌else◌, List, [], ◌∷◌, length, map, Option, Some, slice_get, unwrap_or, option_map, refl, sym, ap, ◌∙◌, arith}
use Rattle.std.proofs.lemmas.List.{length-map}
use Rattle.std.proofs.lemmas.Option.{slice_get-map}
use Rattle.std.specs.Cmp.Lexicographic.{same_text}
use Rattle.cc_ast.specs.Tree.{Name, Object, External, Declaration, Definition, Objects}
use Rattle.cc_types.specs.Names.{same_name}
use Rattle.cc_types.specs.Scope.{FileScope, has_name, first_file_scope, file_scope_behind}
use Rattle.cc_types.specs.Types.{object_elements, object_width}
use Rattle.cc_types.specs.Limits.{function_names, objects, object_name}
use Rattle.cc_layout.specs.Layout.{LaidObject, laid_from, extent_of, object_number, names_before, layout_of}
use Rattle.cc_c_semantics.specs.Meaning.{Global, Function, functions_from, functions, function_named, initial_global}
use Rattle.cc_c_semantics.specs.Function.{name_of_function}
use Rattle.cc_c_semantics.specs.Resolved.{arities}
use Rattle.cc_c_semantics.specs.Calls.{NamedSize, sizes, laid_sizes, FunctionsAreNumbered, ObjectsAreNumbered, ObjectsAreSized}
use Rattle.cc_c_semantics.proofs.Scopes.{AllFit, all_fit}

-- ---- functions

names_from : (ds : List External) (f : FileScope) → map (λ (g : Function). g.name) (functions_from ds f) ≡ map (λ (x : Name). x.text) (function_names ds)
names_from [] f = refl
names_from (Declaration s ∷ rest) f = names_from rest (file_scope_behind (Declaration s) f)
names_from (Definition s body ∷ rest) f = ap (λ (xs : List (List ℕ)). s.name.text ∷ xs) (names_from rest (file_scope_behind (Definition s body) f))
names_from (Objects t os ∷ rest) f = names_from rest (file_scope_behind (Objects t os) f)

pub functions_are_numbered : FunctionsAreNumbered
functions_are_numbered unit = names_from unit first_file_scope

-- there are as many names, and as many numbers of parameters, as functions
pub as_many_names : (unit : List External) → length (layout_of unit).functions ≡ length (functions unit)
as_many_names unit = sym (ap (λ (xs : List (List ℕ)). length xs) (functions_are_numbered unit)) ∙ length-map (functions unit) (λ (g : Function). g.name)

pub as_many_arities : (unit : List External) → length (arities unit) ≡ length (functions unit)
as_many_arities unit = length-map (functions unit) (λ (g : Function). length g.parameters)

-- an element other than the first is in the rest of the list, at an index lower by one
pub get_next : {A : Type 0} (x : A) (xs : List A) (k : ℕ) → slice_get (x ∷ xs) (1 + k) ≡ slice_get xs k
get_next x xs k = ap (λ n. slice_get (x ∷ xs) n) (let z : 1 + k ≡ suc k = omega arith in z)

-- the name at the place that a name's number gives is that name
named_by : (y : List ℕ) (rest : List (List ℕ)) (x : List ℕ) (b : Bool) → same_name y x ≡ b → (if b then 0 else 1 + names_before rest x) < suc (length rest)
    → (names_before rest x < length rest → unwrap_or (slice_get rest (names_before rest x)) [] ≡ x) → unwrap_or (slice_get (y ∷ rest) (if b then 0 else 1 + names_before rest x)) [] ≡ x
named_by y rest x true e lt ih = same_text y x (sym e)
named_by y rest x false e lt ih = ap (λ (o : Option (List ℕ)). unwrap_or o []) (get_next y rest (names_before rest x)) ∙ ih (omega arith)

named_number : (xs : List (List ℕ)) (x : List ℕ) → names_before xs x < length xs → unwrap_or (slice_get xs (names_before xs x)) [] ≡ x
named_number [] x lt = absurd (omega arith)
named_number (y ∷ rest) x lt = named_by y rest x (same_name y x) refl lt (named_number rest x)

pub name_of_number : (unit : List External) (x : List ℕ) → names_before (layout_of unit).functions x < length (functions unit) → name_of_function unit (names_before (layout_of unit).functions x) ≡ x
name_of_number unit x lt =
    ap (λ (xs : List (List ℕ)). unwrap_or (slice_get xs (names_before (layout_of unit).functions x)) []) (functions_are_numbered unit)
    ∙ named_number (layout_of unit).functions x (omega (arith, lt, as_many_names unit))

-- a name in the list has a number below the length
below_by : (y : List ℕ) (rest : List (List ℕ)) (x : List ℕ) (b : Bool) → (b || has_name rest x) ≡ true → (has_name rest x ≡ true → names_before rest x < length rest) → (if b then 0 else 1 + names_before rest x) < suc (length rest)
below_by y rest x true e ih = omega arith
below_by y rest x false e ih = let h = ih e in omega arith

pub number_below : (xs : List (List ℕ)) (x : List ℕ) → has_name xs x ≡ true → names_before xs x < length xs
number_below [] x e = absurd (true≢false (sym e))
number_below (y ∷ rest) x e = below_by y rest x (same_name y x) e (number_below rest x)

-- the function with a name is the one with the name's number
function_by : (f : Function) (fs : List Function) (x : List ℕ) (b : Bool) → (k : ℕ) → slice_get fs k ≡ function_named fs x
    → slice_get (f ∷ fs) (if b then 0 else 1 + k) ≡ (if b then Some f else function_named fs x)
function_by f fs x true k ih = refl
function_by f fs x false k ih = get_next f fs k ∙ ih

function_number : (fs : List Function) (x : List ℕ) → slice_get fs (names_before (map (λ (g : Function). g.name) fs) x) ≡ function_named fs x
function_number [] x = refl
function_number (f ∷ rest) x = function_by f rest x (same_name f.name x) (names_before (map (λ (g : Function). g.name) rest) x) (function_number rest x)

pub function_of_number : (unit : List External) (x : List ℕ) → slice_get (functions unit) (names_before (layout_of unit).functions x) ≡ function_named (functions unit) x
function_of_number unit x = ap (λ (xs : List (List ℕ)). slice_get (functions unit) (names_before xs x)) (sym (functions_are_numbered unit)) ∙ function_number (functions unit) x

pub arity_of_number : (unit : List External) (x : List ℕ) (g : Function) → function_named (functions unit) x ≡ Some g → slice_get (arities unit) (names_before (layout_of unit).functions x) ≡ Some (length g.parameters)
arity_of_number unit x g e =
    slice_get-map (λ (h : Function). length h.parameters) (functions unit) (names_before (layout_of unit).functions x)
    ∙ ap (option_map (λ (h : Function). length h.parameters)) (function_of_number unit x ∙ e)

-- a name in the list is the name of a function
there_by : (f : Function) (fs : List Function) (x : List ℕ) (b : Bool) → (b || has_name (map (λ (g : Function). g.name) fs) x) ≡ true
    → (has_name (map (λ (g : Function). g.name) fs) x ≡ true → (g : Function) × (function_named fs x ≡ Some g)) → (g : Function) × ((if b then Some f else function_named fs x) ≡ Some g)
there_by f fs x true e ih = (f, refl)
there_by f fs x false e ih = ih e

function_there : (fs : List Function) (x : List ℕ) → has_name (map (λ (g : Function). g.name) fs) x ≡ true → (g : Function) × (function_named fs x ≡ Some g)
function_there [] x e = absurd (true≢false (sym e))
function_there (f ∷ rest) x e = there_by f rest x (same_name f.name x) e (function_there rest x)

pub function_of_name : (unit : List External) (x : List ℕ) → has_name (layout_of unit).functions x ≡ true → (g : Function) × (function_named (functions unit) x ≡ Some g)
function_of_name unit x e = function_there (functions unit) x (ap (λ (xs : List (List ℕ)). has_name xs x) (functions_are_numbered unit) ∙ e)

-- ---- objects

object_names : (at : ℕ) (os : List Object)
    → map (λ (g : Global). g.name) (map initial_global os) ≡ map (λ (p : LaidObject). p.name) (laid_from at os)
object_names at [] = refl
object_names at (o ∷ rest) = ap (λ (xs : List (List ℕ)). (object_name o).text ∷ xs) (object_names (at + object_elements o) rest)

pub objects_are_numbered : ObjectsAreNumbered
objects_are_numbered unit = object_names 0 (objects unit)

object_sizes : (at : ℕ) (os : List Object) → AllFit os → sizes (map initial_global os) ≡ laid_sizes (laid_from at os)
object_sizes at [] h = refl
object_sizes at (o ∷ rest) h =
    ap (λ k. record { name = (object_name o).text; width = object_width o; elements = k } ∷ sizes (map initial_global rest)) h.0
    ∙ ap (λ (zs : List NamedSize). record { name = (object_name o).text; width = object_width o; elements = object_elements o } ∷ zs) (object_sizes (at + object_elements o) rest h.1)

pub objects_are_sized : ObjectsAreSized
objects_are_sized unit typed = object_sizes 0 (objects unit) (all_fit unit first_file_scope typed.0)

-- an object with a word has a number
sized_by : (p : LaidObject) (rest : List LaidObject) (x : List ℕ) (b : Bool) → (if b then p.extent else extent_of rest x).length ≡ 1
    → ((extent_of rest x).length ≡ 1 → (number : ℕ) × (object_number rest x ≡ Some number)) → (number : ℕ) × ((if b then Some 0 else option_map suc (object_number rest x)) ≡ Some number)
sized_by p rest x true e ih = (0, refl)
sized_by p rest x false e ih = let h = ih e in (suc h.0, ap (option_map suc) h.1)

pub sized_number : (ps : List LaidObject) (x : List ℕ) → (extent_of ps x).length ≡ 1 → (number : ℕ) × (object_number ps x ≡ Some number)
sized_number [] x e = absurd (omega (arith, e))
sized_number (p ∷ rest) x e = sized_by p rest x (same_name p.name x) e (sized_number rest x)
