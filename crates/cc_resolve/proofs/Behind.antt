-- Objects, parameters and external declarations, one after another: what has been added, followed by what is left to add,
-- is the whole.
use Rattle.std.proofs.Common.{◌≡◌, ℕ, suc, ◌+◌, ◌-◌, ◌<◌, ◌≤◌, List, [], ◌∷◌, ◌++◌, length, map, replicate, Some, None, refl, sym, ap, ◌∙◌, append_assoc, arith}
use Rattle.cc_ast.specs.scalar.Scalar.{Scalar}
use Rattle.cc_ast.specs.Tree.{Name, Parameter, Object, External, Declaration, Definition, Objects}
use Rattle.cc_scope.specs.Bindings.{closed, file_level, file_of}
use Rattle.cc_types.specs.internal.Externals.{defined_in, objects_in}
use Rattle.cc_types.specs.Limits.{objects, object_name, function_names}
use Rattle.cc_types.specs.Scope.{Binding, with_object, with_objects, parameter_declared, parameters_declared}
use Rattle.cc_types.specs.Types.{object_elements, object_width, initial_words}
use Rattle.cc_types.proofs.FileScopes.{with_objects-same, parameters_declared-outer}
use Rattle.cc_layout.specs.Layout.{LaidObject, Layout, laid_from, all_words}
use Rattle.cc_layout.specs.Environment.{Environment, parameter_names}
use Rattle.cc_resolve.specs.internal.Laying.{offset_behind}

-- ---- lists

-- moving the next member from what is left to what is done does not change the whole list
pub one-more : {A : Type 0} (done done' : List A) (x : A) (rest whole : List A) → done ++ (x ∷ rest) ≡ whole → done' ≡ done ++ x ∷ [] → done' ++ rest ≡ whole
one-more done done' x rest whole e is = ap (λ l. l ++ rest) is ∙ append_assoc done (x ∷ []) rest ∙ e

-- moving several members at once does not change the whole list either
pub some-more : {A : Type 0} (done done' xs rest whole : List A) → done ++ (xs ++ rest) ≡ whole → done' ≡ done ++ xs → done' ++ rest ≡ whole
some-more done done' xs rest whole e is = ap (λ l. l ++ rest) is ∙ append_assoc done xs rest ∙ e

-- moving one of n zeros does not change the whole list
pub one-more-zero : (done done' whole : List ℕ) (n k : ℕ) → k < n → done ++ replicate (n - k) 0 ≡ whole → done' ≡ done ++ 0 ∷ [] → done' ++ replicate (n - (k + 1)) 0 ≡ whole
one-more-zero done done' whole n k h e is =
    let left : n - k ≡ suc (n - (k + 1)) = omega arith in
    one-more done done' 0 (replicate (n - (k + 1)) 0) whole (sym (ap (λ m. done ++ replicate m 0) left) ∙ e) is

-- ---- the words of objects, and where they are

-- the state of the walk after some objects of a list
pub record Placing (p0 : Layout) (w0 : List ℕ) (at0 : ℕ) (all : List Object) (p : Layout) (w : List ℕ) (at : ℕ) (rest : List Object) : Type 0 where
  pub objects : p.objects ++ laid_from at rest ≡ p0.objects ++ laid_from at0 all
  pub functions : p.functions ≡ p0.functions
  pub words : w ++ all_words rest ≡ w0 ++ all_words all
  pub behind : offset_behind at rest ≡ offset_behind at0 all
  pub fits : at ≤ length w

pub Placing-next : (p0 : Layout) (w0 : List ℕ) (at0 : ℕ) (all : List Object) (p : Layout) (w : List ℕ) (at : ℕ) (o : Object) (rest : List Object) (p' : Layout) (w' : List ℕ) (at' : ℕ)
    → Placing p0 w0 at0 all p w at (o ∷ rest)
    → p' ≡ record p { objects = p.objects ++ record { name = (object_name o).text; extent = record { offset = at; length = object_elements o; width = object_width o } } ∷ [] }
    → w' ≡ w ++ initial_words o → at' ≡ at + object_elements o → at' ≤ length w'
    → Placing p0 w0 at0 all p' w' at' rest
Placing-next p0 w0 at0 all p w at o rest p' w' at' before ep ew ea h =
    let this : LaidObject = record { name = (object_name o).text; extent = record { offset = at; length = object_elements o; width = object_width o } } in
    record {
      objects =
          ap (λ n. p'.objects ++ laid_from n rest) ea
          ∙ one-more p.objects p'.objects this (laid_from (at + object_elements o) rest) _ before.objects (ap (λ (q : Layout). q.objects) ep);
      functions = ap (λ (q : Layout). q.functions) ep ∙ before.functions;
      words = some-more w w' (initial_words o) (all_words rest) _ before.words ew;
      behind = ap (λ n. offset_behind n rest) ea ∙ before.behind;
      fits = h;
    }

pub laid_from-append : (at : ℕ) (xs ys : List Object) → laid_from at (xs ++ ys) ≡ laid_from at xs ++ laid_from (offset_behind at xs) ys
laid_from-append at [] ys = refl
laid_from-append at (o ∷ xs) ys = ap (λ l. record { name = (object_name o).text; extent = record { offset = at; length = object_elements o; width = object_width o } } ∷ l) (laid_from-append (at + object_elements o) xs ys)

pub all_words-append : (xs ys : List Object) → all_words (xs ++ ys) ≡ all_words xs ++ all_words ys
all_words-append [] ys = refl
all_words-append (o ∷ xs) ys = ap (λ l. initial_words o ++ l) (all_words-append xs ys) ∙ sym (append_assoc (initial_words o) (all_words xs) (all_words ys))

objects-next : (e : External) (rest : List External) → objects (e ∷ rest) ≡ objects_in e ++ objects rest
objects-next (Declaration s) rest = refl
objects-next (Definition s body) rest = refl
objects-next (Objects t os) rest = refl

-- the names of the functions that some external declarations define
abbrev pub function_texts : List External → List (List ℕ)
function_texts es = map (λ (x : Name). x.text) (function_names es)

function_texts-next : (e : External) (rest : List External) → function_texts (e ∷ rest) ≡ defined_in e ++ function_texts rest
function_texts-next (Declaration s) rest = refl
function_texts-next (Definition s body) rest = refl
function_texts-next (Objects t os) rest = refl

-- the state of the walk after some external declarations of a unit
pub record Finding (all : List External) (p : Layout) (w : List ℕ) (at : ℕ) (rest : List External) : Type 0 where
  pub laid : p.objects ++ laid_from at (objects rest) ≡ laid_from 0 (objects all)
  pub numbered : p.functions ++ function_texts rest ≡ function_texts all
  pub words : w ++ all_words (objects rest) ≡ all_words (objects all)
  pub fits : at ≤ length w

pub Finding-next : (all : List External) (p : Layout) (w : List ℕ) (at : ℕ) (e : External) (rest : List External) (p' : Layout) (w' : List ℕ) (at' : ℕ)
    → Finding all p w at (e ∷ rest)
    → p' ≡ record { objects = p.objects ++ laid_from at (objects_in e); functions = p.functions ++ defined_in e }
    → w' ≡ w ++ all_words (objects_in e) → at' ≡ offset_behind at (objects_in e) → at' ≤ length w'
    → Finding all p' w' at' rest
Finding-next all p w at e rest p' w' at' before ep ew ea h =
    let os = objects_in e in
    record {
      laid =
          ap (λ n. p'.objects ++ laid_from n (objects rest)) ea
          ∙ some-more p.objects p'.objects (laid_from at os) (laid_from (offset_behind at os) (objects rest)) _
          (sym (ap (λ l. p.objects ++ l) (ap (laid_from at) (objects-next e rest) ∙ laid_from-append at os (objects rest))) ∙ before.laid)
          (ap (λ (q : Layout). q.objects) ep);
      numbered =
          some-more p.functions p'.functions (defined_in e) (function_texts rest) _
          (sym (ap (λ l. p.functions ++ l) (function_texts-next e rest)) ∙ before.numbered) (ap (λ (q : Layout). q.functions) ep);
      words =
          some-more w w' (all_words os) (all_words (objects rest)) _
          (sym (ap (λ l. w ++ l) (ap all_words (objects-next e rest) ∙ all_words-append os (objects rest))) ∙ before.words) ew;
      fits = h;
    }

-- ---- the names of objects

-- the state of the walk after some names in a declaration of objects
pub record Naming (t : Scalar) (v0 : Environment) (all : List Object) (v : Environment) (rest : List Object) : Type 0 where
  pub inner : v.visible.inner ≡ []
  pub names : record v { visible = file_level (with_objects t rest (file_of v.visible)).bindings } ≡ record v0 { visible = file_level (with_objects t all (file_of v0.visible)).bindings }

pub Naming-next : (t : Scalar) (v0 : Environment) (all : List Object) (v : Environment) (o : Object) (rest : List Object) (v' : Environment)
    → Naming t v0 all v (o ∷ rest) → v' ≡ record v { visible = file_level (with_object t o (file_of v.visible)).bindings } → Naming t v0 all v' rest
Naming-next t v0 all v o rest v' before e = record {
  inner = ap (λ (u : Environment). u.visible.inner) e;
  names =
      ap (λ (u : Environment). record u { visible = file_level (with_objects t rest (file_of u.visible)).bindings }) e
      ∙ ap (λ bs. record v { visible = file_level bs }) (with_objects-same t rest (file_of (file_level (with_object t o (file_of v.visible)).bindings)) (with_object t o (file_of v.visible)) refl)
      ∙ before.names;
}

-- if no inner scope has declared a name, the environment is one in which only file scope is open
pub in-file : (v : Environment) → v.visible.inner ≡ [] → v ≡ record v { visible = file_level v.visible.outer }
in-file v e i = record { visible = record { inner = e i; outer = v.visible.outer }; locals = v.locals; layout = v.layout }

-- ---- functions

-- the state of the walk after some parameters
pub record Declaring (v0 : Environment) (all : List Parameter) (v : Environment) (rest : List Parameter) : Type 0 where
  pub names : record v { visible = parameters_declared rest v.visible; locals = parameter_names rest v.locals } ≡ record v0 { visible = parameters_declared all v0.visible; locals = parameter_names all v0.locals }

pub Declaring-next : (v0 : Environment) (all : List Parameter) (v : Environment) (p : Parameter) (rest : List Parameter) (v' : Environment)
    → Declaring v0 all v (p ∷ rest)
    → v' ≡ record v { visible = parameter_declared p.scalar p.name v.visible; locals = elim p.name [ None ↦ [] | Some x ↦ x.text ] ∷ v.locals }
    → Declaring v0 all v' rest
Declaring-next v0 all v p rest v' before e = record {
  names = ap (λ (u : Environment). record u { visible = parameters_declared rest u.visible; locals = parameter_names rest u.locals }) e ∙ before.names;
}

-- after a function's body, its parameters are no longer in scope
pub function-closed : (ps : List Parameter) (bs : List Binding) → closed 0 (parameters_declared ps (file_level bs)) ≡ file_level bs
function-closed ps bs = ap file_level (parameters_declared-outer ps (file_level bs))
