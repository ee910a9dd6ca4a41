-- The functions of a typed unit: how many words a call of each name takes, also of `main`, and the scope in which each body
-- begins.
use Rattle.std.proofs.Common.{◌≡◌, ℕ, Bool, true, false, true≢false, ◌||◌, ◌&&◌, ◌==◌, if◌then◌else◌, List, [], ◌∷◌, ◌++◌, length, map, inr, Option, Some, None, codes, refl, sym, ap, ◌∙◌, subst}
use Rattle.std.proofs.lemmas.List.{length-map}
use Rattle.std.proofs.lemmas.Bool.{eqb-true}
use Rattle.cc_ast.specs.scalar.Scalar.{Scalar}
use Rattle.cc_ast.specs.scalar.Scalar.TheVariants.{Int}
use Rattle.cc_ast.specs.Tree.{Name, Stmts, Parameter, Signature, External, Declaration, Definition, Objects}
use Rattle.cc_types.specs.Names.{same_name}
use Rattle.cc_types.specs.Scope as scope
use Rattle.cc_types.specs.Scope.{Binding, found, FileScope, has_name, first_file_scope, with_function, with_objects, file_scope_behind, file_scope_behind_all, body_scope, same_result}
use Rattle.cc_types.specs.Rules.{broken_if, signature_errors, statements_errors, external_errors, externals_errors, is_main, defines_main}
use Rattle.cc_types.specs.declared.rule.Rule.TheVariants.{Redeclared}
use Rattle.cc_types.specs.Limits.{function_names}
use Rattle.cc_types.specs.Typed.{IsTyped}
use Rattle.cc_layout.specs.Layout.{Layout, layout_of}
use Rattle.cc_layout.specs.Environment.{environment_of}
use Rattle.cc_c_semantics.specs.Meaning.{Function, text_of, functions_from, functions, function_named}
use Rattle.cc_c_semantics.proofs.Errors.{nil_left, nil_right}
use Rattle.cc_c_semantics.proofs.Named.{same_name_symm, objects_keep}
use Rattle.cc_c_semantics.proofs.Scopes as scopes
use Rattle.cc_c_semantics.proofs.Scopes.{found_same, keeps_externals, signature_takes, variable_size}
use Rattle.cc_c_semantics.proofs.Arrays.{array_object}
use Rattle.cc_c_semantics.proofs.Scoped.{Scoped, scoped_parameters}

-- how many words a name takes in a call: a builtin one or none, a defined function as many as it has parameters
pub data Takes (names : List (List ℕ)) (fs : List Function) (x : List ℕ) (count : ℕ) : Type 0 where
  Writes : same_name x (codes "write_word") ≡ true → count ≡ 1 → Takes names fs x count
  Reads : same_name x (codes "write_word") ≡ false → same_name x (codes "read_word") ≡ true → count ≡ 0 → Takes names fs x count
  Enters : same_name x (codes "write_word") ≡ false → same_name x (codes "read_word") ≡ false → has_name names x ≡ true
      → ((g : Function) → function_named fs x ≡ Some g → length g.parameters ≡ count) → Takes names fs x count

-- ---- names of functions

or_moves : (a b c : Bool) → ((a || b) || c) ≡ true → (b || (a || c)) ≡ true
or_moves true true c e = refl
or_moves true false c e = refl
or_moves false true c e = refl
or_moves false false c e = e

abbrev pub names_in : List External → List (List ℕ)
names_in ds = map (λ (n : Name). n.text) (function_names ds)

or_none : (a : Bool) → a ≡ true → (a || false) ≡ true
or_none true e = refl
or_none false e = e

-- a defined name is the name of a function of the unit, or was defined before the unit
defined_names : (ds : List External) (f : FileScope) (x : List ℕ) → has_name (file_scope_behind_all ds f).defined x ≡ true → (has_name f.defined x || has_name (names_in ds) x) ≡ true
defined_names [] f x e = or_none (has_name f.defined x) e
defined_names (Declaration s ∷ rest) f x e = defined_names rest (file_scope_behind (Declaration s) f) x e
defined_names (Definition s body ∷ rest) f x e =
    or_moves (same_name s.name.text x) (has_name f.defined x) (has_name (names_in rest) x) (defined_names rest (file_scope_behind (Definition s body) f) x e)
defined_names (Objects t os ∷ rest) f x e =
    ap (λ (names : List (List ℕ)). has_name names x || has_name (names_in rest) x) (sym (objects_keep t os f)) ∙ defined_names rest (with_objects t os f) x e

-- a function has as many parameters as its name's declarations say
kept_takes : (ds : List External) (f : FileScope) (final : FileScope) (x y : List ℕ) (count : ℕ) → file_scope_behind_all ds f ≡ final → same_name x y ≡ true → scopes.Takes f.bindings x count → scopes.Takes final.bindings y count
kept_takes ds f final x y count whole same h = record {
  result = h.result;
  scalars = h.scalars;
  is = sym (found_same final.bindings x y same) ∙ ap (λ (g : FileScope). found g.bindings x) (sym whole) ∙ keeps_externals ds f x (scope.Function h.result h.scalars) h.is;
  many = h.many;
}

parameters_by : (s : Signature) (body : Stmts) (rest : List External) (f final : FileScope) (x : List ℕ) (g : Function) (others : List Function) (b : Bool) → file_scope_behind_all rest (file_scope_behind (Definition s body) f) ≡ final
    → same_name s.name.text x ≡ b → scopes.Takes (with_function s f).bindings s.name.text (length s.parameters)
    → (if b then Some (record { name = s.name.text; parameters = map (λ (p : Parameter). text_of p.name) s.parameters; body = body; visible = body_scope s f }) else function_named others x) ≡ Some g
    → (function_named others x ≡ Some g → scopes.Takes final.bindings x (length g.parameters)) → scopes.Takes final.bindings x (length g.parameters)
parameters_by s body rest f final x g others true whole same h e ih =
    let g0 : Function = record { name = s.name.text; parameters = map (λ (p : Parameter). text_of p.name) s.parameters; body = body; visible = body_scope s f } in
    let is : g0 ≡ g = cc in
    subst (λ (y : Function). scopes.Takes final.bindings x (length y.parameters)) is
    (subst (scopes.Takes final.bindings x) (sym (length-map s.parameters (λ (p : Parameter). text_of p.name))) (kept_takes rest (file_scope_behind (Definition s body) f) final s.name.text x (length s.parameters) whole same h))
parameters_by s body rest f final x g others false whole same h e ih = ih e

function_takes : (ds : List External) (f final : FileScope) (x : List ℕ) (g : Function) → externals_errors ds f ≡ [] → file_scope_behind_all ds f ≡ final → function_named (functions_from ds f) x ≡ Some g
    → scopes.Takes final.bindings x (length g.parameters)
function_takes [] f final x g o whole e = absurd (let z : None ≡ Some g = e in cc)
function_takes (Declaration s ∷ rest) f final x g o whole e =
    function_takes rest (file_scope_behind (Declaration s) f) final x g (nil_right (external_errors (Declaration s) f) (externals_errors rest (file_scope_behind (Declaration s) f)) o) whole e
function_takes (Definition s body ∷ rest) f final x g o whole e =
    let f' = file_scope_behind (Definition s body) f in
    let here = nil_left (external_errors (Definition s body) f) (externals_errors rest f') o in
    let others = functions_from rest f' in
    parameters_by s body rest f final x g others (same_name s.name.text x) whole refl
    (signature_takes s f (nil_left (signature_errors s f) (broken_if (has_name f.defined s.name.text) Redeclared s.name.at ++ statements_errors body (record { result = s.result; in_loop = false }) (body_scope s f)) here)) e
    (λ e'. function_takes rest f' final x g (nil_right (external_errors (Definition s body) f) (externals_errors rest f') o) whole e')
function_takes (Objects t os ∷ rest) f final x g o whole e =
    function_takes rest (with_objects t os f) final x g (nil_right (external_errors (Objects t os) f) (externals_errors rest (with_objects t os f)) o) whole e

same_count : (bs : List Binding) (x : List ℕ) (m k : ℕ) → scopes.Takes bs x m → scopes.Takes bs x k → m ≡ k
same_count bs x m k p q =
    let e : Some (scope.Function p.result p.scalars) ≡ Some (scope.Function q.result q.scalars) = sym p.is ∙ q.is in
    let ts : p.scalars ≡ q.scalars = cc in
    sym p.many ∙ ap (λ (us : List Scalar). length us) ts ∙ q.many

-- ---- main

and_left : (a b : Bool) → (a && b) ≡ true → a ≡ true
and_left true b e = refl
and_left false b e = e

and_right : (a b : Bool) → (a && b) ≡ true → b ≡ true
and_right true b e = e
and_right false b e = absurd (true≢false (sym e))

or_right_of : (a b : Bool) → a ≡ false → (a || b) ≡ true → b ≡ true
or_right_of true b f e = absurd (true≢false f)
or_right_of false b f e = e

main_by : (s : Signature) (body : Stmts) (rest : List External) (f final : FileScope) (b : Bool) → is_main (Definition s body) ≡ b → file_scope_behind_all rest (file_scope_behind (Definition s body) f) ≡ final
    → scopes.Takes (with_function s f).bindings s.name.text (length s.parameters) → (b || defines_main rest) ≡ true → (defines_main rest ≡ true → scopes.Takes final.bindings (codes "main") 0) → scopes.Takes final.bindings (codes "main") 0
main_by s body rest f final true e whole h d ih =
    let same = and_left (same_name (codes "main") s.name.text) (same_result s.result (Some Int) && length s.parameters == 0) e in
    let none = and_right (same_result s.result (Some Int)) (length s.parameters == 0) (and_right (same_name (codes "main") s.name.text) (same_result s.result (Some Int) && length s.parameters == 0) e) in
    subst (scopes.Takes final.bindings (codes "main")) (eqb-true (length s.parameters) 0 none)
    (kept_takes rest (file_scope_behind (Definition s body) f) final s.name.text (codes "main") (length s.parameters) whole (same_name_symm s.name.text (codes "main") ∙ same) h)
main_by s body rest f final false e whole h d ih = ih d

main_takes : (ds : List External) (f final : FileScope) → externals_errors ds f ≡ [] → file_scope_behind_all ds f ≡ final → defines_main ds ≡ true → scopes.Takes final.bindings (codes "main") 0
main_takes [] f final o whole d = absurd (true≢false (sym d))
main_takes (Declaration s ∷ rest) f final o whole d =
    main_takes rest (file_scope_behind (Declaration s) f) final (nil_right (external_errors (Declaration s) f) (externals_errors rest (file_scope_behind (Declaration s) f)) o) whole d
main_takes (Definition s body ∷ rest) f final o whole d =
    let f' = file_scope_behind (Definition s body) f in
    let here = nil_left (external_errors (Definition s body) f) (externals_errors rest f') o in
    main_by s body rest f final (is_main (Definition s body)) refl whole
    (signature_takes s f (nil_left (signature_errors s f) (broken_if (has_name f.defined s.name.text) Redeclared s.name.at ++ statements_errors body (record { result = s.result; in_loop = false }) (body_scope s f)) here)) d
    (λ d'. main_takes rest f' final (nil_right (external_errors (Definition s body) f) (externals_errors rest f') o) whole d')
main_takes (Objects t os ∷ rest) f final o whole d =
    main_takes rest (with_objects t os f) final (nil_right (external_errors (Objects t os) f) (externals_errors rest (with_objects t os f)) o) whole d

main_named_by : (s : Signature) (body : Stmts) (names : List (List ℕ)) (more : Bool) (b : Bool) → is_main (Definition s body) ≡ b → (b || more) ≡ true → (more ≡ true → has_name names (codes "main") ≡ true)
    → (same_name s.name.text (codes "main") || has_name names (codes "main")) ≡ true
main_named_by s body names more true e d ih =
    ap (λ b. b || has_name names (codes "main")) (same_name_symm s.name.text (codes "main") ∙ and_left (same_name (codes "main") s.name.text) (same_result s.result (Some Int) && length s.parameters == 0) e)
main_named_by s body names more false e d ih = right (same_name s.name.text (codes "main")) (has_name names (codes "main")) (ih d)
  where
    right : (a b : Bool) → b ≡ true → (a || b) ≡ true
    right true b e = refl
    right false b e = e

pub main_named : (ds : List External) → defines_main ds ≡ true → has_name (names_in ds) (codes "main") ≡ true
main_named [] d = absurd (true≢false (sym d))
main_named (Declaration s ∷ rest) d = main_named rest d
main_named (Definition s body ∷ rest) d = main_named_by s body (names_in rest) (defines_main rest) (is_main (Definition s body)) refl d (main_named rest)
main_named (Objects t os ∷ rest) d = main_named rest d

-- ---- the scope of a body

abbrev pub final_scope : List External → FileScope
final_scope unit = file_scope_behind_all unit first_file_scope

-- in a call, a name takes as many words as what it denotes at the end of the unit requires
takes_by : (unit : List External) → IsTyped unit → (x : List ℕ) (r : Option Scalar) (ts : List Scalar) (writes reads : Bool) → same_name x (codes "write_word") ≡ writes → same_name x (codes "read_word") ≡ reads
    → found (final_scope unit).bindings x ≡ Some (scope.Function r ts) → has_name (final_scope unit).defined x ≡ true → Takes (names_in unit) (functions unit) x (length ts)
takes_by unit typed x r ts true reads w d e has =
    let builtin = keeps_externals unit first_file_scope (codes "write_word") (scope.Function None (Int ∷ [])) refl in
    let is : Some (scope.Function r ts) ≡ Some (scope.Function None (Int ∷ [])) = sym e ∙ found_same (final_scope unit).bindings x (codes "write_word") w ∙ builtin in
    let us : ts ≡ Int ∷ [] = cc in
    Writes w (ap (λ (l : List Scalar). length l) us)
takes_by unit typed x r ts false true w d e has =
    let builtin = keeps_externals unit first_file_scope (codes "read_word") (scope.Function (Some Int) []) refl in
    let is : Some (scope.Function r ts) ≡ Some (scope.Function (Some Int) []) = sym e ∙ found_same (final_scope unit).bindings x (codes "read_word") d ∙ builtin in
    let us : ts ≡ [] = cc in
    Reads w d (ap (λ (l : List Scalar). length l) us)
takes_by unit typed x r ts false false w d e has =
    let names = defined_names unit first_file_scope x has in
    let no_writes : same_name (codes "write_word") x ≡ false = same_name_symm (codes "write_word") x ∙ w in
    let no_reads : same_name (codes "read_word") x ≡ false = same_name_symm (codes "read_word") x ∙ d in
    let before : has_name first_file_scope.defined x ≡ false =
    ap (λ b. b || (same_name (codes "read_word") x || false)) no_writes ∙ ap (λ b. b || false) no_reads in
    Enters w d (or_right_of (has_name first_file_scope.defined x) (has_name (names_in unit) x) before names)
    (λ g is. same_count (final_scope unit).bindings x (length g.parameters) (length ts) (function_takes unit first_file_scope (final_scope unit) x g typed.0 refl is)
    (record { result = r; scalars = ts; is = e; many = refl }))

-- no variable is declared before the unit
no_variables : (y : List ℕ) (u : Scalar) → found first_file_scope.bindings y ≡ Some (scope.Variable u) → ⊥
no_variables y u e = none (same_name (codes "write_word") y) (same_name (codes "read_word") y) e
  where
    none : (a b : Bool) → (if a then Some (scope.Function None (Int ∷ [])) else (if b then Some (scope.Function (Some Int) []) else None)) ≡ Some (scope.Variable u) → ⊥
    none true b e = let z : Some (scope.Function None (Int ∷ [])) ≡ Some (scope.Variable u) = e in cc
    none false true e = let z : Some (scope.Function (Some Int) []) ≡ Some (scope.Variable u) = e in cc
    none false false e = let z : None ≡ Some (scope.Variable u) = e in cc

-- no array is declared before the unit
no_arrays : (y : List ℕ) (u : Scalar) → found first_file_scope.bindings y ≡ Some (scope.Elements u) → ⊥
no_arrays y u e = none (same_name (codes "write_word") y) (same_name (codes "read_word") y) e
  where
    none : (a b : Bool) → (if a then Some (scope.Function None (Int ∷ [])) else (if b then Some (scope.Function (Some Int) []) else None)) ≡ Some (scope.Elements u) → ⊥
    none true b e = let z : Some (scope.Function None (Int ∷ [])) ≡ Some (scope.Elements u) = e in cc
    none false true e = let z : Some (scope.Function (Some Int) []) ≡ Some (scope.Elements u) = e in cc
    none false false e = let z : None ≡ Some (scope.Elements u) = e in cc

-- main has no parameters
pub main_parameters : (unit : List External) → IsTyped unit → (g : Function) → function_named (functions unit) (codes "main") ≡ Some g → length g.parameters ≡ 0
main_parameters unit typed g is =
    same_count (final_scope unit).bindings (codes "main") (length g.parameters) 0 (function_takes unit first_file_scope (final_scope unit) (codes "main") g typed.0 refl is)
    (main_takes unit first_file_scope (final_scope unit) typed.0 refl typed.1)

module _ (unit : List External) (typed : IsTyped unit) where
  abbrev layout : Layout
  layout = layout_of unit

  abbrev known : List (List ℕ)
  known = (final_scope unit).defined

  abbrev TakesHere : List ℕ → ℕ → Type 0
  TakesHere = Takes (names_in unit) (functions unit)

  -- at the start of a body, the names in scope refer to what `Scoped` says
  pub body_scoped : (s : Signature) (body : Stmts) (rest : List External) (f : FileScope) → file_scope_behind_all rest (file_scope_behind (Definition s body) f) ≡ final_scope unit
      → Scoped layout known TakesHere (environment_of layout s f)
  body_scoped s body rest f whole =
      let outer : List Binding = (with_function s f).bindings in
      let stays : (x : List ℕ) (e : scope.Entity) → found outer x ≡ Some e → found (final_scope unit).bindings x ≡ Some e =
      λ x e h. ap (λ (g : FileScope). found g.bindings x) (sym whole) ∙ keeps_externals rest (file_scope_behind (Definition s body) f) x e h in
      scoped_parameters layout known TakesHere s.parameters (record { inner = []; outer = outer }) []
      (record {
        laid = refl;
        variable = λ x t e. inr (refl, variable_size unit first_file_scope x t no_variables (stays x (scope.Variable t) e));
        element = λ x t e. array_object unit first_file_scope x t no_arrays (stays x (scope.Elements t) e);
        function = λ x r ts e has. takes_by unit typed x r ts (same_name x (codes "write_word")) (same_name x (codes "read_word")) refl refl (stays x (scope.Function r ts) e) has;
      })
