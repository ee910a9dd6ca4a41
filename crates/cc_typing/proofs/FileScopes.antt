-- What the walk over file scope finds.
use Rattle.std.proofs.Common.{◌≡◌, ℕ, Bool, true, false, List, [], ◌∷◌, ◌++◌, length, Option, Some, None, refl, sym, ap, ◌∙◌}
use Rattle.std.specs.Prelude.{not, is_some}
use Rattle.cc_ast.specs.scalar.Scalar.{Scalar}
use Rattle.cc_ast.specs.Tree as tree
use Rattle.cc_ast.specs.Tree.{Parameter, Signature, Object, Single, Array, Bytes, External, Declaration, Definition, Objects, Stmts, ConstantExpr}
use Rattle.cc_scope.specs.Bindings.{closed, file_level, file_of, file_with}
use Rattle.cc_types.specs.internal.Externals.{defined_in}
use Rattle.cc_typing.specs.internal.Findings.{Found, after, with_before, is_bad_length}
use Rattle.cc_types.specs.Scope.{Elements, Binding, Visible, in_scope, is_declared, FileScope, has_name, with_declared, with_function, with_object, with_objects, parameter_declared, parameters_declared, body_scope, file_scope_behind}
use Rattle.cc_types.specs.Rules.{Around, broken_if, optional_constant_errors, constants_errors, length_errors, named_array_errors, object_errors, objects_errors, parameter_errors, parameters_errors, signature_errors, external_errors, externals_errors, statements_errors, called_in_constants, called_in_optional_constant, called_in_object, called_in_objects, called_in_external, called, called_in_statements}
use Rattle.cc_types.specs.declared.rule.RuleError.{RuleError}
use Rattle.cc_types.specs.declared.rule.Rule.TheVariants.{Redeclared, WrongCount}
use Rattle.cc_scope.specs.Entities.{optional_entity}
use Rattle.cc_types.specs.Types.{array_length}
use Rattle.cc_scope.specs.declared.entity.Entity as code
use Rattle.cc_types.proofs.FileScopes.{parameters_declared-outer, with_object-same, with_objects-same}
use Rattle.cc_typing.proofs.Parts as parts
use Rattle.cc_typing.proofs.Parts.{two, three}

-- at file scope, only the names of file scope are in scope
pub in_scope-file : (v : Visible) → v.inner ≡ [] → in_scope v ≡ v.outer
in_scope-file v e = ap (λ (bs : List Binding). bs ++ v.outer) e

pub length-is : (n : Option ℕ) (given at : ℕ) → length_errors n given at ≡ broken_if (is_bad_length n given) WrongCount at
length-is None given at = refl
length-is (Some n) given at = refl

-- ---- objects

-- after some names in a declaration of objects, what was found and what is left to find are together what the
-- whole declaration yields
pub record Objecting (t : Scalar) (v0 : Visible) (f0 : Found) (all : List Object) (v : Visible) (f : Found) (rest : List Object) : Type 0 where
  pub inner : v.inner ≡ []
  pub scope : (with_objects t rest (file_of v)).bindings ≡ (with_objects t all (file_of v0)).bindings
  pub found : after f (objects_errors t rest (file_of v)) (called_in_objects rest) ≡ after f0 (objects_errors t all (file_of v0)) (called_in_objects all)

-- an object does not change which functions are defined
with_object-file : (t : Scalar) (o : Object) (g : FileScope) → with_object t o g ≡ record { bindings = (with_object t o g).bindings; defined = g.defined }
with_object-file t (Single x initial) g = refl
with_object-file t (Array x n values) g = refl
with_object-file t (Bytes x n values) g = refl

pub Objecting-next : (t : Scalar) (v0 : Visible) (f0 : Found) (all : List Object) (v : Visible) (f : Found) (o : Object) (rest : List Object) (v' : Visible) (f' : Found)
    → Objecting t v0 f0 all v f (o ∷ rest) → v' ≡ file_level (with_object t o (file_of v)).bindings → f' ≡ after f (object_errors t o (file_of v)) (called_in_object o)
    → Objecting t v0 f0 all v' f' rest
Objecting-next t v0 f0 all v f o rest v' f' before es ef =
    let same : file_of v' ≡ with_object t o (file_of v) = ap file_of es ∙ sym (with_object-file t o (file_of v)) in
    record {
      inner = ap (λ (u : Visible). u.inner) es;
      scope = ap (λ g. (with_objects t rest g).bindings) same ∙ before.scope;
      found =
          ap (λ g. after f' (objects_errors t rest g) (called_in_objects rest)) same
          ∙ parts.next f f' _ (object_errors t o (file_of v)) (objects_errors t rest (with_object t o (file_of v))) (objects_errors t (o ∷ rest) (file_of v))
          (called_in_object o) (called_in_objects rest) (called_in_objects (o ∷ rest)) before.found refl refl ef;
    }

-- ---- parameters

pub record Parametering (v0 : Visible) (f0 : Found) (all : List Parameter) (v : Visible) (f : Found) (rest : List Parameter) : Type 0 where
  pub scope : parameters_declared rest v ≡ parameters_declared all v0
  pub found : after f (parameters_errors rest v) [] ≡ after f0 (parameters_errors all v0) []

pub Parametering-next : (v0 : Visible) (f0 : Found) (all : List Parameter) (v : Visible) (f : Found) (p : Parameter) (rest : List Parameter) (v' : Visible) (f' : Found)
    → Parametering v0 f0 all v f (p ∷ rest) → v' ≡ parameter_declared p.scalar p.name v → f' ≡ after f (parameter_errors p.name v) []
    → Parametering v0 f0 all v' f' rest
Parametering-next v0 f0 all v f p rest v' f' before es ef = record {
  scope = ap (parameters_declared rest) es ∙ before.scope;
  found =
      ap (λ u. after f' (parameters_errors rest u) []) es
      ∙ parts.next f f' _ (parameter_errors p.name v) (parameters_errors rest (parameter_declared p.scalar p.name v)) (parameters_errors (p ∷ rest) v) [] [] [] before.found refl refl ef;
}

-- ---- external declarations

with_object-defined : (t : Scalar) (o : Object) (g : FileScope) → (with_object t o g).defined ≡ g.defined
with_object-defined t (Single x initial) g = refl
with_object-defined t (Array x n values) g = refl
with_object-defined t (Bytes x n values) g = refl

pub with_objects-defined : (t : Scalar) (os : List Object) (g : FileScope) → (with_objects t os g).defined ≡ g.defined
with_objects-defined t [] g = refl
with_objects-defined t (o ∷ os) g = with_objects-defined t os (with_object t o g) ∙ with_object-defined t o g

object_errors-same : (t : Scalar) (o : Object) (g h : FileScope) → g.bindings ≡ h.bindings → object_errors t o g ≡ object_errors t o h
object_errors-same t (Single x initial) g h e = ap (λ bs. object_errors t (Single x initial) (record { bindings = bs; defined = [] })) e
object_errors-same t (Array x n values) g h e = ap (λ bs. object_errors t (Array x n values) (record { bindings = bs; defined = [] })) e
object_errors-same t (Bytes x n values) g h e = ap (λ bs. object_errors t (Bytes x n values) (record { bindings = bs; defined = [] })) e

pub objects_errors-same : (t : Scalar) (os : List Object) (g h : FileScope) → g.bindings ≡ h.bindings → objects_errors t os g ≡ objects_errors t os h
objects_errors-same t [] g h e = refl
objects_errors-same t (o ∷ os) g h e =
    ap (λ l. l ++ objects_errors t os (with_object t o g)) (object_errors-same t o g h e)
    ∙ ap (λ l. object_errors t o h ++ l) (objects_errors-same t os (with_object t o g) (with_object t o h) (with_object-same t o g h e))

-- only a definition adds to the defined functions
pub defined-behind : (e : External) (g : FileScope) → (file_scope_behind e g).defined ≡ defined_in e ++ g.defined
defined-behind (Declaration s) g = refl
defined-behind (Definition s body) g = refl
defined-behind (Objects t os) g = with_objects-defined t os g

-- what is found, apart from which functions have been defined already
abbrev pub apart : Found → Found
apart f = record f { functions = record { defined = f.functions.defined; before = [] } }

-- what is found in the external declarations that are left, added to what was found before them
abbrev pub in_all : Visible → Found → List External → Found
in_all v f es = after (apart f) (externals_errors es (file_with v f.functions.before)) (called es)

pub record Declaring (v0 : Visible) (f0 : Found) (all : List External) (v : Visible) (f : Found) (rest : List External) : Type 0 where
  pub inner : v.inner ≡ []
  pub found : in_all v f rest ≡ in_all v0 f0 all

pub Declaring-next : (v0 : Visible) (f0 : Found) (all : List External) (v : Visible) (f : Found) (e : External) (rest : List External) (v' : Visible) (f' : Found)
    → Declaring v0 f0 all v f (e ∷ rest)
    → v' ≡ file_level (file_scope_behind e (file_with v f.functions.before)).bindings
    → f' ≡ after (with_before f (defined_in e)) (external_errors e (file_with v f.functions.before)) (called_in_external e)
    → Declaring v0 f0 all v' f' rest
Declaring-next v0 f0 all v f e rest v' f' before es ef =
    let there : FileScope = file_scope_behind e (file_with v f.functions.before) in
    let behind : f'.functions.before ≡ there.defined = ap (λ (k : Found). k.functions.before) ef ∙ sym (defined-behind e (file_with v f.functions.before)) in
    let same : file_with v' f'.functions.before ≡ there = ap (λ (u : Visible). file_with u f'.functions.before) es ∙ ap (λ d. record { bindings = there.bindings; defined = d }) behind in
    record {
      inner = ap (λ (u : Visible). u.inner) es;
      found =
          ap (λ g. after (apart f') (externals_errors rest g) (called rest)) same
          ∙ parts.next (apart f) (apart f') _ (external_errors e (file_with v f.functions.before)) (externals_errors rest there) (externals_errors (e ∷ rest) (file_with v f.functions.before))
          (called_in_external e) (called rest) (called (e ∷ rest)) before.found refl refl (ap apart ef);
    }

-- ---- one external declaration

module _ (v : Visible) (names : List (List ℕ)) (e : External) where
  abbrev behind : List Binding
  behind = (file_scope_behind e (file_with v names)).bindings

  pub declaration-scope : (w u : Visible) (s : Signature) → e ≡ Declaration s → w ≡ body_scope s (file_of v) → u ≡ closed 0 w → u ≡ file_level behind
  declaration-scope w u s is ew eu =
      eu ∙ ap (closed 0) ew ∙ ap file_level (parameters_declared-outer s.parameters (file_level (with_function s (file_of v)).bindings))
      ∙ sym (ap (λ x. file_level (file_scope_behind x (file_with v names)).bindings) is)

  pub definition-scope : (w z u : Visible) (s : Signature) (body : Stmts) → e ≡ Definition s body → w ≡ body_scope s (file_of v) → z.outer ≡ w.outer → u ≡ closed 0 z → u ≡ file_level behind
  definition-scope w z u s body is ew ez eu =
      eu ∙ ap file_level (ez ∙ ap (λ (x : Visible). x.outer) ew ∙ parameters_declared-outer s.parameters (file_level (with_function s (file_of v)).bindings))
      ∙ sym (ap (λ x. file_level (file_scope_behind x (file_with v names)).bindings) is)

  -- `g` is what has been found after the external declaration, if `f` was found before it
  abbrev IsFound : Found → Found → Type 0
  IsFound f g = g ≡ after (with_before f (defined_in e)) (external_errors e (file_with v names)) (called_in_external e)

  pub declaration-found : (f g : Found) (s : Signature) → e ≡ Declaration s → g ≡ after f (signature_errors s (file_of v)) [] → IsFound f g
  declaration-found f g s is eg = eg ∙ sym (ap (λ x. after (with_before f (defined_in x)) (external_errors x (file_with v names)) (called_in_external x)) is)

  pub definition-found : (w : Visible) (f g h k m : Found) (s : Signature) (body : Stmts) (b : Bool) → e ≡ Definition s body → w ≡ body_scope s (file_of v) → b ≡ has_name names s.name.text
      → g ≡ after f (signature_errors s (file_of v)) [] → h ≡ after g (broken_if b Redeclared s.name.at) []
      → k ≡ after h (statements_errors body (record { result = s.result; in_loop = false }) w) (called_in_statements body)
      → m ≡ with_before k (s.name.text ∷ []) → IsFound f m
  definition-found w f g h k m s body b is ew eb eg eh ek em =
      let around : Around = record { result = s.result; in_loop = false } in
      let whole : k ≡ after f (external_errors (Definition s body) (file_with v names)) (called_in_statements body) =
      three f g h k (signature_errors s (file_of v)) (broken_if b Redeclared s.name.at) (statements_errors body around w) _ [] [] (called_in_statements body) _ eg eh ek
      (ap (λ x. signature_errors s (file_of v) ++ (broken_if x Redeclared s.name.at ++ statements_errors body around (body_scope s (file_of v)))) (sym eb)
      ∙ ap (λ x. signature_errors s (file_of v) ++ (broken_if b Redeclared s.name.at ++ statements_errors body around x)) (sym ew))
      refl in
      em ∙ ap (λ x. with_before x (s.name.text ∷ [])) whole
      ∙ sym (ap (λ x. after (with_before f (defined_in x)) (external_errors x (file_with v names)) (called_in_external x)) is)

  pub objects-scope : (w : Visible) (t : Scalar) (os : List Object) → e ≡ Objects t os → w ≡ file_level (with_objects t os (file_of v)).bindings → w ≡ file_level behind
  objects-scope w t os is ew = ew ∙ ap file_level (with_objects-same t os (file_of v) (file_with v names) refl) ∙ sym (ap (λ x. file_level (file_scope_behind x (file_with v names)).bindings) is)

  pub objects-found : (f g : Found) (t : Scalar) (os : List Object) → e ≡ Objects t os → g ≡ after f (objects_errors t os (file_of v)) (called_in_objects os) → IsFound f g
  objects-found f g t os is eg =
      eg ∙ ap (λ l. after f l (called_in_objects os)) (objects_errors-same t os (file_of v) (file_with v names) refl)
      ∙ sym (ap (λ x. after (with_before f (defined_in x)) (external_errors x (file_with v names)) (called_in_external x)) is)

pub not_not : (b : Bool) → b ≡ not (not b)
not_not true = refl
not_not false = refl

-- ---- an array

four : (f g h k m : Found) (xs ys zs ws os : List RuleError) (cs ds es gs all : List tree.Name) → g ≡ after f xs cs → h ≡ after g ys ds → k ≡ after h zs es → m ≡ after k ws gs
    → os ≡ xs ++ (ys ++ (zs ++ ws)) → all ≡ cs ++ (ds ++ (es ++ gs)) → m ≡ after f os all
four f g h k m xs ys zs ws os cs ds es gs all eg eh ek em eo ee =
    two f g m xs (ys ++ (zs ++ ws)) os cs (ds ++ (es ++ gs)) all eg (three g h k m ys zs ws (ys ++ (zs ++ ws)) ds es gs (ds ++ (es ++ gs)) eh ek em refl refl) eo ee

pub array-found : (v w : Visible) (t : Scalar) (f g h k m : Found) (x : tree.Name) (n : Option ConstantExpr) (values : List ConstantExpr) (again bad : Bool)
    → v.inner ≡ [] → again ≡ is_declared (in_scope v) x.text → bad ≡ is_bad_length (array_length n values) (length values)
    → w ≡ file_level (with_declared x.text (Elements t) (file_of v)).bindings
    → g ≡ after f (broken_if again Redeclared x.at) [] → h ≡ after g (optional_constant_errors (in_scope v) n) (called_in_optional_constant n)
    → k ≡ after h (broken_if bad WrongCount x.at) [] → m ≡ after k (constants_errors (in_scope w) values) (called_in_constants values)
    → m ≡ after f (named_array_errors t x n values (file_of v)) (called_in_optional_constant n ++ called_in_constants values)
array-found v w t f g h k m x n values again bad none ea eb ew eg eh ek em =
    let there : List Binding = (with_declared x.text (Elements t) (file_of v)).bindings in
    let outside : in_scope v ≡ v.outer = in_scope-file v none in
    four f g h k m (broken_if again Redeclared x.at) (optional_constant_errors (in_scope v) n) (broken_if bad WrongCount x.at) (constants_errors (in_scope w) values) _
    [] (called_in_optional_constant n) [] (called_in_constants values) _ eg eh ek em
    (ap (λ l. broken_if (is_declared v.outer x.text) Redeclared x.at ++ (optional_constant_errors v.outer n ++ (l ++ constants_errors there values))) (length-is (array_length n values) (length values) x.at)
    ∙ ap (λ b. broken_if (is_declared v.outer x.text) Redeclared x.at ++ (optional_constant_errors v.outer n ++ (broken_if b WrongCount x.at ++ constants_errors there values))) (sym eb)
    ∙ ap (λ (u : Visible). broken_if (is_declared v.outer x.text) Redeclared x.at ++ (optional_constant_errors v.outer n ++ (broken_if bad WrongCount x.at ++ constants_errors (in_scope u) values))) (sym ew)
    ∙ ap (λ bs. broken_if (is_declared bs x.text) Redeclared x.at ++ (optional_constant_errors bs n ++ (broken_if bad WrongCount x.at ++ constants_errors (in_scope w) values))) (sym outside)
    ∙ ap (λ b. broken_if b Redeclared x.at ++ (optional_constant_errors (in_scope v) n ++ (broken_if bad WrongCount x.at ++ constants_errors (in_scope w) values))) (sym ea))
    refl

pub is_some-entity : (e : Option code.Entity) → is_some e ≡ is_some (optional_entity e)
is_some-entity None = refl
is_some-entity (Some e) = refl
