-- How many parameters a function of a checked unit has: as many as the meaning says, and at most eight.
use Rattle.std.proofs.Common.{◌≡◌, ℕ, zero, suc, ◌<◌, ◌≤◌, Bool, true, false, cond, List, [], ◌∷◌, ◌++◌, length, map, Some, None, slice_get, option_map, nat_lt, refl, sym, ap, ◌∙◌, subst, arith}
use Rattle.std.proofs.lemmas.Bool.Decides.{nat_tests}
use Rattle.std.proofs.lemmas.Option.{slice_get-map, slice_get_within}
use Rattle.cc_ast.specs.Tree.{Name, Stmts, Parameter, Signature, External, Declaration, Definition, Objects, Source}
use Rattle.cc_types.specs.Limits.{too_many, most_parameters, parameter_excesses, external_excesses, externals_excesses, function_names}
use Rattle.cc_types.specs.Typed.{IsTyped, IsWithinLimits, definitions, defined_names}
use Rattle.cc_types.specs.declared.rule.RuleError.{RuleError}
use Rattle.cc_c_semantics.specs.Meaning.{Function, functions, text_of}
use Rattle.cc_c_semantics.specs.Resolved.{arities, IsResolved, FunctionsAreResolved}
use Rattle.cc_ast.specs.Erase.{parameter_tree, signature_tree, statements_of}
use Rattle.cc_ast.specs.Source.{source}
use Rattle.cc_ast.specs.declared.unit.Unit as parsed
use Rattle.cc_types.specs.Defined.{definition_tree}
use Rattle.cc_types.specs.declared.typed.Definition.{Definition as Defined}

prefix_none : (xs ys : List RuleError) → xs ++ ys ≡ [] → xs ≡ []
prefix_none [] ys e = refl
prefix_none (x ∷ xs) ys e = absurd (let z : x ∷ (xs ++ ys) ≡ [] = e in cc)

back_none : (xs ys : List RuleError) → xs ++ ys ≡ [] → ys ≡ []
back_none [] ys e = e
back_none (x ∷ xs) ys e = absurd (let z : x ∷ (xs ++ ys) ≡ [] = e in cc)

few_by : (b : Bool) (o : RuleError) → cond b (o ∷ []) [] ≡ [] → b ≡ false
few_by true o e = absurd (let z : o ∷ [] ≡ [] = e in cc)
few_by false o e = refl

few_of : (s : Signature) → parameter_excesses s ≡ [] → length s.parameters ≤ 8
few_of s e = let b = few_by (nat_lt most_parameters (length s.parameters)) (too_many s.name) e in grind (arith, nat_tests)

few_in : (externals : List External) (f : ℕ) (s : Signature) (body : Stmts) → externals_excesses externals ≡ [] → slice_get (definitions externals) f ≡ Some (Definition s body) → length s.parameters ≤ 8
few_in [] f s body none e = absurd (let z : None ≡ Some (Definition s body) = e in cc)
few_in (Definition t b ∷ rest) zero s body none e =
    let z : Some (Definition t b) ≡ Some (Definition s body) = e in
    let w : t ≡ s = cc in
    subst (λ (k : Signature). length k.parameters ≤ 8) w (few_of t (prefix_none (parameter_excesses t) _ (prefix_none (external_excesses (Definition t b)) (externals_excesses rest) none)))
few_in (Definition t b ∷ rest) (suc f) s body none e = few_in rest f s body (back_none (external_excesses (Definition t b)) (externals_excesses rest) none) e
few_in (Declaration t ∷ rest) f s body none e = few_in rest f s body (back_none (external_excesses (Declaration t)) (externals_excesses rest) none) e
few_in (Objects t os ∷ rest) f s body none e = few_in rest f s body none e

pub few_parameters : (externals : List External) (f : ℕ) (s : Signature) (body : Stmts) → IsWithinLimits externals → slice_get (definitions externals) f ≡ Some (Definition s body) → length s.parameters ≤ 8
few_parameters externals f s body within e = few_in externals f s body (prefix_none (externals_excesses externals) _ within) e

many_names : (externals : List External) → length (definitions externals) ≡ length (function_names externals)
many_names [] = refl
many_names (Definition s b ∷ rest) = ap suc (many_names rest)
many_names (Declaration s ∷ rest) = many_names rest
many_names (Objects t os ∷ rest) = many_names rest

map_length : {A B : Type 0} (g : A → B) (xs : List A) → length (map g xs) ≡ length xs
map_length g [] = refl
map_length g (x ∷ xs) = ap suc (map_length g xs)

-- each function has a name
pub named : (source : Source) (f : ℕ) → IsResolved source.externals f → f < length (defined_names source)
named source f is =
    let within = slice_get_within (definitions source.externals) f (Definition is.signature is.body) is.definition in
    let many = many_names source.externals in
    let long = map_length (λ (x : Name). x.text) (function_names source.externals) in
    omega arith

-- the parameters of the definition are those of the function in the meaning
pub same_parameters : (unit : List External) (f : ℕ) (s : Signature) (body : Stmts) → IsResolved unit f → slice_get (definitions unit) f ≡ Some (Definition s body) → slice_get (arities unit) f ≡ Some (length s.parameters)
same_parameters unit f s body is e =
    let z : Some (Definition is.signature is.body) ≡ Some (Definition s body) = sym is.definition ∙ e in
    let w : is.signature ≡ s = cc in
    slice_get-map (λ (g : Function). length g.parameters) (functions unit) f ∙ ap (option_map (λ (g : Function). length g.parameters)) is.function
    ∙ ap Some (map_length (λ (p : Parameter). text_of p.name) is.signature.parameters ∙ ap (λ (k : Signature). length k.parameters) w)

-- ---- the parameters of the definition that the code takes

module _ (law : FunctionsAreResolved) (p u : parsed.Unit) (f k : ℕ) (unit_is : u ≡ p) (function_is : k ≡ f) (typed : IsTyped (source u).externals) (below : f < length (functions (source p).externals)) where
  resolved : IsResolved (source p).externals f
  resolved = law (source p).externals (subst (λ (v : parsed.Unit). IsTyped (source v).externals) unit_is typed) f below

  pub is_defined : k < length (defined_names (source u))
  is_defined = subst (λ j. j < length (defined_names (source u))) (sym function_is) (subst (λ (v : parsed.Unit). f < length (defined_names (source v))) (sym unit_is) (named (source p) f resolved))

  module _ (d : Defined) (is : slice_get (definitions (source u).externals) k ≡ Some (definition_tree d)) where
    there : slice_get (definitions (source p).externals) f ≡ Some (definition_tree d)
    there = subst (λ (v : parsed.Unit). slice_get (definitions (source v).externals) f ≡ Some (definition_tree d)) unit_is (subst (λ j. slice_get (definitions (source u).externals) j ≡ Some (definition_tree d)) function_is is)

    long : length (signature_tree d.signature.now).parameters ≡ length d.signature.now.parameters.items
    long = map_length parameter_tree d.signature.now.parameters.items

    pub as_many : slice_get (arities (source p).externals) f ≡ Some (length d.signature.now.parameters.items)
    as_many = same_parameters (source p).externals f (signature_tree d.signature.now) (statements_of d.body.now) resolved there ∙ ap Some long

    pub at_most_eight : IsWithinLimits (source u).externals → length d.signature.now.parameters.items ≤ 8
    at_most_eight limits = subst (λ n. n ≤ 8) long (few_parameters (source p).externals f (signature_tree d.signature.now) (statements_of d.body.now) (subst (λ (v : parsed.Unit). IsWithinLimits (source v).externals) unit_is limits) there)
