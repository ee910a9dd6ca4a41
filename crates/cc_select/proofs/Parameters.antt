-- A function has at most eight parameters, in a unit that keeps the limits.
use Rattle.std.proofs.Common.{◌≡◌, ℕ, zero, suc, ◌≤◌, Bool, true, false, cond, List, [], ◌∷◌, ◌++◌, length, map, unwrap_or, slice_get, nat_lt, refl, sym, ap, subst, arith}
use Rattle.std.proofs.lemmas.Bool.Decides.{nat_tests}
use Rattle.cc_ast.specs.Tree.{Parameter, Signature, External, Declaration, Definition, Objects}
use Rattle.cc_types.specs.Limits.{too_many, most_parameters, parameter_excesses, external_excesses, externals_excesses}
use Rattle.cc_types.specs.Typed.{IsWithinLimits}
use Rattle.cc_types.specs.Scope.{FileScope, file_scope_behind, first_file_scope}
use Rattle.cc_types.specs.declared.rule.RuleError.{RuleError}
use Rattle.cc_linear_language.specs.Meaning.{Function, functions_from, text_of}
use Rattle.cc_c_semantics.specs.Numbered.{IsMeaning, arity_in}
use Rattle.cc_c_semantics.specs.declared.mode.Mode.{Mode}
use Rattle.cc_simulation.specs.Meaning.{Meaning}

prefix_none : (xs ys : List RuleError) → xs ++ ys ≡ [] → xs ≡ []
prefix_none [] ys e = refl
prefix_none (x ∷ xs) ys e = absurd (let z : x ∷ (xs ++ ys) ≡ [] = e in cc)

back_none : (xs ys : List RuleError) → xs ++ ys ≡ [] → ys ≡ []
back_none [] ys e = e
back_none (x ∷ xs) ys e = absurd (let z : x ∷ (xs ++ ys) ≡ [] = e in cc)

none_by : (b : Bool) (o : RuleError) → cond b (o ∷ []) [] ≡ [] → b ≡ false
none_by true o e = absurd (let z : o ∷ [] ≡ [] = e in cc)
none_by false o e = refl

few_of : (s : Signature) → parameter_excesses s ≡ [] → length s.parameters ≤ 8
few_of s e = let b = none_by (nat_lt most_parameters (length s.parameters)) (too_many s.name) e in grind (arith, nat_tests)

map_length : {A B : Type 0} (g : A → B) (xs : List A) → length (map g xs) ≡ length xs
map_length g [] = refl
map_length g (x ∷ xs) = ap suc (map_length g xs)

few_in : (externals : List External) (scope : FileScope) (g : ℕ) → externals_excesses externals ≡ [] → unwrap_or (slice_get (map (λ (h : Function). length h.parameters) (functions_from externals scope)) g) 0 ≤ 8
few_in [] scope g none = omega arith
few_in (Definition s body ∷ rest) scope zero none =
    subst (λ n. n ≤ 8) (sym (map_length (λ (p : Parameter). text_of p.name) s.parameters)) (few_of s (prefix_none (parameter_excesses s) _ (prefix_none (external_excesses (Definition s body)) (externals_excesses rest) none)))
few_in (Definition s body ∷ rest) scope (suc g) none = few_in rest (file_scope_behind (Definition s body) scope) g (back_none (external_excesses (Definition s body)) (externals_excesses rest) none)
few_in (Declaration s ∷ rest) scope g none = few_in rest (file_scope_behind (Declaration s) scope) g (back_none (external_excesses (Declaration s)) (externals_excesses rest) none)
few_in (Objects t os ∷ rest) scope g none = few_in rest (file_scope_behind (Objects t os) scope) g none

pub few_parameters : (unit : List External) → IsWithinLimits unit → (g : ℕ) → arity_in unit g ≤ 8
few_parameters unit limits g = few_in unit first_file_scope g (prefix_none (externals_excesses unit) _ limits)

-- a function has at most eight parameters in the unit's meaning
pub few_of_meaning : {mode : Mode} (unit : List External) (meaning : Meaning) → IsWithinLimits unit → IsMeaning mode unit meaning → (g : ℕ) → meaning.arity g ≤ 8
few_of_meaning unit meaning limits is g = subst (λ (arity : ℕ → ℕ). arity g ≤ 8) (sym is.arity) (few_parameters unit limits g)
