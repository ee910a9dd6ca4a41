-- The types of two functions' parameters are compared one by one.
use Rattle.std.proofs.Common.{◌≡◌, ◌≢◌, ℕ, suc, ◌+◌, Bool, true, false, ◌&&◌, List, [], ◌∷◌, length, drop, refl, ap, ◌∙◌}
use Rattle.cc_ast.specs.Erase.{parameter_trees}
use Rattle.cc_ast.specs.scalar.Scalar.{Scalar}
use Rattle.cc_ast.specs.declared.ast.Parameter.{Parameter}
use Rattle.cc_scope.specs.internal.Scopes.{scalars}
use Rattle.cc_types.specs.Scope.{same_scalar, same_scalars}

-- the types of some parameters
abbrev pub types_of : List Parameter → List Scalar
types_of ps = scalars (parameter_trees ps)

pub types-of-other-lengths : (ps qs : List Parameter) → length ps ≢ length qs → same_scalars (types_of ps) (types_of qs) ≡ false
types-of-other-lengths [] [] h = absurd (h refl)
types-of-other-lengths [] (q ∷ qs) h = refl
types-of-other-lengths (p ∷ ps) [] h = refl
types-of-other-lengths (p ∷ ps) (q ∷ qs) h =
    by (same_scalar p.scalar q.scalar) (types-of-other-lengths ps qs (λ e. h (ap suc e)))
  where
    by : (b : Bool) → same_scalars (types_of ps) (types_of qs) ≡ false → (b && same_scalars (types_of ps) (types_of qs)) ≡ false
    by true e = e
    by false e = refl

-- from an index on, two lists of types are the same exactly if their first types are the same and so are the
-- rests
pub types-at : (ps qs : List Parameter) (i : ℕ) (p q : Parameter) → drop i ps ≡ p ∷ drop (i + 1) ps → drop i qs ≡ q ∷ drop (i + 1) qs
    → same_scalars (types_of (drop i ps)) (types_of (drop i qs)) ≡ (same_scalar p.scalar q.scalar && same_scalars (types_of (drop (i + 1) ps)) (types_of (drop (i + 1) qs)))
types-at ps qs i p q ep eq = ap (λ l. same_scalars (types_of l) (types_of (drop i qs))) ep ∙ ap (λ l. same_scalars (types_of (p ∷ drop (i + 1) ps)) (types_of l)) eq
