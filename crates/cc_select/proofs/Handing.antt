-- The parts of a pair of Selected, as the pass computes them.
use Rattle.std.proofs.Common.{◌≡◌, ℕ, List, sym, subst}
use Rattle.cc_ast.specs.declared.unit.Unit as parsed
use Rattle.cc_c_semantics.specs.declared.mode.Mode.{Mode}
use Rattle.cc_ltl.specs.Ltl.{Ltl}
use Rattle.cc_select.specs.declared.step.Step.{Step}
use Rattle.cc_select.specs.Pair.{Pair, IsPair}

abbrev pair_of : Mode → parsed.Unit → (function : ℕ) → Ltl → List Step → Pair
pair_of m u f l c = record { mode = m; unit = u; function = f; ltl = l; code = c }

pub handed : (m m' : Mode) (u u' : parsed.Unit) (f f' : ℕ) (l l' : Ltl) (c c' : List Step) → m' ≡ m → u' ≡ u → f' ≡ f → l' ≡ l → c' ≡ c → IsPair (pair_of m u f l c) → IsPair (pair_of m' u' f' l' c')
handed m m' u u' f f' l l' c c' em eu ef el ec is =
    subst (λ x. IsPair (pair_of x u' f' l' c')) (sym em)
    (subst (λ x. IsPair (pair_of m x f' l' c')) (sym eu)
    (subst (λ x. IsPair (pair_of m u x l' c')) (sym ef)
    (subst (λ x. IsPair (pair_of m u f x c')) (sym el)
    (subst (λ x. IsPair (pair_of m u f l x)) (sym ec) is))))
