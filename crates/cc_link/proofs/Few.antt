-- A unit within the limits defines few functions.
use Rattle.std.proofs.Common.{◌≡◌, ℕ, zero, suc, ◌≤◌, List, [], ◌∷◌, ◌++◌, length, ap, arith, length-append}
use Rattle.std.proofs.lemmas.List.{length-map}
use Rattle.cc_ast.specs.Tree.{Name, Source}
use Rattle.cc_types.specs.Limits.{most_functions, past, externals_excesses, function_names, objects, word_excesses}
use Rattle.cc_types.specs.Typed.{IsWithinLimits, defined_names}

at_most : (n : ℕ) (xs : List Name) → length (past n xs) ≡ 0 → length xs ≤ n
at_most zero [] none = omega arith
at_most zero (x ∷ xs) none = absurd (omega (arith, none))
at_most (suc n) [] none = omega arith
at_most (suc n) (x ∷ xs) none = let h = at_most n xs none in omega (arith, h)

pub few_functions : (s : Source) → IsWithinLimits s.externals → length (defined_names s) ≤ most_functions
few_functions s limits =
    let a = length-append (externals_excesses s.externals) (past most_functions (function_names s.externals) ++ word_excesses 0 (objects s.externals)) in
    let b = length-append (past most_functions (function_names s.externals)) (word_excesses 0 (objects s.externals)) in
    let c = ap length limits in
    let d = length-map (function_names s.externals) (λ (x : Name). x.text) in
    let few = at_most most_functions (function_names s.externals) (omega (arith, a, b, c)) in
    omega (arith, d, few)
