-- The names of the functions that a unit defines.
use Rattle.std.proofs.Common.{◌≡◌, ℕ, zero, suc, List, [], ◌∷◌, slice_get, Some, ap}
use Rattle.cc_ast.specs.Tree as tree
use Rattle.cc_ast.specs.Tree.{Declaration, Definition, Objects}
use Rattle.cc_types.specs.Limits.{function_names}
use Rattle.cc_types.specs.Typed.{definitions}

-- the name of definition n is name n of the unit
pub named : (es : List tree.External) (n : ℕ) (s : tree.Signature) (body : tree.Stmts) → slice_get (definitions es) n ≡ Some (Definition s body) → slice_get (function_names es) n ≡ Some s.name
named [] n s body e = absurd cc
named (Declaration q ∷ rest) n s body e = named rest n s body e
named (Definition q other ∷ rest) zero s body e = let same : q ≡ s = cc in ap (λ (r : tree.Signature). Some r.name) same
named (Definition q other ∷ rest) (suc n) s body e = named rest n s body e
named (Objects t os ∷ rest) n s body e = named rest n s body e
