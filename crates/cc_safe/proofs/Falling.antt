-- If the functions that a unit's declarations define call only functions of lower ranks, so do the unit's
-- functions.
use Rattle.std.proofs.Common.{ℕ, List, [], ◌∷◌}
use Rattle.std.specs.List.{AllByRecursion}
use Rattle.cc_ast.specs.Erase.{external_tree, external_trees}
use Rattle.cc_ast.specs.declared.ast.External.{External}
use Rattle.cc_ast.specs.declared.ast.External.TheVariants.{Declaration, Definition, Objects}
use Rattle.cc_types.specs.Scope.{FileScope, file_scope_behind}
use Rattle.cc_c_semantics.specs.Meaning.{functions_from}
use Rattle.cc_depth.specs.Cycles.{CallsLower}
use Rattle.cc_safe.specs.internal.Ranks.{AllFall}

pub functions_fall : (rank : List ℕ → ℕ) (es : List External) (f : FileScope) → AllFall rank es → AllByRecursion (CallsLower rank) (functions_from (external_trees es) f)
functions_fall rank [] f h = tt
functions_fall rank (Declaration s ∷ es) f h = functions_fall rank es (file_scope_behind (external_tree (Declaration s)) f) h.1
functions_fall rank (Definition s body ∷ es) f h = (h.0, functions_fall rank es (file_scope_behind (external_tree (Definition s body)) f) h.1)
functions_fall rank (Objects t os ∷ es) f h = functions_fall rank es (file_scope_behind (external_tree (Objects t os)) f) h.1
