-- The declarators of a declaration are checked.
use Rattle.std.proofs.Common.{◌<◌, ℕ, List, ap, sym, subst}
use Rattle.cc_ast.specs.Erase.{beginning_tree, declarator_trees}
use Rattle.cc_ast.specs.declared.ast.Declarator.{Declarator}
use Rattle.cc_depth.specs.Cycles.{InDeclarators, InBeginning}
use Rattle.cc_safe.specs.internal.Ranks.{rank_by}
use Rattle.cc_safe.proofs.calls.in_beginning.Goals as goal

pub returns-in-Declaration : goal.returns-in-Declaration
returns-in-Declaration c =
    let Is = λ (g : List ℕ). rank_by c.args.layout.now c.args.table.now g < c.args.limit in
    λ is. subst (InBeginning Is) (sym (ap beginning_tree c.in-Declaration.is))
    (subst (λ (l : List Declarator). InDeclarators Is (declarator_trees l)) c.as_slice.ensures.value (c.in_declarators.ensures is))
