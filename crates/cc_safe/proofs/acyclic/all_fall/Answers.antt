-- If all declarations pass, all functions call only functions of lower ranks.
use Rattle.std.proofs.Common.{List, sym, subst}
use Rattle.std.proofs.lemmas.List.{drop_all}
use Rattle.cc_ast.specs.declared.ast.External.{External}
use Rattle.cc_types.specs.Scope.{first_file_scope}
use Rattle.cc_safe.specs.internal.Ranks.{AllFall, rank_by}
use Rattle.cc_safe.proofs.Falling.{functions_fall}
use Rattle.cc_safe.proofs.acyclic.all_fall.Goals as goal

pub returns : goal.returns
returns c =
    let rank = rank_by c.args.layout.now c.args.table.now in
    λ is. functions_fall rank c.args.externals.now first_file_scope
    (c.loop-external.invariant (subst (λ (l : List External). AllFall rank l) (sym (drop_all c.loop-external.external-index c.args.externals.now c.loop-external-test.false)) tt))
