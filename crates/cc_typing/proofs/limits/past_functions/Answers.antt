-- The declarations are counted one by one.
use Rattle.std.proofs.Common.{◌+◌, ◌∙◌, ap, drop}
use Rattle.cc_ast.specs.Erase.{external_tree, external_trees}
use Rattle.cc_types.specs.internal.Externals.{defines}
use Rattle.cc_types.specs.Limits.{function_names}
use Rattle.cc_types.proofs.Counting.{count-next}
use Rattle.cc_types.proofs.Definitions.{function_names-next}
use Rattle.cc_types.proofs.Items.{drop-item}
use Rattle.cc_typing.proofs.limits.past_functions.Goals as goal

pub loop-external-preserved : goal.loop-external-preserved
loop-external-preserved c =
    let left = drop-item c.args.externals.now c.loop-external.external-index c.external-item.result c.loop-external-test.true c.external-item.is in
    let e = external_tree c.external-item.result in
    let rest = external_trees (drop (c.loop-external.external-index + 1) c.args.externals.now) in
    count-next c.loop-external.count c.count_function.new.count _ (defines e) (function_names rest) _
    c.loop-external.invariant (ap (λ l. function_names (external_trees l)) left ∙ function_names-next e rest) c.count_function.ensures
