-- Names are counted one by one.
use Rattle.std.proofs.Common.{◌+◌, [], ◌∷◌, ap, drop}
use Rattle.cc_ast.specs.Erase.{name_tree, declarator_trees}
use Rattle.cc_types.specs.Limits.{declared_names}
use Rattle.cc_types.proofs.Counting.{count-next}
use Rattle.cc_types.proofs.Items.{drop-item}
use Rattle.cc_types.proofs.limits.count_declared.Goals as goal

pub loop-declarator-preserved : goal.loop-declarator-preserved
loop-declarator-preserved c =
    let left = drop-item c.args.names.now c.loop-declarator.declarator-index c.declarator-item.result c.loop-declarator-test.true c.declarator-item.is in
    count-next c.loop-declarator.count c.add.new.self _ (name_tree c.declarator-item.result.name ∷ []) (declared_names (declarator_trees (drop (c.loop-declarator.declarator-index + 1) c.args.names.now))) _
    c.loop-declarator.invariant (ap (λ l. declared_names (declarator_trees l)) left) c.add.ensures
