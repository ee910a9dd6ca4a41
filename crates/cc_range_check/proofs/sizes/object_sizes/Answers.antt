use Rattle.std.proofs.Common.{◌∙◌, ◌++◌, sym, ap, append-nil}
use Rattle.std.proofs.lemmas.List.{drop_all}
use Rattle.cc_ast.specs.Erase.{external_trees}
use Rattle.cc_types.specs.Limits.{objects}
use Rattle.cc_guard.specs.internal.Written.{declared_sizes}
use Rattle.cc_range_check.specs.Sizes.{sizes_of}
use Rattle.cc_guard.proofs.Sizing.{declared_are}
use Rattle.cc_range_check.proofs.sizes.object_sizes.Goals as goal

pub returns : goal.returns
returns c =
    let old = sizes_of c.loop-tree.sizes.items in
    sym (append-nil old) ∙ ap (λ es. old ++ declared_sizes (objects (external_trees es))) (sym (drop_all c.loop-tree.tree-index c.args.trees.now c.loop-tree-test.false)) ∙ c.loop-tree.invariant
    ∙ declared_are c.names_have_numbers.ensures.sizes (external_trees c.args.trees.now) c.requires
