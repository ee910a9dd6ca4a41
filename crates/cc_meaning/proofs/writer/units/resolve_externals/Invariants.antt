use Rattle.std.proofs.Common.{drop}
use Rattle.cc_ast.specs.Erase.{external_trees}
use Rattle.cc_layout.specs.Layout.{layout_of}
use Rattle.cc_meaning.specs.internal.Form.{unit_functions}
use Rattle.cc_meaning.proofs.WritingUnits.{Resolving}
use Rattle.cc_meaning.proofs.writer.units.resolve_externals.Given as goal

abbrev pub invariant-loop-tree : goal.invariant-loop-tree
invariant-loop-tree l =
    Resolving (layout_of (external_trees l.trees)) (unit_functions (external_trees l.trees)) l.names l.code.items l.entries.items (external_trees (drop l.tree-index l.trees))
