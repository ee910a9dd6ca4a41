use Rattle.std.proofs.Common.{drop, []}
use Rattle.cc_ast.specs.Erase.{external_trees}
use Rattle.cc_types.specs.Limits.{objects}
use Rattle.cc_rv32.specs.Machine.{globals_from}
use Rattle.cc_emit.proofs.Addresses.{Listing}
use Rattle.cc_emit.proofs.bases.Bases.new.Given as goal

abbrev pub invariant-loop-tree : goal.invariant-loop-tree
invariant-loop-tree l = Listing globals_from (objects (external_trees l.trees)) [] l.addresses.items l.behind (objects (external_trees (drop l.tree-index l.trees)))
