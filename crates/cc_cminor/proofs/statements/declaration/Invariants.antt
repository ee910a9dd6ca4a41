use Rattle.std.proofs.Common.{drop}
use Rattle.cc_ast.specs.Erase.{declarator_trees}
use Rattle.cc_cminor_language.specs.Statements as codes
use Rattle.cc_cminor.proofs.Listing.{Declaring}
use Rattle.cc_cminor.proofs.statements.declaration.Given as goal

abbrev pub invariant-loop-tree : goal.invariant-loop-tree
invariant-loop-tree l = Declaring l.scalar (codes.statements_of l.all.items) (declarator_trees (drop l.tree-index l.trees)) l.names (declarator_trees l.trees) l.fn.names
