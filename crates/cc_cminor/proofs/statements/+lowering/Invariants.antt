use Rattle.std.proofs.Common.{drop}
use Rattle.cc_ast.specs.Erase.{statements_of}
use Rattle.cc_cminor_language.specs.Statements as codes
use Rattle.cc_cminor.proofs.Listing.{Listing}
use Rattle.cc_cminor.proofs.statements.+lowering.Given as goal

abbrev pub invariant-statements-loop-tree : goal.invariant-statements-loop-tree
invariant-statements-loop-tree l = Listing l.in_loop (codes.statements_of l.all.items) (statements_of (drop l.tree-index l.trees)) l.names (statements_of l.trees) l.fn.names
