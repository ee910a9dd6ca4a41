-- The clauses follow from what the type of a piece keeps.
use Rattle.std.proofs.Common.{subst}
use Rattle.cc_linear_language.specs.Pair.{LtlKeepsUp}
use Rattle.cc_emit.specs.Piece.{Piece, tree_of}
use Rattle.cc_emit.proofs.piece.Piece.ltl.Goals as goal

pub returns-clause-keeps_up : goal.returns-clause-keeps_up
returns-clause-keeps_up c = subst (λ (p : Piece). LtlKeepsUp p.mode (tree_of p) p.function p.ltl) c.self.view_is c.self.invariant.ltl_keeps_up
