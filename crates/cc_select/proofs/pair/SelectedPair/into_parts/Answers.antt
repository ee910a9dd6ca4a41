-- The clauses follow from what the pair's type keeps.
use Rattle.std.proofs.Common.{subst}
use Rattle.cc_linear_language.specs.Pair.{LtlKeepsUp}
use Rattle.cc_select.specs.Pair.{Pair, tree_of}
use Rattle.cc_select.proofs.pair.SelectedPair.into_parts.Goals as goal

pub returns-clause-keeps_up : goal.returns-clause-keeps_up
returns-clause-keeps_up c = subst (λ (p : Pair). LtlKeepsUp p.mode (tree_of p) p.function p.ltl) c.self.view_is c.self.invariant.ltl_keeps_up
