-- The clauses follow from what the pair's type keeps.
use Rattle.std.proofs.Common.{subst}
use Rattle.cc_select.specs.Pair.{Pair, tree_of, KeepsUp}
use Rattle.cc_select.proofs.pair.SelectedPair.code.Goals as goal

pub returns-clause-keeps_up : goal.returns-clause-keeps_up
returns-clause-keeps_up c = subst (λ (p : Pair). KeepsUp p.mode (tree_of p) p.function p.ltl.slots p.code) c.self.view_is c.self.invariant.keeps_up
