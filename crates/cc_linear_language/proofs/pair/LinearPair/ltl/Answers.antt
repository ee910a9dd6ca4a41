-- The clauses say what the pair's type keeps.
use Rattle.std.proofs.Common.{subst}
use Rattle.cc_linear_language.specs.Pair.{Pair, tree_of, LtlKeepsUp}
use Rattle.cc_linear_language.proofs.pair.LinearPair.ltl.Goals as goal

pub returns-clause-keeps_up : goal.returns-clause-keeps_up
returns-clause-keeps_up c = subst (λ (p : Pair). LtlKeepsUp p.mode (tree_of p) p.function p.ltl) c.self.view_is c.self.invariant.ltl_keeps_up
