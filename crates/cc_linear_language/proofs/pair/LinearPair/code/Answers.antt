-- The clauses say what the pair's type keeps, or follow from that.
use Rattle.std.proofs.Common.{subst}
use Rattle.cc_linear_language.specs.Pair.{Pair, tree_of, KeepsUp}
use Rattle.cc_linear_language.proofs.Layer.{follows_of}
use Rattle.cc_linear_language.proofs.pair.LinearPair.code.Goals as goal

pub returns-clause-keeps_up : goal.returns-clause-keeps_up
returns-clause-keeps_up c = subst (λ (p : Pair). KeepsUp p.mode (tree_of p) p.function p.ltl.slots p.code) c.self.view_is c.self.invariant.keeps_up

pub returns-clause-follows : goal.returns-clause-follows
returns-clause-follows c =
    follows_of c.args.self.now.mode (tree_of c.args.self.now) c.args.self.now.function c.args.self.now.ltl.slots c.args.self.now.code
    (subst (λ (p : Pair). KeepsUp p.mode (tree_of p) p.function p.ltl.slots p.code) c.self.view_is c.self.invariant.keeps_up)
