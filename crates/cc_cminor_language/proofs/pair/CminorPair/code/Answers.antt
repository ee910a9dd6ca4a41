-- What the type guarantees, and what follows from it.
use Rattle.std.proofs.Common.{subst}
use Rattle.cc_cminor_language.specs.Pair.{Pair, tree_of, code_of, KeepsUp}
use Rattle.cc_cminor_language.proofs.Layer.{follows_of}
use Rattle.cc_cminor_language.proofs.pair.CminorPair.code.Goals as goal

pub returns-clause-keeps_up : goal.returns-clause-keeps_up
returns-clause-keeps_up c = subst (λ (p : Pair). KeepsUp p.mode (tree_of p) p.function (code_of p)) c.self.view_is c.self.invariant.keeps_up

pub returns-clause-follows : goal.returns-clause-follows
returns-clause-follows c =
    follows_of c.args.self.now.mode (tree_of c.args.self.now) c.args.self.now.function (code_of c.args.self.now)
    (subst (λ (p : Pair). KeepsUp p.mode (tree_of p) p.function (code_of p)) c.self.view_is c.self.invariant.keeps_up)
