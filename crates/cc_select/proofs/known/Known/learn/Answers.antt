use Rattle.std.proofs.Common.{rules, ap, ◌∙◌}
use Rattle.cc_select.specs.Known.{learn}
use Rattle.cc_select.specs.internal.Sets.{known_in}
use Rattle.cc_select.proofs.Knowing.{one_learnt}
use Rattle.cc_select.proofs.known.Known.learn.Goals as goal

pub returns : goal.returns
returns c =
    one_learnt c.args.self.now.some c.with-self.result c.args.self.now.words c.number-register.result c.args.word (search rules) c.with-self.ensures
    ∙ ap (λ n. learn n c.args.word (known_in c.args.self.now)) c.number-register.ensures.number
