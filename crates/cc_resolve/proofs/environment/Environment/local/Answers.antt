-- The numbers of the locals depend only on their names.
use Rattle.std.proofs.Common.{◌∙◌, ap}
use Rattle.cc_layout.specs.Environment.{Environment, number_in}
use Rattle.cc_resolve.proofs.Numbers.{number_in-names}
use Rattle.cc_resolve.proofs.environment.Environment.local.Goals as goal

pub returns-in-Some : goal.returns-in-Some
returns-in-Some c =
    c.in-Some.ensures.number ∙ number_in-names c.self.inside.locals c.args.name.now ∙ ap (λ (v : Environment). number_in v.locals c.args.name.now) c.self.view_is

pub returns-in-None : goal.returns-in-None
returns-in-None c =
    c.in-None.ensures.number ∙ number_in-names c.self.inside.locals c.args.name.now ∙ ap (λ (v : Environment). number_in v.locals c.args.name.now) c.self.view_is
