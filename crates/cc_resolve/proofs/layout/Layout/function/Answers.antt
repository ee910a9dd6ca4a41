-- The result is the name's first place, or how many functions there are if no function has the name.
use Rattle.std.proofs.Common.{◌∙◌, Some, None, ap}
use Rattle.cc_layout.specs.Layout.{Layout, names_before}
use Rattle.cc_resolve.proofs.Numbers.{names_before-is}
use Rattle.cc_resolve.proofs.layout.Layout.function.Goals as goal

pub returns-in-Some : goal.returns-in-Some
returns-in-Some c =
    names_before-is c.self.inside.functions c.args.name.now (Some c.in-Some.number) c.in-Some.ensures
    ∙ ap (λ (v : Layout). names_before v.functions c.args.name.now) c.self.view_is

pub returns-in-None : goal.returns-in-None
returns-in-None c =
    c.len.ensures ∙ names_before-is c.self.inside.functions c.args.name.now None c.in-None.ensures
    ∙ ap (λ (v : Layout). names_before v.functions c.args.name.now) c.self.view_is
