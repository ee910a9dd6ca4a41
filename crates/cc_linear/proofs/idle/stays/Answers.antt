use Rattle.std.proofs.Common.{sym, ap, ◌∙◌}
use Rattle.cc_linear.specs.internal.Idle.{stays}
use Rattle.cc_linear.proofs.WithoutLabels.{found_has}
use Rattle.cc_linear.proofs.idle.stays.Goals as goal

pub returns-in-Label : goal.returns-in-Label
returns-in-Label c =
    let led = c.args.led.now in
    c.is_ok.ensures.value ∙ found_has led c.in-Label.label c.binary_search.result c.binary_search.ensures.position c.requires ∙ sym (ap (stays led) c.in-Label.is)
