use Rattle.std.proofs.lemmas.Bool.Decides.{Decides-at}
use Rattle.cc_ast.specs.Erase.{external_trees}
use Rattle.cc_wide_text.specs.Forms.{wide_unit}
use Rattle.cc_wide_check.specs.internal.Labels.{unit_keeps_labels}
use Rattle.cc_wide_check.proofs.Rules.{unit-keeps}
use Rattle.cc_wide_check.proofs.checking.keeps_labels.Goals as goal

pub returns : goal.returns
returns c =
    let unit = wide_unit (external_trees c.args.marked.now) in
    Decides-at c.unit_keeps_labels.result (unit_keeps_labels unit) c.unit_keeps_labels.ensures (unit-keeps unit)
