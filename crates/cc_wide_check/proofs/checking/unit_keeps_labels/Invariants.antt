use Rattle.std.proofs.Common.{◌≡◌, drop}
use Rattle.cc_ast.specs.Erase.{external_trees}
use Rattle.cc_wide_text.specs.Forms.{wide_unit}
use Rattle.cc_wide_check.specs.internal.Labels.{unit_keeps_labels}
use Rattle.cc_wide_check.proofs.checking.unit_keeps_labels.Given as goal

abbrev pub invariant-loop-external : goal.invariant-loop-external
invariant-loop-external l = unit_keeps_labels (wide_unit (external_trees (drop l.external-index l.marked))) ≡ unit_keeps_labels (wide_unit (external_trees l.marked))
