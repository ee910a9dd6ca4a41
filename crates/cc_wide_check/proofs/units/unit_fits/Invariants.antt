-- The rests are alike if and only if the lists are.
use Rattle.std.proofs.Common.{◌≡◌, drop}
use Rattle.std.specs.Prelude.{map}
use Rattle.cc_ast.specs.Erase.{external_trees}
use Rattle.cc_wide.specs.Places.{bare_external}
use Rattle.cc_wide_text.specs.Forms.{wide_unit}
use Rattle.cc_wide_check.specs.internal.Units.{unit_fits}
use Rattle.cc_wide_check.proofs.units.unit_fits.Given as goal

abbrev pub invariant-loop-i : goal.invariant-loop-i
invariant-loop-i l = unit_fits (wide_unit (external_trees (drop l.i l.wide))) (map bare_external (external_trees (drop l.i l.tree))) ≡ unit_fits (wide_unit (external_trees l.wide)) (map bare_external (external_trees l.tree))
