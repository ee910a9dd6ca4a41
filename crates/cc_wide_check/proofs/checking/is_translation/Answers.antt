use Rattle.std.specs.Prelude.{map}
use Rattle.std.proofs.lemmas.Bool.Decides.{Decides-at}
use Rattle.cc_ast.specs.Erase.{external_trees}
use Rattle.cc_wide.specs.Places.{bare_external}
use Rattle.cc_wide_text.specs.Forms.{wide_unit}
use Rattle.cc_wide_check.specs.internal.Units.{unit_fits}
use Rattle.cc_wide_check.proofs.Fitting.{translation-is}
use Rattle.cc_wide_check.proofs.checking.is_translation.Goals as goal

pub returns : goal.returns
returns c =
    let unit = wide_unit (external_trees c.args.marked.now) in
    let tree = external_trees c.args.tree.now in
    Decides-at c.unit_fits.result (unit_fits unit (map bare_external tree)) c.unit_fits.ensures (translation-is unit tree)
