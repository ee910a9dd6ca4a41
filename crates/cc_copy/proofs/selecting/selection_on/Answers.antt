-- The map from which units are selected is the one to which the disk recovers.
use Rattle.std.proofs.Common.{◌≡◌, IsTrue, map, sym, subst}
use Rattle.std.specs.Prelude.{string_bytes}
use Rattle.cc_library.specs.Apply.{Units}
use Rattle.cc_library.specs.Recovered.{Recovers}
use Rattle.cc_tasks.proofs.Parting.{of_ok, of_err}
use Rattle.cc_copy.specs.Selected.{IsSelectedIn}
use Rattle.cc_copy.proofs.Named.{not_selected_on}
use Rattle.cc_copy.proofs.selecting.selection_on.Goals as goal

pub returns-in-Ok-clause-selected : goal.returns-in-Ok-clause-selected
returns-in-Ok-clause-selected g c =
    let D = g.D.Disk in
    let units = c.units-units.result.now in
    let recovers = λ (h : IsTrue D.honest). subst (λ (m : Units). Recovers (D.seen c.args.disk) m) (sym c.units-units.ensures) (c.in-Ok.ensures.recovered h) in
    of_ok {P = λ selection. IsSelectedIn units (map string_bytes c.args.names.now) c.args.is_confirmed selection} (λ selection is h. (units, recovers h, is)) c.selected-selection.result c.selected-selection.ensures.selected

pub returns-in-Ok-clause-some : goal.returns-in-Ok-clause-some
returns-in-Ok-clause-some g c =
    let units = c.units-units.result.now in
    of_ok {P = λ selection. IsSelectedIn units (map string_bytes c.args.names.now) c.args.is_confirmed selection} (λ selection is. (units, is)) c.selected-selection.result c.selected-selection.ensures.selected

pub returns-in-Ok-clause-refused : goal.returns-in-Ok-clause-refused
returns-in-Ok-clause-refused g c =
    let D = g.D.Disk in
    let units = c.units-units.result.now in
    let recovers = λ (h : IsTrue D.honest). subst (λ (m : Units). Recovers (D.seen c.args.disk) m) (sym c.units-units.ensures) (c.in-Ok.ensures.recovered h) in
    let same : D.failures c.into_disk-disk.result ≡ D.failures c.args.disk = subst (λ (d : g.row.D.Denot). D.failures d ≡ D.failures c.args.disk) (sym c.into_disk-disk.ensures) c.in-Ok.ensures.sound in
    of_err (λ fault why. not_selected_on D.honest (D.seen c.args.disk) (D.failures c.args.disk) (D.failures c.into_disk-disk.result) (map string_bytes c.args.names.now) units fault same recovers why)
    c.selected-selection.result c.selected-selection.ensures.refused
