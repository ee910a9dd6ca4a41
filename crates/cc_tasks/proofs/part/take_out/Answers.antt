-- The map that `part_in` looks into is the one to which the disk recovers.
use Rattle.std.proofs.Common.{◌≡◌, IsTrue, sym, subst}
use Rattle.cc_library.specs.Apply.{Units}
use Rattle.cc_library.specs.Recovered.{Recovers}
use Rattle.cc_tasks.specs.Part.{IsPartIn}
use Rattle.cc_tasks.proofs.Parting.{of_ok, of_err, no_part_on}
use Rattle.cc_tasks.proofs.part.take_out.Goals as goal

pub returns-after-found-clause-part : goal.returns-after-found-clause-part
returns-after-found-clause-part g c =
    let D = g.D.Disk in
    let recovers = λ (h : IsTrue D.honest). subst (λ (units : Units). Recovers (D.seen c.args.disk) units) (sym c.units.ensures) (c.in-Ok.ensures.recovered h) in
    of_ok {P = λ bytes. IsPartIn c.units.result.now c.args.name.now c.args.part bytes.items} (λ bytes is h. (c.units.result.now, recovers h, is))
    c.part_in-found.result c.part_in-found.ensures.part

pub returns-after-found-clause-some : goal.returns-after-found-clause-some
returns-after-found-clause-some g c =
    of_ok {P = λ bytes. IsPartIn c.units.result.now c.args.name.now c.args.part bytes.items} (λ bytes is. (c.units.result.now, is))
    c.part_in-found.result c.part_in-found.ensures.part

pub returns-after-found-clause-refused : goal.returns-after-found-clause-refused
returns-after-found-clause-refused g c =
    let D = g.D.Disk in
    let seen = D.seen c.args.disk in
    let recovers = λ (h : IsTrue D.honest). subst (λ (units : Units). Recovers seen units) (sym c.units.ensures) (c.in-Ok.ensures.recovered h) in
    let same : D.failures c.into_disk.result ≡ D.failures c.args.disk = subst (λ (d : g.row.D.Denot). D.failures d ≡ D.failures c.args.disk) (sym c.into_disk.ensures) c.in-Ok.ensures.sound in
    of_err (λ fault why. no_part_on D.honest seen _ _ c.args.name.now c.units.result.now same recovers fault why) c.part_in-found.result c.part_in-found.ensures.refused
