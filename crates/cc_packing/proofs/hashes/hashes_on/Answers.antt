-- The map whose units have the lines is the one to which the disk recovers.
use Rattle.std.proofs.Common.{IsTrue, sym, subst}
use Rattle.std.specs.FinMap as map
use Rattle.cc_library.specs.Apply.{Units}
use Rattle.cc_library.specs.Recovered.{Recovers}
use Rattle.cc_packing.specs.Packing.{AreHashLines}
use Rattle.cc_packing.proofs.Added.{of_ok}
use Rattle.cc_packing.proofs.hashes.hashes_on.Goals as goal

pub returns-in-Ok-clause-lines : goal.returns-in-Ok-clause-lines
returns-in-Ok-clause-lines g c =
    let D = g.D.Disk in
    let units = c.units.result.now in
    let recovers = λ (h : IsTrue D.honest). subst (λ (m : Units). Recovers (D.seen c.args.disk) m) (sym c.units.ensures) (c.in-Ok.ensures.recovered h) in
    of_ok {P = λ text. AreHashLines units (map.keys units) text.items} (λ text is h. (units, recovers h, is)) c.all_lines-lines.result c.all_lines-lines.ensures.lines
