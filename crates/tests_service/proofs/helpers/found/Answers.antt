-- What the opening says about the library's disk, stated for the disk that is returned and for the copy of its map.
use Rattle.std.proofs.Common.{◌∙◌, sym, subst}
use Rattle.cc_library.specs.Recovered.{Recovers}
use Rattle.tests_service.proofs.helpers.found.Goals as goal

pub returns-in-Ok : goal.returns-in-Ok
returns-in-Ok g c = λ h units recovers.
    let D = g.D.Disk in
    c.in_ok-library.ensures h units (subst (λ (d : g.row.D.Denot). Recovers (D.seen d) units) c.into_disk.ensures recovers) ∙ sym (c.in-Ok.ensures ∙ c.units.ensures)
