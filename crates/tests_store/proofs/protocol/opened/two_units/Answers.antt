-- A formatted disk has no units, and each unit that is added is right.
use Rattle.std.proofs.Common.{refl, sym, subst}
use Rattle.cc_disk.specs.Model.{bytes_of}
use Rattle.cc_disk.specs.Past.{DiskState}
use Rattle.cc_disk.specs.internal.Laws.{bytes_are_image}
use Rattle.cc_library.specs.Recovered.{Recovers}
use Rattle.cc_core.specs.Run.{EachUnit}
use Rattle.tests_store.specs.Builds.{is_right}
use Rattle.tests_store.proofs.protocol.opened.two_units.Goals as goal

pub with_unit-requires : goal.with_unit-requires
with_unit-requires c =
    let disk = c.format.new.disk in
    let none = c.in_ok-format.ensures.kept refl (bytes_of disk.cells) (bytes_are_image disk.cells) in
    subst (EachUnit is_right) (sym (c.in-Ok.ensures.fresh refl 120 none.holds).1) c.units_law.ensures.none

pub returns : goal.returns
returns c = λ units recovers.
    let library = c.in_ok-library-2.library in
    let kept = c.in_ok-library-2.ensures.kept (bytes_of library.disk.cells) (bytes_are_image library.disk.cells) in
    let there : Recovers (bytes_of library.disk.cells) units = subst (λ (d : DiskState). Recovers (bytes_of d.cells) units) c.into_disk.ensures recovers in
    subst (EachUnit is_right) (sym (kept.alone units there)) c.in_ok-library-2.ensures.right
