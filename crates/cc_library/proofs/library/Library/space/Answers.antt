-- The records of the log lead to the map, so the records of a compaction take no more room.
use Rattle.std.proofs.Common.{◌≡◌, IsTrue, false, sym, ◌∙◌, subst, arith}
use Rattle.cc_journal.specs.Format.{AllHold}
use Rattle.cc_library.specs.Recovered.{View}
use Rattle.cc_library.specs.Space.{IsSpace}
use Rattle.cc_library.proofs.Room.{compacted_least}
use Rattle.cc_library.proofs.library.Library.space.Goals as goal

pub measure-measured-requires : goal.measure-measured-requires
measure-measured-requires g c =
    let i = c.self.inside in
    omega (arith, compacted_least i.log.bodies i.units c.self.invariant.stand, c.used-taken.ensures.fits, c.area-size.ensures.is_area.most)

pub returns-clause-space : goal.returns-clause-space
returns-clause-space g c =
    let i = c.self.inside in
    let m = c.measure-measured in
    subst (λ (v : View g.row.D.Denot). IsSpace v.area v.bodies v.units (record { area = c.area-size.result; used = c.used-taken.result; compacted = m.result.0; units = m.result.1 })) c.self.view_is
    (record {
      space_is = λ k. record { area = c.area-size.ensures.area k; used = c.used-taken.ensures.used k; compacted = m.ensures.bytes k; units = m.ensures.names k };
      stand = c.self.invariant.stand;
      fits = c.used-taken.ensures.fits;
      least = compacted_least i.log.bodies i.units c.self.invariant.stand;
    })

pub returns-clause-kept : goal.returns-clause-kept
returns-clause-kept g c =
    let D = g.D.Disk in
    subst (λ (v : View g.row.D.Denot). IsTrue D.honest → v.closed ≡ false → AllHold (D.may_leave v.disk) v.area v.bodies) c.self.view_is
    (λ h not_closed. c.is_closed-kept.ensures.kept h (sym c.self.invariant.same ∙ not_closed))
