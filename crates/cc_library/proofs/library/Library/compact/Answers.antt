-- The clause of the private call also says which records each image has; here the map is enough.
use Rattle.cc_library.specs.Compact.{compacted}
use Rattle.cc_library.specs.Recovered.{RecoversAlone}
use Rattle.cc_library.proofs.Standing.{map_stays}
use Rattle.cc_library.proofs.Running.{of_now}
use Rattle.cc_library.proofs.library.Library.compact.Goals as goal

pub returns : goal.returns
returns g c =
    let D = g.D.Disk in
    let e = c.write_anew.ensures.compacted in
    let old = c.args.self.now in
    let new = c.write_anew.new.self in
    record {
      compacted = record {
        answers = e.answers;
        leaves = e.leaves;
        size = e.size;
        disk = e.disk;
        moments = λ h not_closed. map_stays D.moment D.left_since old.disk new.disk old.area old.bodies old.units (compacted old.units) (e.moments h not_closed);
        images = λ h not_closed. of_now D.may_leave D.moment D.left_since old.disk new.disk (λ image. RecoversAlone image old.units)
            (map_stays D.moment D.left_since old.disk new.disk old.area old.bodies old.units (compacted old.units) (e.moments h not_closed))
            (λ t image le now. g.met.D.Disk.counts_now new.disk t image h le now);
      };
    }
