-- The clause of the private call also says which records each image has; here the maps are enough.
use Rattle.std.proofs.Common.{[], ◌∷◌, ◌++◌}
use Rattle.cc_library.specs.Apply.{after}
use Rattle.cc_library.specs.Body.{body_of}
use Rattle.cc_library.specs.Recovered.{RecoversOneOf}
use Rattle.cc_library.proofs.Standing.{maps_alone}
use Rattle.cc_library.proofs.Running.{of_now}
use Rattle.cc_library.proofs.library.Library.change.Goals as goal

pub returns : goal.returns
returns g c =
    let D = g.D.Disk in
    let e = c.append_change.ensures.changed in
    let old = c.args.self.now in
    let new = c.append_change.new.self in
    let made = after old.units c.args.command in
    record {
      changed = record {
        answers = e.answers;
        leaves = e.leaves;
        size = e.size;
        disk = e.disk;
        kept = e.kept;
        moments = λ h not_closed. maps_alone D.moment D.left_since old.disk new.disk old.area old.bodies old.units (old.bodies ++ body_of c.args.command ∷ []) made (e.moments h not_closed);
        images = λ h not_closed. of_now D.may_leave D.moment D.left_since old.disk new.disk (RecoversOneOf old.units made)
            (maps_alone D.moment D.left_since old.disk new.disk old.area old.bodies old.units (old.bodies ++ body_of c.args.command ∷ []) made (e.moments h not_closed))
            (λ t image le now. g.met.D.Disk.counts_now new.disk t image h le now);
      };
    }
