-- One edit, and, if the device failed in it, what opening the disk again shows.
use Rattle.std.proofs.Common.{inl, inr, refl, ap, subst, ◌∙◌}
use Rattle.std.specs.Prelude.{Ok, Err}
use Rattle.cc_disk.specs.Images.{OnlyReads}
use Rattle.cc_journal.specs.Format.{HoldsRecords}
use Rattle.cc_library.specs.declared.fault.LibraryFault.{LibraryFault}
use Rattle.cc_library.specs.declared.fault.LibraryFault.TheVariants.{DiskFault}
use Rattle.cc_library.specs.Recovered.{Recovers, View}
use Rattle.cc_library.specs.Runs.{EditAnswers, EditLeaves, after_edit, records_after}
use Rattle.cc_library.specs.internal.Steps.{IsOldOrNew, IsMidEdit}
use Rattle.cc_library.specs.Answers.{OpenFaults}
use Rattle.cc_library.proofs.Standing.{either, read_on, weaker}
use Rattle.cc_library.proofs.Refused.{still_map}
use Rattle.cc_library.proofs.Running.{reopened_as, cause_of, of_now, goes_on_same, was_open, same_left, mid_edit}
use Rattle.cc_library.proofs.library.Library.edited.Goals as goal

pub returns-in-Ok-clause-edited : goal.returns-in-Ok-clause-edited
returns-in-Ok-clause-edited g c = record {
  answer = Ok tt;
  left = c.perform.new.self;
  number_is = refl;
  answers = c.in-Ok.ensures.answers;
  leaves = c.in-Ok.ensures.leaves;
  goes_on = refl;
}

pub returns-in-Ok-clause-moments : goal.returns-in-Ok-clause-moments
returns-in-Ok-clause-moments g c =
    let D = g.D.Disk in
    let old = c.args.self in
    let edit = c.args.edit in
    λ h not_closed.
    weaker D.moment D.left_since (IsOldOrNew old.area old.bodies old.units (records_after old edit) (after_edit old.units edit)) (IsMidEdit old.units edit 0) old.disk c.perform.new.self.disk
    (λ image p. mid_edit old.area old.bodies old.units (records_after old edit) edit 0 image (inl refl) p) (c.in-Ok.ensures.moments h not_closed)

pub returns-in-Ok-open-clause-edited : goal.returns-in-Ok-open-clause-edited
returns-in-Ok-open-clause-edited g c =
    let D = g.D.Disk in
    let old = c.args.self in
    let left = c.perform.new.self in
    let new = c.in-Ok-open.library in
    let edit = c.args.edit in
    let answers : EditAnswers {T = Unit {0}} old edit (D.failures old.disk) (D.failures left.disk) (Err DiskFault) =
    subst (λ (f : LibraryFault). EditAnswers {T = Unit {0}} old edit (D.failures old.disk) (D.failures left.disk) (Err f)) c.in-DiskFault.is c.in-Err.ensures.answers in
    let leaves : EditLeaves {T = Unit {0}} edit old left (Err DiskFault) = subst (λ (f : LibraryFault). EditLeaves {T = Unit {0}} edit old left (Err f)) c.in-DiskFault.is c.in-Err.ensures.leaves in
    record {
      answer = Err DiskFault;
      left = left;
      number_is = refl;
      answers = answers;
      leaves = leaves;
      goes_on = (
        c.in-Ok-open.ensures.open,
        c.in-Ok-open.ensures.sound ∙ ap D.failures c.into_disk.ensures,
        λ h. reopened_as (D.seen left.disk) old.area old.bodies old.units (records_after old edit) (after_edit old.units edit)
            (of_now D.may_leave D.moment D.left_since old.disk left.disk (IsOldOrNew old.area old.bodies old.units (records_after old edit) (after_edit old.units edit))
            (c.in-Err.ensures.moments h (was_open old edit (D.failures old.disk) (D.failures left.disk) answers))
            (λ t image le now. g.met.D.Disk.counts_now left.disk t image h le now) (D.seen left.disk) (g.met.D.Disk.seen_is_image left.disk h))
            new.area new.bodies new.units
            (subst (λ (d : g.row.D.Denot). HoldsRecords (D.seen d) new.area new.bodies) c.into_disk.ensures (c.in-Ok-open.ensures.records h))
            (subst (λ (d : g.row.D.Denot). Recovers (D.seen d) new.units) c.into_disk.ensures (c.in-Ok-open.ensures.recovered h)),
      );
    }

pub returns-in-Ok-open-clause-moments : goal.returns-in-Ok-open-clause-moments
returns-in-Ok-open-clause-moments g c =
    let D = g.D.Disk in
    let old = c.args.self in
    let left = c.perform.new.self in
    let new = c.in-Ok-open.library in
    let edit = c.args.edit in
    λ h not_closed.
    read_on D.moment D.left_since D.seen D.may_leave old.disk left.disk new.disk (IsMidEdit old.units edit 35)
    (weaker D.moment D.left_since (IsOldOrNew old.area old.bodies old.units (records_after old edit) (after_edit old.units edit)) (IsMidEdit old.units edit 35) old.disk left.disk
    (λ image p. mid_edit old.area old.bodies old.units (records_after old edit) edit 35 image (inr refl) p) (c.in-Err.ensures.moments h not_closed))
    (subst (λ (d : g.row.D.Denot). OnlyReads D.seen D.may_leave D.moment D.left_since d new.disk) c.into_disk.ensures (c.in-Ok-open.ensures.reads h))

pub returns-in-Err-open-clause-refused : goal.returns-in-Err-open-clause-refused
returns-in-Err-open-clause-refused g c =
    let D = g.D.Disk in
    let old = c.args.self in
    let left = c.perform.new.self in
    let edit = c.args.edit in
    let fault = c.in-Err-open.refused.0 in
    let disk = c.in-Err-open.refused.1 in
    let answers : EditAnswers {T = Unit {0}} old edit (D.failures old.disk) (D.failures left.disk) (Err DiskFault) =
    subst (λ (f : LibraryFault). EditAnswers {T = Unit {0}} old edit (D.failures old.disk) (D.failures left.disk) (Err f)) c.in-DiskFault.is c.in-Err.ensures.answers in
    let leaves : EditLeaves {T = Unit {0}} edit old left (Err DiskFault) = subst (λ (f : LibraryFault). EditLeaves {T = Unit {0}} edit old left (Err f)) c.in-DiskFault.is c.in-Err.ensures.leaves in
    let was = was_open old edit (D.failures old.disk) (D.failures left.disk) answers in
    let refused : OpenFaults D.honest (D.seen left.disk) (D.failures left.disk) (D.failures disk) fault =
    subst (λ (d : g.row.D.Denot). OpenFaults D.honest (D.seen d) (D.failures d) (D.failures disk) fault) c.into_disk.ensures c.in-Err-open.ensures.refused in (
      refl,
      record {
        left = left;
        answers = answers;
        leaves = leaves;
        refused = refused;
        cause = λ h. cause_of D.honest (D.seen left.disk) old.area old.bodies old.units (records_after old edit) (after_edit old.units edit) (D.failures left.disk) (D.failures disk) fault refused h
            (of_now D.may_leave D.moment D.left_since old.disk left.disk (IsOldOrNew old.area old.bodies old.units (records_after old edit) (after_edit old.units edit)) (c.in-Err.ensures.moments h was)
            (λ t image le now. g.met.D.Disk.counts_now left.disk t image h le now) (D.seen left.disk) (g.met.D.Disk.seen_is_image left.disk h));
        images = λ h image now. either image old.area old.bodies old.units (records_after old edit) (after_edit old.units edit)
            (of_now D.may_leave D.moment D.left_since old.disk left.disk (IsOldOrNew old.area old.bodies old.units (records_after old edit) (after_edit old.units edit)) (c.in-Err.ensures.moments h was)
            (λ t image le now. g.met.D.Disk.counts_now left.disk t image h le now) image
            (subst (λ (d : g.row.D.Denot). D.may_leave d image) c.into_disk.ensures ((c.in-Err-open.ensures.reads h).images image now)));
      },
    )

pub returns-in-Err-open-clause-moments : goal.returns-in-Err-open-clause-moments
returns-in-Err-open-clause-moments g c =
    let D = g.D.Disk in
    let old = c.args.self in
    let left = c.perform.new.self in
    let disk = c.in-Err-open.refused.1 in
    let edit = c.args.edit in
    λ h not_closed.
    read_on D.moment D.left_since D.seen D.may_leave old.disk left.disk disk (IsMidEdit old.units edit 35)
    (weaker D.moment D.left_since (IsOldOrNew old.area old.bodies old.units (records_after old edit) (after_edit old.units edit)) (IsMidEdit old.units edit 35) old.disk left.disk
    (λ image p. mid_edit old.area old.bodies old.units (records_after old edit) edit 35 image (inr refl) p) (c.in-Err.ensures.moments h not_closed))
    (subst (λ (d : g.row.D.Denot). OnlyReads D.seen D.may_leave D.moment D.left_since d disk) c.into_disk.ensures (c.in-Err-open.ensures.reads h))

pub returns-in_default-clause-edited : goal.returns-in_default-clause-edited
returns-in_default-clause-edited g c =
    let D = g.D.Disk in
    record {
      answer = Err c.in-Err.fault;
      left = c.perform.new.self;
      number_is = cc c.number.ensures;
      answers = c.in-Err.ensures.answers;
      leaves = c.in-Err.ensures.leaves;
      goes_on = goes_on_same D.honest D.failures c.args.self c.perform.new.self c.args.edit c.in-Err.fault c.in_default.not-DiskFault;
    }

pub returns-in_default-clause-moments : goal.returns-in_default-clause-moments
returns-in_default-clause-moments g c =
    let D = g.D.Disk in
    let i = c.self.inside in
    let old = c.args.self in
    let same = same_left old c.perform.new.self c.args.edit c.in-Err.fault c.in_default.not-DiskFault c.in-Err.ensures.leaves in
    still_map (IsMidEdit old.units c.args.edit c.number.result) D.honest D.moment D.left_since D.may_leave i.log i.units i.closed old c.self.view_is c.self.invariant.stand c.self.invariant.same c.is_closed-kept.ensures.kept
    (λ h image left. g.met.D.Disk.only_now i.log.disk image h left) c.perform.new.self.disk (ap (λ (v : View g.row.D.Denot). v.disk) same) (λ image recovers. inl recovers)
