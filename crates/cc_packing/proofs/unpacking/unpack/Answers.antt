-- What an Add of the file's unit may leave is what unpacking may leave, since the audit confirms the unit.
use Rattle.std.proofs.Common.{subst}
use Rattle.cc_library.proofs.Standing.{weaker}
use Rattle.cc_link.specs.declared.audit_answer.Audit.{Audit}
use Rattle.cc_packing.specs.Unpacked.{IsConfirmedFile, IsFileWith, MayBeUnpacked}
use Rattle.cc_packing.proofs.Unpacked.{may_be_unpacked}
use Rattle.cc_packing.proofs.unpacking.unpack.Goals as goal

pub returns-in-Ok-answer-clause-moments : goal.returns-in-Ok-answer-clause-moments
returns-in-Ok-answer-clause-moments g c = λ h units recovers.
    let D = g.D.Disk in
    let file = c.args.file.now in
    let unit = c.in-Ok.audited.unit in
    let before = D.may_leave c.args.disk in
    let is : IsConfirmedFile file unit = subst (λ (a : Audit). IsFileWith file unit a) c.in-Confirmed.is c.in-Ok.ensures.audited in
    weaker D.moment D.left_since _ (MayBeUnpacked file c.args.name before units) c.args.disk c.add_on-answer.result.1 (may_be_unpacked file c.args.name unit before units is)
    (c.add_on-answer.ensures.moments h units recovers)

pub returns-in-Err-answer-clause-moments : goal.returns-in-Err-answer-clause-moments
returns-in-Err-answer-clause-moments g c = λ h units recovers.
    let D = g.D.Disk in
    let file = c.args.file.now in
    let unit = c.in-Ok.audited.unit in
    let before = D.may_leave c.args.disk in
    let is : IsConfirmedFile file unit = subst (λ (a : Audit). IsFileWith file unit a) c.in-Confirmed.is c.in-Ok.ensures.audited in
    weaker D.moment D.left_since _ (MayBeUnpacked file c.args.name before units) c.args.disk c.add_on-answer.result.1 (may_be_unpacked file c.args.name unit before units is)
    (c.add_on-answer.ensures.moments h units recovers)
