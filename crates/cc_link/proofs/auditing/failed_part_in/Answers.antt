-- If no part fails, the unit made with the certificate is the stored unit, so what the type of a made unit
-- keeps is true of the stored unit.
use Rattle.std.proofs.Common.{◌≡◌, Some}
use Rattle.cc_unit.specs.declared.unit.StoredUnit.{StoredUnit}
use Rattle.cc_link.specs.Whole.{IsWholeIn}
use Rattle.cc_link.proofs.Confirming.{confirmed}
use Rattle.cc_link.proofs.auditing.failed_part_in.Goals as goal

pub returns-in-Ok : goal.returns-in-Ok
returns-in-Ok c =
    let law = c.linked_units_follow.ensures in
    let made = c.in-Ok.made in
    let whole : IsWholeIn c.args.mode c.args.source.now made = rw c.in-Ok.is at c.in_ok-made.ensures.whole in
    let unit : StoredUnit = record { source = c.args.source.now; image = c.args.image.now; certificate = Some c.args.certificate.now } in
    let same : made.unit ≡ unit = rw c.in-Ok.is at c.in_ok-made.ensures.answer in
    confirmed law.follow law.agree law.certified c.args.mode made.unit c.args.source.now c.args.certificate.now c.args.image.now same whole.made
