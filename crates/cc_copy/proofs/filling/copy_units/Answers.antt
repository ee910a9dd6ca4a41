-- The journal that is opened is the empty one that was made.
use Rattle.std.proofs.Common.{◌≤◌}
use Rattle.cc_copy.specs.Copy.{room_for}
use Rattle.cc_copy.proofs.Filled.{open_refused}
use Rattle.cc_copy.proofs.filling.copy_units.Goals as goal

pub returns-in-Err-open-clause-refused : goal.returns-in-Err-open-clause-refused
returns-in-Err-open-clause-refused g c =
    let D = g.D.Disk in
    let made = c.format.new.disk in
    let fits : room_for c.args.units.now ≤ c.args.area = c.fits.ensures.0 c.if-not-fits.false in
    rw c.from.ensures (open_refused D.honest (D.seen made) (D.size c.args.disk) c.args.area c.args.units.now (D.failures c.args.disk) (D.failures made) (D.failures c.in-Err-open.disk) c.in-Err-open.fault fits
    c.in-Ok.ensures.answers.1 (λ h. c.in-Ok.ensures.kept h (D.seen made) (g.met.D.Disk.seen_is_image made h)) c.in-Err-open.ensures.refused)
