-- What the library's opening says about each image holds for the bytes themselves.
use Rattle.tests_service.proofs.helpers.opened.Goals as goal

pub returns-in-Ok : goal.returns-in-Ok
returns-in-Ok g c = λ h units recovers.
    (c.in-Ok.ensures.kept h (g.D.Disk.seen c.in-Ok.library.disk) (g.met.D.Disk.seen_is_image c.in-Ok.library.disk h)).alone units recovers
