-- What was read before the service was opened does not change how serving ends.
use Rattle.std.proofs.Common.{◌≡◌, ap, map}
use Rattle.std.specs.FinMap.{empty}
use Rattle.cc_service.specs.declared.fault.ServiceFault.TheVariants.{Opening}
use Rattle.cc_session.specs.Spooling.{HaveServed, given_by}
use Rattle.cc_session.proofs.Ends.{ends_on, unserved_by}
use Rattle.cc_session.proofs.serving.serve_quietly.Goals as goal

pub returns-in-Ok : goal.returns-in-Ok
returns-in-Ok g c =
    let D = g.D.Disk in
    let e = c.in-Ok.ensures in
    let by = given_by g.S.Spool.taken g.S.Spool.ended in
    let before = map by c.args.spools.items in
    let after = map by c.serve_begun.result.spools.items in
    record {
      answers = ends_on D (after ≡ before) (HaveServed c.args.mode before after) c.in-Ok.begun.before.value c.args.disk c.in-Ok.begun.library.disk
          c.serve_begun.result.disk c.serve_begun.result.end e.before e.sound e.reads c.serve_begun.ensures;
    }

pub returns-in-Err : goal.returns-in-Err
returns-in-Err g c =
    let D = g.D.Disk in
    let by = given_by g.S.Spool.taken g.S.Spool.ended in
    let u = c.unserved.ensures in
    let left = c.unserved.result in
    let before = map by c.args.spools.items in
    let after = map by left.spools.items in
    record {
      answers = unserved_by D (D.moment c.args.disk) (D.may_leave c.args.disk) (after ≡ before) (HaveServed c.args.mode before after) empty
          (Opening c.in-Err.fault) c.args.disk c.in-Err.disk left.disk left.end u.disk u.end c.in-Err.ensures.refused c.in-Err.ensures.reads_refused (ap (λ v. map by v.items) u.spools);
    }
