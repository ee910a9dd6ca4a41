-- What was read before the service was opened does not change how the session ends.
use Rattle.std.proofs.Common.{Option, List, ℕ, inl, ap, subst}
use Rattle.std.specs.FinMap.{empty}
use Rattle.cc_script.specs.Reading.{Ahead}
use Rattle.cc_service.specs.declared.fault.ServiceFault.TheVariants.{Opening}
use Rattle.cc_session.specs.Session.{EndsSince, HaveCalled}
use Rattle.cc_session.proofs.Ends.{ends_on}
use Rattle.cc_session.proofs.running.session_and_explain.Goals as goal

pub returns-in-Ok : goal.returns-in-Ok
returns-in-Ok g c =
    let D = g.D.Disk in
    let e = c.in-Ok.ensures in
    let before = c.in-Ok.begun.before.value in
    let heard = ap (λ (a : Ahead). a.rest) c.new-script.ensures in
    let W = g.W.Write.contents in
    let called = λ (script : Option (List ℕ)). HaveCalled c.args.mode script (W c.args.writer.now) (W c.do_script-disk.new.answers) c.do_script-disk.result.1 in
    let ends = subst (λ (script : Option (List ℕ)). EndsSince D (D.moment before) (D.may_leave before) (Unit {0})
    (called script) c.in-Ok.begun.library.disk c.do_script-disk.result.0 c.do_script-disk.result.1) heard c.do_script-disk.ensures in
    record {
      answers = ends_on D (Unit {0}) (called (g.R.Read.remaining c.args.reader.now)) before c.args.disk c.in-Ok.begun.library.disk
          c.do_script-disk.result.0 c.do_script-disk.result.1 e.before e.sound e.reads ends;
    }

pub returns-in-Err : goal.returns-in-Err
returns-in-Err g c =
    let e = c.in-Err.ensures in
    record { answers = inl ((empty, Opening c.in-Err.fault, c.refused-number.ensures, e.refused), e.reads_refused, tt) }
