-- What is left is the book that the service had at its end, also if the service had to be given up.
use Rattle.std.proofs.Common.{Vec, Global, sym, subst}
use Rattle.cc_service.specs.Client.{ClientView, members}
use Rattle.cc_recorded.specs.Promise.{IsGivenUp}
use Rattle.cc_session.specs.Session.{IsEnded}
use Rattle.cc_session.specs.declared.end.SessionEnd.{SessionEnd}
use Rattle.cc_session.proofs.Ends.{given_up_by, kept_by}
use Rattle.cc_session.proofs.running.finish.Goals as goal

pub returns-in-Ok-clause-ended : goal.returns-in-Ok-clause-ended
returns-in-Ok-clause-ended g c = λ bytes recovers.
    let D = g.D.Disk in
    let N = g.N.Based in
    let r = c.in-Ok.closed in
    let e = c.in-Ok.ensures in
    kept_by D N.failures N.base N.from N.left bytes recovers (members c.args.clients.items) c.args.played
    (record { base = r.base; library = r.library; history = r.history.items; failed = r.failed.items }) c.disk_of.result c.disk_of.ensures e.sound e.blamed e.closed e.own

pub returns-in-Err-clause-ended : goal.returns-in-Err-clause-ended
returns-in-Err-clause-ended g c = λ bytes recovers.
    let D = g.D.Disk in
    let N = g.N.Based in
    let given = c.give_up-disk.result in
    let it = subst (λ (v : Vec ClientView Global). IsGivenUp D N.failures N.base N.from N.left (members v.items) given.1 given.0) c.in-Err.ensures.back c.give_up-disk.ensures in
    subst (λ (end : SessionEnd). IsEnded D N.failures bytes N.from N.left (members c.args.clients.items) c.args.played end given.0) (sym c.given_up.ensures.end)
    (given_up_by D N.failures N.base N.from N.left bytes recovers (members c.args.clients.items) c.args.played given.1 given.0 it)
