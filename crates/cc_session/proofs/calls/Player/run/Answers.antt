-- The unit was fetched and its run reported, or it was refused.
use Rattle.cc_session.specs.Playing.{talk}
use Rattle.cc_session.proofs.Cutting.{run_refused, runs}
use Rattle.cc_session.proofs.calls.Player.run.Goals as goal

pub returns-in-Ok : goal.returns-in-Ok
returns-in-Ok g c =
    let W = g.W.Write.contents in
    runs c.run_found.result c.args.self.now.most c.args.name.now c.args.steps c.in-Ok.found
    (talk c.args.client.now.member (W c.args.answers.now)) (talk c.get.new.client.member (W c.run_found.new.answers)) c.in-Ok.ensures.answers c.run_found.ensures

pub returns-in-Err : goal.returns-in-Err
returns-in-Err g c =
    let W = g.W.Write.contents in
    run_refused c.refuse.result c.args.self.now.most c.args.name.now c.args.steps c.in-Err.fault
    (talk c.args.client.now.member (W c.args.answers.now)) (talk c.get.new.client.member (W c.refuse.new.answers)) c.in-Err.ensures.answers c.refuse.ensures
