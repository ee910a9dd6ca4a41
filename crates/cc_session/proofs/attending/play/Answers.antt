-- The script consists of the bytes that its reader has.
use Rattle.std.proofs.Common.{ℕ, List, Option, ap, subst}
use Rattle.cc_script.specs.Reading.{Ahead}
use Rattle.cc_session.specs.Playing.{IsPlayedBy, talk}
use Rattle.cc_session.proofs.attending.play.Goals as goal

pub returns-clause-played : goal.returns-clause-played
returns-clause-played g c =
    let W = g.W.Write.contents in
    let old = talk c.args.client.now.member (W c.args.writer.now) in
    let new = talk c.play-halted.new.client.member (W c.tell_halt.new.answers) in
    let heard = ap (λ (a : Ahead). a.rest) c.new.ensures in
    subst (λ (s : Option (List ℕ)). IsPlayedBy c.args.mode c.args.dialect c.args.most s old new c.tell_halt.result) heard
    (c.tell_halt.ensures c.args.mode c.args.dialect c.args.most c.new.result.rest old c.play-halted.new.client.member c.play-halted.ensures.halted)
