-- The one client did the script, whatever the session's end is.
use Rattle.std.proofs.Common.{◌≡◌, [], ◌∷◌, None, rules}
use Rattle.cc_script.specs.declared.command.Dialect.TheVariants.{Plain}
use Rattle.cc_service.specs.Client.{members}
use Rattle.cc_session.specs.Playing.{talk}
use Rattle.cc_session.proofs.Calling.{called_by}
use Rattle.cc_session.proofs.running.play_alone.Goals as goal

pub returns-in-Ok : goal.returns-in-Ok
returns-in-Ok g c = λ end after written.
    let W = g.W.Write.contents in
    let now = c.play-halted.new.client.member in
    let alone : members c.push_reserved.new.self.items ≡ now ∷ [] = search rules in
    let old = talk c.in-Ok.client.member (W c.args.answers.now) in
    called_by c.args.mode c.tell_halt.result c.ended.result c.args.script.now.rest (W c.args.answers.now) (W c.tell_halt.new.answers) after end (members c.push_reserved.new.self.items)
    c.in-Ok.client.member now c.in-Ok.ensures.ok.0 alone (c.tell_halt.ensures c.args.mode Plain None c.args.script.now.rest old now c.play-halted.ensures.halted) c.ended.ensures written
