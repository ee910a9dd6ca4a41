-- All units are audited, or the list is refused.
use Rattle.std.proofs.Common.{◌≡◌, Bool, true, rules, subst}
use Rattle.cc_history.specs.declared.reply.Reply.TheVariants as reply
use Rattle.cc_session.specs.Playing.{AuditsEach, talk}
use Rattle.cc_session.proofs.Audited.{audits_all, audits_none}
use Rattle.cc_session.proofs.calls.Player.audit.Goals as goal

pub returns-in-Ok-true : goal.returns-in-Ok-true
returns-in-Ok-true g c =
    let W = g.W.Write.contents in
    let heard = c.list.new.client.member in
    let old = talk c.args.client.now.member (W c.args.answers.now) in
    let new = talk c.audit_names.new.client.member (W c.tell_ok.new.answers) in
    let last = talk c.audit_names.new.client.member (W c.audit_names.new.answers) in
    let are : c.in-Ok.listing.entry.reply ≡ reply.Names c.as_slice.result.now = cc in
    let all : c.in-Ok-true.field-0 ≡ true = search rules in
    let each = subst (λ (b : Bool). AuditsEach c.args.self.now.mode c.as_slice.result.now b (talk heard (W c.args.answers.now)) last) all c.in-Ok-true.ensures in
    audits_all c.args.self.now.mode c.tell_ok.result c.in-Ok.listing c.as_slice.result.now heard old new (W c.audit_names.new.answers) c.in-Ok.ensures.answers are each c.tell_ok.ensures

pub returns : goal.returns
returns g c =
    let W = g.W.Write.contents in
    audits_none c.args.self.now.mode c.refuse.result c.in-Err.fault (talk c.args.client.now.member (W c.args.answers.now)) (talk c.list.new.client.member (W c.refuse.new.answers)) c.in-Err.ensures.answers c.refuse.ensures
