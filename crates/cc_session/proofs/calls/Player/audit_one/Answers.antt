-- One call is made, and the line says what its answer shows.
use Rattle.std.proofs.Common.{◌≡◌, Bool, true, false, Ok, rules, subst}
use Rattle.cc_session.specs.Playing.{talk}
use Rattle.cc_session.specs.internal.Calls.{AuditsName}
use Rattle.cc_session.proofs.Audited.{audited_none, audited_not, audited_one}
use Rattle.cc_session.proofs.calls.Player.audit_one.Goals as goal

pub returns-in-Ok-true : goal.returns-in-Ok-true
returns-in-Ok-true g c =
    let W = g.W.Write.contents in
    let old = talk c.args.client.now.member (W c.args.answers.now) in
    let mid = talk c.audit_name.new.client.member (W c.audit_name.new.answers) in
    let all : c.in-Ok-true.field-0 ≡ true = search rules in
    let it = subst (λ (b : Bool). AuditsName c.args.self.now.mode c.args.name.now old mid (Ok b)) all c.in-Ok-true.ensures in
    audited_one c.args.self.now.mode c.tell_ok.result c.args.name.now old (talk c.audit_name.new.client.member (W c.tell_ok.new.answers)) (W c.audit_name.new.answers) (it.0, it.1, it.2.0, it.2.1, it.2.2) c.tell_ok.ensures

pub returns-in-Ok-false : goal.returns-in-Ok-false
returns-in-Ok-false g c =
    let W = g.W.Write.contents in
    let old = talk c.args.client.now.member (W c.args.answers.now) in
    let new = talk c.audit_name.new.client.member (W c.audit_name.new.answers) in
    let none : c.in-Ok-false.field-0 ≡ false = search rules in
    let it = subst (λ (b : Bool). AuditsName c.args.self.now.mode c.args.name.now old new (Ok b)) none c.in-Ok-false.ensures in
    audited_none c.args.self.now.mode c.args.name.now old new (it.0, it.1, it.2.0, it.2.1, it.2.2)

pub returns-in-Err : goal.returns-in-Err
returns-in-Err g c =
    let W = g.W.Write.contents in
    audited_not c.args.self.now.mode c.args.name.now (talk c.args.client.now.member (W c.args.answers.now)) (talk c.audit_name.new.client.member (W c.audit_name.new.answers)) c.in-Err.fault c.in-Err.ensures
