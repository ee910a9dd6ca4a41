-- The names are audited in turn; the last call is for the first name whose audit says nothing.
use Rattle.std.proofs.Common.{◌≡◌, Bool, false, Ok, rules, subst}
use Rattle.cc_session.specs.Playing.{talk}
use Rattle.cc_session.specs.internal.Calls.{AuditsName}
use Rattle.cc_session.proofs.Audited.{audited_last, audited_unwritten}
use Rattle.cc_session.proofs.calls.Player.audit_names.Goals as goal

pub returns-in-Ok-false : goal.returns-in-Ok-false
returns-in-Ok-false g c =
    let W = g.W.Write.contents in
    let old = talk c.loop-name.client.member (W c.loop-name.answers) in
    let new = talk c.audit_name.new.client.member (W c.audit_name.new.answers) in
    let none : c.in-Ok-false.field-0 ≡ false = search rules in
    let it = subst (λ (b : Bool). AuditsName c.args.self.now.mode c.bytes.result.now old new (Ok b)) none c.in-Ok-false.ensures in
    c.loop-name.invariant.onward false new
    (audited_last c.args.self.now.mode c.args.names.now c.loop-name.name-index c.name-item.result c.bytes.result.now c.loop-name-test.true c.name-item.is c.bytes.ensures.bytes old new
    (it.0, it.1, it.2.0, it.2.1, it.2.2))

pub returns-in-Err : goal.returns-in-Err
returns-in-Err g c =
    let W = g.W.Write.contents in
    let old = talk c.loop-name.client.member (W c.loop-name.answers) in
    let new = talk c.audit_name.new.client.member (W c.audit_name.new.answers) in
    let it = audited_unwritten c.args.self.now.mode c.args.names.now c.loop-name.name-index c.name-item.result c.bytes.result.now c.loop-name-test.true c.name-item.is c.bytes.ensures.bytes old new c.in-Err.fault
    c.in-Err.ensures in
    (it.0, it.1, c.loop-name.invariant.onward false (talk c.audit_name.new.client.member it.1) it.2)
