-- Three cases: the source was handed to the service; another byte follows it; or there was no room for it.
use Rattle.std.proofs.Common.{List, ℕ, inl, refl, rules}
use Rattle.cc_service.specs.Serving.{PutAnswers, Puts}
use Rattle.cc_session.specs.Playing.{CallsAndWrites, IsSent, IsUnended, Talk, talk}
use Rattle.cc_session.specs.Telling.{SaysChange}
use Rattle.cc_session.specs.internal.Calls.{DoesOr}
use Rattle.cc_session.specs.internal.Steps.{IsNotDone, IsShortOf}
use Rattle.cc_session.proofs.Growing.{grows_same, put_grows}
use Rattle.cc_session.proofs.Obeying.{tells_call, tells_more}
use Rattle.cc_session.proofs.Playing.{not_sent}
use Rattle.cc_session.proofs.Putting.{sent_step, skip_step, unsent_step}
use Rattle.cc_session.proofs.calls.Player.put.Goals as goal

pub returns-in-Source-clause-done : goal.returns-in-Source-clause-done
returns-in-Source-clause-done g c =
    let read = rw c.in-Source.is at c.in_ok-source.ensures.bytes in
    let mode = c.args.self.now.mode in
    let name = c.args.name.now in
    let sent = c.as_slice-source.result.now in
    let old = talk c.args.client.now.member (g.W.Write.contents c.args.answers.now) in
    let new = talk c.change.new.client.member (g.W.Write.contents c.change.new.answers) in
    let Does : List ℕ → Talk → Talk → Type 0 = λ source o n. CallsAndWrites (PutAnswers mode (Puts c.args.put mode name source) name source) (SaysChange source) o n in
    sent_step c.change.result Does c.in-Source.source sent c.as_slice-source.ensures.value c.args.length c.args.script.now c.source.new.self old new read
    (tells_more c.change.result (Does sent) (DoesOr (Does sent)) old new (λ n it. inl it) (tells_call c.change.result (PutAnswers mode (Puts c.args.put mode name sent) name sent) (SaysChange sent) old new c.change.ensures))

pub returns-in-Source-clause-grows : goal.returns-in-Source-clause-grows
returns-in-Source-clause-grows g c =
    put_grows c.args.self.now.mode (Puts c.args.put c.args.self.now.mode c.args.name.now c.as_slice-source.result.now) c.args.name.now c.as_slice-source.result.now c.args.client.now.member c.change.new.client.member c.change.ensures.0 c.change.ensures.1

pub returns-in-Unended-clause-done : goal.returns-in-Unended-clause-done
returns-in-Unended-clause-done g c =
    let read = rw c.in-Unended.is at c.in_ok-source.ensures.bytes in
    let mode = c.args.self.now.mode in
    let name = c.args.name.now in
    skip_step c.refuse_and_skip.result (λ source o n. CallsAndWrites (PutAnswers mode (Puts c.args.put mode name source) name source) (SaysChange source) o n) c.args.length c.args.script.now c.source.new.self c.refuse_and_skip.new.self c.refuse_and_skip.new.self.left
    (talk c.args.client.now.member (g.W.Write.contents c.args.answers.now)) (talk c.args.client.now.member (g.W.Write.contents c.refuse_and_skip.new.answers)) refl read c.refuse_and_skip.ensures.bytes c.refuse_and_skip.ensures.written
    c.refuse_and_skip.ensures.refused

pub returns-in-Unended-clause-grows : goal.returns-in-Unended-clause-grows
returns-in-Unended-clause-grows g c = grows_same c.args.client.now.member c.args.client.now.member refl

pub returns-in-NoRoom-clause-done : goal.returns-in-NoRoom-clause-done
returns-in-NoRoom-clause-done g c =
    let read = rw c.in-NoRoom.is at c.in_ok-source.ensures.bytes in
    let mode = c.args.self.now.mode in
    let name = c.args.name.now in
    unsent_step c.tell_no_memory.result (λ source o n. CallsAndWrites (PutAnswers mode (Puts c.args.put mode name source) name source) (SaysChange source) o n) c.args.length c.args.script.now c.source.new.self
    (talk c.args.client.now.member (g.W.Write.contents c.args.answers.now)) (talk c.args.client.now.member (g.W.Write.contents c.tell_no_memory.new.answers)) refl read c.tell_no_memory.ensures

pub returns-in-NoRoom-clause-grows : goal.returns-in-NoRoom-clause-grows
returns-in-NoRoom-clause-grows g c = grows_same c.args.client.now.member c.args.client.now.member refl

pub returns-in_err-source-clause-done : goal.returns-in_err-source-clause-done
returns-in_err-source-clause-done g c =
    let here = (talk c.args.client.now.member (g.W.Write.contents c.args.answers.now)) in
    let why : IsNotDone (λ b a o n. IsSent c.args.self.now.mode (Puts c.args.put) c.args.name.now c.args.length b a o n) (IsShortOf c.args.length) (IsUnended c.args.length) c.args.script.now here here
    c.in_err-source.field-0.0 = not_sent (λ b a o n. IsSent c.args.self.now.mode (Puts c.args.put) c.args.name.now c.args.length b a o n) (IsUnended c.args.length) c.args.script.now c.args.length c.source.new.self.left here _
    c.in_err-source.ensures.refused in
    search (rules, why)

pub returns-in_err-source-clause-grows : goal.returns-in_err-source-clause-grows
returns-in_err-source-clause-grows g c = grows_same c.args.client.now.member c.args.client.now.member refl
