-- Three cases: the source was handed to the service with the expected one; there was no room for it; or another byte follows
-- it.
use Rattle.std.proofs.Common.{List, ℕ, Option, Some, None, inl, refl, rules}
use Rattle.std.specs.Option.{option_map}
use Rattle.cc_service.specs.Updating.{UpdateAnswers}
use Rattle.cc_session.specs.Playing.{CallsAndWrites, IsSentTo, IsUnended, Talk, talk}
use Rattle.cc_session.specs.Telling.{SaysChange}
use Rattle.cc_session.specs.internal.Calls.{DoesOr, UpdatesIf}
use Rattle.cc_session.specs.internal.Steps.{IsNotDone, IsShortOf}
use Rattle.cc_session.proofs.Growing.{grows_same, update_grows}
use Rattle.cc_session.proofs.Obeying.{tells_call, tells_more}
use Rattle.cc_session.proofs.Playing.{not_sent}
use Rattle.cc_session.proofs.Putting.{sent_step, skip_step, unasked_step, unsent_step}
use Rattle.cc_session.proofs.calls.Player.update_from.Goals as goal

pub returns-in-Some-clause-done : goal.returns-in-Some-clause-done
returns-in-Some-clause-done g c =
    let read = rw c.in-Source.is at c.in_ok-source.ensures.bytes in
    let mode = c.args.self.now.mode in
    let name = c.args.name.now in
    let expected = c.in-Some.expected.now in
    let sent = c.as_slice.result.now in
    let old = talk c.args.client.now.member (g.W.Write.contents c.args.answers.now) in
    let new = talk c.exchange.new.client.member (g.W.Write.contents c.exchange.new.answers) in
    let Does : List ℕ → Talk → Talk → Type 0 = λ source o n. UpdatesIf mode name (Some expected) source o n in
    rw c.in-Some.is
    (sent_step c.exchange.result Does c.in-Source.source sent c.as_slice.ensures.value c.args.length c.args.script.now c.source.new.self old new read
    (tells_more c.exchange.result (Does sent) (DoesOr (Does sent)) old new (λ n it. inl it) (tells_call c.exchange.result (UpdateAnswers mode name expected sent) (SaysChange sent) old new c.exchange.ensures)))

pub returns-in-Some-clause-grows : goal.returns-in-Some-clause-grows
returns-in-Some-clause-grows g c =
    update_grows c.args.self.now.mode c.args.name.now c.in-Some.expected.now c.as_slice.result.now c.args.client.now.member c.exchange.new.client.member c.exchange.ensures.0 c.exchange.ensures.1

pub returns-in-Source-clause-done : goal.returns-in-Source-clause-done
returns-in-Source-clause-done g c =
    let read = rw c.in-Source.is at c.in_ok-source.ensures.bytes in
    unasked_step c.tell_no_memory.result (λ source o n. UpdatesIf c.args.self.now.mode c.args.name.now (option_map (λ e. e.now) c.args.expected) source o n) c.in-Source.source c.args.length c.args.script.now c.source.new.self
    (talk c.args.client.now.member (g.W.Write.contents c.args.answers.now)) (talk c.args.client.now.member (g.W.Write.contents c.tell_no_memory.new.answers)) refl read c.tell_no_memory.ensures

pub returns-in-NoRoom-clause-done : goal.returns-in-NoRoom-clause-done
returns-in-NoRoom-clause-done g c =
    let read = rw c.in-NoRoom.is at c.in_ok-source.ensures.bytes in
    unsent_step c.tell_no_memory-in-NoRoom.result (λ source o n. UpdatesIf c.args.self.now.mode c.args.name.now (option_map (λ e. e.now) c.args.expected) source o n) c.args.length c.args.script.now c.source.new.self
    (talk c.args.client.now.member (g.W.Write.contents c.args.answers.now)) (talk c.args.client.now.member (g.W.Write.contents c.tell_no_memory-in-NoRoom.new.answers)) refl read c.tell_no_memory-in-NoRoom.ensures

pub returns-in-NoRoom-clause-grows : goal.returns-in-NoRoom-clause-grows
returns-in-NoRoom-clause-grows g c = grows_same c.args.client.now.member c.args.client.now.member refl

pub returns-clause-done : goal.returns-clause-done
returns-clause-done g c =
    let read = rw c.in-Unended.is at c.in_ok-source.ensures.bytes in
    skip_step c.refuse_and_skip.result (λ source o n. UpdatesIf c.args.self.now.mode c.args.name.now (option_map (λ e. e.now) c.args.expected) source o n) c.args.length c.args.script.now c.source.new.self c.refuse_and_skip.new.self c.refuse_and_skip.new.self.left
    (talk c.args.client.now.member (g.W.Write.contents c.args.answers.now)) (talk c.args.client.now.member (g.W.Write.contents c.refuse_and_skip.new.answers)) refl read c.refuse_and_skip.ensures.bytes c.refuse_and_skip.ensures.written
    c.refuse_and_skip.ensures.refused

pub returns-in_err-source-clause-done : goal.returns-in_err-source-clause-done
returns-in_err-source-clause-done g c =
    let here = talk c.args.client.now.member (g.W.Write.contents c.args.answers.now) in
    let Does = (λ (b a : List ℕ) (o n : Talk). IsSentTo (λ source p q. UpdatesIf c.args.self.now.mode c.args.name.now (option_map (λ e. e.now) c.args.expected) source p q) c.args.length b a o n) in
    let why : IsNotDone Does (IsShortOf c.args.length) (IsUnended c.args.length) c.args.script.now here here c.in_err-source.field-0.0 =
    not_sent Does (IsUnended c.args.length) c.args.script.now c.args.length c.source.new.self.left here _ c.in_err-source.ensures.refused in
    search (rules, why)

pub returns-in_err-source-clause-grows : goal.returns-in_err-source-clause-grows
returns-in_err-source-clause-grows g c = grows_same c.args.client.now.member c.args.client.now.member refl
