-- Three cases: input words were read; there was no room for the bytes; or another byte follows them.
use Rattle.std.proofs.Common.{List, ℕ, refl, rules}
use Rattle.cc_session.specs.Playing.{CallsOn, IsSentTo, IsUnended, Talk, talk, words_of}
use Rattle.cc_session.specs.internal.Steps.{IsNotDone, IsShortOf}
use Rattle.cc_session.proofs.Growing.{grows_same}
use Rattle.cc_session.proofs.Playing.{not_sent}
use Rattle.cc_session.proofs.Putting.{sent_step, skip_step, unsent_step}
use Rattle.cc_session.proofs.calls.Player.call.Goals as goal

pub returns-in-Source-clause-done : goal.returns-in-Source-clause-done
returns-in-Source-clause-done g c =
    let read = rw c.in-Source.is at c.in_ok-input.ensures.bytes in
    sent_step c.call_on.result (λ input o n. CallsOn c.args.name.now c.args.steps (words_of input) o n) c.in-Source.input c.as_slice.result.now c.as_slice.ensures.value c.args.length c.args.script.now c.source.new.self
    (talk c.args.client.now.member (g.W.Write.contents c.args.answers.now)) (talk c.call_on.new.client.member (g.W.Write.contents c.call_on.new.answers)) read c.call_on.ensures.done

pub returns-in-NoRoom-clause-done : goal.returns-in-NoRoom-clause-done
returns-in-NoRoom-clause-done g c =
    let read = rw c.in-NoRoom.is at c.in_ok-input.ensures.bytes in
    unsent_step c.tell_no_memory.result (λ input o n. CallsOn c.args.name.now c.args.steps (words_of input) o n) c.args.length c.args.script.now c.source.new.self
    (talk c.args.client.now.member (g.W.Write.contents c.args.answers.now)) (talk c.args.client.now.member (g.W.Write.contents c.tell_no_memory.new.answers)) refl read c.tell_no_memory.ensures

pub returns-in-NoRoom-clause-grows : goal.returns-in-NoRoom-clause-grows
returns-in-NoRoom-clause-grows g c = grows_same c.args.client.now.member c.args.client.now.member refl

pub returns-in-Unended-clause-done : goal.returns-in-Unended-clause-done
returns-in-Unended-clause-done g c =
    let read = rw c.in-Unended.is at c.in_ok-input.ensures.bytes in
    skip_step c.refuse_and_skip.result (λ input o n. CallsOn c.args.name.now c.args.steps (words_of input) o n) c.args.length c.args.script.now c.source.new.self c.refuse_and_skip.new.self c.refuse_and_skip.new.self.left
    (talk c.args.client.now.member (g.W.Write.contents c.args.answers.now)) (talk c.args.client.now.member (g.W.Write.contents c.refuse_and_skip.new.answers)) refl read c.refuse_and_skip.ensures.bytes c.refuse_and_skip.ensures.written
    c.refuse_and_skip.ensures.refused

pub returns-in-Unended-clause-grows : goal.returns-in-Unended-clause-grows
returns-in-Unended-clause-grows g c = grows_same c.args.client.now.member c.args.client.now.member refl

pub returns-in_err-input-clause-done : goal.returns-in_err-input-clause-done
returns-in_err-input-clause-done g c =
    let here = talk c.args.client.now.member (g.W.Write.contents c.args.answers.now) in
    let Does = (λ (b a : List ℕ) (o n : Talk). IsSentTo (λ input p q. CallsOn c.args.name.now c.args.steps (words_of input) p q) c.args.length b a o n) in
    let why : IsNotDone Does (IsShortOf c.args.length) (IsUnended c.args.length) c.args.script.now here here c.in_err-input.field-0.0 =
    not_sent Does (IsUnended c.args.length) c.args.script.now c.args.length c.source.new.self.left here _ c.in_err-input.ensures.refused in
    search (rules, why)

pub returns-in_err-input-clause-grows : goal.returns-in_err-input-clause-grows
returns-in_err-input-clause-grows g c = grows_same c.args.client.now.member c.args.client.now.member refl
