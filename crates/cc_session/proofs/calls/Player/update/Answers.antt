-- The expected source was read, and then the source after it; or the expected source was not read.
use Rattle.std.proofs.Common.{List, ℕ, refl, rules}
use Rattle.cc_session.specs.Playing.{IsSentTwice, IsShortOfTwo, IsUnendedOfTwo, Talk, talk}
use Rattle.cc_session.specs.internal.Steps.{IsNotDone}
use Rattle.cc_session.proofs.Growing.{grows_same}
use Rattle.cc_session.proofs.Putting.{twice_skip, twice_step, twice_unasked, twice_unread}
use Rattle.cc_session.proofs.calls.Player.update.Goals as goal

pub returns-in-Source-clause-done : goal.returns-in-Source-clause-done
returns-in-Source-clause-done g c =
    let read = rw c.in-Source.is at c.in_ok-source.ensures.bytes in
    twice_step c.args.self.now.mode c.update_from.result c.args.name.now c.in-Source.source c.as_slice-source.result.now c.as_slice-source.ensures.value c.args.expected c.args.length c.args.script.now c.source.new.self c.update_from.new.script
    (talk c.args.client.now.member (g.W.Write.contents c.args.answers.now)) (talk c.update_from.new.client.member (g.W.Write.contents c.update_from.new.answers)) read c.update_from.ensures.done

pub returns-in-NoRoom-clause-done : goal.returns-in-NoRoom-clause-done
returns-in-NoRoom-clause-done g c =
    let read = rw c.in-NoRoom.is at c.in_ok-source.ensures.bytes in
    twice_unasked c.args.self.now.mode c.update_from-in-NoRoom.result c.args.name.now c.args.expected c.args.length c.args.script.now c.source.new.self c.update_from-in-NoRoom.new.script
    (talk c.args.client.now.member (g.W.Write.contents c.args.answers.now)) (talk c.update_from-in-NoRoom.new.client.member (g.W.Write.contents c.update_from-in-NoRoom.new.answers)) read c.update_from-in-NoRoom.ensures.done

pub returns-in-Unended-clause-done : goal.returns-in-Unended-clause-done
returns-in-Unended-clause-done g c =
    let read = rw c.in-Unended.is at c.in_ok-source.ensures.bytes in
    twice_skip c.args.self.now.mode c.refuse_and_skip.result c.args.name.now c.args.expected c.args.length c.args.script.now c.source.new.self c.refuse_and_skip.new.self c.refuse_and_skip.new.self.left
    (talk c.args.client.now.member (g.W.Write.contents c.args.answers.now)) (talk c.args.client.now.member (g.W.Write.contents c.refuse_and_skip.new.answers)) refl read c.refuse_and_skip.ensures.bytes c.refuse_and_skip.ensures.written
    c.refuse_and_skip.ensures.refused

pub returns-in-Unended-clause-grows : goal.returns-in-Unended-clause-grows
returns-in-Unended-clause-grows g c = grows_same c.args.client.now.member c.args.client.now.member refl

pub returns-in_err-source-clause-done : goal.returns-in_err-source-clause-done
returns-in_err-source-clause-done g c =
    let here = talk c.args.client.now.member (g.W.Write.contents c.args.answers.now) in
    let Does = (λ (b a : List ℕ) (o n : Talk). IsSentTwice c.args.self.now.mode c.args.name.now c.args.expected c.args.length b a o n) in
    let why : IsNotDone Does (IsShortOfTwo c.args.expected c.args.length) (IsUnendedOfTwo c.args.expected c.args.length) c.args.script.now here here c.in_err-source.field-0.0 =
    twice_unread c.args.self.now.mode c.args.name.now c.args.expected c.args.length c.args.script.now c.source.new.self.left here _ c.in_err-source.ensures.refused in
    search (rules, why)

pub returns-in_err-source-clause-grows : goal.returns-in_err-source-clause-grows
returns-in_err-source-clause-grows g c = grows_same c.args.client.now.member c.args.client.now.member refl
