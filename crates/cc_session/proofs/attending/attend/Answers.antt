-- After what was done so far, no script is done, or one more.
use Rattle.std.proofs.Common.{ℕ, List, Option, Some, ap, refl, subst}
use Rattle.cc_script.specs.Reading.{Ahead}
use Rattle.cc_script.specs.declared.command.Dialect.TheVariants.{Served}
use Rattle.cc_spool.specs.Spool.{delivered_as, taken_as}
use Rattle.cc_session.specs.Playing.{IsPlayedBy, talk}
use Rattle.cc_session.specs.Spooling.{given_by}
use Rattle.cc_session.proofs.Spooling.{after_two, done_by, done_on, done_same, done_script, one_more_first, one_more_last}
use Rattle.cc_session.proofs.attending.attend.Goals.{in-None, in-Some+then-is_closing}
use Rattle.cc_session.proofs.attending.attend.Goals as goal

pub loop-init : goal.loop-init
loop-init g c = done_same c.args.mode _ _ _ refl refl

pub loop-preserved-in_default : goal.loop-preserved-in_default
loop-preserved-in_default g c =
    let taken = g.S.Spool.taken in
    let ended = g.S.Spool.ended in
    let by = given_by taken ended in
    let h = c.loop.client.member in
    done_on c.args.mode (by c.args.spool.now) (by c.loop.spool) (by c.next-in-loop.new.self) c.args.client.now.member h h c.loop.invariant
    (done_same c.args.mode (by c.loop.spool) (by c.next-in-loop.new.self) h
    (after_two (taken c.next-in-loop.new.self) (taken c.is_closing.new.spool) (taken c.loop.spool) c.in_default.ensures.none c.is_closing.ensures.taken)
    (after_two (ended c.next-in-loop.new.self) (ended c.is_closing.new.spool) (ended c.loop.spool) c.next-in-loop.ensures.ended c.is_closing.ensures.ended))

pub loop-preserved : goal.loop-preserved
loop-preserved g c =
    let by = given_by g.S.Spool.taken g.S.Spool.ended in
    let old = c.loop.client.member in
    let new = c.play-halted.new.client.member in
    let script = g.S.Script.Read.remaining c.in-Some-next.text in
    let begun = g.S.Answer.Write.contents c.in-Some-next.answer in
    let answer = g.S.Answer.Write.contents c.tell_halt-played.new.answers in
    let heard = ap (λ (a : Ahead). a.rest) c.new-script.ensures in
    let played = subst (λ (s : Option (List ℕ)). IsPlayedBy c.args.mode Served (Some 65536) s (talk old begun) (talk new answer) c.tell_halt-played.result) heard
    (c.tell_halt-played.ensures c.args.mode Served (Some 65536) c.new-script.result.rest (talk old begun) new c.play-halted.ensures.halted) in
    let given = g.S.Spool.taken in
    let handed = g.S.Spool.ended in
    let taken = one_more_first (given c.loop.spool) (given c.is_closing.new.spool) (given c.next-in-loop.new.self) (given c.deliver.new.self) (taken_as script begun)
    c.deliver.ensures.taken c.in-Some-next.ensures.taken c.is_closing.ensures.taken in
    let ended = one_more_last (handed c.loop.spool) (handed c.is_closing.new.spool) (handed c.next-in-loop.new.self) (handed c.deliver.new.self) (delivered_as answer c.end_of.result)
    c.deliver.ensures.ended c.next-in-loop.ensures.ended c.is_closing.ensures.ended in
    done_on c.args.mode (by c.args.spool.now) (by c.loop.spool) (by c.deliver.new.self) c.args.client.now.member old new c.loop.invariant
    (done_script c.args.mode (by c.loop.spool) (by c.deliver.new.self) old new (taken_as script begun) (delivered_as answer c.end_of.result) taken ended
    (done_by c.args.mode c.tell_halt-played.result c.end_of.result script begun answer old new c.end_of.ensures played c.play-halted.ensures.grows))

pub returns : goal.returns
returns g c =
    let by = given_by g.S.Spool.taken g.S.Spool.ended in
    elim c.match-next.branch [
      | in-None w ↦ rw w.spool-is c.loop.invariant
      | in-Some+then-is_closing w ↦
          rw w.spool-is
          (done_on c.args.mode _ (by c.loop.spool) (by w.is_closing.new.spool) _ c.loop.client.member c.loop.client.member c.loop.invariant
          (done_same c.args.mode (by c.loop.spool) (by w.is_closing.new.spool) c.loop.client.member w.is_closing.ensures.taken w.is_closing.ensures.ended))
    ]
