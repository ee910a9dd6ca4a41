-- The machine waits for the first word, or has come to an end before it.
use Rattle.std.proofs.Common.{◌≡◌, ℕ, ◌+◌, ◌-◌, [], subst, arith}
use Rattle.cc_rv32.specs.Simulation.{IsOn}
use Rattle.cc_runs.proofs.Turns.{begins_at, live_at_once, live_lines}
use Rattle.cc_runs.proofs.live.run_live.Goals as goal

pub returns-in-Ok-Some : goal.returns-in-Ok-Some
returns-in-Ok-Some g c =
    let R = g.R.Read in
    let W = g.W.Write in
    let m = c.run_to_wait.new.self in
    let left = c.in-Ok-Some.left in
    let waits = rw c.in-Ok-Some.field-0-is at c.in-Ok-Some.ensures.waits in
    let on = rw c.in-Ok-Some.field-0-is at c.in-Ok-Some.ensures.on in
    record {
      turns = live_lines (R.remaining c.args.reader.now) c.args.image.now c.args.steps left c.args.reads_zeros m (W.contents c.args.writer.now) (W.contents c.answer_lines.new.writer) c.answer_lines.result
          (begins_at c.args.image.now c.args.steps left m waits.0 waits.1 (on c.args.image.now [] [] 0 c.in-Ok.ensures.on)) c.answer_lines.ensures;
    }

pub returns-in-Ok-None : goal.returns-in-Ok-None
returns-in-Ok-None g c =
    let R = g.R.Read in
    let W = g.W.Write in
    let m = c.run_to_wait.new.self in
    let on = rw c.in-Ok-None.field-0-is at c.in-Ok-None.ensures.on in
    let all : 0 + (c.args.steps - 0) ≡ 0 + c.args.steps = omega arith in
    record {
      turns = live_at_once (R.remaining c.args.reader.now) c.args.image.now c.args.steps c.args.reads_zeros (W.contents c.args.writer.now) (W.contents c.tell_last.new.writer) m c.tell_last.result
          (subst (λ (n : ℕ). IsOn c.args.image.now [] [] n m) all (on c.args.image.now [] [] 0 c.in-Ok.ensures.on)) c.tell_last.ensures;
    }
