-- What was printed is what the machine gives up.
use Rattle.std.proofs.Common.{ℕ, ◌-◌, List, ap, subst, arith}
use Rattle.std.specs.Io.KnownBytes.{Appends}
use Rattle.cc_rv32.specs.Simulation.{Simulation}
use Rattle.cc_runs.specs.Written.{turn_text}
use Rattle.cc_runs.proofs.Turns.{moves_turn, wait_cleared}
use Rattle.cc_runs.proofs.live.answer_words.Goals as goal

pub returns-in_ok-write_turn-in-Ok-Some : goal.returns-in_ok-write_turn-in-Ok-Some
returns-in_ok-write_turn-in-Ok-Some g c =
    let W = g.W.Write in
    let left = c.in-Ok-Some.field-0-0 in
    let ran = c.run_to_wait.new.self in
    let waits = rw c.in-Ok-Some.field-0-is at c.in-Ok-Some.ensures.waits in (
      c.args.steps - left,
      omega arith,
      ran.output,
      moves_turn c.args.words.now ran.output (c.args.steps - left) c.args.machine.now c.feed.new.self ran c.clear_output.new.self c.in-Ok.ensures.on (rw c.in-Ok-Some.field-0-is at c.in-Ok-Some.ensures.on) c.clear_output.ensures.on,
      wait_cleared c.args.steps left ran c.clear_output.new.self c.clear_output.ensures.cleared waits.0 waits.1,
      ap (λ (s : Simulation). s.output) c.clear_output.ensures.cleared,
      subst (λ (l : List ℕ). Appends (W.contents c.args.writer.now) (W.contents c.write_turn.new.writer) (turn_text l)) c.output.ensures.words c.in_ok-write_turn-in-Ok-Some.ensures,
    )
