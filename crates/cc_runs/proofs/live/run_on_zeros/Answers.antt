-- With a zero to read the machine executes an instruction before it waits again.
use Rattle.std.proofs.Common.{◌≡◌, ◌≤◌, ◌<◌, ℕ, suc, ◌+◌, ◌-◌, [], ◌∷◌, ◌++◌, length, ap, subst, length-append, arith}
use Rattle.cc_rv32.specs.Simulation.{Simulation}
use Rattle.cc_runs.specs.Live.{zeros}
use Rattle.cc_runs.specs.internal.Turning.{Moves}
use Rattle.cc_runs.proofs.Turns.{comes_on, moves_zero}
use Rattle.cc_runs.proofs.live.run_on_zeros.Goals as goal

pub loop-left-smaller : goal.loop-left-smaller
loop-left-smaller c =
    let waits = rw c.in-Some.is at c.in_ok-rest.ensures.waits in
    let went = rw c.in-Some.is at c.in_ok-rest.ensures.went in
    let more : c.feed.new.self.input ≡ c.loop-left.machine.input ++ 0 ∷ [] = ap (λ (s : Simulation). s.input) c.in_ok-feed.ensures.fed in
    let some : 0 < length c.feed.new.self.input = omega (arith, ap length more, length-append c.loop-left.machine.input (0 ∷ [])) in
    let on : 0 < c.loop-left.left - c.in-Some.rest = comes_on c.feed.new.self.code (c.loop-left.left - c.in-Some.rest) c.feed.new.self c.run_to_wait.new.self went some waits.1 in
    omega (arith, on)

pub loop-left-preserved : goal.loop-left-preserved
loop-left-preserved c =
    let i = c.loop-left.invariant in
    let waits = rw c.in-Some.is at c.in_ok-rest.ensures.waits in
    let within : c.in-Some.rest ≤ c.loop-left.left = waits.0.within in (
      i.0 + (c.loop-left.left - c.in-Some.rest),
      omega arith,
      (
        suc i.2.0,
        moves_zero i.0 i.2.0 (c.loop-left.left - c.in-Some.rest) c.args.machine.now c.loop-left.machine c.feed.new.self c.run_to_wait.new.self i.2.1 c.in_ok-feed.ensures.on (rw c.in-Some.is at c.in_ok-rest.ensures.on),
      ),
    )

pub returns-in-None : goal.returns-in-None
returns-in-None c =
    let i = c.loop-left.invariant in
    let all : i.0 + (c.loop-left.left - 0) ≡ c.args.steps = omega arith in (
      suc i.2.0,
      subst (λ (n : ℕ). Moves (zeros (suc i.2.0)) [] n c.args.machine.now c.run_to_wait.new.self) all
          (moves_zero i.0 i.2.0 (c.loop-left.left - 0) c.args.machine.now c.loop-left.machine c.feed.new.self c.run_to_wait.new.self i.2.1 c.in_ok-feed.ensures.on (rw c.in-None.is at c.in_ok-rest.ensures.on)),
    )
