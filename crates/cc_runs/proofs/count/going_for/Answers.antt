use Rattle.std.proofs.Common.{◌≡◌, ◌+◌, ◌-◌, ℕ, sym, ◌∙◌, subst, arith, rules}
use Rattle.cc_rv32.specs.declared.outcome.MachineOutcome.TheVariants.{Going}
use Rattle.cc_rv32.specs.Simulation.{IsAfter}
use Rattle.cc_rv32.proofs.After.{after_outcome}
use Rattle.cc_runs.proofs.Counting.{begins}
use Rattle.cc_runs.proofs.count.going_for.Goals as goal

pub loop-left-init : goal.loop-left-init
loop-left-init c = (0, omega arith, c.in-Ok.ensures.start, begins c.args.image.now c.args.words.now)

pub loop-left-preserved : goal.loop-left-preserved
loop-left-preserved c =
    let image = c.args.image.now in
    let words = c.args.words.now in
    let i = c.loop-left.invariant in
    let none : c.in_ok-over.over ≡ 0 = omega arith in
    let all : i.0 + (65536 - c.in_ok-over.over) ≡ i.0 + 65536 = omega arith in
    let there = subst (λ (n : ℕ). IsAfter image words n c.go_on.new.machine) all (c.in_ok-over.ensures.after image words i.0 i.2) in
    let going : c.go_on.new.machine.outcome ≡ Going = search rules in
    (i.0 + 65536, omega arith, there, sym (after_outcome image words (i.0 + 65536) c.go_on.new.machine there) ∙ going)
