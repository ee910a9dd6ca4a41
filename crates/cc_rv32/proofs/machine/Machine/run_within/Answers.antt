use Rattle.std.proofs.Common.{ap, subst, ◌≡◌, ◌+◌, ◌-◌, ◌∙◌, unwrap_or}
use Rattle.cc_rv32.specs.Machine.{machine_run}
use Rattle.cc_rv32.specs.Simulation.{Simulation, simulation_of, shown_run, in_words}
use Rattle.cc_rv32.proofs.After.{Went, after_more, after_outcome, went_in_words}
use Rattle.cc_rv32.proofs.Growing.{later}
use Rattle.cc_rv32.proofs.machine.Machine.run_within.Goals as goal

pub returns-clause-behavior : goal.returns-clause-behavior
returns-clause-behavior c = λ image input done a.
    let taken = c.args.steps - unwrap_or c.in-Ok.left 0 in
    let m = after_more image input done taken c.args.self.now (simulation_of c.run_within.new.simulator)
    (c.in-Ok.ensures.code ∙ ap (λ (s : Simulation). s.code) c.self.view_is)
    (subst (λ (s : Simulation). Went s.code taken s (simulation_of c.run_within.new.simulator)) c.self.view_is c.in-Ok.ensures.run) a in
    (m, after_outcome image input (done + taken) (simulation_of c.run_within.new.simulator) m)

pub returns-clause-run : goal.returns-clause-run
returns-clause-run c =
    let old = simulation_of c.self.inside.simulator in
    let new = simulation_of c.run_within.new.simulator in
    let taken = c.args.steps - unwrap_or c.in-Ok.left 0 in
    subst (λ (s : Simulation). shown_run new ≡ in_words (machine_run s.code taken (shown_run s))) c.self.view_is
    (went_in_words old.code taken old new c.self.invariant.words c.in-Ok.ensures.run)

pub returns-clause-last : goal.returns-clause-last
returns-clause-last c =
    later c.args.steps c.args.most c.in-Ok.left c.args.self.now (simulation_of c.run_within.new.simulator) c.in-Ok.ensures.full
    (λ image input done a. (returns-clause-behavior c image input done a).0)
