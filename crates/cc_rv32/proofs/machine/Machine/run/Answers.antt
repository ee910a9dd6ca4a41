use Rattle.std.proofs.Common.{ap, subst, ◌≡◌, ◌+◌, ◌∙◌}
use Rattle.cc_rv32.specs.Machine.{machine_run}
use Rattle.cc_rv32.specs.Simulation.{Simulation, simulation_of, run_with, shown_run, in_words}
use Rattle.cc_rv32.proofs.After.{Went, after_more, after_outcome, went_in_words}
use Rattle.cc_rv32.proofs.machine.Machine.run.Goals as goal

pub returns-clause-behavior : goal.returns-clause-behavior
returns-clause-behavior c = λ image input done a.
    let m = after_more image input done c.args.steps c.args.self.now (simulation_of c.run_for.new.simulator)
    (c.in-Ok.ensures.code ∙ ap (λ (s : Simulation). s.code) c.self.view_is)
    (subst (λ (s : Simulation). Went s.code c.args.steps s (simulation_of c.run_for.new.simulator)) c.self.view_is c.in-Ok.ensures.run) a in
    (m, after_outcome image input (done + c.args.steps) (simulation_of c.run_for.new.simulator) m)

pub returns-clause-run : goal.returns-clause-run
returns-clause-run c =
    let old = simulation_of c.self.inside.simulator in
    let new = simulation_of c.run_for.new.simulator in
    subst (λ (s : Simulation). shown_run new ≡ in_words (machine_run s.code c.args.steps (shown_run s))) c.self.view_is
    (went_in_words old.code c.args.steps old new c.self.invariant.words c.in-Ok.ensures.run)

pub returns-clause-words : goal.returns-clause-words
returns-clause-words c =
    subst (λ (s : Simulation). in_words (shown_run s) ≡ shown_run s) c.self.view_is (ap (λ o. run_with o (simulation_of c.self.inside.simulator)) c.self.invariant.words)
