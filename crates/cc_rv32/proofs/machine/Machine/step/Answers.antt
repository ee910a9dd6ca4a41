use Rattle.std.proofs.lemmas.Result.{on_err_weaker}
use Rattle.std.proofs.Common.{ap, ◌∙◌}
use Rattle.cc_rv32.specs.Machine.{Run}
use Rattle.cc_rv32.specs.Simulation.{in_words}
use Rattle.cc_rv32.proofs.Chains.{below_one}
use Rattle.cc_rv32.proofs.machine.Machine.step.Goals as goal

pub returns-clause-refused : goal.returns-clause-refused
returns-clause-refused c = on_err_weaker c.run.result (λ h. (h.2 ∙ ap (λ (r : Run). in_words r) (below_one _ h.0 _ h.1) ∙ c.run.ensures.words, h.3)) c.run.ensures.refused
