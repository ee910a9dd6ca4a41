use Rattle.std.specs.Prelude.{◌+◌, ◌*◌}
use Rattle.tests_passes.proofs.tests.validate.graph.+graphs.Given as goal

-- in the run of a node, a call is run with one less call left to open
abbrev pub decreases-run_graph : goal.decreases-run_graph
decreases-run_graph l = 2 * l.open + 1

abbrev pub decreases-step : goal.decreases-step
decreases-step l = 2 * l.open
