-- Without a bound on words the greatest number of instructions is the bound on these.
use Rattle.std.proofs.Common.{arith}
use Rattle.cc_runs.proofs.Counting.{without_bound}
use Rattle.cc_call.proofs.calling.runs_without_bound.Goals as goal

pub returns-clause-all : goal.returns-clause-all
returns-clause-all c = without_bound

pub returns-clause-any : goal.returns-clause-any
returns-clause-any c = λ image counted steps words run is.
    (steps, record { within = omega arith; few = tt; over = λ k more less. absurd (omega (arith, more, less)) }, is)
