-- What is written for a run.
use Rattle.std.specs.Prelude.{ℕ, List, [], ◌++◌, Option, Some, None, codes}
use Rattle.std.specs.Fmt.{decimal}
use Rattle.cc_answers.specs.Text.{fault_line, line, machine_outcome_text, run_text, words_text}
use Rattle.cc_rv32.specs.declared.outcome.MachineOutcome.{MachineOutcome}
use Rattle.cc_runs.specs.declared.count.CountedRun.{CountedRun}

-- the line of a count, if the count was asked for
abbrev pub count_text : Option ℕ → List ℕ
count_text None = []
count_text (Some count) = line (codes "executed " ++ decimal count)

-- what `run` writes for the run, then the line of its count
abbrev pub counted_text : CountedRun → List ℕ
counted_text done = run_text done.run ++ count_text done.executed

-- the line for a fault, and an empty line
abbrev pub refusal_text : (number : ℕ) → List ℕ
refusal_text number = fault_line number [] ++ codes "\n"

-- ---- a run that goes on while its input comes

-- the words of a turn, each on a line of its own, and an empty line
abbrev pub turn_text : (words : List ℕ) → List ℕ
turn_text words = words_text words ++ codes "\n"

-- the words of the last turn, and how the run ended, or that it is going
abbrev pub last_text : (words : List ℕ) → MachineOutcome → List ℕ
last_text words outcome = words_text words ++ machine_outcome_text outcome
