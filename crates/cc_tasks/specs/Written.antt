-- What the program writes for a text, byte for byte, and the status with which it ends.
use Rattle.std.specs.Prelude.{◌≡◌, ◌⊎◌, ℕ, Bool, true, false, List, [], ◌∷◌, ◌++◌, Option, Result, Ok, Err, Vec, codes}
use Rattle.std.specs.declared.alloc.Global.{Global}
use Rattle.std.specs.Fmt.{decimal}
use Rattle.std.specs.Io.KnownBytes.{Appends}
use Rattle.cc_meaning.specs.declared.outcome.Stop.{Stop}
use Rattle.cc_meaning.specs.declared.outcome.Stop.TheVariants.{Going, Ended, Wrong}
use Rattle.cc_meaning.specs.declared.outcome.Outcome.{Outcome}
use Rattle.cc_rv32.specs.Listing.{signed_text}
use Rattle.cc_link.specs.Text.{text_fault_place}
use Rattle.cc_sources.specs.Reading.{IsTextOf}
use Rattle.cc_answers.specs.Text.{line, words_text, machine_outcome_text, fault_line, place_text, function_text}
use Rattle.cc_findings.specs.Written.{cause_name, judged_text, measure_text}
use Rattle.cc_findings.specs.declared.judging.Unsure.{Unsure}
use Rattle.cc_runs.specs.Written.{counted_text}
use Rattle.cc_steps.specs.Observed.{exchanges_text}
use Rattle.cc_steps.specs.declared.count.CountedOutcome.{CountedOutcome}
use Rattle.cc_steps.specs.declared.observe.ObservedOutcome.{ObservedOutcome}
use Rattle.cc_steps.specs.declared.observe.ObservedRun.{ObservedRun}
use Rattle.cc_task.specs.declared.task.Task.{Task}
use Rattle.cc_tasks.specs.Answer.{Answers, IsRefused}
use Rattle.cc_tasks.specs.Fault.{fault_number}
use Rattle.cc_tasks.specs.Part.{part_fault_number}
use Rattle.cc_tasks.specs.declared.answer.Answer.{Answer}
use Rattle.cc_tasks.specs.declared.answer.Answer.TheVariants.{Accepted, Ran, Executed, RanCounted, RanObserved, ExecutedObserved, Listed, Image, Sized, SizedImage, Judged}
use Rattle.cc_tasks.specs.declared.fault.Fault.{Fault}
use Rattle.cc_tasks.specs.declared.part.PartFault.{PartFault}
use Rattle.cc_tasks.specs.declared.fault.Fault.TheVariants.{Text, Meaning, Piece, Link, UnknownFunction, OutOfMemory, Read, Write}

-- ---- the text of an answer

-- how a program stops
abbrev pub stop_text : Stop → List ℕ
stop_text Going = line (codes "going")
stop_text (Ended w) = line (codes "ended " ++ signed_text w)
stop_text (Wrong c) = line (codes "wrong " ++ cause_name c)

-- the words that a program writes, and how it stops
abbrev pub outcome_text : Outcome → List ℕ
outcome_text o = words_text o.output ++ stop_text o.stop

-- the line for a number of steps
abbrev pub steps_text : ℕ → List ℕ
steps_text steps = line (codes "steps " ++ decimal steps)

abbrev pub counted_outcome_text : CountedOutcome → List ℕ
counted_outcome_text done = outcome_text done.outcome ++ steps_text done.steps

-- the words that a program reads and writes, and how it stops
abbrev pub observed_outcome_text : ObservedOutcome → List ℕ
observed_outcome_text done = exchanges_text done.exchanges.items ++ stop_text done.stop

-- the words that an image reads and writes, and how its run ended
abbrev pub observed_run_text : ObservedRun → List ℕ
observed_run_text done = exchanges_text done.exchanges.items ++ machine_outcome_text done.outcome

abbrev pub answer_text : Answer → List ℕ
answer_text Accepted = line (codes "ok")
answer_text (Ran outcome) = outcome_text outcome
answer_text (Executed run) = counted_text run
answer_text (RanCounted done) = counted_outcome_text done
answer_text (RanObserved done) = observed_outcome_text done
answer_text (ExecutedObserved done) = observed_run_text done
answer_text (Listed lines) = lines.items
answer_text (Image lines) = lines.items
answer_text (Sized it) = measure_text it
answer_text (SizedImage lines it) = lines.items ++ measure_text it
answer_text (Judged lines) = judged_text lines.items

-- the status of an answer: 1 if something may go wrong
abbrev pub judged_status : List Unsure → ℕ
judged_status [] = 0
judged_status (it ∷ rest) = 1

abbrev pub answer_status : Answer → ℕ
answer_status (Judged lines) = judged_status lines.items
answer_status answer = 0

-- ---- the line of a fault

-- the place of a fault in the text, or its function
abbrev pub where_text : (text : List ℕ) → Fault → List ℕ
where_text text (Text f) = place_text (text_fault_place f)
where_text text (Piece f) = function_text text f
where_text text fault = []

abbrev pub fault_text : (text : List ℕ) → Fault → List ℕ
fault_text text fault = fault_line (fault_number fault) (where_text text fault)

-- ---- what was taken out of a library

-- the bytes of the part, or the line that says why there is none
abbrev pub found_text : Result (Vec ℕ Global) PartFault → List ℕ
found_text (Ok bytes) = bytes.items
found_text (Err fault) = fault_line (part_fault_number fault) []

-- ---- from what is read to what is written

-- this text and nothing else was appended to what was written before; or the text could not be written (54), and nothing is known
-- about what was written
abbrev pub Writes : {T : Type 0} → (old new : Option (List ℕ)) (text : List ℕ) → Result T Fault → Type 0
Writes old new text (Ok done) = Appends old new text
Writes old new text (Err fault) = fault ≡ Write

-- the text of an answer to the task for the reader's text was written
pub record IsAnswered (task : Task) (input old new : Option (List ℕ)) : Type 0 where
  pub text : List ℕ
  pub read : IsTextOf input text
  pub answer : Answer
  pub answers : Answers task text answer
  pub written : Appends old new (answer_text answer)

-- the reader's text has this fault at the task, and the fault's line was written
pub record IsTurnedDown (task : Task) (input old new : Option (List ℕ)) (fault : Fault) : Type 0 where
  pub text : List ℕ
  pub read : IsTextOf input text
  pub refused : IsRefused task text fault
  pub written : Appends old new (fault_text text fault)

-- the text could not be read, and the line of 53 was written; or the text has this fault, and the fault's line was written
abbrev pub IsToldFault : Task → (input old new : Option (List ℕ)) → Fault → Type 0
IsToldFault task input old new fault = ((fault ≡ Read) × Appends old new (fault_text [] Read)) ⊎ IsTurnedDown task input old new fault

-- A task was done with this status. If all that was to be written is written, the status is that of the answer, or 1 for a fault.
-- If something could not be written (54), the status is 1, and nothing is known about what was written.
abbrev pub IsPerformed : Task → (input old new : Option (List ℕ)) → (status : ℕ) (written : Bool) → Type 0
IsPerformed task input old new status true =
    ((it : IsAnswered task input old new) × (status ≡ answer_status it.answer)) ⊎ ((status ≡ 1) × ((fault : Fault) × IsToldFault task input old new fault))
IsPerformed task input old new status false = status ≡ 1
