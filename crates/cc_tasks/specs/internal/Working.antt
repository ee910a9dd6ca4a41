-- How far a task got.
use Rattle.std.specs.Prelude.{◌≡◌, ◌⊎◌, ℕ, Bool, true, false, List, Option, Result, Ok, Err}
use Rattle.std.specs.Io.KnownBytes.{Appends, Keeps}
use Rattle.cc_task.specs.declared.task.Task.{Task}
use Rattle.cc_tasks.specs.Answer.{Answers, IsRefused}
use Rattle.cc_tasks.specs.Written.{IsAnswered, IsToldFault, answer_status, answer_text, fault_text}
use Rattle.cc_tasks.specs.declared.answer.Answer.{Answer}
use Rattle.cc_tasks.specs.declared.explain.Matter.{Matter}
use Rattle.cc_tasks.specs.declared.explain.Matter.TheVariants.{Text, Wrong, Going, Unsure}
use Rattle.cc_tasks.specs.declared.fault.Fault.{Fault}
use Rattle.cc_tasks.specs.declared.fault.Fault.TheVariants.{Text as NoText, Meaning, Piece, Link, UnknownFunction, OutOfMemory, Read, Write}

-- the write succeeded, and the flush wrote nothing more; or one of the two failed (54)
abbrev pub Flushes : {T E U : Type 0} → Result T E → (old new : Option (List ℕ)) → Result U Fault → Type 0
Flushes (Ok done) old new (Ok flushed) = Keeps old new
Flushes (Err failed) old new (Ok flushed) = ⊥
Flushes write old new (Err fault) = fault ≡ Write

-- the line of this fault was written; or the line could not be written (54)
abbrev pub RefusesBy : (fault : Fault) (text : List ℕ) (old new : Option (List ℕ)) (told : Fault) → Type 0
RefusesBy fault text old new told = (told ≡ Write) ⊎ ((told ≡ fault) × Appends old new (fault_text text fault))

-- the text of an answer to the task for the text was written
pub record IsAnsweredFor (task : Task) (text : List ℕ) (old new : Option (List ℕ)) : Type 0 where
  pub answer : Answer
  pub answers : Answers task text answer
  pub written : Appends old new (answer_text answer)

-- the text has this fault, and the fault's line was written; or the line could not be written (54)
abbrev pub IsRefusedFor : Task → (text : List ℕ) (old new : Option (List ℕ)) → Fault → Type 0
IsRefusedFor task text old new fault = (fault ≡ Write) ⊎ (IsRefused task text fault × Appends old new (fault_text text fault))

-- why there is no answer: something could not be written (54), and nothing is known about what was written; or the line of
-- the fault was written
abbrev pub HasNoAnswer : Task → (input old new : Option (List ℕ)) → Fault → Type 0
HasNoAnswer task input old new fault = (fault ≡ Write) ⊎ IsToldFault task input old new fault

-- the status of an answer after which this is to be explained
abbrev pub matter_status : Matter → ℕ
matter_status Text = 0
matter_status (Wrong cause) = 0
matter_status (Going words is_final) = 0
matter_status Unsure = 1

-- the answer was written, or the fault's line
abbrev pub TellsOf : Task → (text : List ℕ) (old new : Option (List ℕ)) → Result Matter Fault → Type 0
TellsOf task text old new (Ok matter) = (it : IsAnsweredFor task text old new) × (matter_status matter ≡ answer_status it.answer)
TellsOf task text old new (Err fault) = IsRefusedFor task text old new fault

-- the task was done for a reader's text
abbrev pub IsDoneFor : Task → (input old new : Option (List ℕ)) → Result Matter Fault → Type 0
IsDoneFor task input old new (Ok matter) = (it : IsAnswered task input old new) × (matter_status matter ≡ answer_status it.answer)
IsDoneFor task input old new (Err fault) = HasNoAnswer task input old new fault

-- the status of the answer, or 1 for a fault
abbrev pub status_of : Result Matter Fault → ℕ
status_of (Ok matter) = matter_status matter
status_of (Err fault) = 1

-- whether a fault is reported by its line: all but 54
abbrev pub is_told : Fault → Bool
is_told (NoText f) = true
is_told (Meaning f) = true
is_told (Piece f) = true
is_told (Link f) = true
is_told UnknownFunction = true
is_told OutOfMemory = true
is_told Read = true
is_told Write = false

-- whether all that was to be written is written
abbrev pub written_of : Result Matter Fault → Bool
written_of (Ok matter) = true
written_of (Err fault) = is_told fault
