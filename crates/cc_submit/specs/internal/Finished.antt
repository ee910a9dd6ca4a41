-- What is done with a submission whose answer, if it came, was written.
use Rattle.std.specs.Prelude.{◌≡◌, ℕ, Bool, true, false, List, [], ◌∷◌, Option, Some, None, Result, Ok, Err, codes}
use Rattle.cc_spool.specs.declared.submission.Submission.{Submission}
use Rattle.cc_spool.specs.declared.submission.Submission.TheVariants.{Answered, CutShort, Lost, NotTaken, Unread, Unwritten}
use Rattle.cc_submit.specs.Printed.{PrintsWell, Says, SaysRefused}
use Rattle.cc_submit.specs.declared.submitting.Ended.{Ended}

-- the submission, if the script was left in the folder
abbrev pub came_of : {E : Type 0} → Result Submission E → Option Submission
came_of (Ok done) = Some done
came_of (Err why) = None

-- the status: 0 exactly if an answer came and reports no fault
abbrev pub status_of : Option Submission → ℕ
status_of (Some (Answered None)) = 0
status_of (Some (Answered (Some number))) = 1
status_of (Some NotTaken) = 1
status_of (Some Unread) = 1
status_of (Some (Unwritten name)) = 1
status_of (Some (CutShort name why)) = 1
status_of (Some (Lost name why)) = 1
status_of None = 1

-- After an answer nothing more is printed. After any other end the line for a fault is printed, on a line of its own.
abbrev pub Ends : Option Submission → (old new : Option (List ℕ)) (is_written : Bool) → Type 0
Ends (Some (Answered told)) old new is_written = new ≡ old
Ends (Some NotTaken) old new is_written = Says is_written old new (codes "fault 58 NotTaken\n")
Ends (Some Unread) old new is_written = Says is_written old new (codes "fault 53 ReadFault\n")
Ends (Some (Unwritten name)) old new is_written = is_written ≡ false
Ends (Some (CutShort name why)) old new is_written = SaysRefused is_written old new (10 ∷ [])
Ends (Some (Lost name why)) old new is_written = SaysRefused is_written old new []
Ends None old new is_written = SaysRefused is_written old new []

-- the submission is handed back, with its status
pub record Finishes (came : Option Submission) (old new : Option (List ℕ)) (ended : Ended) : Type 0 where
  pub came_is : ended.came ≡ came
  pub status_is : ended.status ≡ status_of came
  pub ends : Ends came old new ended.is_written

-- how a command ends if its answer was to be a source and reports no fault
pub record FinishesWell (answer : List ℕ) (old new : Option (List ℕ)) (ended : Ended) : Type 0 where
  pub came_is : ended.came ≡ Some (Answered None)
  pub prints : PrintsWell true answer old new ended.is_written ended.status

-- how a command ends if its answer reports a fault
pub record FinishesFault (number : ℕ) (ended : Ended) : Type 0 where
  pub came_is : ended.came ≡ Some (Answered (Some number))
  pub status_is : ended.status ≡ 1

-- How a command ends if its answer was to be a source. The source is printed whole or not at all, so an answer that was cut short is lost.
abbrev pub FinishesSource : (answer : List ℕ) → Option Submission → (old new : Option (List ℕ)) → Ended → Type 0
FinishesSource answer (Some (Answered None)) old new ended = FinishesWell answer old new ended
FinishesSource answer (Some (Answered (Some number))) old new ended = FinishesFault number ended
FinishesSource answer (Some NotTaken) old new ended = Finishes (Some NotTaken) old new ended
FinishesSource answer (Some Unread) old new ended = Finishes (Some Unread) old new ended
FinishesSource answer (Some (Unwritten name)) old new ended = Finishes (Some (Unwritten name)) old new ended
FinishesSource answer (Some (CutShort name why)) old new ended = Finishes (Some (Lost name why)) old new ended
FinishesSource answer (Some (Lost name why)) old new ended = Finishes (Some (Lost name why)) old new ended
FinishesSource answer None old new ended = Finishes None old new ended
