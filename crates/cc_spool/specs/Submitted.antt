-- What became of a script that was left for a server, and how much of its answer was written.
use Rattle.std.specs.Prelude.{◌≡◌, ℕ, List, Option, Result, Ok, Err}
use Rattle.std.specs.Io.KnownBytes.{Appends}
use Rattle.cc_spool.specs.Parts.{Tells}
use Rattle.cc_spool.specs.declared.submission.Submission.{Submission}
use Rattle.cc_spool.specs.declared.submission.Submission.TheVariants.{Answered, CutShort, Lost, NotTaken, Unread, Unwritten}

-- the writer got exactly the bytes of an answer, which reports a fault exactly if `told` has a number
pub record IsAnswered (old new : Option (List ℕ)) (told : Option ℕ) : Type 0 where
  pub answer : List ℕ
  pub written : Appends old new answer
  pub tells : Tells answer told

-- The contents of the writer before and after. If there is no answer, it got nothing; if the answer was not read to its end, it
-- got the first bytes of the answer. If the answer could not be written, nothing is known about the writer.
abbrev pub HasWritten : (old new : Option (List ℕ)) → Submission → Type 0
HasWritten old new (Answered told) = IsAnswered old new told
HasWritten old new NotTaken = new ≡ old
HasWritten old new Unread = new ≡ old
HasWritten old new (Unwritten name) = Unit {0}
HasWritten old new (CutShort name why) = (begun : List ℕ) × Appends old new begun
HasWritten old new (Lost name why) = new ≡ old

-- `HasWritten`, if the script was left in the folder; if not, the writer got nothing
abbrev pub HasWrittenIfOk : {E : Type 0} → (old new : Option (List ℕ)) → Result Submission E → Type 0
HasWrittenIfOk old new (Ok submission) = HasWritten old new submission
HasWrittenIfOk old new (Err why) = new ≡ old
