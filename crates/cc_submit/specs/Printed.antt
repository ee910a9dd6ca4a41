-- What is printed for a script that was sent, and the status.
use Rattle.std.specs.Prelude.{◌≡◌, ◌⊎◌, ◌||◌, ℕ, Bool, true, false, IsTrue, List, [], ◌∷◌, ◌++◌, Option, Some, None, codes}
use Rattle.std.specs.Io.KnownBytes.{Appends}
use Rattle.cc_script.specs.Line.{ScriptRequest, Add, Replace, Withdraw, Names, Run, Compact, Audit, Image, Source, AuditOne, Update, Call, Space, asked_of}
use Rattle.cc_script.specs.declared.command.Dialect.TheVariants.{Served}
use Rattle.cc_spool.specs.Answer.{framed}
use Rattle.cc_spool.specs.Parts.{TellsFault}
use Rattle.cc_spool.specs.declared.submission.Submission.{Submission}
use Rattle.cc_spool.specs.declared.submission.Submission.TheVariants.{Answered, CutShort, Lost, NotTaken, Unread, Unwritten}
use Rattle.cc_submit.specs.declared.submitting.Ended.{Ended}

-- ---- what is sent

-- the line has a source or input words after it
abbrev pub has_bytes : Option ScriptRequest → Bool
has_bytes None = false
has_bytes (Some (Add name length)) = true
has_bytes (Some (Replace name length)) = true
has_bytes (Some (Withdraw name)) = false
has_bytes (Some Names) = false
has_bytes (Some (Run name steps)) = false
has_bytes (Some Compact) = false
has_bytes (Some Audit) = false
has_bytes (Some (Image name)) = false
has_bytes (Some (Source name)) = false
has_bytes (Some (AuditOne name)) = false
has_bytes (Some (Update name expected length)) = false
has_bytes (Some (Call name steps length)) = true
has_bytes (Some Space) = false

-- the line has two sources after it
abbrev pub has_two_sources : Option ScriptRequest → Bool
has_two_sources (Some (Update name expected length)) = true
has_two_sources asked = false

-- the line is a command as it is
abbrev pub is_whole : Option ScriptRequest → Bool
is_whole None = false
is_whole (Some (Add name length)) = false
is_whole (Some (Replace name length)) = false
is_whole (Some (Withdraw name)) = true
is_whole (Some Names) = true
is_whole (Some (Run name steps)) = true
is_whole (Some Compact) = true
is_whole (Some Audit) = true
is_whole (Some (Image name)) = true
is_whole (Some (Source name)) = true
is_whole (Some (AuditOne name)) = true
is_whole (Some (Update name expected length)) = false
is_whole (Some (Call name steps length)) = false
is_whole (Some Space) = true

-- the answer to the line is a source
abbrev pub asks_source : Option ScriptRequest → Bool
asks_source (Some (Source name)) = true
asks_source asked = false

-- A line is a command if it is one as it is, or once the number of bytes that follow it, or two such numbers, are added. None is
-- a script from standard input.
abbrev pub is_command : (line : Option (List ℕ)) → Bool
is_command None = true
is_command (Some line) =
    is_whole (asked_of Served line) || (has_bytes (asked_of Served (line ++ codes " 0")) || has_two_sources (asked_of Served (line ++ codes " 0 0")))

-- a line is sent, not a script from standard input, and the line asks for a source
abbrev pub fetches : (line : Option (List ℕ)) → Bool
fetches None = false
fetches (Some line) = asks_source (asked_of Served line)

-- ---- what is printed

-- these bytes are printed, if they could be written
abbrev pub Says : (is_written : Bool) (old new : Option (List ℕ)) (text : List ℕ) → Type 0
Says is_written old new text = IsTrue is_written → Appends old new text

-- these bytes are printed, and then the line for a system call that was refused: 40 OutOfMemory, or 56 FolderFault
abbrev pub SaysRefused : (is_written : Bool) (old new : Option (List ℕ)) (begun : List ℕ) → Type 0
SaysRefused is_written old new begun = IsTrue is_written → Appends old new (begun ++ codes "fault 40 OutOfMemory\n") ⊎ Appends old new (begun ++ codes "fault 56 FolderFault\n")

-- the source is printed, and the status is 0; or it could not be written, and the status is 1
abbrev pub PrintsSource : (source : List ℕ) (old new : Option (List ℕ)) (is_written : Bool) (status : ℕ) → Type 0
PrintsSource source old new true status = (status ≡ 0) × Appends old new source
PrintsSource source old new false status = status ≡ 1

-- An answer that reports no fault is printed whole, and the status is 0. If it is to be a source, only the source is printed; or
-- nothing is, and the status is 1.
abbrev pub PrintsWell : (fetches : Bool) (answer : List ℕ) (old new : Option (List ℕ)) (is_written : Bool) (status : ℕ) → Type 0
PrintsWell false answer old new is_written status = (status ≡ 0) × Appends old new answer
PrintsWell true answer old new is_written status =
    ((source : List ℕ) × (answer ≡ framed source) × PrintsSource source old new is_written status) ⊎ ((status ≡ 1) × (new ≡ old))

-- An answer that reports a fault is printed whole, and the status is 1. If it was to be a source, nothing is stated about what is printed.
abbrev pub PrintsFault : (fetches : Bool) (answer : List ℕ) (old new : Option (List ℕ)) (status : ℕ) → Type 0
PrintsFault false answer old new status = (status ≡ 1) × Appends old new answer
PrintsFault true answer old new status = status ≡ 1

-- What is printed, depending on what became of the script. If no answer came, the line for a fault is printed; if an answer could
-- not be read to its end, that line follows what was printed of the answer, and a newline.
abbrev pub Prints : (fetches : Bool) → Option Submission → (old new : Option (List ℕ)) (is_written : Bool) (status : ℕ) → Type 0
Prints fetches (Some (Answered None)) old new is_written status = (answer : List ℕ) × (¬ TellsFault answer) × PrintsWell fetches answer old new is_written status
Prints fetches (Some (Answered (Some number))) old new is_written status = (answer : List ℕ) × TellsFault answer × PrintsFault fetches answer old new status
Prints fetches (Some NotTaken) old new is_written status = (status ≡ 1) × Says is_written old new (codes "fault 58 NotTaken\n")
Prints fetches (Some Unread) old new is_written status = (status ≡ 1) × Says is_written old new (codes "fault 53 ReadFault\n")
Prints fetches (Some (Unwritten name)) old new is_written status = (status ≡ 1) × (is_written ≡ false)
Prints fetches (Some (CutShort name why)) old new is_written status = (status ≡ 1) × ((begun : List ℕ) × SaysRefused is_written old new (begun ++ 10 ∷ []))
Prints fetches (Some (Lost name why)) old new is_written status = (status ≡ 1) × SaysRefused is_written old new []
Prints fetches None old new is_written status = (status ≡ 1) × SaysRefused is_written old new []

-- for a line that is not a command the status is 2, and nothing is sent or printed
abbrev pub EndsAs : (is_command fetches : Bool) (old new : Option (List ℕ)) → Ended → Type 0
EndsAs false fetches old new ended = (ended.status ≡ 2) × (ended.came ≡ None) × (new ≡ old)
EndsAs true fetches old new ended = Prints fetches ended.came old new ended.is_written ended.status

abbrev pub Submits : (line : Option (List ℕ)) (old new : Option (List ℕ)) → Ended → Type 0
Submits line old new ended = EndsAs (is_command line) (fetches line) old new ended
