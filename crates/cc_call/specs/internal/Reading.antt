-- A line that was read, or was not.
use Rattle.std.specs.Prelude.{◌≡◌, ◌⊎◌, ℕ, Bool, List, Option, Some, None}
use Rattle.std.specs.Io.KnownBytes.{Appends}
use Rattle.cc_rv32.specs.declared.image.Image.{Image}
use Rattle.cc_runs.specs.Written.{refusal_text}
use Rattle.cc_runs.specs.declared.reading.ReadLine.{ReadLine}
use Rattle.cc_runs.specs.declared.reading.ReadLine.TheVariants.{Whole, TooLong}
use Rattle.cc_call.specs.Call.{AnswersLine}
use Rattle.cc_call.specs.declared.lines.LineEnd.{LineEnd}
use Rattle.cc_call.specs.declared.lines.LineEnd.TheVariants as line
use Rattle.cc_call.specs.declared.lines.LinesEnd.{LinesEnd}
use Rattle.cc_call.specs.declared.lines.LinesEnd.TheVariants.{Answered, Refused, Unwritten}

-- a whole line was answered as `AnswersLine` says, and one that is too long with the line for 50
abbrev pub AnswersRead : Image → (counted : Bool) (steps : ℕ) (most : Option ℕ) → ReadLine → (bytes : List ℕ) (old new : Option (List ℕ)) → LineEnd → Type 0
AnswersRead image counted steps most Whole bytes old new end = AnswersLine image counted steps most bytes old new end
AnswersRead image counted steps most TooLong bytes old new end = (end ≡ line.BadLine) × Appends old new (refusal_text 50)

-- the line for 53 or for 40 was written, or it could not be written
abbrev pub IsToldUnread : (old new : Option (List ℕ)) → LinesEnd → Type 0
IsToldUnread old new Refused = Appends old new (refusal_text 53) ⊎ Appends old new (refusal_text 40)
IsToldUnread old new Unwritten = Unit {0}
IsToldUnread old new Answered = ⊥

-- how the lines end when one more is added; `None` if no other line may follow it
abbrev pub end_after : LinesEnd → LineEnd → Option LinesEnd
end_after end (line.Answered is_final) = Some end
end_after end line.BadLine = Some Refused
end_after end line.OutOfMemory = None
