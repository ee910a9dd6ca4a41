-- What becomes of a text whose run goes on while its input comes.
use Rattle.std.specs.Prelude.{◌≡◌, ◌⊎◌, ℕ, Bool, true, false, List, Option, IfSome}
use Rattle.std.specs.Io.KnownBytes.{Appends}
use Rattle.cc_rv32.specs.declared.image.Image.{Image}
use Rattle.cc_link.specs.Agree.{Agree, AgreeIn}
use Rattle.cc_runs.specs.Live.{GoesLive}
use Rattle.cc_runs.specs.declared.live.LiveEnd.{LiveEnd}
use Rattle.cc_runs.specs.declared.live.LiveEnd.TheVariants.{Ended, Refused, Unwritten}
use Rattle.cc_task.specs.declared.task.Kind.{Kind}
use Rattle.cc_tasks.specs.Answer.{HasNoImage, mode_of}
use Rattle.cc_tasks.specs.Written.{fault_text}
use Rattle.cc_tasks.specs.declared.fault.Fault.{Fault}

-- the status of a run that has ended so: 1 if a line was no list of words, and if the run was refused
abbrev pub live_status : LiveEnd → ℕ
live_status (Ended is_final false) = 0
live_status (Ended is_final true) = 1
live_status Refused = 1
live_status Unwritten = 1

-- whether all answers are written
abbrev pub live_written : LiveEnd → Bool
live_written (Ended is_final has_bad_line) = true
live_written Refused = true
live_written Unwritten = false

-- the line for this fault was written; or it could not be written (54). The status is 1
abbrev pub IsTurnedDown : Fault → (text : List ℕ) (old new : Option (List ℕ)) (status : ℕ) (written : Bool) → Type 0
IsTurnedDown fault text old new status true = (status ≡ 1) × Appends old new (fault_text text fault)
IsTurnedDown fault text old new status false = status ≡ 1

-- the text has no image of this kind, and the line for its fault was written; or an image of the text, which follows its program in the mode,
-- has run while its input came
abbrev pub IsRunLive : Kind → (steps : ℕ) (reads_zeros : Bool) (text : List ℕ) (input old new : Option (List ℕ)) (status : ℕ) (written : Bool) → Type 0
IsRunLive kind steps reads_zeros text input old new status written =
    ((fault : Fault) × HasNoImage (mode_of kind) text fault × IsTurnedDown fault text old new status written)
    ⊎ ((image : Image) × Agree text image × AgreeIn (mode_of kind) text image
    × ((end : LiveEnd) × (status ≡ live_status end) × (written ≡ live_written end) × IfSome input (λ bytes. GoesLive image steps reads_zeros bytes old new end)))
