-- What `call` writes, and its status. Each holds if all could be written; if not, the status is 1.
use Rattle.std.specs.Prelude.{◌≡◌, ◌⊎◌, ℕ, Bool, true, false, IsTrue, List, [], Option, Result, Ok, Err}
use Rattle.std.specs.Io.KnownBytes.{Appends}
use Rattle.cc_rv32.specs.declared.image.Image.{Image}
use Rattle.cc_unit.specs.declared.unit.StoredUnit.{StoredUnit}
use Rattle.cc_answers.specs.Text.{fault_line}
use Rattle.cc_runs.specs.declared.count.CountedRun.{CountedRun}
use Rattle.cc_runs.specs.Live.{GoesLive}
use Rattle.cc_runs.specs.Within.{IsCountedWithin}
use Rattle.cc_runs.specs.Written.{counted_text}
use Rattle.cc_runs.specs.declared.live.LiveEnd.TheVariants as live
use Rattle.cc_tasks.specs.Part.{IsNoPartOn, part_fault_number}
use Rattle.cc_tasks.specs.declared.part.PartFault.{PartFault}
use Rattle.cc_tasks.specs.declared.part.PartFault.TheVariants.{OutOfMemory}
use Rattle.cc_call.specs.Call.{IsCallOn, IsUnitOn}
use Rattle.cc_call.specs.Lines.{CallsLines}
use Rattle.cc_call.specs.declared.lines.LinesEnd.TheVariants as lines

-- the run was written and the status is 0; or the line for the fault, and it is 1
abbrev pub IsAnswer : Result CountedRun PartFault → (old new : Option (List ℕ)) (status : ℕ) → Type 0
IsAnswer (Ok run) old new status = Appends old new (counted_text run) × (status ≡ 0)
IsAnswer (Err fault) old new status = Appends old new (fault_line (part_fault_number fault) []) × (status ≡ 1)

-- the run of the image was written; or the line for 40, since memory was refused
abbrev pub CallsImage : Image → (counted : Bool) (steps : ℕ) (most : Option ℕ) (words : List ℕ) (old new : Option (List ℕ)) (status : ℕ) → Type 0
CallsImage image counted steps most words old new status =
    ((run : CountedRun) × IsCountedWithin image counted steps most words run × IsAnswer (Ok run) old new status)
    ⊎ IsAnswer (Err OutOfMemory) old new status

-- the lines were answered: each with its run, and the status is 0; or not each, and it is 1
abbrev pub AnswersTheLines : Image → (counted : Bool) (steps : ℕ) (most : Option ℕ) (input : List ℕ) (old new : Option (List ℕ)) (status : ℕ) → Type 0
AnswersTheLines image counted steps most input old new status =
    (CallsLines image counted steps most input old new lines.Answered × (status ≡ 0))
    ⊎ (CallsLines image counted steps most input old new lines.Refused × (status ≡ 1))

-- the turns of a run were written: the status is 0 if it came to its end, or the lines did, and each line was a list of words; else it is 1
abbrev pub AnswersLive : Image → (steps : ℕ) (reads_zeros : Bool) (input : List ℕ) (old new : Option (List ℕ)) (status : ℕ) → Type 0
AnswersLive image steps reads_zeros input old new status =
    (((is_final : Bool) × GoesLive image steps reads_zeros input old new (live.Ended is_final false)) × (status ≡ 0))
    ⊎ ((((is_final : Bool) × GoesLive image steps reads_zeros input old new (live.Ended is_final true)) × (status ≡ 1))
    ⊎ (GoesLive image steps reads_zeros input old new live.Refused × (status ≡ 1)))

-- ---- over a disk

-- a unit; if the disk is honest, it is the one under the name
abbrev pub OfUnitOn : (honest : Bool) (seen name : List ℕ) → (StoredUnit → Type 0) → Type 0
OfUnitOn honest seen name P = (unit : StoredUnit) × (IsTrue honest → IsUnitOn seen name unit) × P unit

-- the unit is not run, and the line of that fault was written
abbrev pub RefusesOn : (honest : Bool) (seen : List ℕ) (before : ℕ) (name : List ℕ) (old new : Option (List ℕ)) (status : ℕ) → Type 0
RefusesOn honest seen before name old new status =
    (fault : PartFault) × ((after : ℕ) × IsNoPartOn honest seen before after name fault) × IsAnswer (Err fault) old new status

-- the run of the unit under the name was written, or the line of the fault
abbrev pub CallsOn : (honest : Bool) (seen : List ℕ) (before : ℕ) (name : List ℕ) (counted : Bool) (steps : ℕ) (most : Option ℕ) (words : List ℕ) (old new : Option (List ℕ)) (status : ℕ) → Type 0
CallsOn honest seen before name counted steps most words old new status =
    ((run : CountedRun) × IsCallOn honest seen name counted steps most words run × IsAnswer (Ok run) old new status)
    ⊎ RefusesOn honest seen before name old new status

-- the same once for each line
abbrev pub CallsLinesOn : (honest : Bool) (seen : List ℕ) (before : ℕ) (name : List ℕ) (counted : Bool) (steps : ℕ) (most : Option ℕ) (input : List ℕ) (old new : Option (List ℕ)) (status : ℕ) → Type 0
CallsLinesOn honest seen before name counted steps most input old new status =
    OfUnitOn honest seen name (λ unit. AnswersTheLines unit.image counted steps most input old new status)
    ⊎ RefusesOn honest seen before name old new status

-- the same while the input comes
abbrev pub CallsLiveOn : (honest : Bool) (seen : List ℕ) (before : ℕ) (name : List ℕ) (steps : ℕ) (reads_zeros : Bool) (input : List ℕ) (old new : Option (List ℕ)) (status : ℕ) → Type 0
CallsLiveOn honest seen before name steps reads_zeros input old new status =
    OfUnitOn honest seen name (λ unit. AnswersLive unit.image steps reads_zeros input old new status)
    ⊎ RefusesOn honest seen before name old new status
