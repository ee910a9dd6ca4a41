-- The answer to a call of a library's unit.
use Rattle.std.specs.Prelude.{◌≡◌, ℕ, Bool, IsTrue, List, ◌++◌, Option, Some, None, codes}
use Rattle.std.specs.Io.KnownBytes.{Appends}
use Rattle.cc_rv32.specs.declared.image.Image.{Image}
use Rattle.cc_unit.specs.declared.unit.StoredUnit.{StoredUnit}
use Rattle.cc_library.specs.Apply.{Units}
use Rattle.cc_library.specs.Recovered.{Recovers}
use Rattle.cc_tasks.specs.Part.{IsFound}
use Rattle.cc_runs.specs.declared.count.CountedRun.{CountedRun}
use Rattle.cc_runs.specs.Within.{IsCountedWithin}
use Rattle.cc_runs.specs.Words.{input_in}
use Rattle.cc_runs.specs.Written.{counted_text, refusal_text}
use Rattle.cc_call.specs.declared.lines.LineEnd.{LineEnd}
use Rattle.cc_call.specs.declared.lines.LineEnd.TheVariants.{Answered, BadLine, OutOfMemory}

-- the disk's bytes recover to a map that has this unit under the name
abbrev pub IsUnitOn : (seen name : List ℕ) → StoredUnit → Type 0
IsUnitOn seen name unit = (units : Units) × Recovers seen units × IsFound units name unit

-- The run is what the image of a unit does on the words within the bounds on its instructions and its words, with a count exactly if
-- `counted`. If the disk is honest, the unit is the one under the name.
abbrev pub IsCallOn : (honest : Bool) (seen name : List ℕ) (counted : Bool) (steps : ℕ) (most : Option ℕ) (words : List ℕ) → CountedRun → Type 0
IsCallOn honest seen name counted steps most words run =
    (unit : StoredUnit) × (IsTrue honest → IsUnitOn seen name unit) × IsCountedWithin unit.image counted steps most words run

-- ---- lines

-- the answer to a line: what `run` writes, and an empty line
abbrev pub answer_text : CountedRun → List ℕ
answer_text run = counted_text run ++ codes "\n"

-- the run of the image on the words of a line was written, and whether it has stopped in place is answered; or the line for 50, exactly
-- if the line is not a list of words; or the line for 40, since memory was refused
abbrev pub AnswersLine : Image → (counted : Bool) (steps : ℕ) (most : Option ℕ) (line : List ℕ) (old new : Option (List ℕ)) → LineEnd → Type 0
AnswersLine image counted steps most line old new (Answered is_final) =
    (words : List ℕ) × (input_in line ≡ Some words)
    × ((run : CountedRun) × IsCountedWithin image counted steps most words run × Appends old new (answer_text run) × (is_final ≡ run.is_final))
AnswersLine image counted steps most line old new BadLine = (input_in line ≡ None) × Appends old new (refusal_text 50)
AnswersLine image counted steps most line old new OutOfMemory = Appends old new (refusal_text 40)
