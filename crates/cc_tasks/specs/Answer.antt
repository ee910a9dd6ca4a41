-- What the program answers for a text.
use Rattle.std.specs.Prelude.{ℕ, ◌≡◌, true, false, List, [], Some}
use Rattle.cc_ast.specs.Tree.{Source}
use Rattle.cc_c_semantics.specs.Meaning.{source_behavior, observed_behavior}
use Rattle.cc_c_semantics.specs.declared.mode.Mode.{Mode}
use Rattle.cc_c_semantics.specs.declared.mode.Mode.TheVariants as mode
use Rattle.cc_meaning.specs.Erase.{outcome_tree, stop_tree}
use Rattle.cc_meaning.specs.Within.{within_words}
use Rattle.cc_rv32.specs.declared.image.Image.{Image}
use Rattle.cc_rv32.specs.Listing.{listing}
use Rattle.cc_rv32.specs.Machine.{observed_machine}
use Rattle.cc_hex.specs.Contents.{Holds, Says}
use Rattle.cc_hex.specs.Layout.{image_text}
use Rattle.cc_link.specs.Agree.{Agree, AgreeIn}
use Rattle.cc_link.specs.Compile.{IsBuildRefusalIn}
use Rattle.cc_link.specs.Text.{IsProgramText, IsTextRefusal}
use Rattle.cc_link.specs.declared.build_fault.BuildFault.TheVariants as build
use Rattle.cc_findings.specs.Measured.{Measures}
use Rattle.cc_runs.specs.Count.{IsCounted}
use Rattle.cc_runs.specs.Within.{IsCountedWithin}
use Rattle.cc_safe.specs.Safe.{IsSafe}
use Rattle.cc_steps.specs.Count.{IsStepCount}
use Rattle.cc_steps.specs.Observed.{IsExchanged}
use Rattle.cc_task.specs.declared.task.Kind.{Kind}
use Rattle.cc_task.specs.declared.task.Kind.TheVariants.{Plain, Checked}
use Rattle.cc_task.specs.declared.task.Task.{Task}
use Rattle.cc_task.specs.declared.task.Task.TheVariants.{Check, Interpret, Run, InterpretCounted, RunCounted, InterpretObserved, RunObserved, InterpretWithin, RunWithin, Asm, Image as ImageTask, Size, SizedImage as SizedImageTask, Safe}
use Rattle.cc_tasks.specs.declared.answer.Answer.{Answer}
use Rattle.cc_tasks.specs.declared.answer.Answer.TheVariants.{Accepted, Ran, Executed, RanCounted, RanObserved, ExecutedObserved, Listed, Image as InHex, Sized as Measured, SizedImage, Judged}
use Rattle.cc_tasks.specs.declared.fault.Fault.{Fault}
use Rattle.cc_tasks.specs.declared.fault.Fault.TheVariants.{Text, Meaning, Piece, Link, UnknownFunction, OutOfMemory, Read, Write}

-- the program of a text
pub record ProgramOf (text : List ℕ) : Type 0 where
  pub program : Source
  pub whose : program.text ≡ text
  pub is : IsProgramText text program.externals

-- what `check` answers: that the text is a program
abbrev pub IsAccepted : (text : List ℕ) → Answer → Type 0
IsAccepted text Accepted = ProgramOf text
IsAccepted text answer = ⊥

-- what `interpret` answers: what the program does on the input words within the steps
abbrev pub IsRan : (steps : ℕ) → (words text : List ℕ) → Answer → Type 0
IsRan steps words text (Ran o) = (p : ProgramOf text) × (outcome_tree o ≡ source_behavior p.program words steps)
IsRan steps words text answer = ⊥

-- the mode of an image
abbrev pub mode_of : Kind → Mode
mode_of Plain = mode.Plain
mode_of Checked = mode.Checked

-- what `run` answers: what is done by an image that agrees with the text and follows what its program shows in the mode, without a count
abbrev pub IsExecuted : Mode → (steps : ℕ) → (words text : List ℕ) → Answer → Type 0
IsExecuted m steps words text (Executed done) = (image : Image) × Agree text image × AgreeIn m text image × IsCounted image false steps words done
IsExecuted m steps words text answer = ⊥

-- what `interpret --count` answers: what the program does within the steps, and the least number of steps with that end
abbrev pub IsRanCounted : (steps : ℕ) → (words text : List ℕ) → Answer → Type 0
IsRanCounted steps words text (RanCounted done) =
    (p : ProgramOf text) × (outcome_tree done.outcome ≡ source_behavior p.program words steps) × IsStepCount p.program steps words done.steps
IsRanCounted steps words text answer = ⊥

-- what `run --count` answers: what an image of the text in the mode does, and the least number of instructions with that end
abbrev pub IsExecutedCounted : Mode → (steps : ℕ) → (words text : List ℕ) → Answer → Type 0
IsExecutedCounted m steps words text (Executed done) = (image : Image) × Agree text image × AgreeIn m text image × IsCounted image true steps words done
IsExecutedCounted m steps words text answer = ⊥

-- what `interpret --reads` answers: the words that the program reads and writes, in their order, and how it ends
abbrev pub IsRanObserved : (steps : ℕ) → (words text : List ℕ) → Answer → Type 0
IsRanObserved steps words text (RanObserved done) =
    (p : ProgramOf text) × (stop_tree done.stop ≡ (observed_behavior p.program words steps).stop)
    × IsExchanged (observed_behavior p.program words steps).output words done.exchanges.items
IsRanObserved steps words text answer = ⊥

-- what `run --reads` answers: the words that an image of the text in the mode reads and writes, in their order, and how its run ends
abbrev pub IsExecutedObserved : Mode → (steps : ℕ) → (words text : List ℕ) → Answer → Type 0
IsExecutedObserved m steps words text (ExecutedObserved done) =
    (image : Image) × Agree text image × AgreeIn m text image × (done.outcome ≡ (observed_machine image words steps).outcome)
    × IsExchanged (observed_machine image words steps).output words done.exchanges.items
IsExecutedObserved m steps words text answer = ⊥

-- what `interpret --words` answers: what the program does within the steps, up to the first word that would be one too many
abbrev pub IsRanWithin : (steps most : ℕ) → (words text : List ℕ) → Answer → Type 0
IsRanWithin steps most words text (Ran o) = (p : ProgramOf text) × (outcome_tree o ≡ within_words most (source_behavior p.program words steps))
IsRanWithin steps most words text answer = ⊥

-- what `run --words` answers: what an image of the text in the mode does within as many instructions as write no more words than that
abbrev pub IsExecutedWithin : Mode → (steps most : ℕ) → (words text : List ℕ) → Answer → Type 0
IsExecutedWithin m steps most words text (Executed done) =
    (image : Image) × Agree text image × AgreeIn m text image × IsCountedWithin image false steps (Some most) words done
IsExecutedWithin m steps most words text answer = ⊥

-- what `asm` answers: the listing of an image of the text in the mode
abbrev pub IsListed : Mode → (text : List ℕ) → Answer → Type 0
IsListed m text (Listed lines) = (image : Image) × Agree text image × AgreeIn m text image × (lines.items ≡ listing image)
IsListed m text answer = ⊥

-- the text is the image as Intel HEX: the image's bytes at their addresses and nothing else, in the order of the addresses,
-- laid out as in `image_text`
pub record IsHex (text : List ℕ) (image : Image) : Type 0 where
  pub holds : Holds text image
  pub says : Says text image
  pub laid_out : text ≡ image_text image

-- what `image` answers: an image of the text in the mode, as Intel HEX
abbrev pub IsImage : Mode → (text : List ℕ) → Answer → Type 0
IsImage m text (InHex lines) = (image : Image) × Agree text image × AgreeIn m text image × IsHex lines.items image
IsImage m text answer = ⊥

-- what `size` answers: how much memory an image of the text in the mode takes
abbrev pub IsMeasured : Mode → (text : List ℕ) → Answer → Type 0
IsMeasured m text (Measured it) = Measures m text it
IsMeasured m text answer = ⊥

-- what `image --size` answers: an image of the text in the mode, as Intel HEX, and how much memory this very image takes
abbrev pub IsSizedImage : Mode → (text : List ℕ) → Answer → Type 0
IsSizedImage m text (SizedImage lines it) =
    Measures m text it × Agree text it.sized.made.unit.image × IsHex lines.items it.sized.made.unit.image
IsSizedImage m text answer = ⊥

-- what `safe` answers: what may go wrong; if that is nothing, the program never goes wrong, whatever the input and the bound
abbrev pub IsJudged : (text : List ℕ) → Answer → Type 0
IsJudged text (Judged lines) = (p : ProgramOf text) × (lines.items ≡ [] → IsSafe p.program)
IsJudged text answer = ⊥

-- the answer to a task for a text
abbrev pub Answers : Task → (text : List ℕ) → Answer → Type 0
Answers Check text answer = IsAccepted text answer
Answers (Interpret steps words) text answer = IsRan steps words.items text answer
Answers (Run kind steps words) text answer = IsExecuted (mode_of kind) steps words.items text answer
Answers (InterpretCounted steps words) text answer = IsRanCounted steps words.items text answer
Answers (RunCounted kind steps words) text answer = IsExecutedCounted (mode_of kind) steps words.items text answer
Answers (InterpretObserved steps words) text answer = IsRanObserved steps words.items text answer
Answers (RunObserved kind steps words) text answer = IsExecutedObserved (mode_of kind) steps words.items text answer
Answers (InterpretWithin steps most words) text answer = IsRanWithin steps most words.items text answer
Answers (RunWithin kind steps most words) text answer = IsExecutedWithin (mode_of kind) steps most words.items text answer
Answers (Asm kind) text answer = IsListed (mode_of kind) text answer
Answers (ImageTask kind) text answer = IsImage (mode_of kind) text answer
Answers (Size kind) text answer = IsMeasured (mode_of kind) text answer
Answers (SizedImageTask kind) text answer = IsSizedImage (mode_of kind) text answer
Answers Safe text answer = IsJudged text answer

-- why a text gets no answer from a task that makes no image: the text is not a program, or memory was refused
abbrev pub HasNoProgram : (text : List ℕ) → Fault → Type 0
HasNoProgram text (Text f) = IsTextRefusal text f
HasNoProgram text (Meaning f) = Unit {0}
HasNoProgram text (Piece f) = ⊥
HasNoProgram text (Link f) = ⊥
HasNoProgram text UnknownFunction = ⊥
HasNoProgram text OutOfMemory = Unit {0}
HasNoProgram text Read = ⊥
HasNoProgram text Write = ⊥

-- why a text gets no answer from a task that makes an image: the text is not a program, it has no image in the mode, or memory was refused
abbrev pub HasNoImage : Mode → (text : List ℕ) → Fault → Type 0
HasNoImage m text (Text f) = IsTextRefusal text f
HasNoImage m text (Meaning f) = ⊥
HasNoImage m text (Piece f) = IsBuildRefusalIn m text (build.Piece f)
HasNoImage m text (Link f) = IsBuildRefusalIn m text (build.Link f)
HasNoImage m text UnknownFunction = ⊥
HasNoImage m text OutOfMemory = Unit {0}
HasNoImage m text Read = ⊥
HasNoImage m text Write = ⊥

-- why a text gets no answer to a task
abbrev pub IsRefused : Task → (text : List ℕ) → Fault → Type 0
IsRefused Check text fault = HasNoProgram text fault
IsRefused (Interpret steps words) text fault = HasNoProgram text fault
IsRefused (Run kind steps words) text fault = HasNoImage (mode_of kind) text fault
IsRefused (InterpretCounted steps words) text fault = HasNoProgram text fault
IsRefused (RunCounted kind steps words) text fault = HasNoImage (mode_of kind) text fault
IsRefused (InterpretObserved steps words) text fault = HasNoProgram text fault
IsRefused (RunObserved kind steps words) text fault = HasNoImage (mode_of kind) text fault
IsRefused (InterpretWithin steps most words) text fault = HasNoProgram text fault
IsRefused (RunWithin kind steps most words) text fault = HasNoImage (mode_of kind) text fault
IsRefused (Asm kind) text fault = HasNoImage (mode_of kind) text fault
IsRefused (ImageTask kind) text fault = HasNoImage (mode_of kind) text fault
IsRefused (Size kind) text fault = HasNoImage (mode_of kind) text fault
IsRefused (SizedImageTask kind) text fault = HasNoImage (mode_of kind) text fault
IsRefused Safe text fault = HasNoProgram text fault
