-- What holds for runs that have not read past their input, and on inputs that never end. Each law is the contract of a function of this
-- crate.
use Rattle.std.specs.Prelude.{◌≡◌, ℕ, ◌-◌, ◌≤◌, List, ◌++◌}
use Rattle.cc_words.specs.Observed.{reads_in}
use Rattle.cc_ast.specs.Tree.{Source}
use Rattle.cc_c_semantics.specs.Meaning.{observed_behavior}
use Rattle.cc_c_semantics.specs.declared.mode.Mode.{Mode}
use Rattle.cc_rv32.specs.declared.image.Image.{Image}
use Rattle.cc_rv32.specs.Machine.{observed_machine, stack_from, stack_to}
use Rattle.cc_link.specs.Agree.{Agree, AgreeIn, program_behavior, behavior_in, image_behavior}
use Rattle.cc_link.specs.Stack.{IsBackedFrom, backed_image_behavior}
use Rattle.cc_endless.specs.Within.{IsWithin}
use Rattle.cc_endless.specs.Endless.{HasOneOutcome}
use Rattle.cc_endless.specs.Agree.{EndlessAgreement, EndlessAgreementIn, BackedEndlessAgreement}

-- ---- programs

-- a run that has not read past its input is the run on every longer input
abbrev pub ProgramsIgnoreMore : Type 0
ProgramsIgnoreMore = (source : Source) (input more : List ℕ) (n : ℕ)
    → IsWithin input (observed_behavior source input n).output
    → observed_behavior source (input ++ more) n ≡ observed_behavior source input n

-- a run that has read no further than a first part of its input is the run on that part
abbrev pub ProgramsIgnoreRest : Type 0
ProgramsIgnoreRest = (source : Source) (input rest : List ℕ) (n : ℕ)
    → IsWithin input (observed_behavior source (input ++ rest) n).output
    → observed_behavior source (input ++ rest) n ≡ observed_behavior source input n

-- within a number of steps a program reads at most so many times, whatever the input
abbrev pub ProgramsReadAtMost : Type 0
ProgramsReadAtMost = (source : Source) (n : ℕ) → (most : ℕ) × ((input : List ℕ) → reads_in (observed_behavior source input n).output ≤ most)

-- ---- images

-- the same for an image
abbrev pub ImagesIgnoreMore : Type 0
ImagesIgnoreMore = (image : Image) (input more : List ℕ) (n : ℕ)
    → IsWithin input (observed_machine image input n).output
    → observed_machine image (input ++ more) n ≡ observed_machine image input n

abbrev pub ImagesIgnoreRest : Type 0
ImagesIgnoreRest = (image : Image) (input rest : List ℕ) (n : ℕ)
    → IsWithin input (observed_machine image (input ++ rest) n).output
    → observed_machine image (input ++ rest) n ≡ observed_machine image input n

-- an image reads at most once in an instruction
abbrev pub ImagesReadAtMost : Type 0
ImagesReadAtMost = (image : Image) (input : List ℕ) (n : ℕ) → reads_in (observed_machine image input n).output ≤ n

-- ---- inputs that never end

-- within each bound a program shows one outcome on an endless input, also in each mode
abbrev pub ProgramsShowOneOutcome : Type 0
ProgramsShowOneOutcome = (source : Source) (words : ℕ → ℕ)
    → HasOneOutcome (program_behavior source) words × ((mode : Mode) → HasOneOutcome (behavior_in mode source) words)

-- and so does an image, on the whole machine and on each board
abbrev pub ImagesShowOneOutcome : Type 0
ImagesShowOneOutcome = (image : Image) (words : ℕ → ℕ)
    → HasOneOutcome (image_behavior image) words × ((bytes : ℕ) → HasOneOutcome (backed_image_behavior bytes image) words)

-- what agrees also agrees on endless inputs
abbrev pub AgreeOnEndless : Type 0
AgreeOnEndless = (text : List ℕ) (image : Image) → Agree text image → ∥ EndlessAgreement text image ∥₁

-- the same in each mode
abbrev pub AgreeInOnEndless : Type 0
AgreeInOnEndless = (mode : Mode) (text : List ℕ) (image : Image) → AgreeIn mode text image → ∥ EndlessAgreementIn mode text image ∥₁

-- the same on each board that backs enough stack
abbrev pub BackedOnEndless : Type 0
BackedOnEndless = (mode : Mode) (text : List ℕ) (least : ℕ) (image : Image) → IsBackedFrom mode text least image
    → (bytes : ℕ) → least ≤ bytes → bytes ≤ stack_to - stack_from → ∥ BackedEndlessAgreement mode text bytes image ∥₁
