-- When an image agrees with a text: the text spells a program that breaks no rule, and on each input the image's run follows the program's.
use Rattle.std.specs.Prelude.{ℕ, List}
use Rattle.cc_rv32.specs.declared.image.Image.{Image}
use Rattle.cc_rv32.specs.declared.outcome.MachineOutcome.{MachineOutcome}
use Rattle.cc_rv32.specs.declared.outcome.MachineOutcome.TheVariants as machine
use Rattle.cc_rv32.specs.Machine.{Behavior, machine_behavior, observed_machine}
use Rattle.cc_ast.specs.Tree.{External, Source}
use Rattle.cc_ast.specs.Parse.{SpellsText}
use Rattle.cc_types.specs.Typed.{IsTyped}
use Rattle.cc_types.specs.Verdict.{source_with}
use Rattle.cc_c_semantics.specs.Meaning.{observed_behavior, source_behavior}
use Rattle.cc_c_semantics.specs.Checked.{behavior}
use Rattle.cc_c_semantics.specs.declared.mode.Mode.{Mode}
use Rattle.cc_c_semantics.specs.Numbered.{without_cause}
use Rattle.cc_simulation.specs.Behavior.{AreWords, Stop, Going, Ended, Wrong, Outcome, in_words, Follows}

-- how a run of the machine stops: an exit ends the run with a word, and a trap is a run that went wrong
abbrev pub stop_of : MachineOutcome → Stop ℕ
stop_of machine.Going = Going
stop_of (machine.Exited w) = Ended w
stop_of machine.Trapped = Wrong

abbrev pub shown : Behavior → Outcome ℕ
shown b = record { stop = stop_of b.outcome; output = b.output }

-- what an image does on an input, within a number of instructions: its reads and writes in order
abbrev pub image_behavior : Image → (input : List ℕ) → ℕ → Outcome ℕ
image_behavior image input m = shown (observed_machine image input m)

-- what a program does on an input, within a number of steps: its reads and writes in order
abbrev pub program_behavior : Source → (input : List ℕ) → ℕ → Outcome ℕ
program_behavior source input n = without_cause (observed_behavior source input n)

-- the text spells `tree`, and the image's run follows the run of this program
pub record Agreement (text : List ℕ) (image : Image) : Type 0 where
  pub tree : List External
  pub spelled : SpellsText text tree
  pub typed : IsTyped tree
  pub follows : (input : List ℕ) → AreWords input → Follows (program_behavior (source_with text tree) input) (image_behavior image input)

-- The text and the image agree. A typed unit keeps that its text spells its tree, but not how (∥ ∥₁), so nothing more is kept here.
abbrev pub Agree : List ℕ → Image → Type 0
Agree text image = ∥ Agreement text image ∥₁

-- ---- in a mode

-- what a program shows in a mode on an input within this many steps: what its source does, or `checked_behavior` in checked mode
abbrev pub behavior_in : Mode → Source → (input : List ℕ) → ℕ → Outcome ℕ
behavior_in mode source input n = without_cause (behavior mode source input n)

-- the text spells `tree`, and the image's run follows what this program shows in the mode; in the checked mode it does so even if
-- the source goes wrong, unless that is because of the source's depth
pub record AgreementIn (mode : Mode) (text : List ℕ) (image : Image) : Type 0 where
  pub tree : List External
  pub spelled : SpellsText text tree
  pub typed : IsTyped tree
  pub follows : (input : List ℕ) → AreWords input → Follows (behavior_in mode (source_with text tree) input) (image_behavior image input)

abbrev pub AgreeIn : Mode → List ℕ → Image → Type 0
AgreeIn mode text image = ∥ AgreementIn mode text image ∥₁

-- ---- in words alone: reads are not seen

-- the text and the image agree in the words that they write
pub record WordsAgreement (text : List ℕ) (image : Image) : Type 0 where
  pub tree : List External
  pub spelled : SpellsText text tree
  pub typed : IsTyped tree
  pub follows : (input : List ℕ) → AreWords input → Follows (λ n. without_cause (source_behavior (source_with text tree) input n)) (λ m. shown (machine_behavior image input m))

-- the same in a mode
pub record WordsAgreementIn (mode : Mode) (text : List ℕ) (image : Image) : Type 0 where
  pub tree : List External
  pub spelled : SpellsText text tree
  pub typed : IsTyped tree
  pub follows : (input : List ℕ) → AreWords input → Follows (λ n. in_words (behavior_in mode (source_with text tree) input n)) (λ m. shown (machine_behavior image input m))
