-- What a program shows in each mode. A plain program shows what its source does. So does a checked program until the source goes
-- wrong; then the checked program runs for ever with the output so far, without writing more and without ending. If the cause is
-- depth, nothing is required of it.
use Rattle.std.specs.Prelude.{◌≡◌, ℕ, ◌+◌, Bool, true, false, if◌then◌else◌, List}
use Rattle.cc_ast.specs.Tree.{Source}
use Rattle.cc_c_semantics.specs.Outcome.{Stop, Going, Ended, Wrong, Outcome}
use Rattle.cc_c_semantics.specs.Meaning.{observed_behavior}
use Rattle.cc_c_semantics.specs.declared.cause.Cause.{Cause}
use Rattle.cc_c_semantics.specs.declared.cause.Cause.TheVariants.{Depth}
use Rattle.cc_c_semantics.specs.declared.mode.Mode.{Mode}
use Rattle.cc_c_semantics.specs.declared.mode.Mode.TheVariants.{Plain, Checked}

-- whether a program that goes wrong for this cause runs for ever
abbrev pub stays : Mode → Cause → Bool
stays Plain cause = false
stays Checked Depth = false
stays Checked cause = true

-- how a checked program stops if its source stops in this way
abbrev pub checked_stop : Stop ℕ → Stop ℕ
checked_stop Going = Going
checked_stop (Ended w) = Ended w
checked_stop (Wrong cause) = if stays Checked cause then Going else Wrong cause

-- what a program shows if its source shows this
abbrev pub shown : Mode → Outcome ℕ → Outcome ℕ
shown Plain o = o
shown Checked o = record { stop = checked_stop o.stop; output = o.output }

-- what a program shows on an input within n steps of its source
abbrev pub behavior : Mode → Source → List ℕ → ℕ → Outcome ℕ
behavior mode source input n = shown mode (observed_behavior source input n)

abbrev pub checked_behavior : Source → List ℕ → ℕ → Outcome ℕ
checked_behavior source input n = behavior Checked source input n

-- the run has not gone wrong
abbrev pub IsRight : Stop ℕ → Type 0
IsRight Going = Unit {0}
IsRight (Ended w) = Unit {0}
IsRight (Wrong cause) = ⊥

-- how a checked program compares with its source
pub record ChecksSource (source : Source) (input : List ℕ) : Type 0 where
  -- as long as the source has not gone wrong, the checked program shows the same
  pub right : (n : ℕ) → IsRight (observed_behavior source input n).stop → checked_behavior source input n ≡ observed_behavior source input n
  -- if the source goes wrong, but not because of depth, the checked program with any more steps still runs, with that output
  pub still : (n more : ℕ) (cause : Cause) → (observed_behavior source input n).stop ≡ Wrong cause → stays Checked cause ≡ true
      → checked_behavior source input (n + more) ≡ record { stop = Going; output = (observed_behavior source input n).output }
  -- the checked program goes wrong only if calls in the source are nested too deep
  pub wrong : (n : ℕ) (cause : Cause) → (checked_behavior source input n).stop ≡ Wrong cause → (observed_behavior source input n).stop ≡ Wrong Depth

abbrev pub ProgramsAreChecked : Type 0
ProgramsAreChecked = (source : Source) (input : List ℕ) → ChecksSource source input
