-- The number of instructions of a run, and whether it has stopped in place.
use Rattle.std.specs.Prelude.{◌≡◌, ◌≤◌, ◌<◌, ◌+◌, ℕ, Bool, true, List, IfSome, is_some}
use Rattle.cc_rv32.specs.declared.image.Image.{Image}
use Rattle.cc_rv32.specs.declared.outcome.MachineOutcome.TheVariants.{Going}
use Rattle.cc_rv32.specs.Machine.{machine_behavior}
use Rattle.cc_answers.specs.Run.{IsRunOf}
use Rattle.cc_runs.specs.declared.count.CountedRun.{CountedRun}
use Rattle.cc_runs.specs.Final.{is_final_at}

-- the least number of instructions with the result that the run has within the bound, or the bound if the run is going then
pub record IsCount (image : Image) (steps : ℕ) (words : List ℕ) (count : ℕ) : Type 0 where
  pub within : count ≤ steps
  -- within the count the run has the same output and result as within the bound
  pub comes : machine_behavior image words count ≡ machine_behavior image words steps
  -- with fewer instructions the run is still going
  pub going : (n : ℕ) → n < count → (machine_behavior image words n).outcome ≡ Going
  -- if the run does not end within the bound, the count is the bound
  pub bound : (machine_behavior image words steps).outcome ≡ Going → count ≡ steps

-- what an image does on the input words within the bound, with a count exactly if it was asked for
pub record IsCounted (image : Image) (counted : Bool) (steps : ℕ) (words : List ℕ) (done : CountedRun) : Type 0 where
  pub run : IsRunOf image steps words done.run
  pub asked : is_some done.executed ≡ counted
  pub count : IfSome done.executed (IsCount image steps words)
  -- whether the run has stopped in place; then it shows the same within every larger bound
  pub final : done.is_final ≡ is_final_at image words steps
  pub for_ever : done.is_final ≡ true → (more : ℕ) → machine_behavior image words (steps + more) ≡ machine_behavior image words steps
