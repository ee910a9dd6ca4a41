-- The number of steps of a run.
use Rattle.std.specs.Prelude.{◌≡◌, ◌≤◌, ◌<◌, ℕ, List}
use Rattle.cc_ast.specs.Tree.{Source}
use Rattle.cc_c_semantics.specs.Meaning.{source_behavior}
use Rattle.cc_c_semantics.specs.Outcome as outcome

-- the least number of steps with the result that the run has within the bound; the bound, if the run does not end
pub record IsStepCount (source : Source) (bound : ℕ) (input : List ℕ) (count : ℕ) : Type 0 where
  pub within : count ≤ bound
  -- within the count, the run has the same output and result as within the bound
  pub comes : source_behavior source input count ≡ source_behavior source input bound
  -- with fewer steps, the run is still going
  pub going : (n : ℕ) → n < count → (source_behavior source input n).stop ≡ outcome.Going
  -- if the run does not end within the bound, the count is the bound
  pub bound_is : (source_behavior source input bound).stop ≡ outcome.Going → count ≡ bound
