-- The end of a run on a machine.
use Rattle.std.specs.Prelude.{ℕ, List, Option, IfSome}
use Rattle.cc_rv32.specs.declared.image.Image.{Image}
use Rattle.cc_rv32.specs.Simulation.{Simulation, IsAfter}
use Rattle.cc_runs.specs.Count.{IsCount}
use Rattle.cc_runs.specs.Within.{IsLast}

-- the machine is at the end of the run that the image has within the bounds, and the run was counted if that was asked for
pub record HasRun (image : Image) (steps : ℕ) (most : Option ℕ) (words : List ℕ) (m : Simulation) (executed : Option ℕ) : Type 0 where
  pub done : ℕ
  pub last : IsLast image steps most words done
  pub after : IsAfter image words done m
  pub count : IfSome executed (IsCount image done words)
