-- Jobs, as contracts see them.
use Rattle.std.specs.Prelude.{ℕ, List}
use Rattle.cc_c_semantics.specs.declared.mode.Mode.{Mode}

-- a function of a job: the job's number and the function's number
pub record JobFunction : Type 0 where
  pub job : ℕ
  pub function : ℕ

-- a unit that was handed in: the job's number, the mode of its code, the unit's text, and the number of functions that it defines
pub record Job : Type 0 where
  pub number : ℕ
  pub mode : Mode
  pub text : List ℕ
  pub functions : ℕ
