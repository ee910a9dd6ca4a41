-- A worker's refusal, as contracts see it.
use Rattle.std.specs.Prelude.{ℕ, List}
use Rattle.cc_c_semantics.specs.declared.mode.Mode.{Mode}
use Rattle.cc_link.specs.declared.piece_fault.PieceFault.{PieceFault}

-- a function of a text, and why a worker refused to compile it in a mode
pub record FunctionRefusal : Type 0 where
  pub mode : Mode
  pub text : List ℕ
  pub function : ℕ
  pub fault : PieceFault
