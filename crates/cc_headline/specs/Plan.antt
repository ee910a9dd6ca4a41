-- The number of pieces of a source, or the number with which it is refused, as `parse` and then `check` answer.
use Rattle.std.specs.Prelude.{ℕ, ◌≡◌, List, length, Result, Ok, Err}
use Rattle.cc_tokens.specs.Fault as syntax
use Rattle.cc_types.specs.Fault as typing
use Rattle.cc_types.specs.Limits.{function_names}
use Rattle.cc_types.specs.Verdict.{Verdict, NoTree, NotTyped, Program, IsVerdict}

-- a program has a piece for each function that it defines; any other text is refused with its fault's number
abbrev pub pieces_of : Verdict → Result ℕ ℕ
pieces_of (NoTree fault) = Err (syntax.fault_number fault)
pieces_of (NotTyped fault) = Err (typing.fault_number fault)
pieces_of (Program tree) = Ok (length (function_names tree))

-- the plan is the one that follows from the text's verdict
pub record IsPlanBy (text : List ℕ) (plan : Result ℕ ℕ) : Type 0 where
  pub verdict : Verdict
  pub is : IsVerdict text verdict
  pub plan_is : plan ≡ pieces_of verdict

-- The text's plan. A typed unit keeps that its text spells its tree, but not how (∥ ∥₁), so nothing more is kept here.
abbrev pub IsPlan : List ℕ → Result ℕ ℕ → Type 0
IsPlan text plan = ∥ IsPlanBy text plan ∥₁
