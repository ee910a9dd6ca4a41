-- When a program cannot go wrong at all, and which of its functions need a guard.
use Rattle.std.specs.Prelude.{◌≡◌, ◌≢◌, ◌<◌, ◌⊎◌, ℕ, true, List, length, All, Contains}
use Rattle.cc_ast.specs.Tree.{External, Source}
use Rattle.cc_c_semantics.specs.Meaning.{functions, source_behavior}
use Rattle.cc_c_semantics.specs.Numbered.{objects_in}
use Rattle.cc_c_semantics.specs.Outcome.{Wrong}
use Rattle.cc_c_semantics.specs.declared.cause.Cause.{Cause}
use Rattle.cc_simulation.specs.Behavior.{AreWords}
use Rattle.cc_cminor_language.specs.Cminor.{Statement}
use Rattle.cc_cminor_language.specs.Pair.{FailsAlike, GoesWrong}
use Rattle.cc_cminor_language.specs.Size.{AtMostOnePartialAToken}
use Rattle.cc_cminor_language.specs.Variables.{above_statement}
use Rattle.cc_guard.specs.Guard.{has_guards}
use Rattle.cc_guard.specs.Safe.{NeedsNoGuard}

-- the program goes wrong for no cause, on no input and within no number of steps
abbrev pub IsSafe : Source → Type 0
IsSafe source = (input : List ℕ) → AreWords input → (n : ℕ) (cause : Cause) → (source_behavior source input n).stop ≢ Wrong cause

-- The function with this number needs a guard: it has code that fails and goes wrong as the function does, with at most one operation
-- that can lack a value for each token, and the guard pass puts a test before one of these operations.
pub record NeedsGuard (unit : List External) (f : ℕ) : Type 0 where
  pub is_function : f < length (functions unit)
  pub code : Statement
  pub fails_alike : FailsAlike unit f code
  pub goes_wrong : GoesWrong unit f code
  pub operations : AtMostOnePartialAToken unit f code
  pub guards : has_guards (objects_in unit) (above_statement 0 code) code ≡ true

-- each of these functions needs a guard, and each other one has code that needs none
pub record AreGuarded (unit : List External) (numbers : List ℕ) : Type 0 where
  pub each : All (NeedsGuard unit) numbers
  pub others : (f : ℕ) → f < length (functions unit) → Contains numbers f ⊎ ((s : Statement) × NeedsNoGuard unit f s)
