-- Where the word of each location was before a list of moves, as a table of location numbers; and where the moves send bits.
use Rattle.std.specs.Prelude.{◌≡◌, ℕ, List, length, get_or, IsTrue}
use Rattle.cc_ltl.specs.declared.operation.Move.{Move}
use Rattle.cc_bits.specs.Rows.{Table, has}
use Rattle.cc_validate.specs.declared.equation.Equation.{Equation}
use Rattle.cc_validate.specs.Equations.{before_moves}
use Rattle.cc_validate.specs.internal.Room.{IsPlace, most_places}
use Rattle.cc_validate.specs.internal.Table.{number}

-- for each location, the number of the location that an equation on it has before the moves
pub record AreOrigins (moves : List Move) (origins : List ℕ) : Type 0 where
  pub long : length origins ≡ most_places
  pub places : (e : Equation) → IsPlace e.location → IsPlace (before_moves moves e).location
  pub each : (e : Equation) → IsPlace e.location → get_or origins (number e.location) 0 ≡ number (before_moves moves e).location

-- the bits that `from` names are set, in the columns that `origins` says, and no others
pub record AreSent (from : (r c : ℕ) → Type 0) (origins : List ℕ) (new : Table) : Type 0 where
  pub there : (r c : ℕ) → from r c → IsTrue (has new r (get_or origins c 0))
  pub only : (r p : ℕ) → IsTrue (has new r p) → (c : ℕ) × from r c × (get_or origins c 0 ≡ p)
