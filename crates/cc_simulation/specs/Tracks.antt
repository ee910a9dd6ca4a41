-- A run that keeps up with the source. This is what each pass guarantees; that the run follows the source is a consequence.
use Rattle.std.specs.Prelude.{◌≡◌, ℕ, suc, ◌+◌, ◌*◌, ◌<◌, ◌≤◌, List}
use Rattle.cc_simulation.specs.Behavior.{Going, Ended, Outcome, AreWords}
use Rattle.cc_simulation.specs.World.{World, Question, Answer, Effect, Gives, Unfinished, Failed}
use Rattle.cc_simulation.specs.Run.{Move, run, work}
use Rattle.cc_simulation.specs.Meaning.{Meaning, most_open, IsCall, call_effect}

-- What a run that has done this much must show, given the source's effect within n steps: the same end or the same output so far, and
-- enough work. Each move, and each step in a call, pays for at most `rate` steps of the source, and up to `rate` steps may be
-- outstanding. So a loop cannot be dropped, but a run may be slow. If the source goes wrong, nothing is required.
abbrev pub Keeps : (rate n : ℕ) → Effect → (done : ℕ) → Outcome Answer → Type 0
Keeps rate n (Gives a left) done z = (z ≡ record { stop = Ended a; output = a.world.output }) × (n ≤ left + rate * suc done)
Keeps rate n (Unfinished o) done z = (z ≡ record { stop = Going; output = o }) × (n ≤ rate * suc done)
Keeps rate n (Failed o) done z = Unit {0}

-- some cut of the run, of at most this many moves and steps, satisfies `Keeps`
pub record Keeping {C : Type 0} (move : C → Move C) (output : C → List ℕ) (effect : ℕ → Question → Effect) (rate n : ℕ) (source : Effect) (start : C) (most most_steps : ℕ) : Type 0 where
  pub moves : ℕ
  pub steps : ℕ
  pub few : moves ≤ most
  pub few_steps : steps ≤ most_steps
  pub keeps : Keeps rate n source (work move effect moves steps start) (run move output effect moves steps start)

-- A function's run keeps up with its body in the source: at each number of open calls, for each call that the source can make and each
-- number of steps. This is for Cminor and RTL, in which the words of all variables are known (the two limits say nothing here).
abbrev pub Tracks : Meaning → (function rate : ℕ) → {C : Type 0} → (C → Move C) → (C → List ℕ) → (start : List ℕ → World → C) → Type 0
Tracks meaning f rate move output start =
    (opened : ℕ) → opened < most_open → (ws : List ℕ) (h : World) → IsCall meaning f ws h → (n : ℕ)
    → (most : ℕ) × (most_steps : ℕ) × Keeping move output (call_effect meaning (suc opened)) rate n (meaning.body n opened f ws h) (start ws h) most most_steps

-- `Tracks` for every list of words that unknown locations hold, with two limits that are the same for all lists. This is for LTL
-- and Linear.
abbrev pub TracksForAll : Meaning → (function rate : ℕ) → {C : Type 0} → (C → Move C) → (C → List ℕ) → (start : (words arguments : List ℕ) → World → C) → Type 0
TracksForAll meaning f rate move output start =
    (opened : ℕ) → opened < most_open → (ws : List ℕ) (h : World) → IsCall meaning f ws h → (n : ℕ)
    → (most : ℕ) × (most_steps : ℕ) × ((words : List ℕ) → AreWords words
    → Keeping move output (call_effect meaning (suc opened)) rate n (meaning.body n opened f ws h) (start words ws h) most most_steps)
