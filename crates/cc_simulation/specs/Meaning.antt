-- What the passes know about a unit's meaning: a call of each function, and its body after the call's step, all by number.
use Rattle.std.specs.Prelude.{◌≡◌, ℕ, suc, ◌+◌, ◌-◌, ◌<◌, ◌≤◌, List, length}
use Rattle.cc_simulation.specs.Behavior.{Going, Ended, Wrong, Outcome, IsPrefixOf, AreWords}
use Rattle.cc_simulation.specs.World.{Size, World, Question, Answer, Effect, Gives, Unfinished, Failed, IsWorld}

-- how many calls may be open
abbrev pub most_open : ℕ
most_open = 1024

-- a call gives the same answer with exactly the steps that it spent, and with any number more
abbrev pub IsExact : (ℕ → Effect) → Type 0
IsExact effect = (n left : ℕ) (a : Answer) → effect n ≡ Gives a left → (left ≤ n) × ((more : ℕ) → effect (n - left + more) ≡ Gives a more)

-- the output so far
abbrev pub written_by : Effect → List ℕ
written_by (Gives a left) = a.world.output
written_by (Unfinished o) = o
written_by (Failed o) = o

-- the second effect is the first one with this many more steps
abbrev pub Later : (more : ℕ) → Effect → Effect → Type 0
Later more (Gives a left) z = z ≡ Gives a (left + more)
Later more (Unfinished o) z = IsPrefixOf o (written_by z)
Later more (Failed o) z = z ≡ Failed o

-- a unit's meaning: `call n opened f ws h` is a call of function f within n steps while `opened` calls are open; `body` is what the
-- function does after the call's own step
pub record Meaning : Type 0 where
  -- how many functions there are, and how many parameters each has
  pub functions : ℕ
  pub arity : ℕ → ℕ
  -- each object's size
  pub objects : List Size
  pub call : (n opened f : ℕ) → List ℕ → World → Effect
  pub body : (n opened f : ℕ) → List ℕ → World → Effect
  -- with no step left, a call is unfinished; the 1,025th open call goes wrong; any other call is the function's body with one step less
  pub none_left : (opened f : ℕ) (ws : List ℕ) (h : World) → f < functions → call 0 opened f ws h ≡ Unfinished h.output
  pub too_deep : (n f : ℕ) (ws : List ℕ) (h : World) → f < functions → call (suc n) most_open f ws h ≡ Failed h.output
  pub spends : (n opened f : ℕ) (ws : List ℕ) (h : World) → f < functions → opened < most_open → call (suc n) opened f ws h ≡ body n opened f ws h
  -- for any function number, a call only adds to what is written already; with more steps it continues; an answer stays the same
  -- with exactly the steps that it spends
  pub grows : (n opened f : ℕ) (ws : List ℕ) (h : World) → IsPrefixOf h.output (written_by (call n opened f ws h))
  pub later : (n more opened f : ℕ) (ws : List ℕ) (h : World) → Later more (call n opened f ws h) (call (n + more) opened f ws h)
  pub exact : (opened f : ℕ) (ws : List ℕ) (h : World) → IsExact (λ n. call n opened f ws h)

-- a call that the source can make: as many words as the function has parameters, and a world with the unit's objects
pub record IsCall (meaning : Meaning) (f : ℕ) (ws : List ℕ) (h : World) : Type 0 where
  pub count : length ws ≡ meaning.arity f
  pub words : AreWords ws
  pub world : IsWorld meaning.objects h

-- the effect of the calls that a function makes, while this many calls are open
abbrev pub call_effect : Meaning → (opened : ℕ) → ℕ → Question → Effect
call_effect meaning opened j q = meaning.call j opened q.function q.arguments q.world

-- what an effect shows
abbrev pub answered : Effect → Outcome Answer
answered (Gives a left) = record { stop = Ended a; output = a.world.output }
answered (Unfinished o) = record { stop = Going; output = o }
answered (Failed o) = record { stop = Wrong; output = o }
