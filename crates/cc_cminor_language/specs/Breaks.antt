-- Runs that reach something they cannot do (a missing element, quotient or shifted word), and runs that either keep up with a
-- source or break as it goes wrong. A call that goes wrong is not a break, because the run itself cannot prevent it.
use Rattle.std.specs.Prelude.{◌≡◌, ◌⊎◌, ℕ, zero, suc, ◌<◌, List, Option, Some, None}
use Rattle.cc_simulation.specs.World.{World, Question, Answer, Effect, Gives, Unfinished, Failed}
use Rattle.cc_simulation.specs.Behavior.{Wrong}
use Rattle.cc_simulation.specs.Run.{Move, Goes, Calls, Returns, Fails, run}
use Rattle.cc_simulation.specs.Meaning.{Meaning, most_open, IsCall, call_effect}
use Rattle.cc_simulation.specs.Tracks.{Keeping}

abbrev pub broken_resumed : {C : Type 0} → Effect → (Answer → C) → (ℕ → C → Option (List ℕ)) → Option (List ℕ)
broken_resumed (Gives a left) resume next = next left (resume a)
broken_resumed (Unfinished o) resume next = None
broken_resumed (Failed o) resume next = None

abbrev pub broken_act : {C : Type 0} → (effect : ℕ → Question → Effect) → Move C → (output : List ℕ) (j : ℕ) → (next : ℕ → C → Option (List ℕ)) → Option (List ℕ)
broken_act effect (Goes d) output j next = next j d
broken_act effect (Calls q resume) output j next = broken_resumed (effect j q) resume next
broken_act effect (Returns r) output j next = None
broken_act effect Fails output j next = Some output

-- the output when the run of at most k moves and j steps reaches something it cannot do, if it does
abbrev pub broken : {C : Type 0} → (move : C → Move C) (output : C → List ℕ) (effect : ℕ → Question → Effect) (k j : ℕ) → C → Option (List ℕ)
broken move output effect zero j c = None
broken move output effect (suc k) j c = broken_act effect (move c) (output c) j (broken move output effect k)

-- some cut of the run breaks, with this output
pub record Breaking {C : Type 0} (move : C → Move C) (output : C → List ℕ) (effect : ℕ → Question → Effect) (start : C) (o : List ℕ) : Type 0 where
  pub moves : ℕ
  pub steps : ℕ
  pub breaks : broken move output effect moves steps start ≡ Some o

-- the source is not finished, and the run breaks with its output
abbrev pub BreaksAt : {C : Type 0} → (C → Move C) → (C → List ℕ) → (ℕ → Question → Effect) → Effect → (start : C) → Type 0
BreaksAt move output effect (Gives a left) start = ⊥
BreaksAt move output effect (Unfinished o) start = Breaking move output effect start o
BreaksAt move output effect (Failed o) start = ⊥

-- A function's run keeps up with its body in the source, or it breaks with the source's output while the source is not finished.
-- The meaning is one in which a program that goes wrong runs for ever, which the code by itself does not do.
abbrev pub TracksOrBreaks : Meaning → (function rate : ℕ) → {C : Type 0} → (C → Move C) → (C → List ℕ) → (start : List ℕ → World → C) → Type 0
TracksOrBreaks meaning f rate move output start =
    (opened : ℕ) → opened < most_open → (ws : List ℕ) (h : World) → IsCall meaning f ws h → (n : ℕ)
    → ((most : ℕ) × (most_steps : ℕ) × Keeping move output (call_effect meaning (suc opened)) rate n (meaning.body n opened f ws h) (start ws h) most most_steps)
    ⊎ BreaksAt move output (call_effect meaning (suc opened)) (meaning.body n opened f ws h) (start ws h)

-- if a function goes wrong in the source, some cut of its run has gone wrong with the same output
abbrev pub GoesWrongWith : Meaning → (function : ℕ) → {C : Type 0} → (C → Move C) → (C → List ℕ) → (start : List ℕ → World → C) → Type 0
GoesWrongWith meaning f move output start =
    (opened : ℕ) → opened < most_open → (ws : List ℕ) (h : World) → IsCall meaning f ws h → (n : ℕ) (o : List ℕ) → meaning.body n opened f ws h ≡ Failed o
    → (k : ℕ) × (j : ℕ) × (run move output (call_effect meaning (suc opened)) k j (start ws h) ≡ record { stop = Wrong; output = o })
