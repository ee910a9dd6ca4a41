-- The run of one function of an intermediate language (Cminor, RTL, LTL or Linear). A language says what one statement, node,
-- block or item does to a configuration; calls do what the source says of the called function.
use Rattle.std.specs.Prelude.{ℕ, zero, suc, ◌+◌, ◌-◌, List, Option, Some, None}
use Rattle.cc_simulation.specs.Behavior.{Going, Ended, Wrong, Outcome}
use Rattle.cc_simulation.specs.World.{Question, Answer, Effect, Gives, Unfinished, Failed}

-- a move: the run continues, calls a function and continues from its answer, returns, or goes wrong
pub data Move (C : Type 0) : Type 0 where
  Goes : C → Move C
  Calls : Question → (Answer → C) → Move C
  Returns : Answer → Move C
  Fails : Move C

-- a move with something that may be absent (no such element, no quotient); if it is absent, the run goes wrong
abbrev pub tried : {C X : Type 0} → Option X → (X → Move C) → Move C
tried None go = Fails
tried (Some x) go = go x

-- after a call: the run continues with the steps that the call left, or ends as the call did
abbrev pub resumed : {C : Type 0} → Effect → (Answer → C) → (ℕ → C → Outcome Answer) → Outcome Answer
resumed (Gives a left) resume next = next left (resume a)
resumed (Unfinished o) resume next = record { stop = Going; output = o }
resumed (Failed o) resume next = record { stop = Wrong; output = o }

-- after a move, with j steps for calls and this output so far: `effect` says what a call does within a number of steps, `next`
-- how the run continues
abbrev pub act : {C : Type 0} → (effect : ℕ → Question → Effect) → Move C → (output : List ℕ) (j : ℕ) → (next : ℕ → C → Outcome Answer) → Outcome Answer
act effect (Goes d) output j next = next j d
act effect (Calls q resume) output j next = resumed (effect j q) resume next
act effect (Returns r) output j next = record { stop = Ended r; output = output }
act effect Fails output j next = record { stop = Wrong; output = output }

-- the run from a configuration: at most k moves, and at most j steps in its calls
abbrev pub run : {C : Type 0} → (move : C → Move C) (output : C → List ℕ) (effect : ℕ → Question → Effect) (k j : ℕ) → C → Outcome Answer
run move output effect zero j c = record { stop = Going; output = output c }
run move output effect (suc k) j c = act effect (move c) (output c) j (run move output effect k)

-- ---- how much was done: a move counts one, and so does a step spent in a call; a return or failure counts nothing

abbrev pub work_resumed : {C : Type 0} → Effect → (Answer → C) → ℕ → (ℕ → C → ℕ) → ℕ
work_resumed (Gives a left) resume j next = (j - left) + next left (resume a)
work_resumed (Unfinished o) resume j next = j
work_resumed (Failed o) resume j next = j

abbrev pub work_act : {C : Type 0} → (ℕ → Question → Effect) → Move C → ℕ → (ℕ → C → ℕ) → ℕ
work_act effect (Goes d) j next = suc (next j d)
work_act effect (Calls q resume) j next = suc (work_resumed (effect j q) resume j next)
work_act effect (Returns r) j next = 0
work_act effect Fails j next = 0

-- the work of the run of at most k moves and j steps
abbrev pub work : {C : Type 0} → (move : C → Move C) (effect : ℕ → Question → Effect) (k j : ℕ) → C → ℕ
work move effect zero j c = 0
work move effect (suc k) j c = work_act effect (move c) j (work move effect k)
