-- The meaning of one function, in the form that the passes use: what a call of it does, what its body does after the call's step,
-- and what holds for both in each typed unit.
use Rattle.std.specs.Prelude.{◌≡◌, ℕ, suc, ◌+◌, ◌-◌, ◌<◌, ◌≤◌, List, [], length, map, unwrap_or, slice_get}
use Rattle.cc_ast.specs.Tree.{External, Source}
use Rattle.cc_types.specs.Typed.{IsTyped}
use Rattle.cc_simulation.specs.Behavior.{IsPrefixOf}
use Rattle.cc_c_semantics.specs.Outcome as outcome
use Rattle.cc_c_semantics.specs.Outcome.{Stop, Outcome}
use Rattle.cc_c_semantics.specs.Meaning.{Global, State, Run, Gives, Going, Wrong, Function, functions, calls, run_optional, most_open, observed_behavior, source_behavior}
use Rattle.cc_c_semantics.specs.declared.cause.Cause.{Cause}
use Rattle.cc_c_semantics.specs.declared.cause.Cause.TheVariants.{Depth}

-- what the functions of a unit share: the globals, the rest of the input, the output so far
pub record Shared : Type 0 where
  pub globals : List Global
  pub input : List ℕ
  pub output : List ℕ

-- the answer of a call: its word, and what is shared after it
pub record Answer : Type 0 where
  pub word : ℕ
  pub shared : Shared

-- the effect of a call: an answer with the number of steps left; or no step left; or the cause for which the call goes wrong
pub data Effect (A : Type 0) : Type 0 where
  Answers : A → ℕ → Effect A
  Unfinished : List ℕ → Effect A
  Failed : Cause → List ℕ → Effect A

abbrev pub effect_of : Run ℕ → Effect Answer
effect_of (Gives w s) = Answers (record { word = w; shared = record { globals = s.globals; input = s.input; output = s.output } }) s.steps
effect_of (Going output) = Unfinished output
effect_of (Wrong cause output) = Failed cause output

-- the state in which a call begins, within n steps; the call sees no locals but its own
abbrev pub state_within : ℕ → Shared → State
state_within n h = record { locals = []; globals = h.globals; input = h.input; output = h.output; steps = n }

-- the name of the function with this number, in the order of definitions
abbrev pub name_of_function : List External → ℕ → List ℕ
name_of_function unit f = unwrap_or (slice_get (map (λ (g : Function). g.name) (functions unit)) f) []

-- a call of function f with these words, within n steps and while this many calls are open
abbrev pub call_function : List External → (n opened f : ℕ) → List ℕ → Shared → Effect Answer
call_function unit n opened f ws h = effect_of (calls (suc n) (functions unit) opened (name_of_function unit f) ws (state_within n h))

-- the function's body within n steps, if this many calls were open before
abbrev pub body_of_function : List External → (n opened f : ℕ) → List ℕ → Shared → Effect Answer
body_of_function unit n opened f ws h =
    effect_of (run_optional (slice_get (functions unit) f) (suc n) (calls (suc n) (functions unit) (opened + 1)) ws (state_within n h))

-- if a call answers, the answer is the same with exactly the steps that the call spent, and with any number more
abbrev pub SpendsExactly : (ℕ → Effect Answer) → Type 0
SpendsExactly effect = (n left : ℕ) (a : Answer) → effect n ≡ Answers a left → (left ≤ n) × ((more : ℕ) → effect (n - left + more) ≡ Answers a more)

-- what holds for each function of a unit
pub record HasMeaning (unit : List External) : Type 0 where
  -- with no step left a call is unfinished
  pub none_left : (opened f : ℕ) (ws : List ℕ) (h : Shared) → f < length (functions unit) →
      call_function unit 0 opened f ws h ≡ Unfinished h.output
  -- while `most_open` calls are open, a call spends a step and goes wrong
  pub too_deep : (n f : ℕ) (ws : List ℕ) (h : Shared) → f < length (functions unit) →
      call_function unit (suc n) most_open f ws h ≡ Failed Depth h.output
  -- otherwise a call with n + 1 steps does what the body does with n
  pub spends : (n opened f : ℕ) (ws : List ℕ) (h : Shared) → f < length (functions unit) → opened < most_open →
      call_function unit (suc n) opened f ws h ≡ body_of_function unit n opened f ws h

-- each function of a typed unit has a meaning
abbrev pub TypedUnitsHaveMeaning : Type 0
TypedUnitsHaveMeaning = (unit : List External) → IsTyped unit → HasMeaning unit

-- ---- more steps

-- run `z` continues run `a`, which had fewer steps: if `a` ended or went wrong, `z` is the same; else its output begins with that of `a`
abbrev pub GoesOn : Stop ℕ → Outcome ℕ → Outcome ℕ → Type 0
GoesOn outcome.Going a z = IsPrefixOf a.output z.output
GoesOn (outcome.Ended w) a z = z ≡ a
GoesOn (outcome.Wrong cause) a z = z ≡ a

-- with more steps each run continues
abbrev pub RunsGoOn : Type 0
RunsGoOn = (source : Source) (input : List ℕ) (n more : ℕ) →
    GoesOn (source_behavior source input n).stop (source_behavior source input n) (source_behavior source input (n + more))

-- also with the reads among the words
abbrev pub ObservedRunsGoOn : Type 0
ObservedRunsGoOn = (source : Source) (input : List ℕ) (n more : ℕ) →
    GoesOn (observed_behavior source input n).stop (observed_behavior source input n) (observed_behavior source input (n + more))
