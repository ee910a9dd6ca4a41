-- The meaning of a unit in a mode, in the form that the compiler's passes use: functions and objects have numbers instead of
-- names, and there are no causes.
use Rattle.std.specs.Prelude.{◌≡◌, ℕ, if◌then◌else◌, List, [], ◌∷◌, length, map, unwrap_or, slice_get}
use Rattle.cc_ast.specs.Tree.{External, Source}
use Rattle.cc_types.specs.Typed.{IsTyped}
use Rattle.cc_simulation.specs.Behavior as runs
use Rattle.cc_simulation.specs.World.{Object, Size, size_of, World, Effect, Gives, Unfinished, Failed}
use Rattle.cc_simulation.specs.Meaning.{Meaning}
use Rattle.cc_c_semantics.specs.Outcome as outcome
use Rattle.cc_c_semantics.specs.Meaning.{Global, functions, initial_globals, observed_behavior, source_behavior}
use Rattle.cc_c_semantics.specs.Checked.{stays, behavior, checked_behavior}
use Rattle.cc_c_semantics.specs.declared.cause.Cause.{Cause}
use Rattle.cc_c_semantics.specs.declared.mode.Mode.{Mode}
use Rattle.cc_c_semantics.specs.Function as by_name
use Rattle.cc_c_semantics.specs.Function.{Shared, call_function, body_of_function}
use Rattle.cc_c_semantics.specs.Resolved.{arities}
use Rattle.cc_c_semantics.specs.Calls.{HasMain, main_of, first_shared}

-- ---- objects by number

-- the names of objects, and the objects
abbrev pub names_of : List Global → List (List ℕ)
names_of gs = map (λ (g : Global). g.name) gs

abbrev pub objects_of : List Global → List Object
objects_of gs = map (λ (g : Global). record { width = g.width; words = g.words }) gs

-- what is shared, without the objects' names
abbrev pub world_of : Shared → World
world_of h = record { globals = objects_of h.globals; input = h.input; output = h.output }

-- objects with these names, in the same order
abbrev pub named : List (List ℕ) → List Object → List Global
named [] os = []
named (x ∷ xs) [] = []
named (x ∷ xs) (o ∷ os) = record { name = x; width = o.width; words = o.words } ∷ named xs os

-- what is shared; its objects get the names of the unit's objects
abbrev pub shared_in : List External → World → Shared
shared_in unit h = record { globals = named (names_of (initial_globals unit)) h.globals; input = h.input; output = h.output }

-- the size of each object of a unit
abbrev pub objects_in : List External → List Size
objects_in unit = map size_of (objects_of (initial_globals unit))

-- ---- calls by number

-- the effect of a call that goes wrong; if the program then runs for ever in this mode, that of a call that never finishes
abbrev pub gone_wrong : Mode → Cause → (output : List ℕ) → Effect
gone_wrong mode cause output = if stays mode cause then Unfinished output else Failed output

-- the effect of a call, without names and cause
abbrev pub numbered : Mode → by_name.Effect by_name.Answer → Effect
numbered mode (by_name.Answers a left) = Gives (record { value = a.word; world = world_of a.shared }) left
numbered mode (by_name.Unfinished output) = Unfinished output
numbered mode (by_name.Failed cause output) = gone_wrong mode cause output

-- the effect of a call of function f, and that of its body after the call's step
abbrev pub call_in : Mode → List External → (n opened f : ℕ) → List ℕ → World → Effect
call_in mode unit n opened f ws h = numbered mode (call_function unit n opened f ws (shared_in unit h))

abbrev pub body_in : Mode → List External → (n opened f : ℕ) → List ℕ → World → Effect
body_in mode unit n opened f ws h = numbered mode (body_of_function unit n opened f ws (shared_in unit h))

-- how many parameters function f has
abbrev pub arity_in : List External → ℕ → ℕ
arity_in unit f = unwrap_or (slice_get (arities unit) f) 0

-- ---- a unit's meaning

-- this meaning, in the passes' sense, is the unit's meaning in the mode
pub record IsMeaning (mode : Mode) (unit : List External) (meaning : Meaning) : Type 0 where
  pub functions : meaning.functions ≡ length (functions unit)
  pub arity : meaning.arity ≡ arity_in unit
  pub objects : meaning.objects ≡ objects_in unit
  pub call : meaning.call ≡ call_in mode unit
  pub body : meaning.body ≡ body_in mode unit

-- each typed unit has a meaning in each mode
abbrev pub TypedUnitsHaveMeanings : Type 0
TypedUnitsHaveMeanings = (mode : Mode) (unit : List External) → IsTyped unit → (meaning : Meaning) × IsMeaning mode unit meaning

-- by number, a call and a body do what they do by name, if the objects have the names of the unit's objects
abbrev pub CallsAreNumbered : Type 0
CallsAreNumbered = (mode : Mode) (unit : List External) (n opened f : ℕ) (ws : List ℕ) (h : Shared) → names_of h.globals ≡ names_of (initial_globals unit)
    → (call_in mode unit n opened f ws (world_of h) ≡ numbered mode (call_function unit n opened f ws h))
    × (body_in mode unit n opened f ws (world_of h) ≡ numbered mode (body_of_function unit n opened f ws h))

-- ---- programs

-- an outcome without its cause
abbrev pub stop_without_cause : outcome.Stop ℕ → runs.Stop ℕ
stop_without_cause outcome.Going = runs.Going
stop_without_cause (outcome.Ended w) = runs.Ended w
stop_without_cause (outcome.Wrong cause) = runs.Wrong

abbrev pub without_cause : outcome.Outcome ℕ → runs.Outcome ℕ
without_cause o = record { stop = stop_without_cause o.stop; output = o.output }

-- the outcome of the call of main, whose word is the only result that counts
abbrev pub outcome_by_number : Effect → runs.Outcome ℕ
outcome_by_number (Gives a left) = record { stop = runs.Ended a.value; output = a.world.output }
outcome_by_number (Unfinished output) = record { stop = runs.Going; output = output }
outcome_by_number (Failed output) = record { stop = runs.Wrong; output = output }

-- a program's run is the call of main by its number
abbrev pub ProgramsAreNumbered : Type 0
ProgramsAreNumbered = (mode : Mode) (source : Source) → HasMain source.externals → (input : List ℕ) (n : ℕ)
    → without_cause (behavior mode source input n) ≡ outcome_by_number (call_in mode source.externals n 0 (main_of source.externals) [] (world_of (first_shared source.externals input)))

-- whatever follows a checked program follows its source
abbrev pub CheckedFollows : Type 0
CheckedFollows = (source : Source) (input : List ℕ) (z : ℕ → runs.Outcome ℕ)
    → runs.Follows (λ n. without_cause (checked_behavior source input n)) z → runs.Follows (λ n. without_cause (observed_behavior source input n)) z

-- the same if only the words are seen, without the reads
abbrev pub CheckedFollowsInWords : Type 0
CheckedFollowsInWords = (source : Source) (input : List ℕ) (z : ℕ → runs.Outcome ℕ)
    → runs.Follows (λ n. without_cause (outcome.in_words (checked_behavior source input n))) z → runs.Follows (λ n. without_cause (source_behavior source input n)) z
