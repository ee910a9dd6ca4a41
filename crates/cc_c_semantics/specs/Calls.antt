-- What holds for every call and for the body of every function, whether the unit is typed or not: the laws of the meaning that
-- the passes use.
use Rattle.std.specs.Prelude.{◌≡◌, ℕ, ◌+◌, ◌<◌, List, [], ◌++◌, length, map, Some, slice_get, codes}
use Rattle.cc_simulation.specs.operators.Width.{Width}
use Rattle.cc_ast.specs.Tree.{External, Source}
use Rattle.cc_types.specs.Typed.{IsTyped}
use Rattle.cc_layout.specs.Layout.{LaidObject, names_before, layout_of, callee}
use Rattle.cc_layout.specs.declared.layout.Callee.{Callee}
use Rattle.cc_layout.specs.declared.layout.Callee.TheVariants.{WriteWord, ReadWord, Defined}
use Rattle.cc_simulation.specs.Behavior.{IsPrefixOf}
use Rattle.cc_c_semantics.specs.Outcome as outcome
use Rattle.cc_c_semantics.specs.Outcome.{Outcome}
use Rattle.cc_c_semantics.specs.Meaning.{Local, Global, State, Run, Gives, Going, Wrong, Function, functions, read_input, calls, initial_globals, observed_behavior}
use Rattle.cc_c_semantics.specs.Function.{Shared, Answer, Effect, Answers, Unfinished, Failed, name_of_function, call_function, body_of_function, SpendsExactly}
use Rattle.cc_c_semantics.specs.Resolved.{arities, IsCalled}

-- ---- a call in the tree

-- what the functions of a unit share, at one moment of a run
abbrev pub shared_of : State → Shared
shared_of s = record { globals = s.globals; input = s.input; output = s.output }

-- the caller with these locals, after the effect of its call
abbrev pub after_call : List Local → Effect Answer → Run ℕ
after_call ls (Answers a left) =
    Gives a.word (record { locals = ls; globals = a.shared.globals; input = a.shared.input; output = a.shared.output; steps = left })
after_call ls (Unfinished output) = Going output
after_call ls (Failed cause output) = Wrong cause output

-- what a call does, given what its name refers to: a builtin writes or reads, and a function of the unit has its effect
abbrev pub called : List External → (opened : ℕ) → Callee → List ℕ → State → Run ℕ
called unit opened WriteWord ws s = Gives 0 (record s { output = s.output ++ ws })
called unit opened ReadWord ws s = read_input s.input s
called unit opened (Defined f) ws s = after_call s.locals (call_function unit s.steps opened f ws (shared_of s))

-- a call by name does what its name refers to, for any bound n on the recursion and any locals of the caller
abbrev pub CallsAreEffects : Type 0
CallsAreEffects = (unit : List External) (n opened count : ℕ) (x ws : List ℕ) (s : State) → IsCalled (arities unit) (callee (layout_of unit) x) count → s.steps < n
    → calls n (functions unit) opened x ws s ≡ called unit opened (callee (layout_of unit) x) ws s

-- ---- more steps: what cc_simulation says about a meaning by number, here by name and with the causes

-- the output so far
abbrev pub output_of : Effect Answer → List ℕ
output_of (Answers a left) = a.shared.output
output_of (Unfinished output) = output
output_of (Failed cause output) = output

-- the second effect is what the first effect becomes with `more` more steps
abbrev pub WithMoreSteps : (more : ℕ) → Effect Answer → Effect Answer → Type 0
WithMoreSteps more (Answers a left) z = z ≡ Answers a (left + more)
WithMoreSteps more (Unfinished output) z = IsPrefixOf output (output_of z)
WithMoreSteps more (Failed cause output) z = z ≡ Failed cause output

-- a call or a body, within a number of steps, only adds to what is written already; with more steps it continues; and if it
-- answers, it needs no more steps than it spends, and gives the same answer with any number more
pub record EffectGoesOn (effect : ℕ → Shared → Effect Answer) : Type 0 where
  pub grows : (n : ℕ) (h : Shared) → IsPrefixOf h.output (output_of (effect n h))
  pub later : (n more : ℕ) (h : Shared) → WithMoreSteps more (effect n h) (effect (n + more) h)
  pub exact : (h : Shared) → SpendsExactly (λ n. effect n h)

-- `EffectGoesOn` holds for each call, and for the body of each function
abbrev pub CallsGoOn : Type 0
CallsGoOn = (unit : List External) (opened f : ℕ) (ws : List ℕ) → EffectGoesOn (λ n h. call_function unit n opened f ws h)

abbrev pub BodiesGoOn : Type 0
BodiesGoOn = (unit : List External) (opened f : ℕ) (ws : List ℕ) → EffectGoesOn (λ n h. body_of_function unit n opened f ws h)

-- ---- objects

-- an object's name, how wide its elements are, and how many elements it has
pub record NamedSize : Type 0 where
  pub name : List ℕ
  pub width : Width
  pub elements : ℕ

abbrev pub size : Global → NamedSize
size g = record { name = g.name; width = g.width; elements = length g.words }

abbrev pub sizes : List Global → List NamedSize
sizes gs = map size gs

-- the objects keep their names and sizes
abbrev pub KeepsObjects : Shared → Effect Answer → Type 0
KeepsObjects h (Answers a left) = sizes a.shared.globals ≡ sizes h.globals
KeepsObjects h (Unfinished output) = Unit {0}
KeepsObjects h (Failed cause output) = Unit {0}

abbrev pub CallsKeepObjects : Type 0
CallsKeepObjects = (unit : List External) (n opened f : ℕ) (ws : List ℕ) (h : Shared) → KeepsObjects h (call_function unit n opened f ws h)

abbrev pub BodiesKeepObjects : Type 0
BodiesKeepObjects = (unit : List External) (n opened f : ℕ) (ws : List ℕ) (h : Shared) → KeepsObjects h (body_of_function unit n opened f ws h)

-- ---- names and numbers

-- functions and objects are numbered as their names are
abbrev pub FunctionsAreNumbered : Type 0
FunctionsAreNumbered = (unit : List External) → map (λ (g : Function). g.name) (functions unit) ≡ (layout_of unit).functions

abbrev pub ObjectsAreNumbered : Type 0
ObjectsAreNumbered = (unit : List External) → map (λ (g : Global). g.name) (initial_globals unit) ≡ map (λ (p : LaidObject). p.name) (layout_of unit).objects

-- the sizes that the layout gives the objects
abbrev pub laid_size : LaidObject → NamedSize
laid_size p = record { name = p.name; width = p.extent.width; elements = p.extent.length }

abbrev pub laid_sizes : List LaidObject → List NamedSize
laid_sizes ps = map laid_size ps

-- in a typed unit each object has, before the run, the size that the layout gives it
abbrev pub ObjectsAreSized : Type 0
ObjectsAreSized = (unit : List External) → IsTyped unit → sizes (initial_globals unit) ≡ laid_sizes (layout_of unit).objects

-- ---- programs

-- the number of main
abbrev pub main_of : List External → ℕ
main_of unit = names_before (layout_of unit).functions (codes "main")

-- what the functions share before the run
abbrev pub first_shared : List External → (input : List ℕ) → Shared
first_shared unit input = record { globals = initial_globals unit; input = input; output = [] }

-- the outcome of the call of main
abbrev pub outcome_of_effect : Effect Answer → Outcome ℕ
outcome_of_effect (Answers a left) = record { stop = outcome.Ended a.word; output = a.shared.output }
outcome_of_effect (Unfinished output) = record { stop = outcome.Going; output = output }
outcome_of_effect (Failed cause output) = record { stop = outcome.Wrong cause; output = output }

-- main is a function of a typed unit, without parameters
pub record HasMain (unit : List External) : Type 0 where
  pub below : main_of unit < length (functions unit)
  pub name : name_of_function unit (main_of unit) ≡ codes "main"
  pub arity : slice_get (arities unit) (main_of unit) ≡ Some 0

abbrev pub TypedUnitsHaveMain : Type 0
TypedUnitsHaveMain = (unit : List External) → IsTyped unit → HasMain unit

-- a program's run is the call of main, while no call is open
abbrev pub ProgramsCallMain : Type 0
ProgramsCallMain = (source : Source) → HasMain source.externals → (input : List ℕ) (n : ℕ)
    → observed_behavior source input n ≡ outcome_of_effect (call_function source.externals n 0 (main_of source.externals) [] (first_shared source.externals input))
