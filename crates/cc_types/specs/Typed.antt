-- Which units are typed, and why the others are refused.
use Rattle.std.specs.Prelude.{ℕ, ◌≡◌, ◌⊎◌, ◌<◌, ◌≤◌, true, false, List, [], ◌∷◌, ◌++◌, length, map, Contains, Option, Some, None}
use Rattle.std.specs.List.{AllByRecursion}
use Rattle.cc_ast.specs.Tree.{Name, External, Declaration, Definition, Objects, Source}
use Rattle.cc_tokens.specs.Place.{place_of}
use Rattle.cc_types.specs.Rules.{errors, defines_main, undefined_calls}
use Rattle.cc_types.specs.Limits.{excesses, function_names}
use Rattle.cc_types.specs.Fault.{fault_of, rule_number}
use Rattle.cc_types.specs.declared.rule.RuleError.{RuleError}
use Rattle.cc_types.specs.declared.fault.TypeFault.{TypeFault}
use Rattle.cc_types.specs.declared.fault.TypeFault.TheVariants.{NoMain}

-- a unit is typed if it breaks no rule, defines main, and defines each function that it calls
abbrev pub IsTyped : List External → Type 0
IsTyped externals = (errors externals ≡ []) × (defines_main externals ≡ true) × (undefined_calls externals ≡ [])

-- a unit keeps the limits if it exceeds none
abbrev pub IsWithinLimits : List External → Type 0
IsWithinLimits externals = excesses externals ≡ []

-- the error `o` does not come after `p`: its token is earlier, or it is at the same token and its number is not greater
abbrev pub NotAfter : RuleError → RuleError → Type 0
NotAfter o p = (o.at < p.at) ⊎ ((o.at ≡ p.at) × (rule_number o.rule ≤ rule_number p.rule))

-- the error is the first of these errors
abbrev pub IsFirst : RuleError → List RuleError → Type 0
IsFirst o all = Contains all o × AllByRecursion (NotAfter o) all

-- the fault is the one for the first of these errors, at that error's token
abbrev pub IsFaultOfFirst : List ℕ → List RuleError → TypeFault → Type 0
IsFaultOfFirst text all fault = (o : RuleError) × IsFirst o all × (fault ≡ fault_of o.rule (place_of text o.at))

-- every rule that a unit breaks, and every limit that it exceeds
abbrev pub all_errors : List External → List RuleError
all_errors externals = errors externals ++ excesses externals

-- a unit is refused for the first of its errors; if it has no errors, for a missing main, at the end of the text; and if it has
-- a main, for the first call of a function that is not defined
abbrev pub IsTypeRefusal : Source → TypeFault → Type 0
IsTypeRefusal s fault =
    IsFaultOfFirst s.text (all_errors s.externals) fault
    ⊎ (((all_errors s.externals ≡ []) × (defines_main s.externals ≡ false) × (fault ≡ NoMain (place_of s.text (length s.text))))
    ⊎ ((all_errors s.externals ≡ []) × (defines_main s.externals ≡ true) × IsFaultOfFirst s.text (undefined_calls s.externals) fault))

-- what `check` may return for a unit if memory suffices: no fault if it is typed within the limits, otherwise why it is refused
abbrev pub IsTypeAnswer : Source → Option TypeFault → Type 0
IsTypeAnswer s None = IsTyped s.externals × IsWithinLimits s.externals
IsTypeAnswer s (Some fault) = IsTypeRefusal s fault

-- `check` has at most one possible answer for a unit: two answers are the same fault at the same place, or both no fault
abbrev pub TypeAnswersAreOne : Type 0
TypeAnswersAreOne = (s : Source) (a b : Option TypeFault) → IsTypeAnswer s a → IsTypeAnswer s b → a ≡ b

-- `check` has a possible answer for every unit
abbrev pub UnitsHaveTypeAnswers : Type 0
UnitsHaveTypeAnswers = (s : Source) → (a : Option TypeFault) × IsTypeAnswer s a

-- the names of the functions that a unit defines, in the order of their definitions
abbrev pub defined_names : Source → List (List ℕ)
defined_names s = map (λ (x : Name). x.text) (function_names s.externals)

-- the functions that a unit defines, in the order of their definitions
abbrev pub definitions : List External → List External
definitions [] = []
definitions (Definition s body ∷ rest) = Definition s body ∷ definitions rest
definitions (Declaration s ∷ rest) = definitions rest
definitions (Objects t os ∷ rest) = definitions rest
