-- What a pair of Linear keeps: the Linear of one function of a typed unit.
use Rattle.std.specs.Prelude.{ℕ, suc, ◌<◌, ◌≤◌, List, length}
use Rattle.cc_ast.specs.Tree.{External}
use Rattle.cc_ast.specs.Source.{source}
use Rattle.cc_ast.specs.declared.unit.Unit as parsed
use Rattle.cc_types.specs.Typed.{IsTyped}
use Rattle.cc_c_semantics.specs.Meaning.{functions}
use Rattle.cc_c_semantics.specs.Numbered.{IsMeaning}
use Rattle.cc_c_semantics.specs.declared.mode.Mode.{Mode}
use Rattle.cc_simulation.specs.Behavior.{FollowsForAll}
use Rattle.cc_simulation.specs.World.{World}
use Rattle.cc_simulation.specs.Run.{run}
use Rattle.cc_simulation.specs.Meaning.{Meaning, most_open, IsCall, call_effect, answered}
use Rattle.cc_simulation.specs.Tracks.{TracksForAll}
use Rattle.cc_ltl.specs.Ltl.{Ltl, IsLtl, ltl_move, ltl_output, ltl_start}
use Rattle.cc_linear_language.specs.declared.item.LinearItem.{LinearItem}
use Rattle.cc_linear_language.specs.Linear.{IsLinear, linear_move, linear_output, linear_start}

-- a pair as contracts see it: the mode, the unit, the function's number in the order of definitions, the LTL that was laid out, and its items
pub record Pair : Type 0 where
  pub mode : Mode
  pub unit : parsed.Unit
  pub function : ℕ
  pub ltl : Ltl
  pub code : List LinearItem

-- the unit's tree
abbrev pub tree_of : Pair → List External
tree_of p = (source p.unit).externals

-- the LTL of a function may have at most this many blocks
abbrev pub most_blocks : ℕ
most_blocks = 4096

-- the LTL's run keeps up with the function: `KeepsUp` of `cc_validate`, repeated so that crates over Linear need not wait for it
abbrev pub LtlKeepsUp : Mode → List External → (function : ℕ) → Ltl → Type 0
LtlKeepsUp mode unit f ltl = (rate : ℕ) × ((meaning : Meaning) → IsMeaning mode unit meaning → TracksForAll meaning f rate (ltl_move meaning.arity ltl) ltl_output (ltl_start ltl))

-- at some rate the run keeps up with the function, for all lists of unknown words
abbrev pub KeepsUp : Mode → List External → (function slots : ℕ) → List LinearItem → Type 0
KeepsUp mode unit f slots code =
    (rate : ℕ) × ((meaning : Meaning) → IsMeaning mode unit meaning → TracksForAll meaning f rate (linear_move meaning.arity code) linear_output (linear_start slots code))

-- for each number of open calls below the limit, the run follows the function's body, for all lists of unknown words
abbrev pub FollowsFunction : Mode → List External → (function slots : ℕ) → List LinearItem → Type 0
FollowsFunction mode unit f slots code =
    (meaning : Meaning) → IsMeaning mode unit meaning → (opened : ℕ) → opened < most_open → (ws : List ℕ) (h : World) → IsCall meaning f ws h
    → FollowsForAll (λ n. answered (meaning.body n opened f ws h)) (λ words (b : ℕ × ℕ). run (linear_move meaning.arity code) linear_output (call_effect meaning (suc opened)) b.0 b.1 (linear_start slots code words ws h))

-- what a pair's type keeps
pub record IsPair (p : Pair) : Type 0 where
  pub typed : IsTyped (tree_of p)
  pub function : p.function < length (functions (tree_of p))
  pub ltl : IsLtl p.ltl
  pub few : length p.ltl.blocks ≤ most_blocks
  pub ltl_keeps_up : LtlKeepsUp p.mode (tree_of p) p.function p.ltl
  pub linear : IsLinear p.ltl.slots (length (functions (tree_of p))) p.code
  pub keeps_up : KeepsUp p.mode (tree_of p) p.function p.ltl.slots p.code
