-- What a pair of Selected keeps: the steps of one function of a typed unit.
use Rattle.std.specs.Prelude.{ℕ, ◌<◌, ◌≤◌, List, length}
use Rattle.cc_ast.specs.Tree.{External}
use Rattle.cc_ast.specs.Source.{source}
use Rattle.cc_ast.specs.declared.unit.Unit as parsed
use Rattle.cc_types.specs.Typed.{IsTyped}
use Rattle.cc_linear_language.specs.Meaning.{functions}
use Rattle.cc_c_semantics.specs.Numbered.{IsMeaning}
use Rattle.cc_c_semantics.specs.declared.mode.Mode.{Mode}
use Rattle.cc_simulation.specs.Meaning.{Meaning}
use Rattle.cc_simulation.specs.Tracks.{TracksForAll}
use Rattle.cc_ltl.specs.Ltl.{Ltl, IsLtl}
use Rattle.cc_linear_language.specs.Pair.{most_blocks, LtlKeepsUp}
use Rattle.cc_select.specs.declared.step.Step.{Step}
use Rattle.cc_select.specs.Selected.{IsSelected, selected_move, selected_output, selected_start}

-- a pair as contracts see it: the mode, the unit, the function's number in the order of definitions, its LTL, and its steps
pub record Pair : Type 0 where
  pub mode : Mode
  pub unit : parsed.Unit
  pub function : ℕ
  pub ltl : Ltl
  pub code : List Step

-- the unit's tree
abbrev pub tree_of : Pair → List External
tree_of p = (source p.unit).externals

-- at some rate the run keeps up with the function, for all lists of unknown words
abbrev pub KeepsUp : Mode → List External → (function slots : ℕ) → List Step → Type 0
KeepsUp mode unit f slots code =
    (rate : ℕ) × ((meaning : Meaning) → IsMeaning mode unit meaning → TracksForAll meaning f rate (selected_move meaning.arity code) selected_output (selected_start slots code))

-- what a pair's type keeps
pub record IsPair (p : Pair) : Type 0 where
  pub typed : IsTyped (tree_of p)
  pub function : p.function < length (functions (tree_of p))
  pub ltl : IsLtl p.ltl
  pub few : length p.ltl.blocks ≤ most_blocks
  pub ltl_keeps_up : LtlKeepsUp p.mode (tree_of p) p.function p.ltl
  pub selected : IsSelected p.ltl.slots (length (functions (tree_of p))) p.code
  pub keeps_up : KeepsUp p.mode (tree_of p) p.function p.ltl.slots p.code
