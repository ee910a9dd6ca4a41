-- What holds for programs of wide C.
use Rattle.std.specs.Prelude.{◌≡◌, ℕ, List}
use Rattle.cc_ast.specs.Tree.{External}
use Rattle.cc_simulation.specs.Behavior as runs
use Rattle.cc_simulation.specs.Behavior.{Follows}
use Rattle.cc_c_semantics.specs.Meaning.{observed_behavior, source_behavior}
use Rattle.cc_c_semantics.specs.Checked.{shown, behavior}
use Rattle.cc_c_semantics.specs.Numbered.{without_cause}
use Rattle.cc_c_semantics.specs.declared.mode.Mode.{Mode}
use Rattle.cc_wide.specs.WideTree.{WideExternal}
use Rattle.cc_wide.specs.WideMeaning.{observed_wide_behavior, wide_behavior}
use Rattle.cc_wide.specs.Lowering.{lowered_unit, UnitLowers}
use Rattle.cc_wide.specs.Places.{AreAlike}

-- a program of wide C does what the program of C does to which it is lowered, within each number of steps, with the same reads among the
-- same words
abbrev pub SwitchesAreLowered : Type 0
SwitchesAreLowered = (text : List ℕ) (unit : List WideExternal) → UnitLowers unit → (input : List ℕ) (n : ℕ)
    → observed_behavior (record { text = text; externals = lowered_unit unit }) input n ≡ observed_wide_behavior unit input n

-- a tree of C is a translation of a unit of wide C: the one to which it is lowered, but for places and parentheses
pub record IsTranslation (unit : List WideExternal) (tree : List External) : Type 0 where
  pub lowers : UnitLowers unit
  pub alike : AreAlike tree (lowered_unit unit)

-- a translation does what the unit does, within each number of steps
abbrev pub TranslationsDoTheSame : Type 0
TranslationsDoTheSame = (text : List ℕ) (unit : List WideExternal) (tree : List External) → IsTranslation unit tree → (input : List ℕ) (n : ℕ)
    → observed_behavior (record { text = text; externals = tree }) input n ≡ observed_wide_behavior unit input n

-- the same if only the words are seen, without the reads
abbrev pub TranslationsWriteTheSame : Type 0
TranslationsWriteTheSame = (text : List ℕ) (unit : List WideExternal) (tree : List External) → IsTranslation unit tree → (input : List ℕ) (n : ℕ)
    → source_behavior (record { text = text; externals = tree }) input n ≡ wide_behavior unit input n

-- what a program of wide C shows in a mode
abbrev pub wide_behavior_in : Mode → List WideExternal → List ℕ → ℕ → runs.Outcome ℕ
wide_behavior_in mode unit input n = without_cause (shown mode (observed_wide_behavior unit input n))

-- whatever follows a translation in a mode, as an image does that agrees with its text, follows the program of wide C in that mode
abbrev pub FollowersFollow : Type 0
FollowersFollow = (mode : Mode) (text : List ℕ) (unit : List WideExternal) (tree : List External) → IsTranslation unit tree → (input : List ℕ) (z : ℕ → runs.Outcome ℕ)
    → Follows (λ n. without_cause (behavior mode (record { text = text; externals = tree }) input n)) z → Follows (λ n. wide_behavior_in mode unit input n) z
