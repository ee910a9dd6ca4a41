-- When a text of the profile is a translation of a text of wide C, and what holds then.
use Rattle.std.specs.Prelude.{◌≡◌, ℕ, List, Some}
use Rattle.cc_ast.specs.Tree.{External}
use Rattle.cc_ast.specs.Parse.{SpellsText}
use Rattle.cc_types.specs.Typed.{IsTyped, IsWithinLimits}
use Rattle.cc_types.specs.Verdict.{source_with}
use Rattle.cc_simulation.specs.Behavior as runs
use Rattle.cc_simulation.specs.Behavior.{Follows}
use Rattle.cc_c_semantics.specs.Meaning.{observed_behavior}
use Rattle.cc_c_semantics.specs.Checked.{behavior}
use Rattle.cc_c_semantics.specs.Numbered.{without_cause}
use Rattle.cc_c_semantics.specs.declared.mode.Mode.{Mode}
use Rattle.cc_wide.specs.WideTree.{WideExternal}
use Rattle.cc_wide.specs.WideMeaning.{observed_wide_behavior}
use Rattle.cc_wide.specs.Laws.{IsTranslation, wide_behavior_in}
use Rattle.cc_wide_text.specs.Program.{IsWideProgram}
use Rattle.cc_translate.specs.Carried.{carried}

-- the wide text is a program, and the text is one of the profile: the tree that it spells breaks no rule, exceeds no limit, and is a
-- translation of that program
pub record Translates (wide text : List ℕ) : Type 0 where
  pub unit : List WideExternal
  pub program : IsWideProgram wide unit
  pub tree : List External
  pub spelled : SpellsText text tree
  pub typed : IsTyped tree
  pub limits : IsWithinLimits tree
  pub translation : IsTranslation unit tree

-- the text carries this wide text, and is a translation of it
abbrev pub IsConfirmed : (wide text : List ℕ) → Type 0
IsConfirmed wide text = (carried text ≡ Some wide) × Translates wide text

-- the two do the same on each input and within each number of steps: the same reads and writes, the same end, the same cause if they
-- go wrong
abbrev pub DoTheSame : (wide text : List ℕ) → Type 0
DoTheSame wide text =
    (unit : List WideExternal) (tree : List External) → IsWideProgram wide unit → SpellsText text tree
    → (input : List ℕ) (n : ℕ) → observed_behavior (source_with text tree) input n ≡ observed_wide_behavior unit input n

-- a translation does what the wide text does
abbrev pub TranslationsDo : Type 0
TranslationsDo = (wide text : List ℕ) → Translates wide text → DoTheSame wide text

-- whatever follows a translation in a mode, as an image does that was compiled from it, follows the wide text in that mode
abbrev pub FollowersFollow : Type 0
FollowersFollow =
    (wide text : List ℕ) → Translates wide text → (unit : List WideExternal) (tree : List External) → IsWideProgram wide unit → SpellsText text tree
    → (mode : Mode) (input : List ℕ) (z : ℕ → runs.Outcome ℕ)
    → Follows (λ n. without_cause (behavior mode (source_with text tree) input n)) z → Follows (λ n. wide_behavior_in mode unit input n) z
