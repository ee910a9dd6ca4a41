-- When an image agrees with a text on inputs that never end.
use Rattle.std.specs.Prelude.{ℕ, List}
use Rattle.cc_rv32.specs.declared.image.Image.{Image}
use Rattle.cc_ast.specs.Tree.{External}
use Rattle.cc_ast.specs.Parse.{SpellsText}
use Rattle.cc_types.specs.Typed.{IsTyped}
use Rattle.cc_types.specs.Verdict.{source_with}
use Rattle.cc_c_semantics.specs.declared.mode.Mode.{Mode}
use Rattle.cc_link.specs.Agree.{image_behavior, program_behavior, behavior_in}
use Rattle.cc_link.specs.Stack.{backed_image_behavior}
use Rattle.cc_endless.specs.Endless.{AreAllWords, FollowsEndless}

-- the text spells `tree`, and on each endless input the image's run follows the run of this program
pub record EndlessAgreement (text : List ℕ) (image : Image) : Type 0 where
  pub tree : List External
  pub spelled : SpellsText text tree
  pub typed : IsTyped tree
  pub follows : (words : ℕ → ℕ) → AreAllWords words → FollowsEndless (program_behavior (source_with text tree)) (image_behavior image) words

-- the same in a mode
pub record EndlessAgreementIn (mode : Mode) (text : List ℕ) (image : Image) : Type 0 where
  pub tree : List External
  pub spelled : SpellsText text tree
  pub typed : IsTyped tree
  pub follows : (words : ℕ → ℕ) → AreAllWords words → FollowsEndless (behavior_in mode (source_with text tree)) (image_behavior image) words

-- the same on a board that backs this many bytes of stack
pub record BackedEndlessAgreement (mode : Mode) (text : List ℕ) (bytes : ℕ) (image : Image) : Type 0 where
  pub tree : List External
  pub spelled : SpellsText text tree
  pub typed : IsTyped tree
  pub follows : (words : ℕ → ℕ) → AreAllWords words
      → FollowsEndless (behavior_in mode (source_with text tree)) (backed_image_behavior bytes image) words
