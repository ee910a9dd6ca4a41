-- When an image agrees with a text of wide C: the text is a program of wide C, and on each input the image's run follows the program's.
use Rattle.std.specs.Prelude.{ℕ, List}
use Rattle.cc_rv32.specs.declared.image.Image.{Image}
use Rattle.cc_simulation.specs.Behavior.{AreWords, Follows}
use Rattle.cc_c_semantics.specs.declared.mode.Mode.{Mode}
use Rattle.cc_link.specs.Agree.{image_behavior}
use Rattle.cc_wide.specs.WideTree.{WideExternal}
use Rattle.cc_wide.specs.Laws.{wide_behavior_in}
use Rattle.cc_wide_text.specs.Program.{IsWideProgram}

-- the image's run follows what the program of the text shows in the mode; in the checked mode it does so even if the program goes wrong,
-- unless that is because of its depth
pub record WideAgreementIn (mode : Mode) (wide : List ℕ) (image : Image) : Type 0 where
  pub unit : List WideExternal
  pub program : IsWideProgram wide unit
  pub follows : (input : List ℕ) → AreWords input → Follows (λ n. wide_behavior_in mode unit input n) (image_behavior image input)

-- A typed unit keeps that its text spells its tree, but not how (∥ ∥₁), so nothing more is kept here.
abbrev pub WideAgreeIn : Mode → List ℕ → Image → Type 0
WideAgreeIn mode wide image = ∥ WideAgreementIn mode wide image ∥₁
