-- An image that agrees with a translation agrees with the text of wide C.
use Rattle.std.proofs.Common.{ℕ, List}
use Rattle.std.proofs.Math.Logic.{∥∥₁_map}
use Rattle.cc_rv32.specs.declared.image.Image.{Image}
use Rattle.cc_c_semantics.specs.declared.mode.Mode.{Mode}
use Rattle.cc_link.specs.Agree.{AgreementIn, AgreeIn, image_behavior}
use Rattle.cc_translate.specs.Translates.{Translates, FollowersFollow}
use Rattle.cc_wide_link.specs.Agree.{WideAgreementIn, WideAgreeIn}

agreement : FollowersFollow → (mode : Mode) (wide text : List ℕ) (image : Image) → Translates wide text → AgreementIn mode text image → WideAgreementIn mode wide image
agreement law mode wide text image t a =
    record {
      unit = t.unit;
      program = t.program;
      follows = λ input words. law wide text t t.unit a.tree t.program a.spelled mode input (image_behavior image input) (a.follows input words);
    }

pub agrees : FollowersFollow → (mode : Mode) (wide text : List ℕ) (image : Image) → Translates wide text → AgreeIn mode text image → WideAgreeIn mode wide image
agrees law mode wide text image t a = ∥∥₁_map a (λ (h : AgreementIn mode text image). agreement law mode wide text image t h)
