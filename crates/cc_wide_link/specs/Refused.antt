-- Why a text of wide C has no image.
use Rattle.std.specs.Prelude.{◌≡◌, ℕ, List, Some}
use Rattle.cc_c_semantics.specs.declared.mode.Mode.{Mode}
use Rattle.cc_link.specs.Compile.{IsBuildRefusalIn, build_fault_number}
use Rattle.cc_link.specs.declared.build_fault.BuildFault.{BuildFault}
use Rattle.cc_translate.specs.Carried.{carried}
use Rattle.cc_translate.specs.Fault.{fault_number}
use Rattle.cc_translate.specs.Refused.{IsTranslateRefusal}
use Rattle.cc_translate.specs.Translates.{Translates}
use Rattle.cc_wide_link.specs.declared.fault.WideBuildFault.{WideBuildFault}
use Rattle.cc_wide_link.specs.declared.fault.WideBuildFault.TheVariants.{Wide, Build}

abbrev pub wide_fault_number : WideBuildFault → ℕ
wide_fault_number (Wide f) = fault_number f
wide_fault_number (Build f) = build_fault_number f

-- the text has a translation that carries it, and that has no image
pub record HasNoImageIn (mode : Mode) (wide : List ℕ) (fault : BuildFault) : Type 0 where
  pub text : List ℕ
  pub translates : Translates wide text
  pub carries : carried text ≡ Some wide
  pub refused : IsBuildRefusalIn mode text fault

abbrev pub IsWideRefusalIn : Mode → List ℕ → WideBuildFault → Type 0
IsWideRefusalIn mode wide (Wide f) = IsTranslateRefusal wide f
IsWideRefusalIn mode wide (Build f) = HasNoImageIn mode wide f
