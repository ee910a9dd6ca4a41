-- What the private functions answer.
use Rattle.std.specs.Prelude.{◌≡◌, ℕ, ◌⊎◌, Bool, false, List}
use Rattle.cc_ast.specs.Tree.{External}
use Rattle.cc_ast.specs.Parse.{SpellsText}
use Rattle.cc_types.specs.Fault.{fault_number}
use Rattle.cc_types.specs.Typed.{IsTyped, IsWithinLimits, IsTypeRefusal}
use Rattle.cc_types.specs.Verdict.{source_with}
use Rattle.cc_types.specs.declared.fault.TypeFault.{TypeFault}
use Rattle.cc_types.specs.declared.fault.TypeFault.TheVariants as typing
use Rattle.cc_wide.specs.Laws.{IsTranslation}
use Rattle.cc_wide_text.specs.Forms.{wide_unit}
use Rattle.cc_wide_text.specs.Rules.{UnitKeepsLabels}
use Rattle.cc_translate.specs.declared.translating.Difference.{Difference}
use Rattle.cc_translate.specs.declared.translating.Difference.TheVariants as difference
use Rattle.cc_translate.specs.declared.fault.TranslateFault.{TranslateFault}
use Rattle.cc_translate.specs.declared.fault.TranslateFault.TheVariants as fault

-- the switches of the program that a marked tree is keep the rules of labels; the text is one of the profile, and its tree is a
-- translation of that program
pub record IsTranslatedTree (marked : List External) (text : List ℕ) : Type 0 where
  pub labels : UnitKeepsLabels (wide_unit marked)
  pub tree : List External
  pub spelled : SpellsText text tree
  pub typed : IsTyped tree
  pub limits : IsWithinLimits tree
  pub translation : IsTranslation (wide_unit marked) tree

-- they keep these rules, and its tree is a translation, but `check` refuses it
pub record IsUntyped (marked : List External) (text : List ℕ) (f : TypeFault) : Type 0 where
  pub labels : UnitKeepsLabels (wide_unit marked)
  pub tree : List External
  pub spelled : SpellsText text tree
  pub translation : IsTranslation (wide_unit marked) tree
  pub refused : IsTypeRefusal (source_with text tree) f

abbrev pub IsDifference : List External → List ℕ → Difference → Type 0
IsDifference marked text difference.Labels = Unit {0}
IsDifference marked text (difference.Syntax f) = Unit {0}
IsDifference marked text difference.Other = Unit {0}
IsDifference marked text (difference.Typing f) = (f ≡ typing.OutOfMemory) ⊎ IsUntyped marked text f

-- a fault of the printer, or 42; that of a label only if labels are wrong
abbrev pub IsNotPrinted : (keeps : Bool) → TranslateFault → Type 0
IsNotPrinted keeps (fault.Read f) = ⊥
IsNotPrinted keeps (fault.Print f) = Unit {0}
IsNotPrinted keeps (fault.Labels f) = keeps ≡ false
IsNotPrinted keeps (fault.Continue p) = Unit {0}
IsNotPrinted keeps (fault.Typing f) = ⊥
IsNotPrinted keeps (fault.Untranslated p) = Unit {0}

-- the fault of a text after a rule that `check` found broken; 40 stays 40
abbrev pub IsTypingOf : TypeFault → TranslateFault → Type 0
IsTypingOf f (fault.Typing g) = (fault_number g ≡ fault_number f) × (f ≡ typing.OutOfMemory → g ≡ typing.OutOfMemory)
IsTypingOf f g = ⊥

-- neither `read`, nor labels, nor a rule is what refuses the text
abbrev pub IsSlip : TranslateFault → Type 0
IsSlip (fault.Print f) = Unit {0}
IsSlip (fault.Untranslated p) = Unit {0}
IsSlip f = ⊥

abbrev pub IsFaultOf : Difference → TranslateFault → Type 0
IsFaultOf difference.Labels g = IsSlip g
IsFaultOf (difference.Syntax f) g = IsSlip g
IsFaultOf difference.Other g = IsSlip g
IsFaultOf (difference.Typing f) g = IsTypingOf f g
