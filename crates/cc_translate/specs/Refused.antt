-- Why a text of wide C is not translated.
use Rattle.std.specs.Prelude.{◌≡◌, ℕ, ◌⊎◌, List}
use Rattle.cc_ast.specs.Tree.{External}
use Rattle.cc_ast.specs.Parse.{SpellsText}
use Rattle.cc_types.specs.Fault.{fault_number}
use Rattle.cc_types.specs.Typed.{IsTypeRefusal}
use Rattle.cc_types.specs.Verdict.{source_with}
use Rattle.cc_types.specs.declared.fault.TypeFault.{TypeFault}
use Rattle.cc_types.specs.declared.fault.TypeFault.TheVariants as typing
use Rattle.cc_wide.specs.WideTree.{WideExternal}
use Rattle.cc_wide.specs.Laws.{IsTranslation}
use Rattle.cc_wide_text.specs.Forms.{wide_unit}
use Rattle.cc_wide_text.specs.Program.{IsMarkedTree, IsWideProgram, IsReadRefusal}
use Rattle.cc_wide_text.specs.Rules.{UnitKeepsLabels}
use Rattle.cc_translate.specs.declared.fault.TranslateFault.{TranslateFault}
use Rattle.cc_translate.specs.declared.fault.TranslateFault.TheVariants.{Read, Print, Labels, Continue, Typing, Untranslated}

-- the text has a marked tree
abbrev pub IsRead : List ℕ → Type 0
IsRead wide = (tree : List External) × IsMarkedTree wide tree

-- it has one, and a switch there breaks the rules of labels: so it is no program
pub record BreaksLabels (wide : List ℕ) : Type 0 where
  pub tree : List External
  pub of : IsMarkedTree wide tree
  pub breaks : UnitKeepsLabels (wide_unit tree) → ⊥

-- the text is a program, and some text is a translation of it but for a rule or limit of the profile: `check` refuses that text with a
-- fault of this number
pub record IsRefusedTranslation (wide : List ℕ) (number : ℕ) : Type 0 where
  pub unit : List WideExternal
  pub program : IsWideProgram wide unit
  pub text : List ℕ
  pub tree : List External
  pub spelled : SpellsText text tree
  pub translation : IsTranslation unit tree
  pub fault : TypeFault
  pub refused : IsTypeRefusal (source_with text tree) fault
  pub same : fault_number fault ≡ number

-- why a text is not translated: exactly as `read` refuses it; or it has been read, and a switch breaks the rules of labels, or a
-- translation breaks another rule. What the printer refuses (5, 6, 7 and 18), and 42, say that it has been read
abbrev pub IsTranslateRefusal : List ℕ → TranslateFault → Type 0
IsTranslateRefusal wide (Read f) = IsReadRefusal wide f
IsTranslateRefusal wide (Print f) = IsRead wide
IsTranslateRefusal wide (Labels f) = BreaksLabels wide
IsTranslateRefusal wide (Continue p) = IsRead wide
IsTranslateRefusal wide (Typing f) = (f ≡ typing.OutOfMemory) ⊎ IsRefusedTranslation wide (fault_number f)
IsTranslateRefusal wide (Untranslated p) = IsRead wide
