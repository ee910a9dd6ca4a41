-- Which texts are programs, and why the others are not.
use Rattle.std.specs.Prelude.{◌≡◌, ◌≤◌, ℕ, ◌⊎◌, List, length, Option}
use Rattle.cc_tokens.specs.declared.place.Place.{Place}
use Rattle.cc_tokens.specs.Fault as tokens
use Rattle.cc_tokens.specs.Tokens.{most_bytes}
use Rattle.cc_ast.specs.Tree.{External}
use Rattle.cc_ast.specs.Parse.{SpellsText, IsParseRefusal}
use Rattle.cc_types.specs.declared.fault.TypeFault.{TypeFault}
use Rattle.cc_types.specs.declared.fault.TypeFault.TheVariants as typing
use Rattle.cc_types.specs.Fault as typed
use Rattle.cc_types.specs.Typed.{IsTyped, IsWithinLimits, IsTypeRefusal}
use Rattle.cc_types.specs.Verdict.{source_with}
use Rattle.cc_link.specs.declared.text.TextFault.{TextFault}
use Rattle.cc_link.specs.declared.text.TextFault.TheVariants.{Syntax, Typing}

-- ---- the numbers and the places of the faults

abbrev pub text_fault_number : TextFault → ℕ
text_fault_number (Syntax f) = tokens.fault_number f
text_fault_number (Typing f) = typed.fault_number f

abbrev pub text_fault_place : TextFault → Option Place
text_fault_place (Syntax f) = tokens.fault_place f
text_fault_place (Typing f) = typed.fault_place f

-- ---- a program's text

-- the text spells this tree, which breaks no rule and exceeds no limit
pub record IsProgramText (text : List ℕ) (tree : List External) : Type 0 where
  pub spelled : SpellsText text tree
  pub typed : IsTyped tree
  pub limits : IsWithinLimits tree

-- the text spells a tree that `check` refuses with this fault
pub record IsRefusedTree (text : List ℕ) (fault : TypeFault) : Type 0 where
  pub tree : List External
  pub fits : length text ≤ most_bytes
  pub spelled : SpellsText text tree
  pub refused : IsTypeRefusal (source_with text tree) fault

-- why a text is not a program: 1 to 7 and 11 to 21 exactly as `parse`, then `check` refuse it, apart from 40
abbrev pub IsTextRefusal : List ℕ → TextFault → Type 0
IsTextRefusal text (Syntax f) = IsParseRefusal text f
IsTextRefusal text (Typing f) = (f ≡ typing.OutOfMemory) ⊎ IsRefusedTree text f
