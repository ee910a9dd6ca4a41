-- The numbers and the places of the faults.
use Rattle.std.specs.Prelude.{ℕ, Option, Some}
use Rattle.cc_tokens.specs.declared.place.Place.{Place}
use Rattle.cc_tokens.specs.Fault as syntax
use Rattle.cc_types.specs.Fault as types
use Rattle.cc_translate.specs.declared.fault.TranslateFault.{TranslateFault}
use Rattle.cc_translate.specs.declared.fault.TranslateFault.TheVariants.{Read, Print, Labels, Continue, Typing, Untranslated}

abbrev pub fault_number : TranslateFault → ℕ
fault_number (Read f) = syntax.fault_number f
fault_number (Print f) = syntax.fault_number f
fault_number (Labels f) = types.fault_number f
fault_number (Continue p) = 18
fault_number (Typing f) = types.fault_number f
fault_number (Untranslated p) = 42

abbrev pub fault_place : TranslateFault → Option Place
fault_place (Read f) = syntax.fault_place f
fault_place (Print f) = syntax.fault_place f
fault_place (Labels f) = types.fault_place f
fault_place (Continue p) = Some p
fault_place (Typing f) = types.fault_place f
fault_place (Untranslated p) = p
