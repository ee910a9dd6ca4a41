-- How much memory the image of a library's unit takes.
use Rattle.std.specs.Prelude.{◌≡◌, ℕ, Bool, IsTrue, List, Some, None}
use Rattle.cc_c_semantics.specs.declared.mode.Mode.{Mode}
use Rattle.cc_link.specs.declared.audit_answer.Audit.TheVariants as audit
use Rattle.cc_unit.specs.declared.unit.StoredUnit.{StoredUnit}
use Rattle.cc_findings.specs.Measured.{Measures}
use Rattle.cc_tasks.specs.Part.{IsNoPartOn}
use Rattle.cc_tasks.specs.declared.part.PartFault.{PartFault}
use Rattle.cc_call.specs.Call.{IsUnitOn}
use Rattle.cc_call.specs.declared.measuring.StoredSize.{StoredSize}
use Rattle.cc_call.specs.declared.measuring.StoredSize.TheVariants.{Confirmed, Left}

-- The measure of the unit's image, which follows on every input what the unit's program shows in the mode; and what is measured is this
-- unit and no other. Or an audit does not confirm the unit; the audit's result is "no certificate" exactly if the unit has none.
abbrev pub IsSizeOf : Mode → StoredUnit → StoredSize → Type 0
IsSizeOf mode unit (Confirmed it) = Measures mode unit.source it × (it.sized.made.unit ≡ unit)
IsSizeOf mode unit (Left audit.NoCertificate) = unit.certificate ≡ None
IsSizeOf mode unit (Left audit.Unconfirmed) = (certificate : List ℕ) × (unit.certificate ≡ Some certificate)
IsSizeOf mode unit (Left audit.Confirmed) = ⊥

-- A unit has this size. If the disk is honest, it is the one under the name in the map to which the disk's bytes recover.
abbrev pub IsSizeOn : Mode → (honest : Bool) (seen name : List ℕ) → StoredSize → Type 0
IsSizeOn mode honest seen name size = (unit : StoredUnit) × (IsTrue honest → IsUnitOn seen name unit) × IsSizeOf mode unit size

-- why nothing is measured: the library is not opened, it has no such unit, or memory ran out
abbrev pub IsUnmeasured : (honest : Bool) (seen : List ℕ) (before after : ℕ) (name : List ℕ) → PartFault → Type 0
IsUnmeasured honest seen before after name fault = IsNoPartOn honest seen before after name fault
