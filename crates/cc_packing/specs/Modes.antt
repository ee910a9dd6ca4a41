-- In which modes an audit confirms a unit.
use Rattle.std.specs.Prelude.{◌≡◌, ◌⊎◌, ℕ, List, Some, None}
use Rattle.cc_c_semantics.specs.declared.mode.Mode.{Mode}
use Rattle.cc_c_semantics.specs.declared.mode.Mode.TheVariants as mode
use Rattle.cc_link.specs.Audit.{IsConfirmedIn, IsFailedPartIn}
use Rattle.cc_link.specs.declared.audit_answer.Audit.{Audit}
use Rattle.cc_link.specs.declared.audit_answer.Audit.TheVariants.{Confirmed, NoCertificate, Unconfirmed}
use Rattle.cc_link.specs.declared.audit_answer.FailedPart.{FailedPart}
use Rattle.cc_pack.specs.declared.file.ConfirmedIn.{ConfirmedIn}
use Rattle.cc_pack.specs.declared.file.ConfirmedIn.TheVariants.{Plain, Checked, Both, Neither}
use Rattle.cc_unit.specs.declared.unit.StoredUnit.{StoredUnit}

-- an audit in this mode confirms the unit: it has a certificate, and the image follows what the source's program shows in the mode
pub record IsConfirmed (mode : Mode) (unit : StoredUnit) : Type 0 where
  pub certificate : List ℕ
  pub has : unit.certificate ≡ Some certificate
  pub confirmed : IsConfirmedIn mode unit.source certificate unit.image

-- ... does not: the unit has a certificate, but this part of the unit fails
pub record HasFailedPart (mode : Mode) (unit : StoredUnit) : Type 0 where
  pub certificate : List ℕ
  pub has : unit.certificate ≡ Some certificate
  pub part : FailedPart
  pub failed : IsFailedPartIn mode unit.source certificate unit.image part

-- an audit in this mode does not confirm the unit: the unit has no certificate, or a part of it fails
abbrev pub IsLeft : Mode → StoredUnit → Type 0
IsLeft mode unit = (unit.certificate ≡ None) ⊎ HasFailedPart mode unit

-- an audit confirms the unit in these modes, and not in the other ones
abbrev pub AreModesOf : StoredUnit → ConfirmedIn → Type 0
AreModesOf unit Plain = IsConfirmed mode.Plain unit × IsLeft mode.Checked unit
AreModesOf unit Checked = IsLeft mode.Plain unit × IsConfirmed mode.Checked unit
AreModesOf unit Both = IsConfirmed mode.Plain unit × IsConfirmed mode.Checked unit
AreModesOf unit Neither = IsLeft mode.Plain unit × IsLeft mode.Checked unit

-- an audit confirms the unit in each of these modes; there is one at least
abbrev pub IsConfirmedAs : ConfirmedIn → StoredUnit → Type 0
IsConfirmedAs Plain unit = IsConfirmed mode.Plain unit
IsConfirmedAs Checked unit = IsConfirmed mode.Checked unit
IsConfirmedAs Both unit = IsConfirmed mode.Plain unit × IsConfirmed mode.Checked unit
IsConfirmedAs Neither unit = ⊥

-- a part of the unit fails in one of these modes, or there is no mode
abbrev pub FailsAs : ConfirmedIn → StoredUnit → Type 0
FailsAs Plain unit = HasFailedPart mode.Plain unit
FailsAs Checked unit = HasFailedPart mode.Checked unit
FailsAs Both unit = HasFailedPart mode.Plain unit ⊎ HasFailedPart mode.Checked unit
FailsAs Neither unit = (certificate : List ℕ) × (unit.certificate ≡ Some certificate)

-- what an audit in each of these modes says about the unit
abbrev pub SaysAs : ConfirmedIn → StoredUnit → Audit → Type 0
SaysAs modes unit Confirmed = IsConfirmedAs modes unit
SaysAs modes unit NoCertificate = unit.certificate ≡ None
SaysAs modes unit Unconfirmed = FailsAs modes unit

-- what an audit in this mode says about the unit
abbrev pub SaysIn : Mode → StoredUnit → Audit → Type 0
SaysIn mode unit Confirmed = IsConfirmed mode unit
SaysIn mode unit NoCertificate = unit.certificate ≡ None
SaysIn mode unit Unconfirmed = HasFailedPart mode unit
