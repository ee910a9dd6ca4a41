-- What becomes of a library into which a unit's file is unpacked.
use Rattle.std.specs.Prelude.{◌≡◌, ◌⊎◌, ℕ, Bool, List}
use Rattle.std.specs.FinMap.{insert}
use Rattle.cc_unit.specs.declared.unit.StoredUnit.{StoredUnit}
use Rattle.cc_library.specs.Apply.{Units}
use Rattle.cc_library.specs.Recovered.{RecoversOneOf}
use Rattle.cc_link.specs.declared.audit_answer.Audit.{Audit}
use Rattle.cc_link.specs.declared.audit_answer.Audit.TheVariants.{Confirmed}
use Rattle.cc_pack.specs.declared.file.ConfirmedIn.{ConfirmedIn}
use Rattle.cc_packing.specs.Added.{IsAddedTo, IsNotAdded}
use Rattle.cc_packing.specs.Modes.{SaysAs}
use Rattle.cc_packing.specs.Packing.{IsFileOf, IsNoFile}
use Rattle.cc_packing.specs.declared.unpacking.UnpackFault.{UnpackFault}
use Rattle.cc_packing.specs.declared.unpacking.UnpackFault.TheVariants.{File, Library}

-- the bytes are the file of this unit, and this is what an audit says about the unit in the modes that the file names
pub record IsFileWith (file : List ℕ) (unit : StoredUnit) (audit : Audit) : Type 0 where
  pub modes : ConfirmedIn
  pub name : List ℕ
  pub is : IsFileOf file modes name unit
  pub says : SaysAs modes unit audit

-- ... and it confirms the unit
abbrev pub IsConfirmedFile : (file : List ℕ) → StoredUnit → Type 0
IsConfirmedFile file unit = IsFileWith file unit Confirmed

-- the file's unit is confirmed, and was added under this name
abbrev pub IsUnpacked : (seen name file : List ℕ) (images : List ℕ → Type 0) → Type 0
IsUnpacked seen name file images = (unit : StoredUnit) × IsConfirmedFile file unit × IsAddedTo seen name unit images

-- the image could have been left before; or the file's unit is confirmed, and the image recovers to the earlier map, or to that map with
-- the unit
abbrev pub MayBeUnpacked : (file name : List ℕ) (before : List ℕ → Type 0) (old : Units) → List ℕ → Type 0
MayBeUnpacked file name before old image = before image ⊎ ((unit : StoredUnit) × IsConfirmedFile file unit × RecoversOneOf old (insert old name unit) image)

-- why nothing is unpacked: there is no unit in the file; or its unit is confirmed, but is not added
abbrev pub IsNotUnpacked : (honest : Bool) (seen : List ℕ) (before after : ℕ) (name file : List ℕ) → UnpackFault → Type 0
IsNotUnpacked honest seen before after name file (File fault) = IsNoFile file fault × (after ≡ before)
IsNotUnpacked honest seen before after name file (Library fault) = (unit : StoredUnit) × IsConfirmedFile file unit × IsNotAdded honest seen before after name unit fault
