-- Which units are copied.
use Rattle.std.specs.Prelude.{◌≡◌, ◌<◌, ℕ, Bool, List, [], ◌∷◌, ◌++◌, length, take, get_or, Some, None, IsTrue, All, if◌then◌else◌}
use Rattle.std.specs.List.{list_any}
use Rattle.std.specs.Str.{bytes_eq}
use Rattle.std.specs.FinMap.{contains_key, get, keys}
use Rattle.cc_library.specs.Apply.{Units}
use Rattle.cc_unit.specs.declared.unit.StoredUnit.{StoredUnit}
use Rattle.cc_link.specs.Audit.{AuditSays}
use Rattle.cc_link.specs.declared.audit_answer.Audit.{Audit}
use Rattle.cc_link.specs.declared.audit_answer.Audit.TheVariants.{Confirmed, NoCertificate, Unconfirmed}
use Rattle.cc_copy.specs.declared.judging.LeftOut.{LeftOut}
use Rattle.cc_copy.specs.declared.judging.Selection.{Selection}
use Rattle.cc_copy.specs.declared.choosing.ChooseFault.{ChooseFault}
use Rattle.cc_copy.specs.declared.choosing.ChooseFault.TheVariants as fault

-- the name is one of these
abbrev pub is_among : (names : List (List ℕ)) (name : List ℕ) → Bool
is_among names name = list_any (bytes_eq name) names

-- each of the names has a unit in the map, and the chosen units are exactly these
pub record IsChosen (units : Units) (names : List (List ℕ)) (copied : Units) : Type 0 where
  pub there : All (λ name. IsTrue (contains_key units name)) names
  pub chosen : (name : List ℕ) → get copied name ≡ (if is_among names name then get units name else None)

-- why no units are chosen: the name with this index is the first without a unit; or memory ran out
abbrev pub IsNotChosen : Units → (names : List (List ℕ)) → ChooseFault → Type 0
IsNotChosen units names (fault.Absent i) = (i < length names) × (get units (get_or names i []) ≡ None) × All (λ name. IsTrue (contains_key units name)) (take i names)
IsNotChosen units names fault.OutOfMemory = Unit {0}

-- ---- what an audit confirms

-- the result of an audit of the unit with a name
abbrev pub IsAuditOf : Units → (name : List ℕ) → Audit → Type 0
IsAuditOf units name audit = (unit : StoredUnit) × (get units name ≡ Some unit) × AuditSays unit.source unit.certificate unit.image audit

-- the results of audits of the units with these names, one for each name
abbrev pub AreAudits : Units → (names : List (List ℕ)) → List Audit → Type 0
AreAudits units [] [] = Unit {0}
AreAudits units [] (audit ∷ audits) = ⊥
AreAudits units (name ∷ names) [] = ⊥
AreAudits units (name ∷ names) (audit ∷ audits) = IsAuditOf units name audit × AreAudits units names audits

-- the name, if its unit is confirmed
abbrev pub if_confirmed : (name : List ℕ) → Audit → List (List ℕ)
if_confirmed name Confirmed = name ∷ []
if_confirmed name NoCertificate = []
if_confirmed name Unconfirmed = []

-- the name with the audit's result, if its unit is not confirmed
abbrev pub if_left_out : (name : List ℕ) → Audit → List LeftOut
if_left_out name Confirmed = []
if_left_out name NoCertificate = record { name = name; audit = NoCertificate } ∷ []
if_left_out name Unconfirmed = record { name = name; audit = Unconfirmed } ∷ []

-- those of these names whose units are confirmed, in order
abbrev pub confirmed_of : (names : List (List ℕ)) → List Audit → List (List ℕ)
confirmed_of [] audits = []
confirmed_of (name ∷ names) [] = []
confirmed_of (name ∷ names) (audit ∷ audits) = if_confirmed name audit ++ confirmed_of names audits

abbrev pub left_out_of : (names : List (List ℕ)) → List Audit → List LeftOut
left_out_of [] audits = []
left_out_of (name ∷ names) [] = []
left_out_of (name ∷ names) (audit ∷ audits) = if_left_out name audit ++ left_out_of names audits

-- the units of a map, in the order of their names: those that an audit confirms are chosen, and the others are left out with the audit's
-- result
pub record IsConfirmed (units : Units) (selection : Selection) : Type 0 where
  pub audits : List Audit
  pub says : AreAudits units (keys units) audits
  pub chosen : IsChosen units (confirmed_of (keys units) audits) selection.units
  pub left_out : selection.left_out.items ≡ left_out_of (keys units) audits
