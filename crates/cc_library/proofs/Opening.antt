-- What an opened journal's records say about the image from which they were read, and when opening is refused.
use Rattle.std.proofs.Common.{◌≡◌, ℕ, Bool, IsTrue, List, [], ◌++◌, ◌∷◌, subst}
use Rattle.std.specs.FinMap.{empty}
use Rattle.cc_journal.specs.declared.fault.JournalFault.{JournalFault}
use Rattle.cc_journal.specs.declared.fault.JournalFault.TheVariants as journal
use Rattle.cc_journal.specs.Format.{HasHeader, HoldsRecords, HoldsAlone, records}
use Rattle.cc_journal.specs.Answers as journals
use Rattle.cc_library.specs.declared.fault.LibraryFault.{LibraryFault}
use Rattle.cc_library.specs.declared.fault.LibraryFault.TheVariants.{Exists, Absent, Full, DiskFault, Closed, Damaged, NotALibrary, OutOfMemory}
use Rattle.cc_library.specs.Fault.{fault_of}
use Rattle.cc_library.specs.Apply.{Units}
use Rattle.cc_library.specs.Recovered.{StandFor}
use Rattle.cc_library.specs.Answers.{OpenFaults, ReplayFaults}
use Rattle.cc_library.proofs.Standing.{one_map, none_left}

-- an image that has records has a valid header
pub has_header : (image : List ℕ) (area : ℕ) (bodies : List (List ℕ)) → HoldsRecords image area bodies → HasHeader image area
has_header image area bodies h = record { area_byte = h.area_byte; rest = h.other ++ (records bodies ++ h.gate ∷ h.behind); bytes = h.bytes; is_area = h.is_area }

-- if records represent no map, an image that has exactly these records recovers to no map
pub replay_refused : (honest : Bool) (seen : List ℕ) (area : ℕ) (bodies : List (List ℕ)) (before behind : ℕ) (fault : LibraryFault) → (IsTrue honest → HoldsAlone seen area bodies) → ReplayFaults bodies fault
    → behind ≡ before → OpenFaults honest seen before behind fault
replay_refused honest seen area bodies before behind Damaged holds faults same = (
  same,
  λ h. (
    (area, has_header seen area bodies (holds h).holds),
    λ units r. faults units (subst (λ (bs : List (List ℕ)). StandFor bs units) ((holds h).alone r.area r.bodies r.holds).1 r.stand),
  ),
)
replay_refused honest seen area bodies before behind OutOfMemory holds faults same = same
replay_refused honest seen area bodies before behind DiskFault holds faults same = absurd faults
replay_refused honest seen area bodies before behind NotALibrary holds faults same = absurd faults
replay_refused honest seen area bodies before behind Exists holds faults same = absurd faults
replay_refused honest seen area bodies before behind Absent holds faults same = absurd faults
replay_refused honest seen area bodies before behind Full holds faults same = absurd faults
replay_refused honest seen area bodies before behind Closed holds faults same = absurd faults

-- if the journal's refusal to open is right, the library's refusal with the same number is right
pub journal_refused : (honest : Bool) (seen : List ℕ) (before behind : ℕ) (fault : JournalFault) → journals.OpenFaults honest seen before behind fault → OpenFaults honest seen before behind (fault_of fault)
journal_refused honest seen before behind journal.DiskFault faults = faults
journal_refused honest seen before behind journal.NotALibrary faults = faults
journal_refused honest seen before behind journal.Damaged faults = (faults.0, λ h. ((faults.1 h).0, λ units r. (faults.1 h).1 r.area r.bodies r.holds))
journal_refused honest seen before behind journal.OutOfMemory faults = faults
journal_refused honest seen before behind journal.Full faults = absurd faults
journal_refused honest seen before behind journal.Closed faults = absurd faults

-- if a list of records is empty, it represents only the empty map
pub new_map : (bodies : List (List ℕ)) (units : Units) → bodies ≡ [] → StandFor bodies units → units ≡ empty
new_map bodies units none stand = one_map empty [] units empty (subst (λ (bs : List (List ℕ)). StandFor bs units) none stand) (none_left empty)
