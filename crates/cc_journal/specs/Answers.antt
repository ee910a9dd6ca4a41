-- Which answer a call of the journal gives, and when. `before` and `after` are how many failures the disk has counted before the
-- call and after it.
use Rattle.std.specs.Prelude.{◌≡◌, ℕ, ◌+◌, ◌<◌, ◌≤◌, Bool, true, false, IsTrue, List, ◌∷◌, ◌++◌, [], Result, Ok, Err}
use Rattle.cc_journal.specs.declared.fault.JournalFault.{JournalFault}
use Rattle.cc_journal.specs.declared.fault.JournalFault.TheVariants.{Full, DiskFault, Closed, Damaged, NotALibrary, OutOfMemory}
use Rattle.cc_journal.specs.Format.{IsArea, HasHeader, HoldsRecords, room_of}

-- `format`: 34 exactly if a disk of this size cannot have such an area, 35 exactly if the device failed
abbrev pub FormatAnswers : {T : Type 0} → (size area before after : ℕ) → Result T JournalFault → Type 0
FormatAnswers size area before after (Ok done) = IsArea size area × (after ≡ before)
FormatAnswers size area before after (Err Full) = (IsArea size area → ⊥) × (after ≡ before)
FormatAnswers size area before after (Err DiskFault) = IsArea size area × (after ≡ before + 1)
FormatAnswers size area before after (Err Closed) = ⊥
FormatAnswers size area before after (Err Damaged) = ⊥
FormatAnswers size area before after (Err NotALibrary) = ⊥
FormatAnswers size area before after (Err OutOfMemory) = ⊥

-- a commit that makes these the records: 36 exactly if the journal was closed, then 34 exactly if they do not fit, then 35
-- exactly if the device failed
abbrev pub CommitAnswers : {T : Type 0} → (closed : Bool) (area : ℕ) (bodies : List (List ℕ)) (before after : ℕ) → Result T JournalFault → Type 0
CommitAnswers closed area bodies before after (Ok done) = (closed ≡ false) × (room_of bodies ≤ area) × (after ≡ before)
CommitAnswers closed area bodies before after (Err Closed) = (closed ≡ true) × (after ≡ before)
CommitAnswers closed area bodies before after (Err Full) = (closed ≡ false) × (area < room_of bodies) × (after ≡ before)
CommitAnswers closed area bodies before after (Err DiskFault) = (closed ≡ false) × (room_of bodies ≤ area) × (after ≡ before + 1)
CommitAnswers closed area bodies before after (Err OutOfMemory) = (closed ≡ false) × (room_of bodies ≤ area) × (after ≡ before)
CommitAnswers closed area bodies before after (Err Damaged) = ⊥
CommitAnswers closed area bodies before after (Err NotALibrary) = ⊥

-- `append`: the answer of a commit that makes the old records and the new one the records
abbrev pub AppendAnswers : {T : Type 0} → (closed : Bool) (area : ℕ) (bodies : List (List ℕ)) (body : List ℕ) (before after : ℕ) → Result T JournalFault → Type 0
AppendAnswers closed area bodies body before after result = CommitAnswers closed area (bodies ++ body ∷ []) before after result

-- `open`: 35 exactly if the device failed; on an honest disk with these bytes, 38 only if there is no valid header, and 37 only
-- if there is one but no records can be read
abbrev pub OpenFaults : (honest : Bool) (seen : List ℕ) (before after : ℕ) → JournalFault → Type 0
OpenFaults honest seen before after DiskFault = after ≡ before + 1
OpenFaults honest seen before after NotALibrary = (after ≡ before) × (IsTrue honest → (area : ℕ) → HasHeader seen area → ⊥)
OpenFaults honest seen before after Damaged =
    (after ≡ before) × (IsTrue honest → ((area : ℕ) × HasHeader seen area) × ((area : ℕ) (bodies : List (List ℕ)) → HoldsRecords seen area bodies → ⊥))
OpenFaults honest seen before after OutOfMemory = after ≡ before
OpenFaults honest seen before after Full = ⊥
OpenFaults honest seen before after Closed = ⊥
