-- What reading a journal finds, step by step.
use Rattle.std.specs.Prelude.{◌≡◌, ◌≢◌, ℕ, ◌+◌, ◌*◌, ◌%◌, ◌<◌, ◌^◌, Bool, true, false, List, ◌∷◌, ◌++◌, length, take, drop, Option, Some, None, Result, Ok, Err, if◌then◌else◌}
use Rattle.cc_journal.specs.declared.fault.JournalFault.{JournalFault}
use Rattle.cc_journal.specs.declared.fault.JournalFault.TheVariants.{Full, DiskFault, Closed, Damaged, NotALibrary, OutOfMemory}
use Rattle.cc_journal.specs.Format.{header, records, record_bytes, open_gate}

-- `bytes` are the first bytes of `seen` from this offset on
abbrev pub Shows : ℕ → (bytes seen : List ℕ) → Type 0
Shows offset bytes seen = bytes ≡ take (length bytes) (drop offset seen)

-- these bytes begin with a header whose area in use has this size and begins at `start`
pub record BeginsWith (bytes : List ℕ) (start area : ℕ) : Type 0 where
  pub area_byte : ℕ
  pub rest : List ℕ
  pub is : bytes ≡ header area_byte area ++ rest
  pub begins : start ≡ 16 + area_byte % 2 * area

-- these bytes begin with these records, followed by a closed gate
pub record EndsClosed (bytes : List ℕ) (bodies : List (List ℕ)) : Type 0 where
  pub gate : ℕ
  pub behind : List ℕ
  pub is : bytes ≡ records bodies ++ gate ∷ behind
  pub closed : gate ≢ open_gate

-- what reading one record finds at the start of these bytes, if the area has `left` bytes from there on
abbrev pub FindsRecord : List ℕ → ℕ → Result (Option (List ℕ)) JournalFault → Type 0
FindsRecord bytes left (Ok None) = (gate : ℕ) × (rest : List ℕ) × (bytes ≡ gate ∷ rest) × (gate ≢ open_gate)
FindsRecord bytes left (Ok (Some body)) = (rest : List ℕ) × (bytes ≡ record_bytes body ++ rest)
FindsRecord bytes left (Err Damaged) =
    ((rest : List ℕ) × (bytes ≡ open_gate ∷ rest)) × ((body rest : List ℕ) → bytes ≡ record_bytes body ++ rest → length body < 2 ^ 32 → left < length body + 6)
FindsRecord bytes left (Err NotALibrary) = ⊥
FindsRecord bytes left (Err Full) = ⊥
FindsRecord bytes left (Err Closed) = ⊥
FindsRecord bytes left (Err DiskFault) = Unit {0}
FindsRecord bytes left (Err OutOfMemory) = Unit {0}

-- the faults with which reading bytes can fail: the device failed, or memory ran out
abbrev pub IsBytesFault : JournalFault → Type 0
IsBytesFault DiskFault = Unit {0}
IsBytesFault OutOfMemory = Unit {0}
IsBytesFault Damaged = ⊥
IsBytesFault Full = ⊥
IsBytesFault Closed = ⊥
IsBytesFault NotALibrary = ⊥

-- the faults with which reading records can fail
abbrev pub IsReadingFault : JournalFault → Type 0
IsReadingFault DiskFault = Unit {0}
IsReadingFault Damaged = Unit {0}
IsReadingFault OutOfMemory = Unit {0}
IsReadingFault Full = ⊥
IsReadingFault Closed = ⊥
IsReadingFault NotALibrary = ⊥

-- whether the answer is that the device failed
abbrev pub is_fault_of_disk : {T : Type 0} → Result T JournalFault → Bool
is_fault_of_disk (Ok x) = false
is_fault_of_disk (Err DiskFault) = true
is_fault_of_disk (Err Full) = false
is_fault_of_disk (Err Closed) = false
is_fault_of_disk (Err Damaged) = false
is_fault_of_disk (Err NotALibrary) = false
is_fault_of_disk (Err OutOfMemory) = false

-- how many failures the disk has counted after a call, given how many it had counted before
abbrev pub counted : {T : Type 0} → Result T JournalFault → ℕ → ℕ
counted result before = if is_fault_of_disk result then before + 1 else before
