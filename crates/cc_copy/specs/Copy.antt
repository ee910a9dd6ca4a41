-- A new library with the units of a map.
use Rattle.std.specs.Prelude.{◌≡◌, ◌≤◌, ◌<◌, ◌+◌, ◌^◌, ℕ, Bool, IsTrue, Option, Some, None}
use Rattle.cc_journal.specs.Format.{IsArea, room_of}
use Rattle.cc_library.specs.declared.fault.LibraryFault.{LibraryFault}
use Rattle.cc_library.specs.declared.fault.LibraryFault.TheVariants.{Exists, Absent, Full, DiskFault, Closed, Damaged, NotALibrary, OutOfMemory}
use Rattle.cc_library.specs.Apply.{Units}
use Rattle.cc_library.specs.Compact.{compacted}

-- how many bytes of an area the records of these units take, with one Add for each name
abbrev pub room_for : Units → ℕ
room_for units = room_of (compacted units)

-- why there is no new library: 34 only if the units do not fit in the area, or two areas of that size do not fit on the disk; 35
-- if the device failed; else memory ran out. A disk that is not honest may have lost what was just written to it.
abbrev pub CopyFaults : (honest : Bool) (size area : ℕ) → Units → (before after : ℕ) → LibraryFault → Type 0
CopyFaults honest size area units before after Full = (IsTrue honest → IsArea size area → area < room_for units) × (after ≡ before)
CopyFaults honest size area units before after DiskFault = (room_for units ≤ area) × (after ≡ before + 1)
CopyFaults honest size area units before after OutOfMemory = after ≡ before
CopyFaults honest size area units before after NotALibrary = IsTrue honest → ⊥
CopyFaults honest size area units before after Damaged = IsTrue honest → ⊥
CopyFaults honest size area units before after Exists = ⊥
CopyFaults honest size area units before after Absent = ⊥
CopyFaults honest size area units before after Closed = ⊥

-- the least area of 64 bytes or more that has room for these units; none exactly if even the greatest area does not have enough room
abbrev pub IsLeastArea : Units → Option ℕ → Type 0
IsLeastArea units None = 2 ^ 30 < room_for units
IsLeastArea units (Some area) = (64 ≤ area) × (area ≤ 2 ^ 30) × (room_for units ≤ area) × ((less : ℕ) → 64 ≤ less → less < area → less < room_for units)
