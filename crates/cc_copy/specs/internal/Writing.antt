-- Why the records of units could not be written.
use Rattle.std.specs.Prelude.{◌≡◌, ◌≤◌, ◌<◌, ◌+◌, ℕ}
use Rattle.cc_library.specs.declared.fault.LibraryFault.{LibraryFault}
use Rattle.cc_library.specs.declared.fault.LibraryFault.TheVariants.{Exists, Absent, Full, DiskFault, Closed, Damaged, NotALibrary, OutOfMemory}
use Rattle.cc_library.specs.Apply.{Units}
use Rattle.cc_copy.specs.Copy.{room_for}

-- 34 only if the records do not fit in the area, 35 if the device failed, else memory ran out
abbrev pub WriteFaults : (area : ℕ) → Units → (before after : ℕ) → LibraryFault → Type 0
WriteFaults area units before after Full = (area < room_for units) × (after ≡ before)
WriteFaults area units before after DiskFault = (room_for units ≤ area) × (after ≡ before + 1)
WriteFaults area units before after OutOfMemory = after ≡ before
WriteFaults area units before after NotALibrary = ⊥
WriteFaults area units before after Damaged = ⊥
WriteFaults area units before after Exists = ⊥
WriteFaults area units before after Absent = ⊥
WriteFaults area units before after Closed = ⊥
