-- The numbers of the faults, and the library's fault for a journal's fault.
use Rattle.std.specs.Prelude.{ℕ}
use Rattle.cc_journal.specs.declared.fault.JournalFault.{JournalFault}
use Rattle.cc_journal.specs.declared.fault.JournalFault.TheVariants as journal
use Rattle.cc_library.specs.declared.fault.NameFault.{NameFault}
use Rattle.cc_library.specs.declared.fault.NameFault.TheVariants.{BadName}
use Rattle.cc_library.specs.declared.fault.LibraryFault.{LibraryFault}
use Rattle.cc_library.specs.declared.fault.LibraryFault.TheVariants.{Exists, Absent, Full, DiskFault, Closed, Damaged, NotALibrary, OutOfMemory}

-- the number of the fault of a name
abbrev pub name_fault_number : NameFault → ℕ
name_fault_number BadName = 33

-- the numbers of a library's faults
abbrev pub fault_number : LibraryFault → ℕ
fault_number Exists = 31
fault_number Absent = 32
fault_number Full = 34
fault_number DiskFault = 35
fault_number Closed = 36
fault_number Damaged = 37
fault_number NotALibrary = 38
fault_number OutOfMemory = 40

-- a journal's fault becomes the library's with the same number
abbrev pub fault_of : JournalFault → LibraryFault
fault_of journal.Full = Full
fault_of journal.DiskFault = DiskFault
fault_of journal.Closed = Closed
fault_of journal.Damaged = Damaged
fault_of journal.NotALibrary = NotALibrary
fault_of journal.OutOfMemory = OutOfMemory
