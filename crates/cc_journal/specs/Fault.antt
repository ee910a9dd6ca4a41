-- The numbers of a journal's faults.
use Rattle.std.specs.Prelude.{ℕ}
use Rattle.cc_journal.specs.declared.fault.JournalFault.{JournalFault}
use Rattle.cc_journal.specs.declared.fault.JournalFault.TheVariants.{Full, DiskFault, Closed, Damaged, NotALibrary, OutOfMemory}

-- the numbers of the faults
abbrev pub fault_number : JournalFault → ℕ
fault_number Full = 34
fault_number DiskFault = 35
fault_number Closed = 36
fault_number Damaged = 37
fault_number NotALibrary = 38
fault_number OutOfMemory = 40
