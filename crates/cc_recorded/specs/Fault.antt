-- The numbers of the book's faults, and its fault for receipts that do not match the history.
use Rattle.std.specs.Prelude.{ℕ}
use Rattle.cc_history.specs.declared.standing.StandingFault.{StandingFault}
use Rattle.cc_history.specs.declared.standing.StandingFault.TheVariants as standing
use Rattle.cc_recorded.specs.declared.fault.BookFault.{BookFault}
use Rattle.cc_recorded.specs.declared.fault.BookFault.TheVariants.{Exists, Absent, Full, DiskFault, Closed, Estranged, OutOfMemory}

abbrev pub book_fault_number : BookFault → ℕ
book_fault_number (Exists receipt) = 31
book_fault_number (Absent receipt) = 32
book_fault_number Full = 34
book_fault_number DiskFault = 35
book_fault_number Closed = 36
book_fault_number (Estranged number found) = 39
book_fault_number OutOfMemory = 40

abbrev pub fault_of : StandingFault → BookFault
fault_of (standing.Estranged number found) = Estranged number found
fault_of standing.OutOfMemory = OutOfMemory
