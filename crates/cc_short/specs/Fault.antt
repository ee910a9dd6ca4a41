-- The numbers of the faults.
use Rattle.std.specs.Prelude.{ℕ}
use Rattle.cc_short.specs.declared.fault.ShortFault.{ShortFault}
use Rattle.cc_short.specs.declared.fault.ShortFault.TheVariants.{SourceTooLarge, BadName, OutOfMemory}

-- the number of a fault
abbrev pub fault_number : ShortFault → ℕ
fault_number SourceTooLarge = 7
fault_number BadName = 33
fault_number OutOfMemory = 40
