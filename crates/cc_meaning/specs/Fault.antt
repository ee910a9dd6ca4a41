-- The number of the fault.
use Rattle.std.specs.Prelude.{ℕ}
use Rattle.cc_meaning.specs.declared.fault.MeaningFault.{MeaningFault}
use Rattle.cc_meaning.specs.declared.fault.MeaningFault.TheVariants.{OutOfMemory}

-- the number of a fault
abbrev pub fault_number : MeaningFault → ℕ
fault_number OutOfMemory = 40
