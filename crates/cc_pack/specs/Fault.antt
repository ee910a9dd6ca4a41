-- The numbers of the faults.
use Rattle.std.specs.Prelude.{ℕ}
use Rattle.cc_pack.specs.declared.fault.PackFault.{PackFault}
use Rattle.cc_pack.specs.declared.fault.PackFault.TheVariants.{Damaged, OutOfMemory}

-- the number of a fault
abbrev pub fault_number : PackFault → ℕ
fault_number Damaged = 37
fault_number OutOfMemory = 40
