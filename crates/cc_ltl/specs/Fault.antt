-- The numbers of the faults.
use Rattle.std.specs.Prelude.{ℕ}
use Rattle.cc_ltl.specs.declared.fault.LtlFault.{LtlFault}
use Rattle.cc_ltl.specs.declared.fault.LtlFault.TheVariants.{Damaged, OutOfMemory}

abbrev pub fault_number : LtlFault → ℕ
fault_number Damaged = 37
fault_number OutOfMemory = 40
