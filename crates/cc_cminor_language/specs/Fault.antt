-- The number of the fault.
use Rattle.std.specs.Prelude.{ℕ}
use Rattle.cc_cminor_language.specs.declared.fault.CodeFault.{CodeFault}
use Rattle.cc_cminor_language.specs.declared.fault.CodeFault.TheVariants.{FunctionTooLarge, OutOfMemory}

-- the number by which a fault is known
abbrev pub fault_number : CodeFault → ℕ
fault_number FunctionTooLarge = 22
fault_number OutOfMemory = 40
