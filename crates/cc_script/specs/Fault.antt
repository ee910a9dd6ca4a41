-- The numbers of the faults of a script.
use Rattle.std.specs.Prelude.{ℕ}
use Rattle.cc_script.specs.declared.fault.ScriptFault.{ScriptFault}
use Rattle.cc_script.specs.declared.fault.ScriptFault.TheVariants.{BadLine, EndOfScript, ScriptTooLong, ReadFault, WriteFault, Stopped}

-- the number of a fault
abbrev pub fault_number : ScriptFault → ℕ
fault_number BadLine = 50
fault_number EndOfScript = 51
fault_number ScriptTooLong = 52
fault_number ReadFault = 53
fault_number WriteFault = 54
fault_number Stopped = 61
