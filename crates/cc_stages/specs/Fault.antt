-- The numbers of the faults.
use Rattle.std.specs.Prelude.{ℕ}
use Rattle.cc_link.specs.Compile.{piece_fault_number}
use Rattle.cc_link.specs.Fault.{link_fault_number}
use Rattle.cc_stages.specs.declared.fault.StagesFault.{StagesFault}
use Rattle.cc_stages.specs.declared.fault.StagesFault.TheVariants.{UnknownFunction, Piece, Link, OutOfMemory, Write}

-- the number of a fault
abbrev pub fault_number : StagesFault → ℕ
fault_number UnknownFunction = 59
fault_number (Piece f) = piece_fault_number f
fault_number (Link f) = link_fault_number f
fault_number OutOfMemory = 40
fault_number Write = 54
