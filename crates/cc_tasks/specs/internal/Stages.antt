-- The program's fault for a fault of the stages.
use Rattle.cc_stages.specs.declared.fault.StagesFault.{StagesFault}
use Rattle.cc_stages.specs.declared.fault.StagesFault.TheVariants as stages
use Rattle.cc_tasks.specs.declared.fault.Fault.{Fault}
use Rattle.cc_tasks.specs.declared.fault.Fault.TheVariants.{Piece, Link, UnknownFunction, OutOfMemory, Write}

abbrev pub fault_of_stages : StagesFault → Fault
fault_of_stages stages.UnknownFunction = UnknownFunction
fault_of_stages (stages.Piece f) = Piece f
fault_of_stages (stages.Link f) = Link f
fault_of_stages stages.OutOfMemory = OutOfMemory
fault_of_stages stages.Write = Write
