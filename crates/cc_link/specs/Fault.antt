-- The numbers of the faults.
use Rattle.std.specs.Prelude.{ℕ}
use Rattle.cc_link.specs.declared.fault.LinkFault.{LinkFault}
use Rattle.cc_link.specs.declared.fault.LinkFault.TheVariants as link

-- the number of a fault of linking
abbrev pub link_fault_number : LinkFault → ℕ
link_fault_number link.ImageTooLarge = 25
link_fault_number (link.Missing function) = 26
link_fault_number (link.Doubled function at) = 27
link_fault_number (link.Stranger function at) = 28
link_fault_number link.OutOfMemory = 40
