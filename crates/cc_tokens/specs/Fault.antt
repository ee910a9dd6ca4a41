-- The numbers and the places of the faults.
use Rattle.std.specs.Prelude.{ℕ, Option, Some, None}
use Rattle.cc_tokens.specs.declared.place.Place.{Place}
use Rattle.cc_tokens.specs.declared.fault.SyntaxFault.{SyntaxFault}
use Rattle.cc_tokens.specs.declared.fault.SyntaxFault.TheVariants.{BadByte, UnclosedComment, BadConstant, ConstantTooLarge, Unexpected, TooDeep, SourceTooLarge, OutOfMemory}

-- the number of a fault
abbrev pub fault_number : SyntaxFault → ℕ
fault_number (BadByte p) = 1
fault_number (UnclosedComment p) = 2
fault_number (BadConstant p) = 3
fault_number (ConstantTooLarge p) = 4
fault_number (Unexpected p) = 5
fault_number (TooDeep p) = 6
fault_number SourceTooLarge = 7
fault_number OutOfMemory = 40

-- the place of a fault, if it has one
abbrev pub fault_place : SyntaxFault → Option Place
fault_place (BadByte p) = Some p
fault_place (UnclosedComment p) = Some p
fault_place (BadConstant p) = Some p
fault_place (ConstantTooLarge p) = Some p
fault_place (Unexpected p) = Some p
fault_place (TooDeep p) = Some p
fault_place SourceTooLarge = None
fault_place OutOfMemory = None
