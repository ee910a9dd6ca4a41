-- The numbers and the places of the program's faults.
use Rattle.std.specs.Prelude.{ℕ, Option, Some, None}
use Rattle.cc_tokens.specs.declared.place.Place.{Place}
use Rattle.cc_link.specs.Compile.{piece_fault_number}
use Rattle.cc_link.specs.Fault.{link_fault_number}
use Rattle.cc_link.specs.Text.{text_fault_number, text_fault_place}
use Rattle.cc_tasks.specs.declared.fault.Fault.{Fault}
use Rattle.cc_tasks.specs.declared.fault.Fault.TheVariants.{Text, Meaning, Piece, Link, UnknownFunction, OutOfMemory, Read, Write}

-- the number that a fault is known by
abbrev pub fault_number : Fault → ℕ
fault_number (Text f) = text_fault_number f
fault_number (Meaning f) = 40
fault_number (Piece f) = piece_fault_number f
fault_number (Link f) = link_fault_number f
fault_number UnknownFunction = 59
fault_number OutOfMemory = 40
fault_number Read = 53
fault_number Write = 54

-- the place of a fault in the text
abbrev pub fault_place : Fault → Option Place
fault_place (Text f) = text_fault_place f
fault_place (Meaning f) = None
fault_place (Piece f) = None
fault_place (Link f) = None
fault_place UnknownFunction = None
fault_place OutOfMemory = None
fault_place Read = None
fault_place Write = None
