-- The rules of the build that compiles, and what a piece keeps.
use Rattle.std.specs.Prelude.{ℕ, List, [], ◌∷◌, Result, Ok, Err, if◌then◌else◌}
use Rattle.cc_ast.specs.Source.{source}
use Rattle.cc_unit.specs.declared.unit.StoredUnit.{StoredUnit}
use Rattle.cc_emit.specs.Piece.{Piece}
use Rattle.cc_link.specs.Agree.{Agree}
use Rattle.cc_link.specs.Linked.{same_bytes, linked_in}
use Rattle.cc_link.specs.Laws.{LinkedUnitsFollow, AgreeInAgree}
use Rattle.cc_link.specs.Made.{IsCompiled}
use Rattle.cc_link.specs.declared.fault.LinkFault.{LinkFault}
use Rattle.cc_link.specs.Fault.{link_fault_number}
use Rattle.cc_core.specs.Rules.{Rules}
use Rattle.cc_headline.specs.Plan.{IsPlan}

-- the text of a piece's unit
abbrev pub text_of : Piece → List ℕ
text_of piece = (source piece.unit).text

-- a unit, or the number of the fault for which its pieces are refused
abbrev pub numbered : Result StoredUnit LinkFault → Result StoredUnit ℕ
numbered (Ok unit) = Ok unit
numbered (Err fault) = Err (link_fault_number fault)

-- the unit that pieces make up: they are linked for the unit and in the mode of the first piece, if that unit has this source; otherwise
-- they are refused with 28, or with 26 if there is no piece
abbrev pub unit_of : List ℕ → List Piece → Result StoredUnit ℕ
unit_of text [] = Err 26
unit_of text (piece ∷ pieces) = if same_bytes (text_of piece) text then numbered (linked_in piece.mode (source piece.unit) (piece ∷ pieces)) else Err 28

-- a source has a piece for each function that it defines, numbered in the order of definitions; and pieces are linked
abbrev pub compiling : Rules Piece
compiling = record { plan = IsPlan; source_of = text_of; part_of = λ piece. piece.function; unit = unit_of }

-- the image agrees with its stored source
abbrev pub is_right : StoredUnit → Type 0
is_right unit = Agree unit.source unit.image

-- the piece has what its type and its unit's type keep, and linking keeps its promise; the law of the build needs that promise here, since
-- a law is a term and cannot call a function
pub record Keeps (piece : Piece) : Type 0 where
  pub compiled : IsCompiled piece
  pub follow : LinkedUnitsFollow
  pub agree : AgreeInAgree
