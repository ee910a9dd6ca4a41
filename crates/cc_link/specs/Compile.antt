-- Why a function has no piece, and why a text has no image.
use Rattle.std.specs.Prelude.{◌≡◌, ℕ, ◌<◌, ◌⊎◌, List, length, slice_get, All, Option, Some, None, Err}
use Rattle.cc_tokens.specs.declared.place.Place.{Place}
use Rattle.cc_ast.specs.Tree.{Name, External}
use Rattle.cc_ast.specs.Source.{source}
use Rattle.cc_types.specs.Limits.{function_names}
use Rattle.cc_types.specs.Verdict.{source_with}
use Rattle.cc_c_semantics.specs.Meaning.{functions}
use Rattle.cc_c_semantics.specs.declared.mode.Mode.{Mode}
use Rattle.cc_c_semantics.specs.declared.mode.Mode.TheVariants.{Plain}
use Rattle.cc_mode.specs.Long.{IsLongIn}
use Rattle.cc_emit.specs.Piece as emit
use Rattle.cc_link.specs.Fault.{link_fault_number}
use Rattle.cc_link.specs.Linked.{linked_in}
use Rattle.cc_link.specs.Made.{IsCompiled}
use Rattle.cc_link.specs.Pieces.{AreFromIn}
use Rattle.cc_link.specs.Text.{IsProgramText, IsTextRefusal, text_fault_number, text_fault_place}
use Rattle.cc_link.specs.declared.fault.LinkFault.TheVariants as link
use Rattle.cc_link.specs.declared.piece_fault.PieceFault.{PieceFault}
use Rattle.cc_link.specs.declared.piece_fault.PieceFault.TheVariants as piece
use Rattle.cc_link.specs.declared.build_fault.BuildFault.{BuildFault}
use Rattle.cc_link.specs.declared.build_fault.BuildFault.TheVariants.{Text, Piece, Link}

-- ---- the numbers and the places of the faults

abbrev pub piece_fault_number : PieceFault → ℕ
piece_fault_number (piece.FunctionTooLarge at count) = 22
piece_fault_number (piece.Unvalidated at count label) = 24
piece_fault_number piece.OutOfMemory = 40

abbrev pub build_fault_number : BuildFault → ℕ
build_fault_number (Text f) = text_fault_number f
build_fault_number (Piece f) = piece_fault_number f
build_fault_number (Link f) = link_fault_number f

abbrev pub build_fault_place : BuildFault → Option Place
build_fault_place (Text f) = text_fault_place f
build_fault_place (Piece f) = None
build_fault_place (Link f) = None

-- ---- why a function has no piece

-- the name of a function begins in the text at this offset and has this many bytes
abbrev pub IsNameAt : List External → (function at count : ℕ) → Type 0
IsNameAt unit f at count = (name : Name) × (slice_get (function_names unit) f ≡ Some name) × (at ≡ name.at) × (count ≡ length name.text)

abbrev pub IsPieceRefusalIn : Mode → List External → (function : ℕ) → PieceFault → Type 0
IsPieceRefusalIn mode unit f (piece.FunctionTooLarge at count) = IsNameAt unit f at count × IsLongIn mode unit f
IsPieceRefusalIn mode unit f (piece.Unvalidated at count label) = IsNameAt unit f at count
IsPieceRefusalIn mode unit f piece.OutOfMemory = Unit {0}

abbrev pub IsPieceRefusal : List External → (function : ℕ) → PieceFault → Type 0
IsPieceRefusal unit f fault = IsPieceRefusalIn Plain unit f fault

-- ---- why a text has no image

-- the text is a program, and the fault names this function of the program: 22 names a function of more than 256 tokens (177 for
-- a checked piece), 24 may name any function; whether it has a piece is not stated
pub record IsBlamedIn (mode : Mode) (text : List ℕ) (function : ℕ) (fault : PieceFault) : Type 0 where
  pub tree : List External
  pub is : IsProgramText text tree
  pub defined : function < length (functions tree)
  pub refused : IsPieceRefusalIn mode tree function fault

-- this function of the text has a piece in the mode, with what the piece's type and its unit's type keep
pub record HasPieceIn (mode : Mode) (text : List ℕ) (function : ℕ) : Type 0 where
  pub piece : emit.Piece
  pub compiled : IsCompiled piece
  pub mode_is : piece.mode ≡ mode
  pub text_is : (source piece.unit).text ≡ text
  pub function_is : piece.function ≡ function

-- the text is a program; the fault names one of its functions, and each function defined before that one has a piece
pub record IsFirstWithoutIn (mode : Mode) (text : List ℕ) (fault : PieceFault) : Type 0 where
  pub function : ℕ
  pub none : IsBlamedIn mode text function fault
  pub earlier : (f : ℕ) → f < function → HasPieceIn mode text f

-- There is one piece for each function of a program, in order, with what their types keep, and together they make an image that
-- is too large. Who made the pieces is not stated, and a piece may be longer than what is emitted for its function. So only
-- tests show that 25 comes for large programs only.
pub record IsTooLargeIn (mode : Mode) (text : List ℕ) : Type 0 where
  pub tree : List External
  pub is : IsProgramText text tree
  pub pieces : List emit.Piece
  pub compiled : All IsCompiled pieces
  pub own : AreFromIn mode text 0 pieces
  pub count : length pieces ≡ length (functions tree)
  pub refused : linked_in mode (source_with text tree) pieces ≡ Err link.ImageTooLarge

-- A text that is not a program is refused as such. A program is refused with the fault of its first function without a piece, or
-- with 25, the only refusal of linking here, if the pieces of all functions are refused with 25.
abbrev pub IsBuildRefusalIn : Mode → List ℕ → BuildFault → Type 0
IsBuildRefusalIn mode text (Text f) = IsTextRefusal text f
IsBuildRefusalIn mode text (Piece f) = IsFirstWithoutIn mode text f
IsBuildRefusalIn mode text (Link f) = (f ≡ link.OutOfMemory) ⊎ ((f ≡ link.ImageTooLarge) × IsTooLargeIn mode text)

abbrev pub IsBuildRefusal : List ℕ → BuildFault → Type 0
IsBuildRefusal text fault = IsBuildRefusalIn Plain text fault
