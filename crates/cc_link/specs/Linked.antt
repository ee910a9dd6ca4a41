-- What linking answers: why pieces are refused, and otherwise the unit that they make.
use Rattle.std.specs.Borrow.{Bor}
use Rattle.std.specs.Prelude.{ℕ, zero, suc, map, ◌==◌, nat_eq, nat_lt, Bool, true, false, ◌||◌, if◌then◌else◌, List, [], ◌∷◌, ◌++◌, length, Option, Some, None, is_some, Result, Ok, Err}
use Rattle.std.specs.Option.{option_or}
use Rattle.std.specs.Cmp.Lexicographic.{pointwise}
use Rattle.cc_ast.specs.Tree.{External, Source}
use Rattle.cc_ast.specs.Source.{source}
use Rattle.cc_types.specs.Limits.{objects}
use Rattle.cc_link.specs.Packed.{image_words}
use Rattle.cc_c_semantics.specs.declared.mode.Mode.{Mode}
use Rattle.cc_c_semantics.specs.declared.mode.Mode.TheVariants.{Plain, Checked}
use Rattle.cc_c_semantics.specs.Meaning.{functions}
use Rattle.cc_c_semantics.specs.Calls.{main_of}
use Rattle.cc_rv32.specs.declared.image.Image.{Image}
use Rattle.cc_unit.specs.declared.unit.StoredUnit.{StoredUnit}
use Rattle.cc_emit.specs.declared.item.PieceItem.{PieceItem}
use Rattle.cc_emit.specs.Piece.{Piece}
use Rattle.cc_ltl.specs.Ltl.{Ltl}
use Rattle.cc_link.specs.Certificate.{certificate_of}
use Rattle.cc_link.specs.Link.{linked_code, encoded, code_words, most_code}
use Rattle.cc_link.specs.declared.fault.LinkFault.{LinkFault}
use Rattle.cc_link.specs.declared.fault.LinkFault.TheVariants.{ImageTooLarge, Missing, Doubled, Stranger}

-- pieces that are lent, as a list
abbrev pub lent_pieces : List (Bor Piece) → List Piece
lent_pieces pieces = map (λ (p : Bor Piece). p.now) pieces

-- ---- why pieces are refused; a place in the list of pieces counts from 0

-- the two lists are the same byte for byte
abbrev pub same_bytes : List ℕ → List ℕ → Bool
same_bytes x y = pointwise nat_eq x y

-- the two modes are the same
abbrev pub same_mode : Mode → Mode → Bool
same_mode Plain Plain = true
same_mode Checked Checked = true
same_mode a b = false

-- the piece is in this mode and of a unit with this text
abbrev pub is_own : Mode → (text : List ℕ) → Piece → Bool
is_own mode text p = if same_mode p.mode mode then same_bytes (source p.unit).text text else false

-- 28 for the first piece in another mode, or of a unit with another text; the first piece of the list has the place `at`
abbrev pub stranger : Mode → (text : List ℕ) (at : ℕ) → List Piece → Option LinkFault
stranger mode text at [] = None
stranger mode text at (p ∷ ps) = if is_own mode text p then stranger mode text (suc at) ps else Some (Stranger p.function at)

-- the number is in the list
abbrev pub is_among : List ℕ → ℕ → Bool
is_among [] f = false
is_among (g ∷ gs) f = (g == f) || is_among gs f

-- 27 for the first piece whose function came before; pieces of the functions `before` precede the list
abbrev pub doubled : (before : List ℕ) (at : ℕ) → List Piece → Option LinkFault
doubled before at [] = None
doubled before at (p ∷ ps) = if is_among before p.function then Some (Doubled p.function at) else doubled (before ++ p.function ∷ []) (suc at) ps

-- the first piece of a function
abbrev pub piece_of : List Piece → (function : ℕ) → Option Piece
piece_of [] f = None
piece_of (p ∷ ps) f = if p.function == f then Some p else piece_of ps f

-- 26 for the lowest-numbered function without a piece, among the `count` functions from `from` on
abbrev pub missing : List Piece → (from count : ℕ) → Option LinkFault
missing pieces from zero = None
missing pieces from (suc count) = if is_some (piece_of pieces from) then missing pieces (suc from) count else Some (Missing from)

-- the other pieces, with this piece before them if there is one
abbrev pub put_first : Option Piece → List Piece → List Piece
put_first None ps = ps
put_first (Some p) ps = p ∷ ps

-- the first piece of each of the `count` functions from `from` on
abbrev pub in_order : List Piece → (from count : ℕ) → List Piece
in_order pieces from zero = []
in_order pieces from (suc count) = put_first (piece_of pieces from) (in_order pieces (suc from) count)

-- the first pieces of a unit's functions, in the order of definitions
abbrev pub ordered : List External → List Piece → List Piece
ordered unit pieces = in_order pieces 0 (length (functions unit))

-- the items of each piece, and the LTL of each piece
abbrev pub all_items : List Piece → List (List PieceItem)
all_items pieces = map (λ (p : Piece). p.items) pieces

abbrev pub all_ltl : List Piece → List Ltl
all_ltl pieces = map (λ (p : Piece). p.ltl) pieces

-- the items of each function of a unit
abbrev pub bodies : List External → List Piece → List (List PieceItem)
bodies unit pieces = all_items (ordered unit pieces)

-- 25 if the code would have too many words
abbrev pub too_large : List (List PieceItem) → Option LinkFault
too_large fs = if nat_lt most_code (code_words fs) then Some ImageTooLarge else None

-- why pieces do not make an image of a unit: 28, else 27, else 26, else 25
abbrev pub link_refusal : Mode → Source → List Piece → Option LinkFault
link_refusal mode s pieces =
    option_or (stranger mode s.text 0 pieces) (option_or (doubled [] 0 pieces)
    (option_or (missing pieces 0 (length (functions s.externals))) (too_large (bodies s.externals pieces))))

-- ---- what the pieces make

-- the image: its code, and the words of the objects one after the other
abbrev pub image_of : List External → List (List PieceItem) → Image
image_of unit fs = record { code = encoded (linked_code (main_of unit) fs); globals = image_words (objects unit) }

-- the certificate: the LTL of each function
abbrev pub certified : List External → List Piece → List ℕ
certified unit pieces = certificate_of (all_ltl (ordered unit pieces))

-- the unit: its text, the image, and the certificate
abbrev pub unit_of : Source → List Piece → StoredUnit
unit_of s pieces = record { source = s.text; image = image_of s.externals (bodies s.externals pieces); certificate = Some (certified s.externals pieces) }

-- the refusal if there is one, else the unit
abbrev pub unless_refused : Option LinkFault → StoredUnit → Result StoredUnit LinkFault
unless_refused None u = Ok u
unless_refused (Some fault) u = Err fault

-- what linking in a mode answers
abbrev pub linked_in : Mode → Source → List Piece → Result StoredUnit LinkFault
linked_in mode s pieces = unless_refused (link_refusal mode s pieces) (unit_of s pieces)

-- plain pieces
abbrev pub linked : Source → List Piece → Result StoredUnit LinkFault
linked s pieces = linked_in Plain s pieces
