-- What a compiled unit was made of.
use Rattle.std.specs.Prelude.{◌≡◌, List, All, Ok}
use Rattle.cc_ast.specs.Tree.{Source}
use Rattle.cc_ast.specs.Source.{source}
use Rattle.cc_ast.specs.Parse.{SpellsText}
use Rattle.cc_types.specs.Checked.{IsChecked}
use Rattle.cc_c_semantics.specs.declared.mode.Mode.{Mode}
use Rattle.cc_unit.specs.declared.unit.StoredUnit.{StoredUnit}
use Rattle.cc_emit.specs.Piece.{Piece, IsPieceOfUnit}
use Rattle.cc_link.specs.Linked.{linked_in}

-- the piece has what its type and its unit's type keep
pub record IsCompiled (piece : Piece) : Type 0 where
  pub spelled : ∥ SpellsText (source piece.unit).text (source piece.unit).externals ∥₁
  pub checked : IsChecked (source piece.unit)
  pub of_unit : IsPieceOfUnit piece

-- pieces that were compiled in this mode link to this unit, in some order
pub record IsMadeIn (mode : Mode) (unit : StoredUnit) : Type 0 where
  pub of : Source
  pub spelled : ∥ SpellsText of.text of.externals ∥₁
  pub checked : IsChecked of
  pub pieces : List Piece
  pub compiled : All IsCompiled pieces
  pub linked_is : linked_in mode of pieces ≡ Ok unit

-- pieces in some mode link to this unit
abbrev pub IsMade : StoredUnit → Type 0
IsMade unit = (mode : Mode) × IsMadeIn mode unit
