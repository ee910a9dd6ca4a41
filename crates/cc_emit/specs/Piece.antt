-- What a piece keeps: the code of one function of a typed unit.
use Rattle.std.specs.Prelude.{ℕ, ◌<◌, ◌≤◌, List, length}
use Rattle.cc_ast.specs.Tree.{External}
use Rattle.cc_ast.specs.Source.{source}
use Rattle.cc_ast.specs.declared.unit.Unit as parsed
use Rattle.cc_types.specs.Typed.{IsTyped}
use Rattle.cc_c_semantics.specs.Meaning.{functions}
use Rattle.cc_c_semantics.specs.Numbered.{IsMeaning}
use Rattle.cc_c_semantics.specs.declared.mode.Mode.{Mode}
use Rattle.cc_simulation.specs.Meaning.{Meaning}
use Rattle.cc_ltl.specs.Ltl.{Ltl, IsLtl}
use Rattle.cc_linear_language.specs.Pair.{most_blocks, LtlKeepsUp}
use Rattle.cc_emit.specs.declared.item.PieceItem.{PieceItem}
use Rattle.cc_emit.specs.Contract.{ObjectLayout, IsPiece, largest_frame}
use Rattle.cc_emit.specs.Objects.{IsInOrder}

-- a piece as contracts see it: the mode, the unit, the function's number in the order of definitions, its LTL, the number of bytes of its
-- frame, and the items of its code
pub record Piece : Type 0 where
  pub mode : Mode
  pub unit : parsed.Unit
  pub function : ℕ
  pub ltl : Ltl
  pub frame : ℕ
  pub items : List PieceItem

-- the unit's tree
abbrev pub tree_of : Piece → List External
tree_of p = (source p.unit).externals

-- the items do what the function of the unit does, with the unit's objects in order
abbrev pub AreOf : Mode → List External → (function frame : ℕ) → List PieceItem → Type 0
AreOf mode unit f frame items = (meaning : Meaning) → IsMeaning mode unit meaning → (layout : ObjectLayout meaning.objects) → IsInOrder layout → IsPiece meaning layout f frame items

-- what a piece's type keeps
pub record IsPieceOfUnit (p : Piece) : Type 0 where
  pub typed : IsTyped (tree_of p)
  pub function : p.function < length (functions (tree_of p))
  pub ltl : IsLtl p.ltl
  pub few : length p.ltl.blocks ≤ most_blocks
  pub small : p.frame ≤ largest_frame
  pub ltl_keeps_up : LtlKeepsUp p.mode (tree_of p) p.function p.ltl
  pub items : AreOf p.mode (tree_of p) p.function p.frame p.items
