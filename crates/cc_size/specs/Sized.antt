-- A unit together with what it needs.
use Rattle.std.specs.Prelude.{ℕ, List}
use Rattle.std.specs.Arc.{arc_value}
use Rattle.cc_ast.specs.Source.{source}
use Rattle.cc_c_semantics.specs.declared.mode.Mode.{Mode}
use Rattle.cc_link.specs.Stack.{IsBackedFrom}
use Rattle.cc_link.specs.Whole.{IsWholeIn}
use Rattle.cc_size.specs.Size.{IsSize}
use Rattle.cc_size.specs.declared.size.Sized.{Sized}

-- What a text was compiled to in a mode, and what that needs. If a board backs this many bytes of stack, or more, the
-- image follows, on every input, what the program shows in the mode.
pub record IsSizedIn (mode : Mode) (text : List ℕ) (s : Sized) : Type 0 where
  pub whole : IsWholeIn mode text s.made
  pub size : IsSize (source (arc_value s.made.typed)).externals s.made.pieces.items s.made.unit.image s.size
  pub backed : IsBackedFrom mode text s.size.stack s.made.unit.image
