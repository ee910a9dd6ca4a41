-- What a text was compiled to in a mode, with what it was made of.
use Rattle.std.specs.Prelude.{◌≡◌, ℕ, List, All, Ok}
use Rattle.std.specs.Arc.{arc_value}
use Rattle.cc_ast.specs.Source.{source}
use Rattle.cc_c_semantics.specs.declared.mode.Mode.{Mode}
use Rattle.cc_link.specs.Agree.{AgreeIn}
use Rattle.cc_link.specs.Linked.{linked_in}
use Rattle.cc_link.specs.Made.{IsCompiled, IsMadeIn}
use Rattle.cc_link.specs.Stack.{IsBackedFrom, stack_of}
use Rattle.cc_link.specs.Text.{IsProgramText}
use Rattle.cc_link.specs.declared.compiled.Compilation.{Compilation}

-- The text is a program and spells this tree. Compiled pieces link to the unit, so on every input the run of its image follows what the
-- program shows in the mode, even on a board that backs only as much stack as the pieces take.
pub record IsWholeIn (mode : Mode) (text : List ℕ) (c : Compilation) : Type 0 where
  pub text_is : (source (arc_value c.typed)).text ≡ text
  pub program : IsProgramText text (source (arc_value c.typed)).externals
  pub compiled : All IsCompiled c.pieces.items
  pub linked_is : linked_in mode (source (arc_value c.typed)) c.pieces.items ≡ Ok c.unit
  pub source_is : c.unit.source ≡ text
  pub made : IsMadeIn mode c.unit
  pub follows : AgreeIn mode text c.unit.image
  pub backed : IsBackedFrom mode text (stack_of (source (arc_value c.typed)).externals c.pieces.items) c.unit.image
