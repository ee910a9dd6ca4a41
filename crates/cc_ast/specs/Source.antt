-- What a parsed text contains: its bytes and its tree.
use Rattle.std.specs.Prelude.{◌≡◌, List, Result, Ok, Err}
use Rattle.cc_ast.specs.Tree.{Source, External}
use Rattle.cc_ast.specs.Erase.{external_trees}
use Rattle.cc_tokens.specs.declared.fault.SyntaxFault.{SyntaxFault}
use Rattle.cc_tokens.specs.declared.fault.SyntaxFault.TheVariants.{OutOfMemory}
use Rattle.cc_ast.specs.declared.unit.Unit.{Unit}

-- the bytes and the tree of a parsed text
abbrev pub source : Unit → Source
source u = record { text = u.text.items; externals = external_trees u.externals.items }

-- a unit's tree
abbrev pub UnitTree : Type 0
UnitTree = List External

-- the result is this tree, unless memory ran out
abbrev pub AnswersTree : List External → Result Unit SyntaxFault → Type 0
AnswersTree tree (Ok u) = (source u).externals ≡ tree
AnswersTree tree (Err e) = e ≡ OutOfMemory
