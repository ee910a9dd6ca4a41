-- All clauses of `parse` except one, as one relation, which the contracts of private functions use.
use Rattle.std.specs.Prelude.{◌≡◌, ◌≤◌, ℕ, List, length, Result, Ok, Err}
use Rattle.cc_ast.specs.declared.unit.Unit.{Unit}
use Rattle.cc_tokens.specs.declared.fault.SyntaxFault.{SyntaxFault}
use Rattle.cc_ast.specs.Parse.{SpellsText, IsParseRefusal}
use Rattle.cc_ast.specs.Source.{source}

-- the result is right for the text: it is the text with its tree, or says why the text spells no tree
abbrev pub IsParse : List ℕ → Result Unit SyntaxFault → Type 0
IsParse text (Ok u) = (length text ≤ 65536) × ((source u).text ≡ text) × SpellsText text (source u).externals
IsParse text (Err e) = IsParseRefusal text e
