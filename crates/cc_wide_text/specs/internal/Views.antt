-- The code's values as the definitions have them.
use Rattle.std.specs.Prelude.{ℕ, List, map, take}
use Rattle.cc_tokens.specs.Token.{Lexeme, lexemes}
use Rattle.cc_wide_text.specs.declared.before.Before.{Before}
use Rattle.cc_wide_text.specs.declared.word.Word.{Word}
use Rattle.cc_wide_text.specs.declared.macros.Macro.{Macro}
use Rattle.cc_wide_text.specs.declared.macros.Expander.{Expander}
use Rattle.cc_wide_text.specs.declared.marks.Marker.{Marker}
use Rattle.cc_wide_text.specs.declared.names.Definition.{Definition}
use Rattle.cc_wide_text.specs.declared.names.Namer.{Namer}
use Rattle.cc_wide_text.specs.declared.names.Tag.{Tag}
use Rattle.cc_wide_text.specs.declared.numbers.Constant.{Constant}
use Rattle.cc_wide_text.specs.declared.numbers.Numbered.{Numbered}
use Rattle.cc_wide_text.specs.Macros.{Meaning, Expansion}
use Rattle.cc_wide_text.specs.Names.{Known, Naming}
use Rattle.cc_wide_text.specs.Numbers as numbers
use Rattle.cc_wide_text.specs.Marks.{Marking}

-- a token with its bytes, as the code has it
abbrev pub lexeme_of : Word → Lexeme
lexeme_of w = record { kind = w.kind; text = w.bytes.now; at = w.at }

-- a defined name
abbrev pub meaning : Macro → Meaning
meaning m = record { name = m.name.items; body = m.body.items }

abbrev pub expansion : Expander → Expansion
expansion e =
    record { written = e.written.items; meanings = map meaning e.macros.items; name = e.name.items; body = e.body.items; expecting = e.expecting }

abbrev pub marking : Marker → Marking
marking m = record { written = m.written.items; braces = m.braces; parentheses = m.parentheses; label = m.label; front = m.front }

-- the tokens before a token
abbrev pub lexemes_of : Before → List Lexeme
lexemes_of b = take b.n (lexemes b.text.now b.tokens.now)

-- a name of a type, an enumerator, its number
abbrev pub known : Definition → Known
known d = record { name = d.name.items; body = d.body.items }

abbrev pub enumerator : Constant → numbers.Enumerator
enumerator c = record { name = c.name.items; value = c.value.items }

abbrev pub number : Numbered → numbers.Number
number n = record { name = n.name.items; word = n.word }

abbrev pub tag : Tag → List ℕ
tag t = t.name.items

abbrev pub naming : Namer → Naming
naming n =
    record {
      written = n.written.items;
      types = map known n.types.items;
      tags = map tag n.tags.items;
      enumerators = map enumerator n.enumerators.items;
      braces = n.braces;
      block = n.block;
      after = n.after;
      name = n.name.items;
      body = n.body.items;
      value = n.value.items;
      last = n.last.items;
      parentheses = n.parentheses;
      may = n.may;
      typing = n.typing;
      awaiting = n.awaiting;
    }
