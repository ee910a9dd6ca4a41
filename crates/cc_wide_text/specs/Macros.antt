-- The text without `#define` lines, each name in it that such a line defines replaced by the tokens after it there (C99 6.10.3). A
-- name is replaced in the lines that follow its own. It is new there: no token before is this name. So it does not matter whether names in
-- the tokens that replace a name are replaced in its line or at its use (6.10.3.4).
use Rattle.std.specs.Prelude.{ℕ, ◌+◌, Bool, true, false, not, ◌||◌, ◌&&◌, ◌==◌, nat_lt, if◌then◌else◌, List, [], ◌∷◌, ◌++◌, length, Option, Some, None, unwrap_or}
use Rattle.std.specs.Str.{bytes_eq}
use Rattle.cc_tokens.specs.declared.token.TokenKind.{TokenKind}
use Rattle.cc_tokens.specs.declared.token.TokenKind.TheVariants as kind
use Rattle.cc_tokens.specs.declared.token.Punctuator.TheVariants.{Semicolon}
use Rattle.cc_tokens.specs.Token.{Lexeme}
use Rattle.cc_wide_text.specs.declared.macros.Expecting.{Expecting}
use Rattle.cc_wide_text.specs.declared.macros.Expecting.TheVariants.{Program, Name, First, Body}
use Rattle.cc_wide_text.specs.Plain.{macro_word}
use Rattle.cc_wide_text.specs.Lexing.{led, is_identifier, is_word, spaced, wrong}

-- a defined name, and the bytes that replace it
pub record Meaning : Type 0 where
  pub name : List ℕ
  pub body : List ℕ

-- what replaces a name, if it is defined
abbrev pub meaning_of : List Meaning → List ℕ → Option (List ℕ)
meaning_of [] x = None
meaning_of (m ∷ rest) x = if bytes_eq m.name x then Some m.body else meaning_of rest x

-- how a token is written
abbrev pub replaced : List Meaning → Lexeme → List ℕ
replaced ms x = if is_identifier x.kind then unwrap_or (meaning_of ms x.text) (spaced x.text) else spaced x.text

-- one of the tokens is this name
abbrev pub occurs : List Lexeme → List ℕ → Bool
occurs [] name = false
occurs (x ∷ xs) name = is_word x name || occurs xs name

abbrev pub is_semicolon : TokenKind → Bool
is_semicolon kind.Identifier = false
is_semicolon (kind.Keyword k) = false
is_semicolon (kind.Number t n) = false
is_semicolon (kind.Punctuator Semicolon) = true
is_semicolon (kind.Punctuator p) = false

-- what has been written, the names that are defined, the name that is being defined with what replaces it so far, and what comes next
pub record Expansion : Type 0 where
  pub written : List ℕ
  pub meanings : List Meaning
  pub name : List ℕ
  pub body : List ℕ
  pub expecting : Expecting

abbrev pub writes : Expansion → List ℕ → Expansion
writes e bytes = record e { written = e.written ++ bytes; expecting = Program }

abbrev pub program_token : Expansion → Lexeme → Expansion
program_token e x = if is_word x macro_word then record e { expecting = Name } else writes e (replaced e.meanings x)

-- the name that a line defines, which no token before is
abbrev pub name_token : Expansion → List Lexeme → Lexeme → Expansion
name_token e before x =
    if is_identifier x.kind && not (occurs before x.text) then record e { name = x.text; body = []; expecting = First (x.at + length x.text) }
    else writes e wrong

-- at the end of the line all tokens after the name replace it
abbrev pub defines : Expansion → Expansion
defines e = record e { meanings = e.meanings ++ record { name = e.name; body = e.body } ∷ []; expecting = Program }

-- a name is replaced by at most this many bytes
abbrev pub most_replacing : ℕ
most_replacing = 4096

abbrev pub replaces : Expansion → List ℕ → Expansion
replaces e body = if nat_lt most_replacing (length body) then record (writes e wrong) { body = [] } else record e { body = body; expecting = Body }

-- a token that replaces the name, or the end of the line
abbrev pub body_token : Expansion → Lexeme → Expansion
body_token e x = if is_semicolon x.kind then defines e else replaces e (e.body ++ replaced e.meanings x)

-- after each token; white space lies between the name and what replaces it (6.10.3, paragraph 3)
abbrev pub expanding : Expansion → List Lexeme → Lexeme → Expecting → Expansion
expanding e before x Program = program_token e x
expanding e before x Name = name_token e before x
expanding e before x (First at) = if x.at == at && not (is_semicolon x.kind) then writes e wrong else body_token e x
expanding e before x Body = body_token e x

abbrev pub expand_token : Expansion → List Lexeme → Lexeme → Expansion
expand_token e before x = expanding e before x e.expecting

abbrev pub start : Expansion
start = record { written = []; meanings = []; name = []; body = []; expecting = Program }

-- a line without a name is wrong
abbrev pub end_of : Expecting → List ℕ
end_of Program = []
end_of Name = wrong
end_of (First at) = []
end_of Body = []

abbrev pub finished : Expansion → List ℕ
finished e = e.written ++ end_of e.expecting

-- the text that tokens become
abbrev pub expanded : List Lexeme → List ℕ
expanded ts = finished (led expand_token start [] ts)
