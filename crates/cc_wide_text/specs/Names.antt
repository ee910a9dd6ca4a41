-- The text without `typedef` (C99 6.7.7) and enumerations (6.7.2.2), each name of a type replaced by the type, and `enum` with a tag by
-- `signed int`; and the enumerators. Definitions are at file scope. Each name that one defines is new: no token before is this name. So it
-- can be replaced wherever it comes, and nothing else has this name.
use Rattle.std.specs.Prelude.{ℕ, ◌-◌, Bool, true, false, not, ◌&&◌, ◌||◌, ◌==◌, if◌then◌else◌, List, [], ◌∷◌, ◌++◌, length, Option, Some, None, unwrap_or, codes}
use Rattle.std.specs.Str.{bytes_eq}
use Rattle.cc_tokens.specs.declared.token.Keyword.{Keyword}
use Rattle.cc_tokens.specs.declared.token.Keyword.TheVariants as keyword
use Rattle.cc_tokens.specs.declared.token.Punctuator.{Punctuator}
use Rattle.cc_tokens.specs.declared.token.Punctuator.TheVariants as punctuator
use Rattle.cc_tokens.specs.declared.token.TokenKind.{TokenKind}
use Rattle.cc_tokens.specs.declared.token.TokenKind.TheVariants as kind
use Rattle.cc_tokens.specs.Token.{Lexeme}
use Rattle.cc_wide_text.specs.declared.names.Awaiting.{Awaiting}
use Rattle.cc_wide_text.specs.declared.names.Awaiting.TheVariants.{Program, TypeFirst, TypeSecond, TypeName, TypeEnd, EnumFirst, EnumTagged, Enumerator, Enumerated, EnumValue, EnumEnd}
use Rattle.cc_wide_text.specs.declared.names.After.{After}
use Rattle.cc_wide_text.specs.declared.names.After.TheVariants.{End, Head, Inside}
use Rattle.cc_wide_text.specs.declared.names.Sign.{Sign}
use Rattle.cc_wide_text.specs.declared.names.Sign.TheVariants.{Other, Semicolon, Comma, Assign, OpenBrace, CloseBrace, OpenParenthesis, CloseParenthesis}
use Rattle.cc_wide_text.specs.Lexing.{led, is_identifier, spaced, wrong}
use Rattle.cc_wide_text.specs.Macros.{occurs}
use Rattle.cc_wide_text.specs.Marks.{one_more}
use Rattle.cc_wide_text.specs.Numbers as numbers
use Rattle.cc_wide_text.specs.Numbers.{AreNumbers}

-- a name of a type, and the bytes that replace it
pub record Known : Type 0 where
  pub name : List ℕ
  pub body : List ℕ

abbrev pub type_of : List Known → List ℕ → Option (List ℕ)
type_of [] x = None
type_of (k ∷ rest) x = if bytes_eq k.name x then Some k.body else type_of rest x

-- how a token is written
abbrev pub replaced : List Known → Lexeme → List ℕ
replaced ks x = if is_identifier x.kind then unwrap_or (type_of ks x.text) (spaced x.text) else spaced x.text

-- the token is an identifier that no token before is
abbrev pub is_new : List Lexeme → Lexeme → Bool
is_new before x = is_identifier x.kind && not (occurs before x.text)

-- one of the tags
abbrev pub is_tag : List (List ℕ) → List ℕ → Bool
is_tag [] x = false
is_tag (t ∷ rest) x = bytes_eq t x || is_tag rest x

-- what has been written; the names of types, the tags and the enumerators that are known; how many braces are open, and whether the
-- outermost of these is that of a function's body; what the token before was: the end of a declaration, a closing parenthesis, or anything
-- else; the name that is being defined, the bytes of its type, and those of its value so far; the name of the enumerator before it in its
-- enumeration, if there is one; how many parentheses are open in a value; whether an enumeration may be defined here, and whether it is that of a
-- `typedef`; and what comes next
pub record Naming : Type 0 where
  pub written : List ℕ
  pub types : List Known
  pub tags : List (List ℕ)
  pub enumerators : List numbers.Enumerator
  pub braces : ℕ
  pub block : Bool
  pub after : After
  pub name : List ℕ
  pub body : List ℕ
  pub value : List ℕ
  pub last : List ℕ
  pub parentheses : ℕ
  pub may : Bool
  pub typing : Bool
  pub awaiting : Awaiting

-- ---- the program

abbrev pub writes : Naming → List ℕ → After → Naming
writes n bytes after = record n { written = n.written ++ bytes; after = after; awaiting = Program }

abbrev pub refuses : Naming → Naming
refuses n = writes n wrong Inside

abbrev pub is_end : After → Bool
is_end End = true
is_end Head = false
is_end Inside = false

abbrev pub is_head : After → Bool
is_head End = false
is_head Head = true
is_head Inside = false

-- a definition may begin
abbrev pub is_fresh : Naming → Bool
is_fresh n = n.braces == 0 && is_end n.after

abbrev pub opens_type : Naming → Lexeme → Naming
opens_type n x = if is_fresh n then record n { awaiting = TypeFirst } else writes n (spaced x.text) Inside

abbrev pub opens_enumeration : Naming → (may typing : Bool) → Naming
opens_enumeration n may typing = record n { may = may; typing = typing; awaiting = EnumFirst }

abbrev pub keyword_token : Naming → Lexeme → Keyword → Naming
keyword_token n x keyword.Typedef = opens_type n x
keyword_token n x keyword.Enum = opens_enumeration n (is_fresh n) false
keyword_token n x k = writes n (spaced x.text) Inside

-- a brace that follows a closing parenthesis is that of a function's body, or is inside one
abbrev pub opens_block : Naming → Bool
opens_block n = if n.braces == 0 then is_head n.after else n.block

abbrev pub behind_block : Bool → After
behind_block true = End
behind_block false = Inside

abbrev pub punctuator_token : Naming → Lexeme → Punctuator → Naming
punctuator_token n x punctuator.OpenBrace = record (writes n (spaced x.text) Inside) { braces = one_more n.braces; block = opens_block n }
punctuator_token n x punctuator.CloseBrace = record (writes n (spaced x.text) (behind_block n.block)) { braces = n.braces - 1 }
punctuator_token n x punctuator.Semicolon = writes n (spaced x.text) End
punctuator_token n x punctuator.CloseParenthesis = writes n (spaced x.text) Head
punctuator_token n x p = writes n (spaced x.text) Inside

abbrev pub program_token : Naming → Lexeme → TokenKind → Naming
program_token n x kind.Identifier = writes n (replaced n.types x) Inside
program_token n x (kind.Keyword k) = keyword_token n x k
program_token n x (kind.Number t v) = writes n (spaced x.text) Inside
program_token n x (kind.Punctuator p) = punctuator_token n x p

-- ---- types

abbrev pub signed_int : List ℕ
signed_int = codes "signed int "

abbrev pub unsigned_int : List ℕ
unsigned_int = codes "unsigned int "

abbrev pub typed : Naming → List ℕ → Awaiting → Naming
typed n type next = record n { body = type; awaiting = next }

-- a name of a type
abbrev pub named_type : Naming → Option (List ℕ) → Naming
named_type n None = refuses n
named_type n (Some body) = typed n body TypeName

abbrev pub type_keyword : Naming → Keyword → Naming
type_keyword n keyword.Int = typed n signed_int TypeName
type_keyword n keyword.Signed = typed n signed_int TypeSecond
type_keyword n keyword.Unsigned = typed n unsigned_int TypeSecond
type_keyword n keyword.Enum = opens_enumeration (typed n signed_int TypeName) true true
type_keyword n k = refuses n

abbrev pub type_first : Naming → Lexeme → TokenKind → Naming
type_first n x kind.Identifier = named_type n (type_of n.types x.text)
type_first n x (kind.Keyword k) = type_keyword n k
type_first n x (kind.Number t v) = refuses n
type_first n x (kind.Punctuator p) = refuses n

-- the name that is defined, which is new
abbrev pub new_name : Naming → List Lexeme → Lexeme → Awaiting → Naming
new_name n before x next = if is_new before x then record n { name = x.text; awaiting = next } else refuses n

abbrev pub is_int : TokenKind → Bool
is_int (kind.Keyword keyword.Int) = true
is_int (kind.Keyword k) = false
is_int kind.Identifier = false
is_int (kind.Number t v) = false
is_int (kind.Punctuator p) = false

abbrev pub type_second : Naming → List Lexeme → Lexeme → Naming
type_second n before x = if is_int x.kind then record n { awaiting = TypeName } else new_name n before x TypeEnd

-- ---- enumerations

-- the punctuation of definitions
abbrev pub sign_of_punctuator : Punctuator → Sign
sign_of_punctuator punctuator.Semicolon = Semicolon
sign_of_punctuator punctuator.Comma = Comma
sign_of_punctuator punctuator.Assign = Assign
sign_of_punctuator punctuator.OpenBrace = OpenBrace
sign_of_punctuator punctuator.CloseBrace = CloseBrace
sign_of_punctuator punctuator.OpenParenthesis = OpenParenthesis
sign_of_punctuator punctuator.CloseParenthesis = CloseParenthesis
sign_of_punctuator p = Other

abbrev pub sign_of : TokenKind → Sign
sign_of kind.Identifier = Other
sign_of (kind.Keyword k) = Other
sign_of (kind.Number t v) = Other
sign_of (kind.Punctuator p) = sign_of_punctuator p

abbrev pub begins_enumeration : Naming → Naming
begins_enumeration n = if n.may then record n { last = []; awaiting = Enumerator true } else refuses n

abbrev pub enum_opening : Naming → Sign → Naming
enum_opening n OpenBrace = begins_enumeration n
enum_opening n sign = refuses n

abbrev pub enum_first : Naming → Lexeme → Naming
enum_first n x = if is_identifier x.kind then record n { name = x.text; awaiting = EnumTagged } else enum_opening n (sign_of x.kind)

-- `enum` with a tag is a type
abbrev pub uses_tag : Naming → List Lexeme → Lexeme → Naming
uses_tag n before x = if n.typing then new_name n before x TypeEnd else program_token (writes n signed_int Inside) x x.kind

abbrev pub enum_tagged : Naming → List Lexeme → Lexeme → Sign → Naming
enum_tagged n before x OpenBrace = if is_tag n.tags n.name then refuses n else begins_enumeration (record n { tags = n.tags ++ n.name ∷ [] })
enum_tagged n before x sign = if is_tag n.tags n.name then uses_tag n before x else refuses n

-- the value of an enumerator that has none: 0, or one more than that of the enumerator before it
abbrev pub next_value : (last : List ℕ) → List ℕ
next_value last = if length last == 0 then codes "0 " else spaced last ++ codes "+ 1 "

-- one more enumerator
abbrev pub counts : Naming → List ℕ → Awaiting → Naming
counts n value next = record n { enumerators = n.enumerators ++ record { name = n.name; value = value } ∷ []; last = n.name; awaiting = next }

-- an enumeration is at its end: a semicolon follows, or the name of a `typedef`
abbrev pub behind_enumeration : Naming → Awaiting
behind_enumeration n = if n.typing then TypeName else EnumEnd

-- the end of an enumeration, after a comma
abbrev pub enum_close : Naming → Sign → (first : Bool) → Naming
enum_close n CloseBrace first = if first then refuses n else record n { awaiting = behind_enumeration n }
enum_close n sign first = refuses n

abbrev pub enumerator : Naming → List Lexeme → Lexeme → Bool → Naming
enumerator n before x first = if is_identifier x.kind then new_name n before x Enumerated else enum_close n (sign_of x.kind) first

abbrev pub enumerated : Naming → Sign → Naming
enumerated n Assign = record n { value = []; parentheses = 0; awaiting = EnumValue }
enumerated n Comma = counts n (next_value n.last) (Enumerator false)
enumerated n CloseBrace = counts n (next_value n.last) (behind_enumeration n)
enumerated n sign = refuses n

abbrev pub adds : Naming → Lexeme → Naming
adds n x = record n { value = n.value ++ replaced n.types x }

abbrev pub value_token : Naming → Lexeme → Sign → Naming
value_token n x Comma = if n.parentheses == 0 then counts n n.value (Enumerator false) else adds n x
value_token n x CloseBrace = if n.parentheses == 0 then counts n n.value (behind_enumeration n) else refuses n
value_token n x OpenParenthesis = record (adds n x) { parentheses = one_more n.parentheses }
value_token n x CloseParenthesis = record (adds n x) { parentheses = n.parentheses - 1 }
value_token n x Semicolon = refuses n
value_token n x Assign = refuses n
value_token n x OpenBrace = refuses n
value_token n x Other = adds n x

-- ---- all tokens

-- a semicolon ends a definition
abbrev pub ends : Naming → Naming
ends n = record n { after = End; awaiting = Program }

abbrev pub enum_end : Naming → Sign → Naming
enum_end n Semicolon = ends n
enum_end n sign = refuses n

abbrev pub type_end : Naming → Sign → Naming
type_end n Semicolon = ends (record n { types = n.types ++ record { name = n.name; body = n.body } ∷ [] })
type_end n sign = refuses n

abbrev pub naming_token : Naming → List Lexeme → Lexeme → Awaiting → Naming
naming_token n before x Program = program_token n x x.kind
naming_token n before x TypeFirst = type_first n x x.kind
naming_token n before x TypeSecond = type_second n before x
naming_token n before x TypeName = new_name n before x TypeEnd
naming_token n before x TypeEnd = type_end n (sign_of x.kind)
naming_token n before x EnumFirst = enum_first n x
naming_token n before x EnumTagged = enum_tagged n before x (sign_of x.kind)
naming_token n before x (Enumerator first) = enumerator n before x first
naming_token n before x Enumerated = enumerated n (sign_of x.kind)
naming_token n before x EnumValue = value_token n x (sign_of x.kind)
naming_token n before x EnumEnd = enum_end n (sign_of x.kind)

-- after each token
abbrev pub name_token : Naming → List Lexeme → Lexeme → Naming
name_token n before x = naming_token n before x n.awaiting

abbrev pub start : Naming
start =
    record {
      written = [];
      types = [];
      tags = [];
      enumerators = [];
      braces = 0;
      block = false;
      after = End;
      name = [];
      body = [];
      value = [];
      last = [];
      parentheses = 0;
      may = false;
      typing = false;
      awaiting = Program;
    }

-- a definition without an end is wrong
abbrev pub end_of : Awaiting → List ℕ
end_of Program = []
end_of next = wrong

-- the text that tokens become, and their enumerators
abbrev pub named_state : List Lexeme → Naming
named_state ts = led name_token start [] ts

abbrev pub named : List Lexeme → List ℕ
named ts = let n = named_state ts in n.written ++ end_of n.awaiting

abbrev pub enumerators : List Lexeme → List numbers.Enumerator
enumerators ts = (named_state ts).enumerators

-- the numbers of the enumerators of tokens
abbrev pub HaveNumbers : List Lexeme → List numbers.Number → Type 0
HaveNumbers ts all = AreNumbers [] (enumerators ts) all
