-- The text of the profile that a text of wide C is: without qualifiers and storage classes (C99 6.7.1, 6.7.3, 6.7.4), with
-- enumerators replaced by their numbers (6.7.2.2), and with `switch` and its labels (6.8.1, 6.8.4.2) marked by words that no program
-- has: `switch` is written `while ( __switch ) while`, `case c :` is written `__case = c ;`, and `default :` is written `__default ;`.
-- What this text spells, with the marks read back, is the program.
use Rattle.std.specs.Prelude.{ℕ, ◌+◌, ◌-◌, Bool, true, false, not, ◌&&◌, ◌==◌, nat_lt, if◌then◌else◌, List, [], ◌++◌, Option, Some, None, codes}
use Rattle.cc_tokens.specs.declared.token.Keyword.{Keyword}
use Rattle.cc_tokens.specs.declared.token.Keyword.TheVariants as keyword
use Rattle.cc_tokens.specs.declared.token.Punctuator.{Punctuator}
use Rattle.cc_tokens.specs.declared.token.Punctuator.TheVariants as punctuator
use Rattle.cc_tokens.specs.declared.token.TokenKind.{TokenKind}
use Rattle.cc_tokens.specs.declared.token.TokenKind.TheVariants as kind
use Rattle.cc_tokens.specs.Token.{Lexeme}
use Rattle.cc_wide_text.specs.declared.marks.Label.{Label}
use Rattle.cc_wide_text.specs.declared.marks.Label.TheVariants.{Outside, Within, Default}
use Rattle.cc_wide_text.specs.declared.marks.Front.{Front}
use Rattle.cc_wide_text.specs.declared.marks.Front.TheVariants.{Plain, Opening, Qualified, Typed}
use Rattle.cc_wide_text.specs.Lexing.{led, spaced, wrong}
use Rattle.cc_wide_text.specs.Macros.{is_semicolon}
use Rattle.cc_wide_text.specs.Numbers.{Number, numbered}

abbrev pub switch_mark : List ℕ
switch_mark = codes "__switch"

abbrev pub case_mark : List ℕ
case_mark = codes "__case"

abbrev pub default_mark : List ℕ
default_mark = codes "__default"

-- what has been written; how many braces and how many parentheses are open; whether a label is being read, and how many of its question
-- marks await their colon, or that it is a `default`; and what the token before was: the end of a statement or declaration, a qualifier or
-- storage class, a part of a type, or anything else
pub record Marking : Type 0 where
  pub written : List ℕ
  pub braces : ℕ
  pub parentheses : ℕ
  pub label : Label
  pub front : Front

-- one more, up to more than a text has
abbrev pub one_more : ℕ → ℕ
one_more n = if nat_lt n 65536 then n + 1 else n

-- a qualifier that a type has to follow has none
abbrev pub front_wrong : Front → List ℕ
front_wrong Plain = []
front_wrong Opening = []
front_wrong (Qualified stored) = wrong
front_wrong Typed = []

-- any token but a qualifier or a part of a type
abbrev pub writes : Marking → List ℕ → Marking
writes m bytes = record m { written = m.written ++ (front_wrong m.front ++ bytes); front = Plain }

-- ---- qualifiers and storage classes

-- `const` or `volatile`: before a type, or after a part of one. A storage class may follow only at the beginning of a declaration.
abbrev pub qualifier : Marking → Front → Marking
qualifier m Plain = record m { front = Qualified true }
qualifier m Opening = record m { front = Qualified false }
qualifier m (Qualified stored) = m
qualifier m Typed = m

-- what may come here changes the front; what may not is wrong
abbrev pub fronts : Marking → Option Front → Marking
fronts m None = writes m wrong
fronts m (Some front) = record m { front = front }

-- a storage class: at the beginning of a declaration, and not after another one (6.7.1, paragraph 2)
abbrev pub stored : Front → Bool → Option Front
stored front false = None
stored Opening true = Some (Qualified true)
stored (Qualified already) true = if already then None else Some (Qualified true)
stored Plain true = None
stored Typed true = None

-- `inline`: as a storage class, but also beside one
abbrev pub inlined : Front → Bool → Option Front
inlined front false = None
inlined Opening true = Some (Qualified false)
inlined (Qualified already) true = Some (Qualified already)
inlined Plain true = None
inlined Typed true = None

-- `register` before a parameter
abbrev pub registered : Front → Option Front
registered Plain = Some (Qualified true)
registered Opening = None
registered (Qualified already) = None
registered Typed = None

-- outside functions; among the parameters of one; in one
abbrev pub is_outside : Marking → Bool
is_outside m = m.braces == 0 && m.parentheses == 0

abbrev pub is_parameter : Marking → Bool
is_parameter m = m.braces == 0 && not (m.parentheses == 0)

abbrev pub is_inside : Marking → Bool
is_inside m = nat_lt 0 m.braces

abbrev pub register : Marking → Marking
register m = fronts m (if is_parameter m then registered m.front else stored m.front (is_inside m))

-- a part of a type
abbrev pub type_word : Marking → List ℕ → Marking
type_word m bytes = record m { written = m.written ++ bytes; front = Typed }

-- ---- switches

-- `switch`, which is in a function
abbrev pub switch_bytes : (braces : ℕ) → List ℕ
switch_bytes braces = if braces == 0 then wrong else codes "while ( __switch ) while "

-- the word of a label, which is in a function and goes on up to its colon
abbrev pub labels : Marking → List ℕ → Label → Marking
labels m bytes label = if m.braces == 0 then writes m wrong else record (writes m bytes) { label = label }

-- what no label has before its colon: a semicolon; after `default` any token
abbrev pub is_colon : TokenKind → Bool
is_colon kind.Identifier = false
is_colon (kind.Keyword k) = false
is_colon (kind.Number t n) = false
is_colon (kind.Punctuator punctuator.Colon) = true
is_colon (kind.Punctuator p) = false

abbrev pub label_wrong : Label → TokenKind → List ℕ
label_wrong Outside k = []
label_wrong (Within n) k = if is_semicolon k then wrong else []
label_wrong Default k = if is_colon k then [] else wrong

-- ---- tokens

abbrev pub keyword_token : Marking → Keyword → List ℕ → Marking
keyword_token m keyword.Const bytes = qualifier m m.front
keyword_token m keyword.Volatile bytes = qualifier m m.front
keyword_token m keyword.Static bytes = fronts m (stored m.front (is_outside m))
keyword_token m keyword.Inline bytes = fronts m (inlined m.front (is_outside m))
keyword_token m keyword.Register bytes = register m
keyword_token m keyword.Auto bytes = fronts m (stored m.front (is_inside m))
keyword_token m keyword.Int bytes = type_word m bytes
keyword_token m keyword.Signed bytes = type_word m bytes
keyword_token m keyword.Unsigned bytes = type_word m bytes
keyword_token m keyword.Char bytes = type_word m bytes
keyword_token m keyword.Void bytes = type_word m bytes
keyword_token m keyword.Switch bytes = writes m (switch_bytes m.braces)
keyword_token m keyword.Case bytes = labels m (codes "__case = ") (Within 0)
keyword_token m keyword.Default bytes = labels m (codes "__default ") Default
keyword_token m k bytes = writes m bytes

-- a question mark, and a colon, which ends a label if no question mark awaits it
abbrev pub question : Marking → Label → List ℕ → Marking
question m Outside bytes = writes m bytes
question m (Within n) bytes = record (writes m bytes) { label = Within (one_more n) }
question m Default bytes = writes m bytes

abbrev pub ends_label : Marking → Marking
ends_label m = record (writes m (codes "; ")) { label = Outside }

abbrev pub colon : Marking → Label → List ℕ → Marking
colon m Outside bytes = writes m bytes
colon m (Within n) bytes = if n == 0 then ends_label m else record (writes m bytes) { label = Within (n - 1) }
colon m Default bytes = ends_label m

-- a declaration may follow
abbrev pub opens : Marking → List ℕ → Marking
opens m bytes = record (writes m bytes) { front = Opening }

abbrev pub punctuator_token : Marking → Punctuator → List ℕ → Marking
punctuator_token m punctuator.OpenBrace bytes = record (opens m bytes) { braces = one_more m.braces }
punctuator_token m punctuator.CloseBrace bytes = record (opens m bytes) { braces = m.braces - 1 }
punctuator_token m punctuator.Semicolon bytes = opens m bytes
punctuator_token m punctuator.OpenParenthesis bytes = record (writes m bytes) { parentheses = one_more m.parentheses }
punctuator_token m punctuator.CloseParenthesis bytes = record (writes m bytes) { parentheses = m.parentheses - 1 }
punctuator_token m punctuator.Question bytes = question m m.label bytes
punctuator_token m punctuator.Colon bytes = colon m m.label bytes
punctuator_token m p bytes = writes m bytes

abbrev pub marking_token : List Number → Marking → Lexeme → TokenKind → Marking
marking_token ns m x kind.Identifier = writes m (numbered ns x)
marking_token ns m x (kind.Keyword k) = keyword_token m k (spaced x.text)
marking_token ns m x (kind.Number t n) = writes m (spaced x.text)
marking_token ns m x (kind.Punctuator p) = punctuator_token m p (spaced x.text)

-- a token that a label may not have is wrong
abbrev pub in_label : Marking → TokenKind → Marking
in_label m k = record m { written = m.written ++ label_wrong m.label k }

-- after each token, given the numbers of enumerators
abbrev pub mark_token : List Number → Marking → List Lexeme → Lexeme → Marking
mark_token ns m before x = marking_token ns (in_label m x.kind) x x.kind

abbrev pub start : Marking
start = record { written = []; braces = 0; parentheses = 0; label = Outside; front = Opening }

abbrev pub finished : Marking → List ℕ
finished m = m.written ++ front_wrong m.front

-- the text that tokens become
abbrev pub marked : List Number → List Lexeme → List ℕ
marked ns ts = finished (led (mark_token ns) start [] ts)
