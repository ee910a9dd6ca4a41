-- The tokens of a text, and the first error of a text that has none (C99 6.4).
use Rattle.std.specs.Prelude.{◌≡◌, ◌≢◌, ℕ, ◌+◌, ◌<◌, ◌≤◌, ◌⊎◌, Bool, true, false, ◌||◌, ◌&&◌, ◌==◌, nat_le, slice_index, List, [], ◌∷◌, ◌++◌, length, Some, None, IsTrue}
use Rattle.std.specs.List.{flat_map}
use Rattle.std.specs.Char.{is_ascii_digit, is_ascii_alphabetic}
use Rattle.cc_tokens.specs.declared.place.Place.{Place}
use Rattle.cc_tokens.specs.declared.fault.SyntaxFault.{SyntaxFault}
use Rattle.cc_tokens.specs.declared.fault.SyntaxFault.TheVariants as fault
use Rattle.cc_tokens.specs.declared.lexical_error.LexicalError.{LexicalError}
use Rattle.cc_tokens.specs.declared.lexical_error.LexicalError.TheVariants.{BadByte, UnclosedComment, BadConstant, ConstantTooLarge}
use Rattle.cc_tokens.specs.declared.token.Keyword.{Keyword}
use Rattle.cc_tokens.specs.declared.token.Punctuator.{Punctuator}
use Rattle.cc_tokens.specs.declared.token.TokenKind.{TokenKind}
use Rattle.cc_tokens.specs.declared.token.TokenKind.TheVariants as kind
use Rattle.cc_tokens.specs.Spelling.{keyword_bytes, punctuator_bytes}
use Rattle.cc_tokens.specs.Constant.{Constant, SpellsConstant, digits_value, constant_type}
use Rattle.cc_tokens.specs.declared.token.Token.{Token}
use Rattle.cc_tokens.specs.Place.{place_of}
use Rattle.cc_tokens.specs.Token.{Lexeme}

-- white space: space, and the bytes 9 to 13 (6.4, 7.4.1.10)
abbrev pub is_blank : ℕ → Bool
is_blank b = b == 32 || (nat_le 9 b && nat_le b 13)

-- a letter or `_` (6.4.2.1)
abbrev pub is_nondigit : ℕ → Bool
is_nondigit b = is_ascii_alphabetic b || b == 95

-- a byte that continues an identifier, whatever byte precedes it
abbrev pub continues_word : ℕ → ℕ → Bool
continues_word before b = is_nondigit b || is_ascii_digit b

-- a letter after which a sign continues a number: e, E, p, P
abbrev pub is_exponent_letter : ℕ → Bool
is_exponent_letter b = (b == 101 || b == 69) || (b == 112 || b == 80)

-- a byte that continues a number: a digit, a letter, `_`, `.`, or a sign directly after e, E, p or P (6.4.8)
abbrev pub continues_number : ℕ → ℕ → Bool
continues_number before b = (continues_word before b || b == 46) || (is_exponent_letter before && (b == 43 || b == 45))

-- each byte may follow the one before it
abbrev pub Continues : (ℕ → ℕ → Bool) → ℕ → List ℕ → Type 0
Continues goes_on before [] = Unit {0}
Continues goes_on before (b ∷ bs) = IsTrue (goes_on before b) × Continues goes_on b bs

-- an identifier or keyword (6.4.1, 6.4.2.1)
abbrev pub IsIdentifierText : List ℕ → Type 0
IsIdentifierText [] = ⊥
IsIdentifierText (b ∷ bs) = IsTrue (is_nondigit b) × Continues continues_word b bs

-- a preprocessing number that begins with a digit (6.4.8)
abbrev pub IsNumber : List ℕ → Type 0
IsNumber [] = ⊥
IsNumber (b ∷ bs) = IsTrue (is_ascii_digit b) × Continues continues_number b bs

-- what can be a token: a word, a number, a punctuator (6.4)
pub data CanBeToken : List ℕ → Type 0 where
  word : {text : List ℕ} → IsIdentifierText text → CanBeToken text
  number : {text : List ℕ} → IsNumber text → CanBeToken text
  punctuator : {text : List ℕ} (p : Punctuator) → text ≡ punctuator_bytes p → CanBeToken text

-- what the bytes of a token spell
abbrev pub SpellsToken : TokenKind → List ℕ → Type 0
SpellsToken kind.Identifier text = IsIdentifierText text × ((k : Keyword) → text ≢ keyword_bytes k)
SpellsToken (kind.Keyword k) text = text ≡ keyword_bytes k
SpellsToken (kind.Number type n) text = (c : Constant) × SpellsConstant c text × (constant_type c ≡ Some type) × (n ≡ digits_value c)
SpellsToken (kind.Punctuator p) text = text ≡ punctuator_bytes p

-- `text` can be a token, and no longer prefix of `text` followed by `after` can (6.4, paragraph 4)
pub record IsLongest (text after : List ℕ) : Type 0 where
  pub can_be : CanBeToken text
  pub longest : (other rest : List ℕ) → CanBeToken other → text ++ after ≡ other ++ rest → length other ≤ length text

-- a comment begins here: `/*` or `//` (6.4.9). Past the end of the bytes `slice_index` returns 0, which no test looks for.
abbrev pub begins_comment : List ℕ → Bool
begins_comment bytes = slice_index bytes 0 == 47 && (slice_index bytes 1 == 42 || slice_index bytes 1 == 47)

-- `*/` begins here
abbrev pub begins_close : List ℕ → Bool
begins_close bytes = slice_index bytes 0 == 42 && slice_index bytes 1 == 47

-- a line ends here
abbrev pub begins_line_end : List ℕ → Bool
begins_line_end bytes = slice_index bytes 0 == 10

-- a line splice: a backslash directly before 10, or before 13 and 10 (5.1.1.2)
abbrev pub begins_splice : List ℕ → Bool
begins_splice bytes = slice_index bytes 0 == 92 && (slice_index bytes 1 == 10 || (slice_index bytes 1 == 13 && slice_index bytes 2 == 10))

-- the test holds at no byte of the prefix, with what follows that byte in view
abbrev pub Nowhere : (List ℕ → Bool) → List ℕ → List ℕ → Type 0
Nowhere test [] after = Unit {0}
Nowhere test (b ∷ prefix) after = (test (b ∷ prefix ++ after) ≡ false) × Nowhere test prefix after

-- a comment, and what follows it: `/*` up to the first `*/`, or `//` up to the end of the line or of the text (6.4.9)
pub data IsComment : List ℕ → List ℕ → Type 0 where
  block : {after : List ℕ} (body : List ℕ) → Nowhere begins_close body (42 ∷ 47 ∷ after) → IsComment (47 ∷ 42 ∷ body ++ (42 ∷ 47 ∷ [])) after
  line : {after : List ℕ} (body : List ℕ) → Nowhere begins_line_end body after → (after ≡ []) ⊎ IsTrue (begins_line_end after) → IsComment (47 ∷ 47 ∷ body) after

-- what a text is cut into: single bytes of white space, comments, tokens
pub data TextPiece : Type 0 where
  blank : ℕ → TextPiece
  comment : List ℕ → TextPiece
  token : TokenKind → List ℕ → TextPiece

-- the bytes of a piece
abbrev pub piece_bytes : TextPiece → List ℕ
piece_bytes (blank b) = b ∷ []
piece_bytes (comment c) = c
piece_bytes (token k text) = text

-- the piece is right, given what follows it: a comment has no line splice; a token does not begin like a comment, is the longest
-- possible, and its bytes spell it
abbrev pub StandsBefore : TextPiece → List ℕ → Type 0
StandsBefore (blank b) after = IsTrue (is_blank b)
StandsBefore (comment c) after = IsComment c after × Nowhere begins_splice c after
StandsBefore (token k text) after = (begins_comment (text ++ after) ≡ false) × IsLongest text after × SpellsToken k text

-- the text consists of these pieces, each right given what follows it, and then the rest
abbrev pub IsCut : List TextPiece → List ℕ → List ℕ → Type 0
IsCut [] text rest = text ≡ rest
IsCut (p ∷ ps) text rest = (after : List ℕ) × (text ≡ piece_bytes p ++ after) × StandsBefore p after × IsCut ps after rest

-- the tokens among some pieces; the first piece begins at this offset
abbrev pub tokens_of : ℕ → List TextPiece → List Lexeme
tokens_of at [] = []
tokens_of at (blank b ∷ ps) = tokens_of (at + 1) ps
tokens_of at (comment c ∷ ps) = tokens_of (at + length c) ps
tokens_of at (token k text ∷ ps) = record { kind = k; text = text; at = at } ∷ tokens_of (at + length text) ps

-- these are the tokens of the text
pub record IsTokens (text : List ℕ) (ts : List Lexeme) : Type 0 where
  pub pieces : List TextPiece
  pub cut : IsCut pieces text []
  pub tokens : ts ≡ tokens_of 0 pieces

-- the bytes begin with a byte that is not white space and begins no comment and no token
pub record IsStray (bytes : List ℕ) : Type 0 where
  pub first : ℕ
  pub rest : List ℕ
  pub whole : bytes ≡ first ∷ rest
  pub no_blank : is_blank first ≡ false
  pub no_comment : begins_comment bytes ≡ false
  pub no_token : (text after : List ℕ) → CanBeToken text → bytes ≢ text ++ after

-- the bytes begin with a comment whose first line splice is at an offset
pub record IsSpliced (bytes : List ℕ) (offset : ℕ) : Type 0 where
  pub prefix : List ℕ
  pub back : List ℕ
  pub after : List ℕ
  pub whole : bytes ≡ (prefix ++ back) ++ after
  pub commented : IsComment (prefix ++ back) after
  pub none_before : Nowhere begins_splice prefix (back ++ after)
  pub inside : 0 < length back
  pub here : begins_splice (back ++ after) ≡ true
  pub at : offset ≡ length prefix

-- the bytes begin with `/*`, and no `*/` follows
pub record IsUnclosed (bytes : List ℕ) : Type 0 where
  pub body : List ℕ
  pub whole : bytes ≡ 47 ∷ 42 ∷ body
  pub never_closed : Nowhere begins_close body []

-- the longest prefix that can be a token is a number that spells no constant
pub record IsBadConstant (bytes : List ℕ) : Type 0 where
  pub text : List ℕ
  pub after : List ℕ
  pub whole : bytes ≡ text ++ after
  pub longest : IsLongest text after
  pub number : IsNumber text
  pub no_constant : (c : Constant) → SpellsConstant c text → ⊥

-- the longest prefix that can be a token is a constant that has no type
pub record IsTooLarge (bytes : List ℕ) : Type 0 where
  pub text : List ℕ
  pub after : List ℕ
  pub whole : bytes ≡ text ++ after
  pub longest : IsLongest text after
  pub constant : Constant
  pub spelled : SpellsConstant constant text
  pub no_type : constant_type constant ≡ None

-- the bytes begin not with a piece but with this error, which is at an offset from their first byte
abbrev pub IsLexicalError : LexicalError → List ℕ → ℕ → Type 0
IsLexicalError BadByte bytes offset = (IsStray bytes × (offset ≡ 0)) ⊎ IsSpliced bytes offset
IsLexicalError UnclosedComment bytes offset = IsUnclosed bytes × (offset ≡ 0)
IsLexicalError BadConstant bytes offset = IsBadConstant bytes × (offset ≡ 0)
IsLexicalError ConstantTooLarge bytes offset = IsTooLarge bytes × (offset ≡ 0)

-- the first error of the text, and its offset: before it there are only pieces
pub record FirstLexicalError (text : List ℕ) (error : LexicalError) (at : ℕ) : Type 0 where
  pub pieces : List TextPiece
  pub rest : List ℕ
  pub offset : ℕ
  pub cut : IsCut pieces text rest
  pub erroneous : IsLexicalError error rest offset
  pub where_at : at ≡ length (flat_map piece_bytes pieces) + offset

-- the fault for an error at a place
abbrev pub lexical_fault : LexicalError → Place → SyntaxFault
lexical_fault BadByte p = fault.BadByte p
lexical_fault UnclosedComment p = fault.UnclosedComment p
lexical_fault BadConstant p = fault.BadConstant p
lexical_fault ConstantTooLarge p = fault.ConstantTooLarge p

-- the tokens follow one another from low up to high, each with at least one byte
abbrev pub AreInOrder : (low : ℕ) → List Token → (high : ℕ) → Type 0
AreInOrder low [] high = low ≤ high
AreInOrder low (t ∷ ts) high = (low ≤ t.from) × (t.from < t.to) × AreInOrder t.to ts high

-- the largest number of bytes that a text may have
abbrev pub most_bytes : ℕ
most_bytes = 65536

-- the text has at most `most_bytes` bytes, and the fault is that of its first error, at that error's place
pub record IsLexicalFault (text : List ℕ) (fault : SyntaxFault) : Type 0 where
  pub fits : length text ≤ most_bytes
  pub error : LexicalError
  pub at : ℕ
  pub first : FirstLexicalError text error at
  pub is : fault ≡ lexical_fault error (place_of text at)

-- why a text has no tokens: 7 exactly if it has too many bytes; otherwise the fault of its first error, or 40 if memory runs out
abbrev pub IsTokenRefusal : List ℕ → SyntaxFault → Type 0
IsTokenRefusal text fault.SourceTooLarge = most_bytes < length text
IsTokenRefusal text fault.OutOfMemory = length text ≤ most_bytes
IsTokenRefusal text (fault.BadByte p) = IsLexicalFault text (fault.BadByte p)
IsTokenRefusal text (fault.UnclosedComment p) = IsLexicalFault text (fault.UnclosedComment p)
IsTokenRefusal text (fault.BadConstant p) = IsLexicalFault text (fault.BadConstant p)
IsTokenRefusal text (fault.ConstantTooLarge p) = IsLexicalFault text (fault.ConstantTooLarge p)
IsTokenRefusal text (fault.Unexpected p) = ⊥
IsTokenRefusal text (fault.TooDeep p) = ⊥

-- a text has at most one list of tokens
abbrev pub TokensAreOne : Type 0
TokensAreOne = (text : List ℕ) (a b : List Lexeme) → IsTokens text a → IsTokens text b → a ≡ b

-- a text that has tokens has no error
abbrev pub TokensHaveNoLexicalError : Type 0
TokensHaveNoLexicalError = (text : List ℕ) (ts : List Lexeme) (error : LexicalError) (at : ℕ) → IsTokens text ts → FirstLexicalError text error at → ⊥

-- a text has at most one first error
abbrev pub FirstLexicalErrorIsOne : Type 0
FirstLexicalErrorIsOne = (text : List ℕ) (f g : LexicalError) (i j : ℕ) → FirstLexicalError text f i → FirstLexicalError text g j → (f ≡ g) × (i ≡ j)

-- every text has tokens or a first error
abbrev pub TokensOrLexicalError : Type 0
TokensOrLexicalError = (text : List ℕ) → ((ts : List Lexeme) × IsTokens text ts) ⊎ ((error : LexicalError) × (at : ℕ) × FirstLexicalError text error at)
