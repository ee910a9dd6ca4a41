-- What a whole text spells, and why it is refused.
use Rattle.std.specs.Prelude.{◌≡◌, ℕ, ◌≤◌, List, length, slice_get, Option, Some, None, Result, Ok, Err}
use Rattle.cc_tokens.specs.declared.place.Place.{Place}
use Rattle.cc_tokens.specs.declared.fault.SyntaxFault.{SyntaxFault}
use Rattle.cc_tokens.specs.declared.fault.SyntaxFault.TheVariants as fault
use Rattle.cc_tokens.specs.Token.{Lexeme}
use Rattle.cc_ast.specs.Tree.{External}
use Rattle.cc_tokens.specs.Place.{place_of}
use Rattle.cc_tokens.specs.Tokens.{IsTokens, IsTokenRefusal, most_bytes}
use Rattle.cc_ast.specs.Limits.{SpellsWithin, UnexpectedAt, TooDeepAt, IsFineBefore}

-- the text's tokens spell the tree within the limits
pub record SpellsText (text : List ℕ) (tree : List External) : Type 0 where
  pub tokens : List Lexeme
  pub are : IsTokens text tokens
  pub spelled : SpellsWithin tokens tree

-- the offset of a token, or of the end of the text if there is no token
abbrev pub offset_of : List ℕ → Option Lexeme → ℕ
offset_of text None = length text
offset_of text (Some x) = x.at

-- the place of token number k, or one past the last byte if the text has no such token
abbrev pub place_at_token : List ℕ → List Lexeme → ℕ → Place
place_at_token text tokens k = place_of text (offset_of text (slice_get tokens k))

-- the text has tokens, and the first that breaks the grammar or a limit is at this place, and does so as `Breaks` says
pub record BreaksAt (Breaks : List Lexeme → ℕ → Type 0) (text : List ℕ) (p : Place) : Type 0 where
  pub fits : length text ≤ most_bytes
  pub tokens : List Lexeme
  pub are : IsTokens text tokens
  pub number : ℕ
  pub before : IsFineBefore tokens number
  pub here : Breaks tokens number
  pub place : p ≡ place_at_token text tokens number

-- why a text has no tree: `tokens` refuses it if it has no tokens; any other text is refused with 5 or 6, at the first wrong token
abbrev pub IsParseRefusal : List ℕ → SyntaxFault → Type 0
IsParseRefusal text (fault.Unexpected p) = BreaksAt UnexpectedAt text p
IsParseRefusal text (fault.TooDeep p) = BreaksAt TooDeepAt text p
IsParseRefusal text f = IsTokenRefusal text f

-- what `parse` may return for a text if memory suffices: the tree that the text spells, or why it spells none
abbrev pub IsParseAnswer : List ℕ → Result (List External) SyntaxFault → Type 0
IsParseAnswer text (Ok tree) = (length text ≤ most_bytes) × SpellsText text tree
IsParseAnswer text (Err fault.OutOfMemory) = ⊥
IsParseAnswer text (Err f) = IsParseRefusal text f

-- `parse` has at most one possible answer for a text: two answers are the same tree, or the same fault at the same place
abbrev pub ParseAnswersAreOne : Type 0
ParseAnswersAreOne = (text : List ℕ) (a b : Result (List External) SyntaxFault) → IsParseAnswer text a → IsParseAnswer text b → a ≡ b

-- `parse` has a possible answer for every text
abbrev pub TextsHaveAnswers : Type 0
TextsHaveAnswers = (text : List ℕ) → (a : Result (List External) SyntaxFault) × IsParseAnswer text a
