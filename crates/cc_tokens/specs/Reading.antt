-- Reading a text token by token: the tokens before an offset, and the next one.
use Rattle.std.specs.Prelude.{◌≡◌, ℕ, ◌<◌, ◌≤◌, List, [], ◌∷◌, ◌++◌, length, drop}
use Rattle.std.specs.List.{flat_map}
use Rattle.cc_tokens.specs.declared.token.Token.{Token}
use Rattle.cc_tokens.specs.declared.lexer.NextToken.{NextToken}
use Rattle.cc_tokens.specs.declared.lexer.NextToken.TheVariants as next
use Rattle.cc_tokens.specs.Token.{lexemes}
use Rattle.cc_tokens.specs.Tokens.{TextPiece, piece_bytes, IsCut, tokens_of, AreInOrder, FirstLexicalError}

-- the tokens before the offset are `ts`: the text before it is cut into pieces, and their tokens are `ts`
pub record FoundBefore (text : List ℕ) (ts : List Token) (at : ℕ) : Type 0 where
  pub within : at ≤ length text
  pub pieces : List TextPiece
  pub cut : IsCut pieces text (drop at text)
  pub consumed : at ≡ length (flat_map piece_bytes pieces)
  pub tokens : lexemes text ts ≡ tokens_of 0 pieces
  pub ordered : AreInOrder 0 ts at

-- what comes next is right: one more token, or no further token in the text, or the text's first error
abbrev pub FoundNext : List ℕ → List Token → NextToken → Type 0
FoundNext text ts (next.Token t) = FoundBefore text (ts ++ t ∷ []) t.to
FoundNext text ts next.End = FoundBefore text ts (length text)
FoundNext text ts (next.Error error p) = FirstLexicalError text error p

-- what comes next is at or after the offset, and within the text
abbrev pub IsBehind : (at high : ℕ) → NextToken → Type 0
IsBehind at high (next.Token t) = (at ≤ t.from) × (t.from < t.to) × (t.to ≤ high)
IsBehind at high next.End = Unit {0}
IsBehind at high (next.Error error p) = (at ≤ p) × (p ≤ high)
