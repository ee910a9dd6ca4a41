-- A token with its bytes, without its layout in memory.
use Rattle.std.specs.Prelude.{ℕ, List, map, slice_range}
use Rattle.cc_tokens.specs.declared.token.TokenKind.{TokenKind}
use Rattle.cc_tokens.specs.declared.token.Token.{Token}

-- a token: its kind, its bytes, and the offset of its first byte in the text (C99 6.4)
pub record Lexeme : Type 0 where
  pub kind : TokenKind
  pub text : List ℕ
  pub at : ℕ

-- a token of the code as a lexeme: its bytes are those of the text from `from` up to but not including `to`
abbrev pub lexeme : List ℕ → Token → Lexeme
lexeme text t = record { kind = t.kind; text = slice_range text t.from t.to; at = t.from }

-- tokens of the code as lexemes, given the text
abbrev pub lexemes : List ℕ → List Token → List Lexeme
lexemes text ts = map (lexeme text) ts
