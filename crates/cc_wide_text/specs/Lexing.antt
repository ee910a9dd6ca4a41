-- Tokens, one after another, each seen with those before it; and the bytes of a text that is written token by token.
use Rattle.std.specs.Prelude.{ℕ, Bool, true, false, ◌&&◌, List, [], ◌∷◌, ◌++◌, codes}
use Rattle.std.specs.Str.{bytes_eq}
use Rattle.cc_tokens.specs.declared.token.TokenKind.{TokenKind}
use Rattle.cc_tokens.specs.declared.token.TokenKind.TheVariants as kind
use Rattle.cc_tokens.specs.Token.{Lexeme}

-- what tokens lead to from a state, if each leads from one state to the next, given the tokens before it
abbrev pub led : {S : Type 0} → (S → List Lexeme → Lexeme → S) → S → (before : List Lexeme) → List Lexeme → S
led after s before [] = s
led after s before (x ∷ xs) = led after (after s before x) (before ++ x ∷ []) xs

abbrev pub is_identifier : TokenKind → Bool
is_identifier kind.Identifier = true
is_identifier (kind.Keyword k) = false
is_identifier (kind.Number t n) = false
is_identifier (kind.Punctuator p) = false

-- the token is this word
abbrev pub is_word : Lexeme → List ℕ → Bool
is_word x word = is_identifier x.kind && bytes_eq x.text word

-- how a token is written: its bytes, and a space
abbrev pub spaced : List ℕ → List ℕ
spaced bytes = bytes ++ (32 ∷ [])

-- what is wrong: a byte that begins no token, so that the next reader refuses it
abbrev pub wrong : List ℕ
wrong = codes "# "
