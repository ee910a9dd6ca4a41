-- Texts with their tokens or their first error, worked by hand: a comment that ends a token, a blank that keeps two signs
-- apart, and a number that continues after its exponent letter.
use Rattle.std.proofs.Common.{◌≡◌, ℕ, ◌+◌, ◌<◌, List, [], ◌∷◌, ◌++◌, length, drop, refl, subst, arith}
use lib.Chars.{codes}
use Rattle.cc_tokens.specs.declared.scalar.Scalar.TheVariants.{Int}
use Rattle.cc_tokens.specs.declared.lexical_error.LexicalError.TheVariants.{BadByte, UnclosedComment, BadConstant}
use Rattle.cc_tokens.specs.declared.scan.Head.TheVariants as head
use Rattle.cc_tokens.specs.declared.token.Token.{Token}
use Rattle.cc_tokens.specs.declared.token.TokenKind.{TokenKind}
use Rattle.cc_tokens.specs.declared.token.TokenKind.TheVariants.{Identifier, Number, Punctuator}
use Rattle.cc_tokens.specs.declared.token.Punctuator.TheVariants.{Plus}
use Rattle.cc_tokens.specs.Tokens.{IsTokens, FirstLexicalError}
use Rattle.cc_tokens.specs.internal.Scan.{head_of, offset_within, run_length, keyword_named, punctuator_at, base_of, suffix_of, constant_spelled}
use Rattle.cc_tokens.proofs.Heads.{IsHead, head_sound}
use Rattle.cc_tokens.specs.Reading.{FoundBefore}
use Rattle.cc_tokens.proofs.Found.{found_none, found_blank, found_comment, found_token, found_all}

-- one step on a text, depending on what comes next
module _ (text : List ℕ) (ts : List Token) (at : ℕ) (found : FoundBefore text ts at) (some : 0 < length (drop at text)) where
  at_blank : head_of (drop at text) ≡ head.Blank → FoundBefore text ts (at + 1)
  at_blank e = let stands = subst (IsHead (drop at text)) e (head_sound (drop at text) some) in found_blank text ts at 1 found stands.0 stands.1

  at_comment : (n : ℕ) → head_of (drop at text) ≡ head.Comment n → FoundBefore text ts (at + n)
  at_comment n e = let stands = subst (IsHead (drop at text)) e (head_sound (drop at text) some) in found_comment text ts at n found stands.0 stands.1

  at_token : (k : TokenKind) (n : ℕ) → head_of (drop at text) ≡ head.Token k n → FoundBefore text (ts ++ record { kind = k; from = at; to = at + n } ∷ []) (at + n)
  at_token k n e = let stands = subst (IsHead (drop at text)) e (head_sound (drop at text) some) in found_token text ts at n found k stands.0 stands.1

comment_between : IsTokens (codes "a/*b*/c") (record { kind = Identifier; text = codes "a"; at = 0 } ∷ record { kind = Identifier; text = codes "c"; at = 6 } ∷ [])
unfolding head_of offset_within run_length keyword_named
comment_between =
    let text = codes "a/*b*/c" in
    let a = at_token text _ 0 (found_none text) (omega arith) Identifier 1 refl in
    let b = at_comment text _ 1 a (omega arith) 5 refl in
    let c = at_token text _ 6 b (omega arith) Identifier 1 refl in
    found_all text _ 7 c (omega arith)

two_signs : IsTokens (codes "1+ +1") (record { kind = Number Int 1; text = codes "1"; at = 0 } ∷ record { kind = Punctuator Plus; text = codes "+"; at = 1 } ∷ record { kind = Punctuator Plus; text = codes "+"; at = 3 } ∷ record { kind = Number Int 1; text = codes "1"; at = 4 } ∷ [])
unfolding head_of offset_within run_length keyword_named punctuator_at base_of suffix_of constant_spelled
two_signs =
    let text = codes "1+ +1" in
    let a = at_token text _ 0 (found_none text) (omega arith) (Number Int 1) 1 refl in
    let b = at_token text _ 1 a (omega arith) (Punctuator Plus) 1 refl in
    let c = at_blank text _ 2 b (omega arith) refl in
    let d = at_token text _ 3 c (omega arith) (Punctuator Plus) 1 refl in
    let e = at_token text _ 4 d (omega arith) (Number Int 1) 1 refl in
    found_all text _ 5 e (omega arith)

-- `0xe+1` is not the sum of 0xe and 1
exponent_sign : FirstLexicalError (codes "0xe+1") BadConstant 0
unfolding head_of run_length base_of suffix_of constant_spelled
exponent_sign = record { pieces = []; rest = codes "0xe+1"; offset = 0; cut = refl; erroneous = (head_sound (codes "0xe+1") (omega arith)).1; where_at = refl }

-- a comment that is never closed is reported as such, even if there is a line splice in it
unclosed_before_splice : FirstLexicalError (47 ∷ 42 ∷ 92 ∷ 10 ∷ []) UnclosedComment 0
unfolding head_of offset_within
unclosed_before_splice = record { pieces = []; rest = 47 ∷ 42 ∷ 92 ∷ 10 ∷ []; offset = 0; cut = refl; erroneous = (head_sound (47 ∷ 42 ∷ 92 ∷ 10 ∷ []) (omega arith)).1; where_at = refl }

-- a line splice in a comment is an error
splice_in_comment : FirstLexicalError (47 ∷ 47 ∷ 92 ∷ 10 ∷ []) BadByte 2
unfolding head_of offset_within
splice_in_comment = record { pieces = []; rest = 47 ∷ 47 ∷ 92 ∷ 10 ∷ []; offset = 2; cut = refl; erroneous = (head_sound (47 ∷ 47 ∷ 92 ∷ 10 ∷ []) (omega arith)).1; where_at = refl }
