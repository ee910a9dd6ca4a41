-- Tokens in order lie within the text, and each token has its position among the tokens of the text.
use Rattle.std.proofs.Common.{◌≡◌, ◌<◌, ◌≤◌, ℕ, zero, suc, List, [], ◌∷◌, ◌++◌, length, take, get_or, slice_get, Some, None, refl, sym, ap, subst, ◌∙◌, arith}
use Rattle.std.proofs.lemmas.List.{length-map}
use Rattle.std.proofs.Math.Seq.{take-suc}
use Rattle.std.proofs.Math.ListN.{get_or-map}
use Rattle.cc_tokens.specs.declared.token.Token.{Token}
use Rattle.cc_tokens.specs.Token.{Lexeme, lexeme, lexemes}
use Rattle.cc_tokens.specs.Tokens.{AreInOrder}
use Rattle.cc_syntax.proofs.Verdict.{IsCutAt}

in_order-low : (ts : List Token) (low high : ℕ) → AreInOrder low ts high → low ≤ high
in_order-low [] low high h = h
in_order-low (t ∷ ts) low high h = omega (arith, h.0, h.1, in_order-low ts t.to high h.2)

pub in_order-at : (ts : List Token) (low high k : ℕ) (d : Token) → AreInOrder low ts high → k < length ts → ((get_or ts k d).from ≤ (get_or ts k d).to) × ((get_or ts k d).to ≤ high)
in_order-at [] low high k d h i = absurd (omega arith)
in_order-at (u ∷ ts) low high zero d h i = (omega (arith, h.1), in_order-low ts u.to high h.2)
in_order-at (u ∷ ts) low high (suc k) d h i = in_order-at ts u.to high k d h.2 (omega arith)

pub length-lexemes : (text : List ℕ) (ts : List Token) → length (lexemes text ts) ≡ length ts
length-lexemes text ts = length-map ts (lexeme text)

pub cut_at : (text : List ℕ) (ts : List Token) (k : ℕ) (d : Token) → k < length ts → IsCutAt (lexemes text ts) k (lexeme text (get_or ts k d))
cut_at text ts k d i =
    let inside : k < length (lexemes text ts) = subst (λ (n : ℕ). k < n) (sym (length-lexemes text ts)) i in
    record {
      inside = inside;
      next = take-suc (lexemes text ts) k (lexeme text d) inside
          ∙ ap (λ (x : Lexeme). take k (lexemes text ts) ++ x ∷ []) (get_or-map (lexeme text) ts k d);
    }

pub token_at : (text : List ℕ) (ts : List Token) (k : ℕ) (d : Token) → k < length ts → slice_get (lexemes text ts) k ≡ Some (lexeme text (get_or ts k d))
token_at text [] k d h = absurd (omega arith)
token_at text (t ∷ ts) zero d h = refl
token_at text (t ∷ ts) (suc k) d h = token_at text ts k d (omega arith)

pub no_token_at : (text : List ℕ) (ts : List Token) (k : ℕ) → length ts ≤ k → slice_get (lexemes text ts) k ≡ None
no_token_at text [] k h = refl
no_token_at text (t ∷ ts) zero h = absurd (omega arith)
no_token_at text (t ∷ ts) (suc k) h = no_token_at text ts k (omega arith)
