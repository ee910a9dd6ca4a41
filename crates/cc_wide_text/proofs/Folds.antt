-- Tokens one after another, and those before them.
use Rattle.std.proofs.Common.{◌≡◌, ℕ, zero, suc, ◌<◌, ◌≤◌, Bool, true, false, ◌||◌, List, [], ◌∷◌, ◌++◌, length, take, drop, slice_get, Some, refl, sym, ap, ◌∙◌, arith}
use Rattle.std.specs.List.{flat_map}
use Rattle.std.proofs.lemmas.List.{drop_all, flat_map_more}
use Rattle.cc_tokens.specs.Token.{Lexeme}
use Rattle.cc_wide_text.specs.Lexing.{led, is_word}
use Rattle.cc_wide_text.specs.Macros.{occurs}

pub drop_get : (ts : List Lexeme) (i : ℕ) (x : Lexeme) → slice_get ts i ≡ Some x → drop i ts ≡ x ∷ drop (suc i) ts
drop_get [] i x e = cc
drop_get (y ∷ ys) zero x e = let same : y ≡ x = cc in ap (λ (z : Lexeme). z ∷ ys) same
drop_get (y ∷ ys) (suc i) x e = drop_get ys i x e

pub take_get : (ts : List Lexeme) (i : ℕ) (x : Lexeme) → slice_get ts i ≡ Some x → take (suc i) ts ≡ take i ts ++ x ∷ []
take_get [] i x e = cc
take_get (y ∷ ys) zero x e = let same : y ≡ x = cc in ap (λ (z : Lexeme). z ∷ []) same
take_get (y ∷ ys) (suc i) x e = ap (λ (zs : List Lexeme). y ∷ zs) (take_get ys i x e)

pub led_more : {S : Type 0} (after : S → List Lexeme → Lexeme → S) (s t : S) (ts : List Lexeme) (i : ℕ) (x : Lexeme) → slice_get ts i ≡ Some x → t ≡ after s (take i ts) x
    → led after t (take (suc i) ts) (drop (suc i) ts) ≡ led after s (take i ts) (drop i ts)
led_more {S} after s t ts i x e h =
    ap (λ (u : S). led after u (take (suc i) ts) (drop (suc i) ts)) h
    ∙ ap (λ (before : List Lexeme). led after (after s (take i ts) x) before (drop (suc i) ts)) (take_get ts i x e)
    ∙ sym (ap (λ (rest : List Lexeme). led after s (take i ts) rest) (drop_get ts i x e))

pub led_end : {S : Type 0} (after : S → List Lexeme → Lexeme → S) (s : S) (ts : List Lexeme) (n : ℕ) → length ts ≤ n → led after s (take n ts) (drop n ts) ≡ s
led_end {S} after s ts n h = ap (λ (rest : List Lexeme). led after s (take n ts) rest) (drop_all n ts h)

or_true : (b : Bool) → (b || true) ≡ true
or_true true = refl
or_true false = refl

or_false : (a b : Bool) → (a || b) ≡ false → (a ≡ false) × (b ≡ false)
or_false true b h = cc
or_false false b h = (refl, h)

pub occurs_here : (ts : List Lexeme) (i n : ℕ) (x : Lexeme) (name : List ℕ) → slice_get ts i ≡ Some x → i < n → is_word x name ≡ true → occurs (take n ts) name ≡ true
occurs_here [] i n x name e lt h = cc
occurs_here (y ∷ ys) i zero x name e lt h = absurd (omega arith)
occurs_here (y ∷ ys) zero (suc n) x name e lt h =
    let same : y ≡ x = cc in
    ap (λ (z : Lexeme). is_word z name || occurs (take n ys) name) same ∙ ap (λ (b : Bool). b || occurs (take n ys) name) h
occurs_here (y ∷ ys) (suc i) (suc n) x name e lt h =
    ap (λ (b : Bool). is_word y name || b) (occurs_here ys i n x name e (omega arith) h) ∙ or_true (is_word y name)

pub occurs_not_more : (ts : List Lexeme) (i : ℕ) (x : Lexeme) (name : List ℕ) → slice_get ts i ≡ Some x → occurs (take i ts) name ≡ false → is_word x name ≡ false → occurs (take (suc i) ts) name ≡ false
occurs_not_more [] i x name e o h = cc
occurs_not_more (y ∷ ys) zero x name e o h =
    let same : y ≡ x = cc in
    ap (λ (z : Lexeme). is_word z name || false) same ∙ ap (λ (b : Bool). b || false) h
occurs_not_more (y ∷ ys) (suc i) x name e o h =
    let both = or_false (is_word y name) (occurs (take i ys) name) o in
    ap (λ (b : Bool). b || occurs (take (suc i) ys) name) both.0 ∙ occurs_not_more ys i x name e both.1 h

pub flat_map_taken : (f : Lexeme → List ℕ) (ts : List Lexeme) (i : ℕ) (x : Lexeme) → slice_get ts i ≡ Some x → flat_map f (take (suc i) ts) ≡ flat_map f (take i ts) ++ f x
flat_map_taken f ts i x e = ap (λ (l : List Lexeme). flat_map f l) (take_get ts i x e) ∙ sym (flat_map_more f [] (take i ts) x)
