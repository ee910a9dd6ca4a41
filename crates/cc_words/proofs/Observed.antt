-- The words of an output, without the marks of reads.
use Rattle.std.proofs.Common.{◌≡◌, ℕ, ◌^◌, ◌<◌, Bool, true, false, nat_lt, if◌then◌else◌, List, [], ◌∷◌, ◌++◌, refl, ap, ◌∙◌}
use Rattle.std.proofs.lemmas.Bool.{lt-ltb}
use Rattle.std.proofs.lemmas.List.{append-nil}
use Rattle.cc_words.specs.Observed.{read_mark, written_words}

words_by : (b : Bool) (w : ℕ) (xs ys : List ℕ) → (if b then w ∷ (xs ++ ys) else xs ++ ys) ≡ (if b then w ∷ xs else xs) ++ ys
words_by true w xs ys = refl
words_by false w xs ys = refl

pub words_append : (xs ys : List ℕ) → written_words (xs ++ ys) ≡ written_words xs ++ written_words ys
words_append [] ys = refl
words_append (x ∷ xs) ys =
    ap (λ (l : List ℕ). if nat_lt x (2 ^ 32) then x ∷ l else l) (words_append xs ys) ∙ words_by (nat_lt x (2 ^ 32)) x (written_words xs) (written_words ys)

-- a word that is written is one of the words, and a read is not
pub words_wrote : (xs : List ℕ) (w : ℕ) → w < 2 ^ 32 → written_words (xs ++ w ∷ []) ≡ written_words xs ++ w ∷ []
words_wrote xs w lt = words_append xs (w ∷ []) ∙ ap (λ b. written_words xs ++ (if b then w ∷ [] else [])) (lt-ltb w (2 ^ 32) lt)

pub words_read : (xs : List ℕ) → written_words (xs ++ read_mark ∷ []) ≡ written_words xs
words_read xs = words_append xs (read_mark ∷ []) ∙ append-nil (written_words xs)
