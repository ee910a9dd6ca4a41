-- The offset that a count records is the one at which the limit is exceeded.
use Rattle.std.proofs.Common.{◌≡◌, ℕ, zero, suc, ◌+◌, Bool, true, false, if◌then◌else◌, nat_lt, List, [], ◌∷◌, ◌++◌, map, take, drop, Option, Some, None, refl, sym, ap, subst, ◌∙◌, arith}
use Rattle.std.proofs.lemmas.Bool.Decides.{nat_tests}
use Rattle.cc_ast.specs.Tree.{Name, Object}
use Rattle.cc_types.specs.Types.{object_words}
use Rattle.cc_types.specs.Limits.{most_words, too_many, past, word_excesses, object_name}
use Rattle.cc_types.specs.Counts.{passed}
use Rattle.cc_typing.specs.internal.Counts.{excess_of, WordCount, with_words, words_after}
use Rattle.cc_types.specs.declared.rule.Rule.TheVariants.{TooMany}

-- once the limit is exceeded, the offset does not change
passed-once : (most at : ℕ) (xs : List Name) → passed most most (Some at) xs ≡ Some at
passed-once most at [] = refl
passed-once most at (x ∷ xs) =
    let full : nat_lt most most ≡ false = grind (arith, nat_tests) in
    ap (λ b. if b then passed most (most + 1) (Some at) xs else passed most most (Some at) xs) full ∙ passed-once most at xs

-- if `n` names are counted already and `left` more are allowed, the limit is exceeded at the first name after
-- those, if there is one
passed-left : (most left n : ℕ) (xs : List Name) → left + n ≡ most → excess_of (passed most n None xs) ≡ map too_many (take 1 (drop left xs))
passed-left most zero n [] e = refl
passed-left most zero n (x ∷ xs) e =
    let full : n ≡ most = omega arith in
    let none : nat_lt most most ≡ false = grind (arith, nat_tests) in
    subst (λ k. excess_of (passed most k None (x ∷ xs)) ≡ record { rule = TooMany; at = x.at } ∷ []) (sym full)
    (ap (λ b. excess_of (if b then passed most (most + 1) None xs else passed most most (Some x.at) xs)) none ∙ ap excess_of (passed-once most x.at xs))
passed-left most (suc left) n [] e = refl
passed-left most (suc left) n (x ∷ xs) e =
    let more : nat_lt n most ≡ true = grind (arith, nat_tests) in
    let next : left + (n + 1) ≡ most = omega arith in
    ap (λ b. excess_of (if b then passed most (n + 1) None xs else passed most n (Some x.at) xs)) more ∙ passed-left most left (n + 1) xs next

pub excess-is : (most : ℕ) (xs : List Name) → excess_of (passed most 0 None xs) ≡ past most xs
excess-is most xs = passed-left most most 0 xs (omega arith)

-- ---- words

pub words_words : (w : WordCount) (xs ys : List Object) → words_after (words_after w xs) ys ≡ words_after w (xs ++ ys)
words_words w [] ys = refl
words_words w (x ∷ xs) ys = words_words (with_words w x) xs ys

words-once : (n at : ℕ) (os : List Object) → words_after (record { taken = n; past = Some at }) os ≡ record { taken = n; past = Some at }
words-once n at [] = refl
words-once n at (o ∷ os) = words-once n at os

pub words-are : (n : ℕ) (os : List Object) → excess_of (words_after (record { taken = n; past = None }) os).past ≡ word_excesses n os
words-are n [] = refl
words-are n (o ∷ os) = by (nat_lt most_words (n + object_words o)) (words-are (n + object_words o) os)
  where
    by : (b : Bool) → excess_of (words_after (record { taken = n + object_words o; past = None }) os).past ≡ word_excesses (n + object_words o) os
        → excess_of (words_after (if b then record { taken = n; past = Some (object_name o).at } else record { taken = n + object_words o; past = None }) os).past
        ≡ (if b then too_many (object_name o) ∷ [] else word_excesses (n + object_words o) os)
    by true e = ap (λ (w : WordCount). excess_of w.past) (words-once n (object_name o).at os)
    by false e = e
