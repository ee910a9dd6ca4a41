-- Two lists that weigh the same, however items are weighed, have the same items, each the same number of
-- times.
use Rattle.std.proofs.Common.{◌≡◌, ℕ, zero, suc, ◌<◌, cond, eqb, List, [], ◌∷◌, ◌++◌, sym, refl, ap, subst, arith}
use Rattle.std.specs.List.{sum_by}
use Rattle.std.specs.Prelude.{IsPermutation}
use Rattle.std.proofs.lemmas.List.Sums.{sum_by-cons, sum_by-append}
use Rattle.std.proofs.lemmas.List.Sorted.{IsPermutation-refl, IsPermutation-cons, IsPermutation-trans, IsPermutation-sym, IsPermutation-middle}
use Rattle.std.proofs.lemmas.Bool.Decides.{nat_tests}
use Rattle.cc_pool.specs.Job.{JobFunction}
use Rattle.cc_pool.specs.declared.item.Item.{Item}
use Rattle.cc_pool.specs.declared.item.Item.TheVariants.{Piece, Stop}
use Rattle.cc_pool.specs.Rule.{SameItems}

-- 1 if both numbers are the same, otherwise 0
abbrev same : ℕ → ℕ → ℕ
same a b = cond (eqb a b) 1 0

same_self : (a : ℕ) → same a a ≡ 1
same_self a = grind (arith, nat_tests)

same_is : (a b : ℕ) → 0 < same a b → a ≡ b
same_is a b p = grind (arith, nat_tests)

-- 1 if both items are the same, otherwise 0
abbrev is_item : Item → Item → ℕ
is_item (Piece a) (Piece b) = cond (eqb a.job b.job) (same a.function b.function) 0
is_item (Piece a) Stop = 0
is_item Stop (Piece b) = 0
is_item Stop Stop = 1

both_same : (a b : JobFunction) → 0 < cond (eqb a.job b.job) (same a.function b.function) 0 → (a.job ≡ b.job) × (a.function ≡ b.function)
both_same a b p = (grind (arith, nat_tests), grind (arith, nat_tests))

item_self : (x : Item) → is_item x x ≡ 1
item_self (Piece a) = grind (arith, nat_tests)
item_self Stop = refl

item_is : (x y : Item) → 0 < is_item x y → x ≡ y
item_is (Piece a) (Piece b) p = let e = both_same a b p in λ i. Piece (record { job = e.0 i; function = e.1 i })
item_is (Piece a) Stop p = absurd (omega (arith, p))
item_is Stop (Piece b) p = absurd (omega (arith, p))
item_is Stop Stop p = refl

-- the item occurs in the list, after `prefix` and before `back`
abbrev Stands : Item → List Item → Type 0
Stands x ys = (prefix : List Item) × (back : List Item) × (ys ≡ prefix ++ x ∷ back)

-- an item that is counted at least once is somewhere in the list
first_or_later : (x y : Item) (ys : List Item) → 0 < sum_by (is_item x) (y ∷ ys) → (0 < sum_by (is_item x) ys → Stands x ys) → (n : ℕ) → is_item x y ≡ n → Stands x (y ∷ ys)
first_or_later x y ys p later zero is = let w = later (omega (arith, sum_by-cons (is_item x) y ys, is, p)) in (y ∷ w.0, w.1, ap (λ l. y ∷ l) w.2)
first_or_later x y ys p later (suc n) is = let here : 0 < is_item x y = omega (arith, is) in ([], ys, ap (λ z. z ∷ ys) (sym (item_is x y here)))

stands : (x : Item) (ys : List Item) → 0 < sum_by (is_item x) ys → Stands x ys
stands x [] p = absurd (omega (arith, p))
stands x (y ∷ ys) p = first_or_later x y ys p (stands x ys) (is_item x y) refl

pub permuted : (xs ys : List Item) → SameItems xs ys → IsPermutation xs ys
permuted [] [] s = IsPermutation-refl []
permuted [] (y ∷ ys) s = absurd (omega (arith, s (λ _. 1), sum_by-cons (λ (_ : Item). 1) y ys))
permuted (x ∷ xs) ys s =
    let w = stands x ys (omega (arith, s (is_item x), sum_by-cons (is_item x) x xs, item_self x)) in
    let less : SameItems xs (w.0 ++ w.1) = λ h. omega (arith, s h, ap (sum_by h) w.2, sum_by-cons h x xs, sum_by-append h w.0 (x ∷ w.1), sum_by-cons h x w.1, sum_by-append h w.0 w.1) in
    let rest = IsPermutation-cons x _ _ (permuted xs (w.0 ++ w.1) less) in
    subst (λ (l : List Item). IsPermutation (x ∷ xs) l) (sym w.2) (IsPermutation-trans _ _ _ rest (IsPermutation-sym _ _ (IsPermutation-middle w.0 x w.1)))
