-- The count is the number of names.
use Rattle.std.proofs.Common.{◌≡◌, ℕ, ◌+◌, Bool, true, false, if◌then◌else◌, nat_lt, List, [], ◌∷◌, ◌++◌, length, Option, Some, None, is_some, refl, sym, ap, ◌∙◌, arith}
use Rattle.std.proofs.lemmas.Bool.{false≢true}
use Rattle.cc_ast.specs.Tree.{Name}
use Rattle.cc_types.specs.Counts.{counted, passed, count_after}
use Rattle.cc_types.specs.declared.limits.Count.{Count}

counted-append : (most n : ℕ) (xs ys : List Name) → counted most (counted most n xs) ys ≡ counted most n (xs ++ ys)
counted-append most n [] ys = refl
counted-append most n (x ∷ xs) ys = counted-append most (if nat_lt n most then n + 1 else n) xs ys

passed-append : (most n : ℕ) (at : Option ℕ) (xs ys : List Name) → passed most (counted most n xs) (passed most n at xs) ys ≡ passed most n at (xs ++ ys)
passed-append most n at [] ys = refl
passed-append most n at (x ∷ xs) ys = by (nat_lt n most) (passed-append most (n + 1) at xs ys) (passed-append most n (if is_some at then at else Some x.at) xs ys)
  where
    by : (b : Bool)
        → passed most (counted most (n + 1) xs) (passed most (n + 1) at xs) ys ≡ passed most (n + 1) at (xs ++ ys)
        → passed most (counted most n xs) (passed most n (if is_some at then at else Some x.at) xs) ys ≡ passed most n (if is_some at then at else Some x.at) (xs ++ ys)
        → passed most (counted most (if b then n + 1 else n) xs) (if b then passed most (n + 1) at xs else passed most n (if is_some at then at else Some x.at) xs) ys
        ≡ (if b then passed most (n + 1) at (xs ++ ys) else passed most n (if is_some at then at else Some x.at) (xs ++ ys))
    by true e d = e
    by false e d = d

pub count_count : (c : Count) (xs ys : List Name) → count_after (count_after c xs) ys ≡ count_after c (xs ++ ys)
count_count c xs ys i = record { most = c.most; names = counted-append c.most c.names xs ys i; past = passed-append c.most c.names c.past xs ys i }

-- counting the first part of a list of names, and then the rest, counts the whole list
pub count-next : (c d whole : Count) (xs ys os : List Name) → count_after c os ≡ whole → os ≡ xs ++ ys → d ≡ count_after c xs → count_after d ys ≡ whole
count-next c d whole xs ys os before eo ed = ap (λ k. count_after k ys) ed ∙ count_count c xs ys ∙ sym (ap (count_after c) eo) ∙ before

pub count-two : (c d e : Count) (xs ys os : List Name) → d ≡ count_after c xs → e ≡ count_after d ys → os ≡ xs ++ ys → e ≡ count_after c os
count-two c d e xs ys os ed ee eo = ee ∙ ap (λ k. count_after k ys) ed ∙ count_count c xs ys ∙ sym (ap (count_after c) eo)

-- ---- if no name is past the number allowed

-- an offset that was found does not change
passed-some : (most n at : ℕ) (xs : List Name) → is_some (passed most n (Some at) xs) ≡ true
passed-some most n at [] = refl
passed-some most n at (x ∷ xs) = by (nat_lt n most) (passed-some most (n + 1) at xs) (passed-some most n at xs)
  where
    by : (b : Bool) → is_some (passed most (n + 1) (Some at) xs) ≡ true → is_some (passed most n (Some at) xs) ≡ true
        → is_some (if b then passed most (n + 1) (Some at) xs else passed most n (Some at) xs) ≡ true
    by true e d = e
    by false e d = d

-- if no name is past the number allowed, all are counted
pub counted-all : (most n : ℕ) (xs : List Name) → is_some (passed most n None xs) ≡ false → counted most n xs ≡ n + length xs
counted-all most n [] h = omega arith
counted-all most n (x ∷ xs) h = by (nat_lt n most) (counted-all most (n + 1) xs) (passed-some most n x.at xs) h
  where
    by : (b : Bool) → (is_some (passed most (n + 1) None xs) ≡ false → counted most (n + 1) xs ≡ n + 1 + length xs) → is_some (passed most n (Some x.at) xs) ≡ true
        → is_some (if b then passed most (n + 1) None xs else passed most n (Some x.at) xs) ≡ false
        → counted most (if b then n + 1 else n) xs ≡ n + length (x ∷ xs)
    by true e d k = let done : counted most (n + 1) xs ≡ n + 1 + length xs = e k in omega arith
    by false e d k = absurd (false≢true (sym k ∙ d))

pub count-is : (most : ℕ) (c k : Count) (xs : List Name) → k ≡ record { most = most; names = 0; past = None } → c ≡ count_after k xs → c.past ≡ None → c.names ≡ length xs
count-is most c k xs ek ec none =
    let is : c ≡ count_after (record { most = most; names = 0; past = None }) xs = ec ∙ ap (λ q. count_after q xs) ek in
    let all = counted-all most 0 xs (sym (ap (λ (q : Count). is_some q.past) is) ∙ ap is_some none) in
    let names : c.names ≡ counted most 0 xs = ap (λ (q : Count). q.names) is in
    omega arith
