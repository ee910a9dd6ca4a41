-- The instructions are kept with the last one first.
use Rattle.std.proofs.Common.{◌≡◌, ℕ, zero, suc, ◌+◌, ◌-◌, ◌<◌, ◌≤◌, List, [], ◌∷◌, ◌++◌, length, reverse, set, sym, ap, ◌∙◌, arith}
use Rattle.std.proofs.lemmas.List.{reverse-append, length-reverse, set-append_left, set-append_right}

-- an instruction that is pushed comes before the others in the reversed list
pub reverse-push : {A : Type 0} (xs : List A) (x : A) → reverse (xs ++ x ∷ []) ≡ x ∷ reverse xs
reverse-push xs x = reverse-append xs (x ∷ [])

-- an instruction at the start of the list comes after the others in the reversed list
pub reverse-prefix : {A : Type 0} (x : A) (xs : List A) → reverse (x ∷ xs) ≡ reverse xs ++ x ∷ []
reverse-prefix x xs = reverse-append (x ∷ []) xs

-- in the reversed list, the place of a changed instruction is counted from the other end
pub reverse-set : {A : Type 0} (xs : List A) (k : ℕ) (v : A) → k < length xs → reverse (set xs k v) ≡ set (reverse xs) (length xs - (k + 1)) v
reverse-set [] k v h = absurd (omega arith)
reverse-set (x ∷ xs) zero v h =
    let at : length (x ∷ xs) - (0 + 1) ≡ length xs = omega arith in
    let none : length xs - length xs ≡ 0 = omega arith in
    let le : length xs ≤ length xs = omega arith in
    reverse-prefix v xs
    ∙ sym (ap (λ l. set l (length (x ∷ xs) - (0 + 1)) v) (reverse-prefix x xs) ∙ ap (λ i. set (reverse xs ++ x ∷ []) i v) at
    ∙ set-append_right (reverse xs) (x ∷ []) (length xs) (length xs) v (length-reverse xs) le ∙ ap (λ i. reverse xs ++ set (x ∷ []) i v) none)
reverse-set (x ∷ xs) (suc k) v h =
    let inside : k < length xs = omega arith in
    let at : length (x ∷ xs) - (suc k + 1) ≡ length xs - (k + 1) = omega arith in
    let below : length xs - (k + 1) < length (reverse xs) = omega (arith, length-reverse xs) in
    reverse-prefix x (set xs k v) ∙ ap (λ l. l ++ x ∷ []) (reverse-set xs k v inside)
    ∙ sym (ap (λ l. set l (length (x ∷ xs) - (suc k + 1)) v) (reverse-prefix x xs) ∙ ap (λ i. set (reverse xs ++ x ∷ []) i v) at
    ∙ set-append_left (reverse xs) (x ∷ []) (length xs - (k + 1)) v below)
