-- The item of a list at an index, and those from it on.
use Rattle.std.proofs.Common.{◌≡◌, ℕ, suc, ◌+◌, ◌<◌, List, ◌∷◌, length, drop, get_or, drop-cons, sym, ap, ◌∙◌, arith}

pub drop-item : {A : Type 0} (l : List A) (i : ℕ) (x : A) → i < length l → x ≡ get_or l i x → drop i l ≡ x ∷ drop (i + 1) l
drop-item l i x h e = drop-cons l i x h ∙ ap (λ y. y ∷ drop (suc i) l) (sym e) ∙ ap (λ k. x ∷ drop k l) (let k : suc i ≡ i + 1 = omega arith in k)
