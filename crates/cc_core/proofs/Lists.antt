-- The element at an index after a write and after a push, and lists with one element pushed.
use Rattle.std.proofs.Common.{◌≡◌, ◌⊎◌, inl, inr, ℕ, zero, suc, ◌-◌, List, [], ◌∷◌, ◌++◌, length, take, Some, refl, sym, ap, subst, ◌∙◌, All, Contains, arith}
use Rattle.std.specs.Prelude.{slice_get, slice_set}
use Rattle.std.proofs.lemmas.Option.{slice_get_within, get_or_from_slice_get, slice_get-get_or, slice_get_read}
use Rattle.std.proofs.Math.Seq.{take-append_seam}
use Rattle.std.proofs.lemmas.List.{length-append}

-- the element at an index after a write is the one that was written, or the one that was at this index before
pub slice_get-set : {X : Type 0} (xs : List X) (i : ℕ) (v : X) (k : ℕ) (x : X) → slice_get (slice_set xs i v) k ≡ Some x → ((k ≡ i) × (v ≡ x)) ⊎ (slice_get xs k ≡ Some x)
slice_get-set [] i v k x is = inr is
slice_get-set (y ∷ ys) zero v zero x is = inl (refl, cc)
slice_get-set (y ∷ ys) zero v (suc k) x is = inr is
slice_get-set (y ∷ ys) (suc i) v zero x is = inr is
slice_get-set (y ∷ ys) (suc i) v (suc k) x is =
    elim (slice_get-set ys i v k x is) [ inl h ↦ inl (ap suc h.0, h.1) | inr h ↦ inr h ]

-- the element at an index after a push is the one that was there before, or it is the new last one
pub slice_get-push : {X : Type 0} (xs : List X) (y : X) (k : ℕ) (x : X) → slice_get (xs ++ y ∷ []) k ≡ Some x → (slice_get xs k ≡ Some x) ⊎ ((k ≡ length xs) × (y ≡ x))
slice_get-push [] y zero x is = inr (refl, cc)
slice_get-push [] y (suc k) x is = absurd (cc)
slice_get-push (z ∷ zs) y zero x is = inl is
slice_get-push (z ∷ zs) y (suc k) x is =
    elim (slice_get-push zs y k x is) [ inl h ↦ inl h | inr h ↦ inr (ap suc h.0, h.1) ]

-- a property of each element is a property of the element at any index
pub All-slice_get : {X : Type 0} (P : X → Type 0) (xs : List X) (k : ℕ) (x : X) → All P xs → slice_get xs k ≡ Some x → P x
All-slice_get P xs k x all is = subst P (get_or_from_slice_get xs k x x is) (all k x (slice_get_within xs k x is))

-- a property of the element at each index is a property of each element
pub All-each : {X : Type 0} (P : X → Type 0) (xs : List X) → ((k : ℕ) (x : X) → slice_get xs k ≡ Some x → P x) → All P xs
All-each P xs each k d within = each k _ (slice_get-get_or xs k d within)

-- a list with one element pushed, without its last element, is the list before the push
pub take-push : {X : Type 0} (xs : List X) (y : X) → take (length (xs ++ y ∷ []) - 1) (xs ++ y ∷ []) ≡ xs
take-push xs y =
    let n : length (xs ++ y ∷ []) - 1 ≡ length xs = omega (arith, length-append xs (y ∷ [])) in
    ap (λ m. take m (xs ++ y ∷ [])) n ∙ take-append_seam xs (y ∷ [])

-- an element that a list contains is at some index
pub Contains-slice_get : {X : Type 0} (xs : List X) (x : X) → Contains xs x → (k : ℕ) × (slice_get xs k ≡ Some x)
Contains-slice_get xs x in' = (in'.0, slice_get_read xs (length xs) in'.0 x refl in'.1 (sym in'.2))

-- the last element of a list with one element pushed is that element
pub slice_get-last : {X : Type 0} (xs : List X) (y : X) → slice_get (xs ++ y ∷ []) (length xs) ≡ Some y
slice_get-last [] y = refl
slice_get-last (x ∷ xs) y = slice_get-last xs y
