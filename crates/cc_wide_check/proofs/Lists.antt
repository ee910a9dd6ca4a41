-- Tests of lists, one item after another: what holds while a loop goes over a list, or over two.
use Rattle.std.proofs.Common.{◌≡◌, ℕ, suc, ◌+◌, ◌<◌, ◌≤◌, Bool, true, false, ◌&&◌, List, [], ◌∷◌, length, drop, get_or, refl, sym, ap, ◌∙◌}
use Rattle.std.proofs.Math.ListN.{drop_of_length-le}
use Rattle.std.proofs.lemmas.Bool.{and_right}
use Rattle.cc_types.proofs.Items.{drop-item}

-- the test X holds of a list if P holds of each item
pub record Every (A : Type 0) (P : A → Bool) (X : List A → Bool) : Type 0 where
  pub none : X [] ≡ true
  pub more : (x : A) (xs : List A) → X (x ∷ xs) ≡ (P x && X xs)

pub every-next : (A : Type 0) (P : A → Bool) (X : List A → Bool) → Every A P X → (l : List A) (i : ℕ) (x : A) → i < length l → x ≡ get_or l i x → P x ≡ true
    → X (drop i l) ≡ X l → X (drop (i + 1) l) ≡ X l
every-next A P X h l i x less is passes before =
    sym (ap X (drop-item l i x less is) ∙ h.more x (drop (i + 1) l) ∙ ap (λ b. b && X (drop (i + 1) l)) passes) ∙ before

pub every-fails : (A : Type 0) (P : A → Bool) (X : List A → Bool) → Every A P X → (l : List A) (i : ℕ) (x : A) → i < length l → x ≡ get_or l i x → P x ≡ false
    → X (drop i l) ≡ X l → false ≡ X l
every-fails A P X h l i x less is fails before =
    sym (ap X (drop-item l i x less is) ∙ h.more x (drop (i + 1) l) ∙ ap (λ b. b && X (drop (i + 1) l)) fails) ∙ before

pub every-ends : (A : Type 0) (P : A → Bool) (X : List A → Bool) → Every A P X → (l : List A) (i : ℕ) → length l ≤ i → X (drop i l) ≡ X l → true ≡ X l
every-ends A P X h l i long before = sym (ap X (drop_of_length-le l long) ∙ h.none) ∙ before

-- the test X holds of two lists if these are of one length, and P holds of the items at each index
pub record Pairs (A B : Type 0) (P : A → B → Bool) (X : List A → List B → Bool) : Type 0 where
  pub none : X [] [] ≡ true
  pub left : (x : A) (xs : List A) → X (x ∷ xs) [] ≡ false
  pub right : (y : B) (ys : List B) → X [] (y ∷ ys) ≡ false
  pub more : (x : A) (xs : List A) (y : B) (ys : List B) → X (x ∷ xs) (y ∷ ys) ≡ (P x y && X xs ys)

pub pairs-next : (A B : Type 0) (P : A → B → Bool) (X : List A → List B → Bool) → Pairs A B P X → (k : List A) (l : List B) (i : ℕ) (x : A) (y : B)
    → i < length k → i < length l → x ≡ get_or k i x → y ≡ get_or l i y → P x y ≡ true → X (drop i k) (drop i l) ≡ X k l → X (drop (i + 1) k) (drop (i + 1) l) ≡ X k l
pairs-next A B P X h k l i x y one two is also passes before =
    sym (ap (λ m. X m (drop i l)) (drop-item k i x one is) ∙ ap (X (x ∷ drop (i + 1) k)) (drop-item l i y two also)
    ∙ h.more x (drop (i + 1) k) y (drop (i + 1) l) ∙ ap (λ b. b && X (drop (i + 1) k) (drop (i + 1) l)) passes) ∙ before

pub pairs-fail : (A B : Type 0) (P : A → B → Bool) (X : List A → List B → Bool) → Pairs A B P X → (k : List A) (l : List B) (i : ℕ) (x : A) (y : B)
    → i < length k → i < length l → x ≡ get_or k i x → y ≡ get_or l i y → P x y ≡ false → X (drop i k) (drop i l) ≡ X k l → false ≡ X k l
pairs-fail A B P X h k l i x y one two is also fails before =
    sym (ap (λ m. X m (drop i l)) (drop-item k i x one is) ∙ ap (X (x ∷ drop (i + 1) k)) (drop-item l i y two also)
    ∙ h.more x (drop (i + 1) k) y (drop (i + 1) l) ∙ ap (λ b. b && X (drop (i + 1) k) (drop (i + 1) l)) fails) ∙ before

pub pairs-end : (A B : Type 0) (P : A → B → Bool) (X : List A → List B → Bool) → Pairs A B P X → (k : List A) (l : List B) (i : ℕ)
    → length k ≤ i → length l ≤ i → X (drop i k) (drop i l) ≡ X k l → true ≡ X k l
pairs-end A B P X h k l i one two before = sym (ap (λ m. X m (drop i l)) (drop_of_length-le k one) ∙ ap (X []) (drop_of_length-le l two) ∙ h.none) ∙ before

-- lists of different lengths
pub pairs-differ : (A B : Type 0) (P : A → B → Bool) (X : List A → List B → Bool) → Pairs A B P X → (k : List A) (l : List B) → (length k ≡ length l → ⊥) → false ≡ X k l
pairs-differ A B P X h [] [] n = absurd (n refl)
pairs-differ A B P X h (x ∷ k) [] n = sym (h.left x k)
pairs-differ A B P X h [] (y ∷ l) n = sym (h.right y l)
pairs-differ A B P X h (x ∷ k) (y ∷ l) n =
    sym (h.more x k y l ∙ and_right (P x y) (X k l) (sym (pairs-differ A B P X h k l (λ (e : length k ≡ length l). n (let f : length (x ∷ k) ≡ length (y ∷ l) = ap suc e in f)))))
