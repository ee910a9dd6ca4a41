-- One more end keeps the table of ends sound.
use Rattle.std.proofs.Common.{All, length-append, [], ◌∷◌, ◌++◌, ◌≡◌, ℕ, zero, suc, ◌<◌, ◌≤◌, List, length, get_or, refl, sym, ap, ◌∙◌, subst, ◌⊎◌, inl, inr, arith, cond}
use Rattle.std.specs.Prelude.{Bool, true, false, set, ◌==◌}
use Rattle.std.proofs.lemmas.List.{get_or-set_same, get_or-set_other, get_or_append_left, get_or_default}
use Rattle.std.proofs.lemmas.Bool.Decides.{eqb_tells}
use Rattle.cc_linear.specs.internal.Ends.{HasEnds, Sound}

abbrev after : List ℕ → ℕ → ℕ
after next l = get_or next l 0

abbrev raised : (ℕ → ℕ) → ℕ → ℕ → ℕ → ℕ
raised far l w x = cond (x == l) w (far x)

raised_here : (far : ℕ → ℕ) (l w : ℕ) → raised far l w l ≡ w
raised_here far l w = elim (eqb_tells l l) [ inl h ↦ ap (λ t. cond t w (far l)) h.0 | inr h ↦ absurd (h.1 refl) ]

raised_there : (far : ℕ → ℕ) (l w x : ℕ) → (x ≡ l → ⊥) → raised far l w x ≡ far x
raised_there far l w x d = elim (eqb_tells x l) [ inl h ↦ absurd (d h.1) | inr h ↦ ap (λ t. cond t w (far x)) h.0 ]

raised_low : (far : ℕ → ℕ) (l w most x : ℕ) → far x ≤ most → w ≤ suc most → raised far l w x ≤ suc most
raised_low far l w most x p q = elim (eqb_tells x l) [ inl h ↦ (let e = ap (λ t. cond t w (far x)) h.0 in omega arith) | inr h ↦ (let e = ap (λ t. cond t w (far x)) h.0 in omega arith) ]

apart : (known : List Bool) (a b : ℕ) → get_or known a false ≡ true → get_or known b false ≡ false → a ≡ b → ⊥
apart known a b p q e = let f : true ≡ false = sym p ∙ ap (λ x. get_or known x false) e ∙ q in cc

abbrev Either : List ℕ → List Bool → List ℕ → (ℕ → ℕ) → ℕ → Type 0
Either next known ends far x = ((get_or known (after next x) false ≡ true) × (get_or ends (after next x) 0 ≡ get_or ends x 0) × (far (after next x) < far x)) ⊎ (get_or ends x 0 ≡ x)

pub settled : (next : List ℕ) (known : List Bool) (ends : List ℕ) (l : ℕ) → l < length ends → l < length known → get_or known l false ≡ false → get_or known (get_or next l 0) false ≡ true → Sound next known ends → Sound next (set known l true) (set ends l (get_or ends (get_or next l 0) 0))
settled next known ends l le lk fresh nearer (far, most, s) =
    (raised far l w, suc most, record { low = λ x. raised_low far l w most x (s.low x) (let b = s.low (after next l) in omega arith); each = λ x below. elim (eqb_tells x l) [ inl h ↦ subst new_either (sym h.1) here | inr h ↦ there x h.1 (s.each x below) ] })
  where
    w : ℕ
    w = suc (far (after next l))

    v : ℕ
    v = get_or ends (after next l) 0

    new_either : ℕ → Type 0
    new_either x = Either next (set known l true) (set ends l v) (raised far l w) x

    away : after next l ≡ l → ⊥
    away e = apart known (after next l) l nearer fresh e

    here : new_either l
    here = inl (
      get_or-set_other known l (after next l) true false away ∙ nearer,
      get_or-set_other ends l (after next l) v 0 away ∙ sym (get_or-set_same ends l v 0 le),
      (let a = raised_there far l w (after next l) away in let b = raised_here far l w in omega arith),
    )

    there : (x : ℕ) → (x ≡ l → ⊥) → Either next known ends far x → new_either x
    there x d (inl (k, e, f)) =
        let d' : after next x ≡ l → ⊥ = apart known (after next x) l k fresh in
        inl (
          get_or-set_other known l (after next x) true false d' ∙ k,
          get_or-set_other ends l (after next x) v 0 d' ∙ e ∙ sym (get_or-set_other ends l x v 0 d),
          (let a = raised_there far l w (after next x) d' in let b = raised_there far l w x d in omega arith),
        )
    there x d (inr e) = inr (get_or-set_other ends l x v 0 d ∙ e)

-- a label that is its own end, or whose next label is known, becomes known
pub marked : (next : List ℕ) (known : List Bool) (ends : List ℕ) (at : ℕ) → at < length known → Sound next known ends → Sound next (set known at true) ends
marked next known ends at lt (far, most, s) = (far, most, record { low = s.low; each = λ x below. each x (s.each x below) })
  where
    still : (y : ℕ) → get_or known y false ≡ true → get_or (set known at true) y false ≡ true
    still y k = elim (eqb_tells y at) [ inl h ↦ ap (λ z. get_or (set known at true) z false) h.1 ∙ get_or-set_same known at true false lt | inr h ↦ get_or-set_other known at y true false h.1 ∙ k ]

    each : (x : ℕ) → Either next known ends far x → Either next (set known at true) ends far x
    each x (inl (k, e, f)) = inl (still (after next x) k, e, f)
    each x (inr e) = inr e

-- each label is its own end at first
pub own_ends : (next : List ℕ) (known : List Bool) (ends : List ℕ) → ((k : ℕ) → k < length next → get_or ends k 0 ≡ k) → Sound next known ends
own_ends next known ends h = (λ x. 0, 0, record { low = λ l. omega arith; each = λ l below. inr (h l below) })

pub are_ends : (next : List ℕ) (known : List Bool) (ends : List ℕ) → Sound next known ends → HasEnds next ends
are_ends next known ends (far, most, s) = (far, most, record { low = s.low; each = λ l below. elim (s.each l below) [ inl h ↦ inl (h.1, h.2) | inr h ↦ inr h ] })

abbrev Below : ℕ → List ℕ → Type 0
Below n xs = All (λ x. x < n) xs

pub all_prefix : (n : ℕ) (xs : List ℕ) (y : ℕ) → All (λ x. x < n) (xs ++ y ∷ []) → All (λ x. x < n) xs
all_prefix n xs y h = λ k d below. subst (λ x. x < n) (get_or_append_left xs (y ∷ []) d k below) (h k d (let e = length-append xs (y ∷ []) in omega arith))

pub all_last : (n : ℕ) (xs : List ℕ) (y : ℕ) → All (λ x. x < n) (xs ++ y ∷ []) → y < n
all_last n [] y h = h 0 0 (omega arith)
all_last n (x ∷ xs) y h = all_last n xs y (λ k d below. h (suc k) d (omega arith))

-- the ends are places of labels too
pub ends_inside : (next ends : List ℕ) → length ends ≡ length next → All (λ n. n < length next) next → HasEnds next ends → All (λ e. e < length next) ends
ends_inside next ends long all (far, most, h) = λ i d below. subst (λ e. e < length next) (get_or_default ends i 0 d (omega arith)) (inside (suc (far i)) i (omega arith) (omega arith))
  where
    inside : (fuel l : ℕ) → far l < fuel → l < length next → get_or ends l 0 < length next
    inside zero l lt below = absurd (omega arith)
    inside (suc fuel) l lt below = elim (h.each l below) [
      | inl (same, nearer) ↦ subst (λ e. e < length next) same (inside fuel (after next l) (omega arith) (all l 0 below))
      | inr own ↦ subst (λ e. e < length next) (sym own) below
    ]
