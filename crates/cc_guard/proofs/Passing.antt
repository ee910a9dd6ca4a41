-- What guards do to the variables: the run passes all of them, or one of them stops it. The proof goes by recursion on the
-- guards, without a run.
use Rattle.std.proofs.Common.{◌≡◌, ℕ, suc, List, [], ◌∷◌, ◌++◌, Option, Some, None, ◌⊎◌, inl, inr, refl}
use Rattle.cc_simulation.specs.World.{World}
use Rattle.cc_cminor_language.specs.Cminor.{Expression, Variables, value, put, then_value}
use Rattle.cc_guard.specs.Guard.{Guard, Put, Stop, StopBoth}

module _ (h : World) where
  -- the first or the second of two words is 0
  abbrev pub Passes : (first second : Expression) → Variables → Type 0
  Passes d e l = (value d l h ≡ Some 0) ⊎ ((v : ℕ) × (value d l h ≡ Some (suc v)) × (value e l h ≡ Some 0))

  -- no guard stops the run, and P holds of the variables after the guards
  abbrev pub Comes : List Guard → Variables → (Variables → Type 0) → Type 0
  Comes [] l P = P l
  Comes (Put t e ∷ gs) l P = (w : ℕ) × (value e l h ≡ Some w) × Comes gs (put l t w) P
  Comes (Stop e ∷ gs) l P = (value e l h ≡ Some 0) × Comes gs l P
  Comes (StopBoth d e ∷ gs) l P = Passes d e l × Comes gs l P

  -- some guard stops the run, and those before it do not
  abbrev pub Stops : List Guard → Variables → Type 0
  Stops [] l = ⊥
  Stops (Put t e ∷ gs) l = (w : ℕ) × (value e l h ≡ Some w) × Stops gs (put l t w)
  Stops (Stop e ∷ gs) l = ((w : ℕ) × (value e l h ≡ Some (suc w))) ⊎ ((value e l h ≡ Some 0) × Stops gs l)
  Stops (StopBoth d e ∷ gs) l = ((v : ℕ) × (w : ℕ) × (value d l h ≡ Some (suc v)) × (value e l h ≡ Some (suc w))) ⊎ (Passes d e l × Stops gs l)

  -- no guard stops the run exactly if there is a value, and then Q holds of the variables after the guards and of that
  -- value
  abbrev pub Meets : {A : Type 0} → List Guard → Variables → Option A → (Variables → A → Type 0) → Type 0
  Meets gs l None Q = Stops gs l
  Meets gs l (Some a) Q = Comes gs l (λ m. Q m a)

  pub comes_as : (gs : List Guard) (l : Variables) (P Q : Variables → Type 0) → Comes gs l P → ((m : Variables) → P m → Q m) → Comes gs l Q
  comes_as [] l P Q p f = f l p
  comes_as (Put t e ∷ gs) l P Q (w, v, p) f = (w, v, comes_as gs (put l t w) P Q p f)
  comes_as (Stop e ∷ gs) l P Q (v, p) f = (v, comes_as gs l P Q p f)
  comes_as (StopBoth d e ∷ gs) l P Q (v, p) f = (v, comes_as gs l P Q p f)

  comes_then : (gs is : List Guard) (l : Variables) (P : Variables → Type 0) → Comes gs l (λ m. Comes is m P) → Comes (gs ++ is) l P
  comes_then [] is l P p = p
  comes_then (Put t e ∷ gs) is l P (w, v, p) = (w, v, comes_then gs is (put l t w) P p)
  comes_then (Stop e ∷ gs) is l P (v, p) = (v, comes_then gs is l P p)
  comes_then (StopBoth d e ∷ gs) is l P (v, p) = (v, comes_then gs is l P p)

  stops_then : (gs is : List Guard) (l : Variables) → Comes gs l (λ m. Stops is m) → Stops (gs ++ is) l
  stops_then [] is l p = p
  stops_then (Put t e ∷ gs) is l (w, v, p) = (w, v, stops_then gs is (put l t w) p)
  stops_then (Stop e ∷ gs) is l (v, p) = inr (v, stops_then gs is l p)
  stops_then (StopBoth d e ∷ gs) is l (v, p) = inr (v, stops_then gs is l p)

  stops_first : (gs is : List Guard) (l : Variables) → Stops gs l → Stops (gs ++ is) l
  stops_first [] is l p = absurd p
  stops_first (Put t e ∷ gs) is l (w, v, p) = (w, v, stops_first gs is (put l t w) p)
  stops_first (Stop e ∷ gs) is l (inl z) = inl z
  stops_first (Stop e ∷ gs) is l (inr (v, p)) = inr (v, stops_first gs is l p)
  stops_first (StopBoth d e ∷ gs) is l (inl z) = inl z
  stops_first (StopBoth d e ∷ gs) is l (inr (v, p)) = inr (v, stops_first gs is l p)

  then_meets : {A B : Type 0} (gs is : List Guard) (l : Variables) (a : A) (r : Option B) (Q : Variables → A → Type 0) (R : Variables → B → Type 0) → Comes gs l (λ m. Q m a)
      → ((m : Variables) → Q m a → Meets is m r R) → Meets (gs ++ is) l r R
  then_meets gs is l a None Q R p f = stops_then gs is l (comes_as gs l (λ m. Q m a) (λ m. Stops is m) p f)
  then_meets gs is l a (Some b) Q R p f = comes_then gs is l (λ m. R m b) (comes_as gs l (λ m. Q m a) (λ m. Comes is m (λ n. R n b)) p f)

  -- the guards of a value, followed by those of what is computed from it, are guards of the result
  pub meets_then : {A B : Type 0} (gs is : List Guard) (l : Variables) (o : Option A) (go : A → Option B) (Q : Variables → A → Type 0) (R : Variables → B → Type 0) → Meets gs l o Q
      → ((m : Variables) (a : A) → Q m a → Meets is m (go a) R) → Meets (gs ++ is) l (then_value o go) R
  meets_then gs is l None go Q R p f = stops_first gs is l p
  meets_then gs is l (Some a) go Q R p f = then_meets gs is l a (go a) Q R p (λ m q. f m a q)

  -- like `meets_then`, but the second guards may assume that a is the value
  pub meets_with : {A B : Type 0} (gs is : List Guard) (l : Variables) (o : Option A) (go : A → Option B) (Q : Variables → A → Type 0) (R : Variables → B → Type 0) → Meets gs l o Q
      → ((m : Variables) (a : A) → o ≡ Some a → Q m a → Meets is m (go a) R) → Meets (gs ++ is) l (then_value o go) R
  meets_with gs is l None go Q R p f = stops_first gs is l p
  meets_with gs is l (Some a) go Q R p f = then_meets gs is l a (go a) Q R p (λ m q. f m a refl q)

  -- a result that can always be computed from a value needs no guards besides those of the value
  pub meets_made : {A B : Type 0} (gs : List Guard) (l : Variables) (o : Option A) (f : A → B) (Q : Variables → A → Type 0) (R : Variables → B → Type 0) → Meets gs l o Q
      → ((m : Variables) (a : A) → Q m a → R m (f a)) → Meets gs l (then_value o (λ a. Some (f a))) R
  meets_made gs l None f Q R p g = p
  meets_made gs l (Some a) f Q R p g = comes_as gs l (λ m. Q m a) (λ m. R m (f a)) p (λ m q. g m a q)

  -- ---- a test

  -- the expression is 0 exactly if there is a value
  abbrev pub Tells : {A : Type 0} → Expression → Variables → Option A → Type 0
  Tells e l None = (w : ℕ) × (value e l h ≡ Some (suc w))
  Tells e l (Some a) = value e l h ≡ Some 0

  pub tested : {A : Type 0} (e : Expression) (l : Variables) (o : Option A) (R : Variables → A → Type 0) → Tells e l o → ((a : A) → o ≡ Some a → R l a) → Meets (Stop e ∷ []) l o R
  tested e l None R p f = inl p
  tested e l (Some a) R v f = (v, f a refl)
