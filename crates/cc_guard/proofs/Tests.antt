-- The tests are right: an operator's test on two words shows whether the operator has a value, and an index's test shows whether
-- the index is in its object.
use Rattle.std.proofs.Common.{◌≡◌, ℕ, zero, suc, ◌-◌, ◌^◌, ◌<◌, Bool, true, false, List, [], ◌∷◌, length, map, get_or, ◌==◌, nat_lt, nat_le, Option, Some, None, option_map, slice_get, refl, sym, ap, ◌∙◌, subst, ◌⊎◌, inl, inr, arith}
use Rattle.std.specs.Prelude.{if◌then◌else◌, not, ◌&&◌, ◌||◌, set}
use Rattle.std.proofs.lemmas.Bool.Decides.{nat_tests}
use Rattle.std.proofs.lemmas.List.{length-set}
use Rattle.std.proofs.lemmas.Option.{slice_get_within}
use Rattle.cc_words.specs.declared.operators.Unary.TheVariants.{IsZero}
use Rattle.cc_words.specs.declared.operators.Binary as two
use Rattle.cc_words.specs.declared.operators.Binary.TheVariants.{Add, Sub, Mul, DivS, DivU, RemS, RemU, Shl, ShrS, ShrU, And, Or, Xor, Eq, Ne, LtS, LtU, LeS, LeU}
use Rattle.cc_words.specs.declared.operators.Width.{Width}
use Rattle.cc_words.specs.declared.operators.Width.TheVariants.{Word}
use Rattle.cc_words.specs.Widths.{same_width}
use Rattle.cc_words.specs.Words.{truth_value}
use Rattle.cc_words.specs.Operators.{apply_binary}
use Rattle.cc_simulation.specs.World.{Object, Size, size_of, World, object_of, object_words, size_in, element, object_with, with_element, stored}
use Rattle.cc_cminor_language.specs.Cminor.{Expression, Constant, Unary, Binary, Variables, value, then_value}
use Rattle.cc_guard.specs.Guard.{Guard, Stop, StopBoth, asked_signed, asked_divisor, asked_shift, asked, elements_of, elements_in}
use Rattle.cc_guard.proofs.Passing.{Meets, Tells, tested}

-- ---- operators

not_less : (n y : ℕ) → nat_le n y ≡ not (nat_lt y n)
not_less n y = grind (arith, nat_tests)

module _ (h : World) where
  -- a test that is 1 exactly if there is no value shows whether there is one
  by_bool : {A : Type 0} (e : Expression) (l : Variables) (b : Bool) (a : A) → value e l h ≡ Some (truth_value b) → Tells h e l (if b then None else Some a)
  by_bool e l true a v = (0, v)
  by_bool e l false a v = v

  by_not : {A : Type 0} (e : Expression) (l : Variables) (b : Bool) (a : A) → value e l h ≡ Some (truth_value (not b)) → Tells h e l (if b then Some a else None)
  by_not e l true a v = v
  by_not e l false a v = (0, v)

  -- a test that is 1 exactly if there is no value may be followed by other guards
  stop_first : {A : Type 0} (e : Expression) (gs : List Guard) (l : Variables) (b : Bool) (o : Option A) (R : Variables → A → Type 0) → value e l h ≡ Some (truth_value b) → (b ≡ true → o ≡ None) → (b ≡ false → Meets h gs l o R) → Meets h (Stop e ∷ gs) l o R
  stop_first {A} e gs l true o R v none more = subst (λ (r : Option A). Meets h (Stop e ∷ gs) l r R) (sym (none refl)) (inl (0, v))
  stop_first e gs l false None R v none more = inr (v, more refl)
  stop_first e gs l false (Some a) R v none more = (v, more refl)

  both : {A : Type 0} (d e : Expression) (l : Variables) (q p : Bool) (a : A) (R : Variables → A → Type 0) → value d l h ≡ Some (truth_value p) → value e l h ≡ Some (truth_value q)
      → ((v : A) → (if q && p then None else Some a) ≡ Some v → R l v) → Meets h (StopBoth d e ∷ []) l (if q && p then None else Some a) R
  both d e l true true a R u v f = inl (0, 0, u, v)
  both d e l true false a R u v f = (inl u, f a refl)
  both d e l false true a R u v f = (inr (0, u, v), f a refl)
  both d e l false false a R u v f = (inl u, f a refl)

  is_word : (a : Expression) (l : Variables) (x k : ℕ) → value a l h ≡ Some x → value (Binary Eq a (Constant k)) l h ≡ Some (truth_value (x == k))
  is_word a l x k u = ap (λ o. then_value o (λ x. Some (truth_value (x == k)))) u

  is_nothing : (b : Expression) (l : Variables) (y : ℕ) → value b l h ≡ Some y → value (Unary IsZero b) l h ≡ Some (truth_value (y == 0))
  is_nothing b l y v = ap (λ o. then_value o (λ y. Some (truth_value (y == 0)))) v

  signed_asked : (a b : Expression) (l : Variables) (x y w : ℕ) (R : Variables → ℕ → Type 0) → value a l h ≡ Some x → value b l h ≡ Some y
      → ((v : ℕ) → (if (y == 0) || ((x == 2 ^ 31) && (y == 2 ^ 32 - 1)) then None else Some w) ≡ Some v → R l v) → Meets h (asked_signed a b) l (if (y == 0) || ((x == 2 ^ 31) && (y == 2 ^ 32 - 1)) then None else Some w) R
  signed_asked a b l x y w R u v f =
      let d = Binary Eq b (Constant (2 ^ 32 - 1)) in
      let e = Binary Eq a (Constant (2 ^ 31)) in
      stop_first (Unary IsZero b) (StopBoth d e ∷ []) l (y == 0) (if (y == 0) || ((x == 2 ^ 31) && (y == 2 ^ 32 - 1)) then None else Some w) R (is_nothing b l y v)
      (λ t. ap (λ c. if c || ((x == 2 ^ 31) && (y == 2 ^ 32 - 1)) then None else Some w) t)
      (λ t. subst (λ (r : Option ℕ). Meets h (StopBoth d e ∷ []) l r R) (sym (ap (λ c. if c || ((x == 2 ^ 31) && (y == 2 ^ 32 - 1)) then None else Some w) t))
      (both d e l (x == 2 ^ 31) (y == 2 ^ 32 - 1) w R (is_word b l y (2 ^ 32 - 1) v) (is_word a l x (2 ^ 31) u)
      (λ z is. f z (ap (λ c. if c || ((x == 2 ^ 31) && (y == 2 ^ 32 - 1)) then None else Some w) t ∙ is))))

  unsigned_asked : (b : Expression) (l : Variables) (y w : ℕ) (R : Variables → ℕ → Type 0) → value b l h ≡ Some y → ((v : ℕ) → (if y == 0 then None else Some w) ≡ Some v → R l v) → Meets h (asked_divisor b) l (if y == 0 then None else Some w) R
  unsigned_asked b l y w R v f = tested h (Unary IsZero b) l (if y == 0 then None else Some w) R (by_bool (Unary IsZero b) l (y == 0) w (is_nothing b l y v)) f

  -- the test that b is below n is 0 exactly if its word y is below n
  below_asked : (b : Expression) (l : Variables) (y n : ℕ) → value b l h ≡ Some y → value (Binary LeU (Constant n) b) l h ≡ Some (truth_value (not (nat_lt y n)))
  below_asked b l y n v = ap (λ o. then_value o (λ y. Some (truth_value (nat_le n y)))) v ∙ ap (λ c. Some (truth_value c)) (not_less n y)

  shift_asked : (b : Expression) (l : Variables) (y w : ℕ) (R : Variables → ℕ → Type 0) → value b l h ≡ Some y → ((v : ℕ) → (if nat_lt y 32 then Some w else None) ≡ Some v → R l v) → Meets h (asked_shift b) l (if nat_lt y 32 then Some w else None) R
  shift_asked b l y w R v f =
      tested h (Binary LeU (Constant 32) b) l (if nat_lt y 32 then Some w else None) R (by_not (Binary LeU (Constant 32) b) l (nat_lt y 32) w (below_asked b l y 32 v)) f

  -- the guards of an operator stop the run exactly if the operator has no value
  pub asked_meets : (op : two.Binary) (a b : Expression) (l : Variables) (x y : ℕ) (R : Variables → ℕ → Type 0) → value a l h ≡ Some x → value b l h ≡ Some y → ((w : ℕ) → apply_binary op x y ≡ Some w → R l w) → Meets h (asked op a b) l (apply_binary op x y) R
  asked_meets Add a b l x y R u v f = f _ refl
  asked_meets Sub a b l x y R u v f = f _ refl
  asked_meets Mul a b l x y R u v f = f _ refl
  asked_meets DivS a b l x y R u v f = signed_asked a b l x y _ R u v f
  asked_meets DivU a b l x y R u v f = unsigned_asked b l y _ R v f
  asked_meets RemS a b l x y R u v f = signed_asked a b l x y _ R u v f
  asked_meets RemU a b l x y R u v f = unsigned_asked b l y _ R v f
  asked_meets Shl a b l x y R u v f = shift_asked b l y _ R v f
  asked_meets ShrS a b l x y R u v f = shift_asked b l y _ R v f
  asked_meets ShrU a b l x y R u v f = shift_asked b l y _ R v f
  asked_meets And a b l x y R u v f = f _ refl
  asked_meets Or a b l x y R u v f = f _ refl
  asked_meets Xor a b l x y R u v f = f _ refl
  asked_meets Eq a b l x y R u v f = f _ refl
  asked_meets Ne a b l x y R u v f = f _ refl
  asked_meets LtS a b l x y R u v f = f _ refl
  asked_meets LtU a b l x y R u v f = f _ refl
  asked_meets LeS a b l x y R u v f = f _ refl
  asked_meets LeU a b l x y R u v f = f _ refl

-- ---- elements

found_at : (gs : List Object) (o : ℕ) → size_in (map size_of gs) o ≡ size_of (get_or gs o (record { width = Word; words = [] }))
found_at [] o = refl
found_at (x ∷ gs) zero = refl
found_at (x ∷ gs) (suc o) = found_at gs o

size_found : (objects : List Size) (h : World) → map size_of h.globals ≡ objects → (o : ℕ) → size_in objects o ≡ size_of (object_of h o)
size_found objects h e o = ap (λ (z : List Size). size_in z o) (sym e) ∙ found_at h.globals o

-- there is an element exactly if its index is below the length
below : (ws : List ℕ) (i : ℕ) → ((nat_lt i (length ws) ≡ true) × (w : ℕ) × (slice_get ws i ≡ Some w)) ⊎ ((nat_lt i (length ws) ≡ false) × (slice_get ws i ≡ None))
below [] i = inr (grind (arith, nat_tests), refl)
below (w ∷ ws) zero = inl (grind (arith, nat_tests), w, refl)
below (w ∷ ws) (suc i) = elim (below ws i) [
  | inl (e, v, f) ↦ inl (grind (arith, nat_tests), v, f)
  | inr (e, f) ↦ inr (grind (arith, nat_tests), f)
]

module _ (h : World) where
  in_list : (e : Expression) (l : Variables) (ws : List ℕ) (i : ℕ) → value e l h ≡ Some (truth_value (not (nat_lt i (length ws)))) → Tells h e l (slice_get ws i)
  in_list e l ws i v = elim (below ws i) [
    | inl (t, w, f) ↦ subst (λ (o : Option ℕ). Tells h e l o) (sym f) (v ∙ ap (λ b. Some (truth_value (not b))) t)
    | inr (t, f) ↦ subst (λ (o : Option ℕ). Tells h e l o) (sym f) (0, v ∙ ap (λ b. Some (truth_value (not b))) t)
  ]

  of_width : (e : Expression) (l : Variables) (b : Bool) (ws : List ℕ) (i : ℕ) → value e l h ≡ Some (truth_value (not (nat_lt i (if b then length ws else 0)))) → Tells h e l (if b then slice_get ws i else None)
  of_width e l true ws i v = in_list e l ws i v
  of_width e l false ws i v = let none : nat_lt i 0 ≡ false = grind (arith, nat_tests) in (0, v ∙ ap (λ b. Some (truth_value (not b))) none)

  -- the test that an index is below the number of its object's elements shows whether there is an element
  pub lies : (objects : List Size) → map size_of h.globals ≡ objects → (w : Width) (o j : ℕ) (e : Expression) (l : Variables) → value e l h ≡ Some j
      → Tells h (Binary LeU (Constant (elements_in objects w o)) e) l (element h w o j)
  lies objects sizes w o j e l v =
      of_width (Binary LeU (Constant (elements_in objects w o)) e) l (same_width (object_of h o).width w) (object_words h o) j
      (below_asked h e l j (elements_in objects w o) v
      ∙ ap (λ (z : Size). Some (truth_value (not (nat_lt j (elements_of z w))))) (size_found objects h sizes o))

  found_in : (ws : List ℕ) (j : ℕ) → j < length ws → (v : ℕ) × (slice_get ws j ≡ Some v)
  found_in ws j lt = elim (below ws j) [
    | inl (t, v, f) ↦ (v, f)
    | inr (t, f) ↦ absurd (let g : nat_lt j (length ws) ≡ true = grind (arith, nat_tests) in let k : true ≡ false = sym g ∙ t in cc)
  ]

  is_there : (b : Bool) (ws : List ℕ) (j : ℕ) → j < (if b then length ws else 0) → (v : ℕ) × ((if b then slice_get ws j else None) ≡ Some v)
  is_there true ws j lt = found_in ws j lt
  is_there false ws j lt = absurd (omega arith)

  -- each index below the number of an object's elements has an element
  pub found : (objects : List Size) → map size_of h.globals ≡ objects → (w : Width) (o j : ℕ) → j < elements_in objects w o → (v : ℕ) × (element h w o j ≡ Some v)
  found objects sizes w o j lt =
      is_there (same_width (object_of h o).width w) (object_words h o) j (subst (λ (z : Size). j < elements_of z w) (size_found objects h sizes o) lt)

  pub tells_kept : (e : Expression) (l : Variables) (o : Option ℕ) (j : ℕ) → Tells h e l o → Tells h e l (then_value o (λ old. Some j))
  tells_kept e l None j p = p
  tells_kept e l (Some a) j p = p

  lies_within : (b : Bool) (ws : List ℕ) (j v : ℕ) → (if b then slice_get ws j else None) ≡ Some v → j < (if b then length ws else 0)
  lies_within true ws j v e = slice_get_within ws j v e
  lies_within false ws j v e = absurd (let f : None ≡ Some v = e in cc)

  pub lies_below : (objects : List Size) → map size_of h.globals ≡ objects → (w : Width) (o j v : ℕ) → element h w o j ≡ Some v → j < elements_in objects w o
  lies_below objects sizes w o j v e =
      subst (λ (z : Size). j < elements_of z w) (sym (size_found objects h sizes o)) (lies_within (same_width (object_of h o).width w) (object_words h o) j v e)

-- ---- a store leaves each object its size

set_sizes : (gs : List Object) (o i w : ℕ) → map size_of (set gs o (object_with (get_or gs o (record { width = Word; words = [] })) i w)) ≡ map size_of gs
set_sizes [] o i w = refl
set_sizes (x ∷ gs) zero i w = ap (λ (n : ℕ). record { width = x.width; elements = n } ∷ map size_of gs) (length-set x.words i w)
set_sizes (x ∷ gs) (suc o) i w = ap (λ (zs : List Size). size_of x ∷ zs) (set_sizes gs o i w)

pub stored_sizes : (objects : List Size) (h g : World) (w : Width) (o i v : ℕ) → map size_of h.globals ≡ objects → stored h w o i v ≡ Some g → map size_of g.globals ≡ objects
stored_sizes objects h g w o i v e s = by_element (element h w o i) _ s
  where
    by_element : (r : Option ℕ) (k : ℕ) → option_map (λ old. with_element h o i k) r ≡ Some g → map size_of g.globals ≡ objects
    by_element None k s = absurd (let z : None ≡ Some g = s in cc)
    by_element (Some old) k s =
        let same : with_element h o i k ≡ g = (let z : Some (with_element h o i k) ≡ Some g = s in cc) in
        ap (λ (x : World). map size_of x.globals) (sym same) ∙ set_sizes h.globals o i k ∙ e
