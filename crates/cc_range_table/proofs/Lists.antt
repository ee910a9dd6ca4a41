-- Ranges in lists, position by position, and the elements of an object after a store.
use Rattle.std.proofs.Common.{◌≡◌, ℕ, zero, suc, ◌<◌, ◌^◌, Bool, true, false, List, [], ◌∷◌, ◌++◌, length, get_or, Some, None, slice_get, ◌⊎◌, inl, inr, refl, sym, ap, ◌∙◌, subst, arith}
use Rattle.std.specs.Prelude.{◌&&◌, ◌||◌, not, set, replicate}
use Rattle.cc_words.specs.declared.operators.Width.TheVariants.{Word}
use Rattle.cc_simulation.specs.Behavior.{AreWords}
use Rattle.cc_simulation.specs.World.{Object}
use Rattle.cc_range.specs.declared.range.Range.{Range}
use Rattle.cc_range.specs.Range.{Has, all_words, only, is_within}
use Rattle.cc_range_table.specs.Table.{at, is_written}
use Rattle.cc_range_table.specs.Inductive.{are_within, joined_all, after_changes, changes_within}
use Rattle.cc_range_table.specs.internal.Known.{RangesAreSound}

pub both : (a b : Bool) → (a && b) ≡ true → (a ≡ true) × (b ≡ true)
both true true e = (refl, refl)
both true false e = absurd (let f : false ≡ true = e in cc)
both false b e = absurd (let f : false ≡ true = e in cc)

pub no_true : {A : Type 0} → true ≡ false → A
no_true e = absurd (let f : true ≡ false = e in cc)

pub some_is : (v w : ℕ) → Some v ≡ Some w → v ≡ w
some_is v w e = cc

pub no_some : {A : Type 0} (w : ℕ) → None ≡ Some w → A
no_some w e = absurd (let f : None ≡ Some w = e in cc)

pub word_in : (ws : List ℕ) (i v : ℕ) → AreWords ws → slice_get ws i ≡ Some v → v < 2 ^ 32
word_in [] i v h e = no_some v e
word_in (w ∷ ws) zero v h e = subst (λ x. x < 2 ^ 32) (some_is w v e) h.0
word_in (w ∷ ws) (suc i) v h e = word_in ws i v h.1 e

module _ (r : RangesAreSound) where
  pub in_all : (w : ℕ) → w < 2 ^ 32 → Has all_words w
  in_all w h = (r.words w h).0

  pub set_in : (rs : List Range) (x y : ℕ) (s : Range) (w : ℕ) → w < 2 ^ 32 → (x ≡ y → Has s w) → ((x ≡ y → ⊥) → Has (at rs y) w) → Has (at (set rs x s) y) w
  set_in [] x y s w h f g = in_all w h
  set_in (t ∷ rs) zero zero s w h f g = f refl
  set_in (t ∷ rs) zero (suc y) s w h f g = g (λ e. omega arith)
  set_in (t ∷ rs) (suc x) zero s w h f g = g (λ e. omega arith)
  set_in (t ∷ rs) (suc x) (suc y) s w h f g = set_in rs x y s w h (λ e. f (ap suc e)) (λ n. g (λ e. n (omega arith)))

  pub within_in : (rs ss : List Range) (x w : ℕ) → w < 2 ^ 32 → are_within rs ss ≡ true → Has (at rs x) w → Has (at ss x) w
  within_in rs [] x w h e p = in_all w h
  within_in [] (s ∷ ss) zero w h e p = r.within all_words s w (both (is_within all_words s) (are_within [] ss) e).0 p
  within_in [] (s ∷ ss) (suc x) w h e p = within_in [] ss x w h (both (is_within all_words s) (are_within [] ss) e).1 p
  within_in (t ∷ rs) (s ∷ ss) zero w h e p = r.within t s w (both (is_within t s) (are_within rs ss) e).0 p
  within_in (t ∷ rs) (s ∷ ss) (suc x) w h e p = within_in rs ss x w h (both (is_within t s) (are_within rs ss) e).1 p

  pub joined_in : (rs ss : List Range) (x w : ℕ) → w < 2 ^ 32 → Has (at rs x) w ⊎ Has (at ss x) w → Has (at (joined_all rs ss) x) w
  joined_in [] ss x w h p = in_all w h
  joined_in (t ∷ rs) [] x w h p = in_all w h
  joined_in (t ∷ rs) (s ∷ ss) zero w h p = r.joined t s w p
  joined_in (t ∷ rs) (s ∷ ss) (suc x) w h p = joined_in rs ss x w h p

  pub changes_in : (ws : List Bool) (rs ts : List Range) (o w : ℕ) → w < 2 ^ 32 → (is_written ws o ≡ true → Has (at ts o) w) → (is_written ws o ≡ false → Has (at rs o) w) → Has (at (after_changes ws rs ts) o) w
  changes_in [] rs ts o w h f g = in_all w h
  changes_in (b ∷ ws) [] ts o w h f g = in_all w h
  changes_in (b ∷ ws) (t ∷ rs) [] o w h f g = in_all w h
  changes_in (true ∷ ws) (t ∷ rs) (s ∷ ss) zero w h f g = f refl
  changes_in (false ∷ ws) (t ∷ rs) (s ∷ ss) zero w h f g = g refl
  changes_in (b ∷ ws) (t ∷ rs) (s ∷ ss) (suc o) w h f g = changes_in ws rs ss o w h f g

  -- the start of a function: a variable after the parameters is 0
  pub zeros_in : (n x : ℕ) → Has (at (replicate n (only 0)) x) 0
  zeros_in zero x = in_all 0 (omega arith)
  zeros_in (suc n) zero = (r.words 0 (omega arith)).1
  zeros_in (suc n) (suc x) = zeros_in n x

  pub first_in : (ps : List Range) (ws : List ℕ) (n x : ℕ) → length ws ≡ length ps → ((k w : ℕ) → slice_get ws k ≡ Some w → Has (at ps k) w) → Has (at (ps ++ replicate n (only 0)) x) (get_or ws x 0)
  first_in [] [] n x e f = zeros_in n x
  first_in [] (w ∷ ws) n x e f = absurd (omega arith)
  first_in (p ∷ ps) [] n x e f = absurd (omega arith)
  first_in (p ∷ ps) (w ∷ ws) n zero e f = f 0 w refl
  first_in (p ∷ ps) (w ∷ ws) n (suc x) e f = first_in ps ws n x (omega arith) (λ k v g. f (suc k) v g)

-- what a called function does not change, as the caller's row says, is as it was
or_false : (w v : Bool) → (not w || v) ≡ true → v ≡ false → w ≡ false
or_false true v e f = sym e ∙ f
or_false false v e f = refl

pub written_in : (ws vs : List Bool) (o : ℕ) → changes_within ws vs ≡ true → is_written vs o ≡ false → is_written ws o ≡ false
written_in ws [] o e f = no_true f
written_in [] (v ∷ vs) zero e f = no_true (sym (both v (changes_within [] vs) e).0 ∙ f)
written_in [] (v ∷ vs) (suc o) e f = written_in [] vs o (both v (changes_within [] vs) e).1 f
written_in (w ∷ ws) (v ∷ vs) zero e f = or_false w v (both (not w || v) (changes_within ws vs) e).0 f
written_in (w ∷ ws) (v ∷ vs) (suc o) e f = written_in ws vs o (both (not w || v) (changes_within ws vs) e).1 f

-- ---- elements

abbrev pub no_object : Object
no_object = record { width = Word; words = [] }

-- an object after another one, or the same, is changed
pub object_set_in : (gs : List Object) (o q : ℕ) (x : Object) (P : Object → Type 0) → (o ≡ q → P x) → ((o ≡ q → ⊥) → P (get_or gs q no_object)) → P no_object → P (get_or (set gs o x) q no_object)
object_set_in [] o q x P f g d = d
object_set_in (y ∷ gs) zero zero x P f g d = f refl
object_set_in (y ∷ gs) zero (suc q) x P f g d = g (λ e. omega arith)
object_set_in (y ∷ gs) (suc o) zero x P f g d = g (λ e. omega arith)
object_set_in (y ∷ gs) (suc o) (suc q) x P f g d = object_set_in gs o q x P (λ e. f (ap suc e)) (λ n. g (λ e. n (omega arith))) d

-- an element after a store is the stored word, or is as it was
pub set_get : (ws : List ℕ) (i j v w : ℕ) → slice_get (set ws i v) j ≡ Some w → (w ≡ v) ⊎ (slice_get ws j ≡ Some w)
set_get [] i j v w e = no_some w e
set_get (x ∷ ws) zero zero v w e = inl (sym (some_is v w e))
set_get (x ∷ ws) zero (suc j) v w e = inr e
set_get (x ∷ ws) (suc i) zero v w e = inr e
set_get (x ∷ ws) (suc i) (suc j) v w e = set_get ws i j v w e

-- an object with one element has only that
pub one_element : (ws : List ℕ) (i j v w : ℕ) → length ws ≡ 1 → slice_get ws i ≡ Some v → slice_get ws j ≡ Some w → v ≡ w
one_element [] i j v w n e f = absurd (omega arith)
one_element (x ∷ []) zero zero v w n e f = some_is v w (sym e ∙ f)
one_element (x ∷ []) zero (suc j) v w n e f = no_some w f
one_element (x ∷ []) (suc i) j v w n e f = no_some v e
one_element (x ∷ y ∷ ws) i j v w n e f = absurd (omega arith)

pub one_stored : (ws : List ℕ) (i j u v w : ℕ) → length ws ≡ 1 → slice_get ws i ≡ Some u → slice_get (set ws i v) j ≡ Some w → w ≡ v
one_stored [] i j u v w n e f = absurd (omega arith)
one_stored (x ∷ []) zero zero u v w n e f = sym (some_is v w f)
one_stored (x ∷ []) zero (suc j) u v w n e f = no_some w f
one_stored (x ∷ []) (suc i) j u v w n e f = no_some u e
one_stored (x ∷ y ∷ ws) i j u v w n e f = absurd (omega arith)
