-- The steps that may be chosen for an item: a property that all of them have holds of the chosen one.
use Rattle.std.proofs.Common.{◌≡◌, ℕ, Option, Some, None, true, false, Bool, refl}
use Rattle.std.specs.Prelude.{if◌then◌else◌, ◌==◌, not}
use Rattle.cc_words.specs.declared.operators.Width.{Width}
use Rattle.cc_words.specs.declared.operators.Binary as binary
use Rattle.cc_linear_language.specs.declared.item.LinearItem.{LinearItem}
use Rattle.cc_linear_language.specs.declared.item.LinearItem.TheVariants.{Jump, IfNonzero, IfZero, Binary, Load, Store}
use Rattle.cc_select.specs.declared.step.Step.{Step}
use Rattle.cc_select.specs.declared.step.Step.TheVariants.{One, Immediate, LoadAt, StoreAt}
use Rattle.cc_select.specs.Immediates.{Form, has_word, immediate_of, immediate_of_left}
use Rattle.cc_select.specs.Known.{Known, with_word, with_left, with_right, with_number, is_taken, choose}
use Rattle.cc_select.proofs.Places.{IsThere}

module _ (P : Step → Type 0) where
  word_gives : (z : Option Form) (to a : ℕ) (s : Step) → ((f : Form) → z ≡ Some f → has_word f.0 f.1 ≡ true → P (Immediate f.0 to a f.1)) → P s → P (with_word z to a s)
  word_gives None to a s g p = p
  word_gives (Some f) to a s g p = by (has_word f.0 f.1) refl
    where
      by : (b : Bool) → has_word f.0 f.1 ≡ b → P (if b then Immediate f.0 to a f.1 else s)
      by true e = g f refl e
      by false e = p

  left_gives : (z : Option ℕ) (p : binary.Binary) (to b : ℕ) (s : Step) → ((w : ℕ) (f : Form) → z ≡ Some w → immediate_of_left p w ≡ Some f → has_word f.0 f.1 ≡ true → P (Immediate f.0 to b f.1)) → P s → P (with_left z p to b s)
  left_gives None p to b s g x = x
  left_gives (Some w) p to b s g x = word_gives (immediate_of_left p w) to b s (λ f e has. g w f refl e has) x

  right_gives : (z : Option ℕ) (p : binary.Binary) (to a : ℕ) (s : Step) → ((w : ℕ) (f : Form) → z ≡ Some w → immediate_of p w ≡ Some f → has_word f.0 f.1 ≡ true → P (Immediate f.0 to a f.1)) → P s → P (with_right z p to a s)
  right_gives None p to a s g x = x
  right_gives (Some w) p to a s g x = word_gives (immediate_of p w) to a s (λ f e has. g w f refl e has) x

  -- the step for an operation has a word on the right or on the left, or is the operation unchanged
  pub binary_gives : (k : Known) (p : binary.Binary) (to a b : ℕ) → ((w : ℕ) (f : Form) → k b ≡ Some w → immediate_of p w ≡ Some f → has_word f.0 f.1 ≡ true → P (Immediate f.0 to a f.1))
      → ((w : ℕ) (f : Form) → k a ≡ Some w → immediate_of_left p w ≡ Some f → has_word f.0 f.1 ≡ true → P (Immediate f.0 to b f.1)) → P (One (Binary p to a b)) → P (choose k (Binary p to a b))
  binary_gives k p to a b f g x = right_gives (k b) p to a (with_left (k a) p to b (One (Binary p to a b))) f (left_gives (k a) p to b (One (Binary p to a b)) g x)

  number_gives : (z : Option ℕ) (s : Step) (f : ℕ → Step) → ((w : ℕ) → z ≡ Some w → P (f w)) → P s → P (with_number z s f)
  number_gives None s f g x = x
  number_gives (Some w) s f g x = g w refl

  -- the step for an access has the element's number, or is the access unchanged
  pub load_gives : (k : Known) (width : Width) (g to i : ℕ) → ((w : ℕ) → k i ≡ Some w → P (LoadAt width g to w)) → P (One (Load width g to i)) → P (choose k (Load width g to i))
  load_gives k width g to i f x = number_gives (k i) (One (Load width g to i)) (λ w. LoadAt width g to w) f x

  pub store_gives : (k : Known) (width : Width) (g i a : ℕ) → ((w : ℕ) → k i ≡ Some w → P (StoreAt width g w a)) → P (One (Store width g i a)) → P (choose k (Store width g i a))
  store_gives k width g i a f x = number_gives (k i) (One (Store width g i a)) (λ w. StoreAt width g w a) f x

  test_gives : (nonzero : Bool) (z : Option ℕ) (i : LinearItem) (n : ℕ) → ((w : ℕ) → z ≡ Some w → (w == 0) ≡ not nonzero → P (One (Jump n))) → P (One i) → P (if is_taken nonzero z then One (Jump n) else One i)
  test_gives nonzero None i n f x = x
  test_gives true (Some w) i n f x = by (w == 0) refl
    where
      by : (b : Bool) → (w == 0) ≡ b → P (if not b then One (Jump n) else One i)
      by true e = x
      by false e = f w refl e
  test_gives false (Some w) i n f x = by (w == 0) refl
    where
      by : (b : Bool) → (w == 0) ≡ b → P (if b then One (Jump n) else One i)
      by true e = f w refl e
      by false e = x

  -- the step for a branch is a jump if the word is known and leads to the label, or the branch unchanged
  pub nonzero_gives : (k : Known) (r n : ℕ) → ((w : ℕ) → k r ≡ Some w → (w == 0) ≡ false → P (One (Jump n))) → P (One (IfNonzero r n)) → P (choose k (IfNonzero r n))
  nonzero_gives k r n f x = test_gives true (k r) (IfNonzero r n) n f x

  pub zero_gives : (k : Known) (r n : ℕ) → ((w : ℕ) → k r ≡ Some w → (w == 0) ≡ true → P (One (Jump n))) → P (One (IfZero r n)) → P (choose k (IfZero r n))
  zero_gives k r n f x = test_gives false (k r) (IfZero r n) n f x

-- no step that is chosen is a label
pub nonzero_there : (k : Known) (r n : ℕ) → IsThere (choose k (IfNonzero r n))
nonzero_there k r n = nonzero_gives IsThere k r n (λ w e is. tt) tt

pub zero_there : (k : Known) (r n : ℕ) → IsThere (choose k (IfZero r n))
zero_there k r n = zero_gives IsThere k r n (λ w e is. tt) tt

pub binary_there : (k : Known) (p : binary.Binary) (to a b : ℕ) → IsThere (choose k (Binary p to a b))
binary_there k p to a b = binary_gives IsThere k p to a b (λ w f e is has. tt) (λ w f e is has. tt) tt

pub load_there : (k : Known) (width : Width) (g to i : ℕ) → IsThere (choose k (Load width g to i))
load_there k width g to i = load_gives IsThere k width g to i (λ w e. tt) tt

pub store_there : (k : Known) (width : Width) (g i a : ℕ) → IsThere (choose k (Store width g i a))
store_there k width g i a = store_gives IsThere k width g i a (λ w e. tt) tt
