-- Registers, memory, locations and words: what is read after writes, and which numbers are words.
use Rattle.std.proofs.Common.{◌≡◌, ℕ, zero, suc, ◌+◌, ◌-◌, ◌*◌, ◌%◌, ◌^◌, ◌<◌, ◌≤◌, ◌⊎◌, List, [], ◌∷◌, ◌++◌, Some, None, true, false, Bool, length, get_or, take, drop, refl, ap, ◌∙◌, inl, inr, arith}
use Rattle.std.specs.Prelude.{◌==◌, if◌then◌else◌, ◌&&◌, not, slice_get}
use Rattle.std.proofs.lemmas.Bool.Decides.{eqb_tells, nat_tests}
use Rattle.cc_rv32.specs.Machine as machine
use Rattle.cc_rv32.specs.Machine.{stack_to, with_register, with_word}
use Rattle.cc_emit.specs.Board.{is_accessible_above}
use Rattle.cc_simulation.specs.Behavior.{AreWords}
use Rattle.cc_simulation.specs.World.{first_or_zero, rest_of}
use Rattle.cc_simulation.specs.Unknown.{survives}
use Rattle.cc_ltl.specs.declared.location.Location.TheVariants.{Register, Slot}
use Rattle.cc_ltl.specs.Ltl.{Locations, put}
use Rattle.cc_emit.specs.Contract.{IsKept}
use Rattle.cc_emit.specs.Emission.{high, low}

pub eqb_yes : (a b : ℕ) → a ≡ b → (a == b) ≡ true
eqb_yes a b e = grind (arith, nat_tests)

pub eqb_not : (a b : ℕ) → (a ≡ b → ⊥) → (a == b) ≡ false
eqb_not a b e = elim (eqb_tells a b) [ inl h ↦ absurd (e h.1) | inr h ↦ h.0 ]

pub eqb_says : (a b : ℕ) → (a == b) ≡ true → a ≡ b
eqb_says a b e = grind (arith, nat_tests)

pub eqb_denies : (a b : ℕ) → (a == b) ≡ false → a ≡ b → ⊥
eqb_denies a b e q = grind (arith, nat_tests)

-- ---- registers and memory

pub set_same : (f : ℕ → ℕ) (d w : ℕ) → 1 ≤ d → with_register f d w d ≡ w
set_same f d w le =
    ap (λ b. if b && not (d == 0) then w else f d) (eqb_yes d d refl) ∙ ap (λ b. if not b then w else f d) (eqb_not d 0 (λ e. omega arith))

pub set_other : (f : ℕ → ℕ) (d w r : ℕ) → (r ≡ d → ⊥) → with_register f d w r ≡ f r
set_other f d w r e = ap (λ b. if b && not (d == 0) then w else f r) (eqb_not r d e)

pub set_twice : (f : ℕ → ℕ) (d v w : ℕ) → with_register (with_register f d v) d w ≡ with_register f d w
set_twice f d v w = λ i r. at r ((r == d) && not (d == 0)) i
  where
    at : (r : ℕ) (b : Bool) → (if b then w else (if b then v else f r)) ≡ (if b then w else f r)
    at r true = refl
    at r false = refl

cond_below : (b : Bool) (w v n : ℕ) → w < n → v < n → (if b then w else v) < n
cond_below true w v n p q = p
cond_below false w v n p q = q

pub set_word : (f : ℕ → ℕ) (d w : ℕ) → w < 2 ^ 32 → ((r : ℕ) → f r < 2 ^ 32) → (r : ℕ) → with_register f d w r < 2 ^ 32
set_word f d w p q r = cond_below ((r == d) && not (d == 0)) w (f r) (2 ^ 32) p (q r)

-- a write to x0 changes nothing, and neither does writing what a register already holds
pub with_zero : (f : ℕ → ℕ) (w : ℕ) → with_register f 0 w ≡ f
with_zero f w = λ i r. zero_at (r == 0) w (f r) i
  where
    zero_at : (b : Bool) (w v : ℕ) → (if b && not (0 == 0) then w else v) ≡ v
    zero_at true w v = refl
    zero_at false w v = refl

pub with_same : (f : ℕ → ℕ) (d w : ℕ) → w ≡ f d → with_register f d w ≡ f
with_same f d w e = λ i r. same_at r i
  where
    same_by : (r : ℕ) (b : Bool) → (b ≡ true → w ≡ f r) → (if b then w else f r) ≡ f r
    same_by r true p = p refl
    same_by r false p = refl

    of_both : (a b : Bool) → (a && b) ≡ true → a ≡ true
    of_both true b q = refl
    of_both false b q = q

    same_at : (r : ℕ) → with_register f d w r ≡ f r
    same_at r = same_by r ((r == d) && not (d == 0)) (λ q. e ∙ ap f (let t : r ≡ d = eqb_says r d (of_both (r == d) (not (d == 0)) q) in let u : d ≡ r = omega arith in u))

pub word_same : (m : ℕ → ℕ) (a w : ℕ) → with_word m a w a ≡ w
word_same m a w = ap (λ b. if b then w else m a) (eqb_yes a a refl)

pub word_other : (m : ℕ → ℕ) (a w b : ℕ) → (b ≡ a → ⊥) → with_word m a w b ≡ m b
word_other m a w b e = ap (λ x. if x then w else m b) (eqb_not b a e)

pub word_word : (m : ℕ → ℕ) (a w : ℕ) → w < 2 ^ 32 → ((b : ℕ) → m b < 2 ^ 32) → (b : ℕ) → with_word m a w b < 2 ^ 32
word_word m a w p q b = cond_below (b == a) w (m b) (2 ^ 32) p (q b)

-- ---- locations

pub put_register : (l : Locations) (d w r v : ℕ) → (d ≡ r → w ≡ v) → ((d ≡ r → ⊥) → l (Register r) ≡ v) → put (Register d) w l (Register r) ≡ v
put_register l d w r v f g = elim (eqb_tells d r) [ inl h ↦ ap (λ b. if b then w else l (Register r)) h.0 ∙ f h.1 | inr h ↦ ap (λ b. if b then w else l (Register r)) h.0 ∙ g h.1 ]

pub put_slot : (l : Locations) (d w i v : ℕ) → (d ≡ i → w ≡ v) → ((d ≡ i → ⊥) → l (Slot i) ≡ v) → put (Slot d) w l (Slot i) ≡ v
put_slot l d w i v f g = elim (eqb_tells d i) [ inl h ↦ ap (λ b. if b then w else l (Slot i)) h.0 ∙ f h.1 | inr h ↦ ap (λ b. if b then w else l (Slot i)) h.0 ∙ g h.1 ]

-- ---- addresses

pub in_stack : (floor a : ℕ) → a % 4 ≡ 0 → floor ≤ a → a < stack_to → is_accessible_above floor 4 a ≡ true
in_stack floor a z from to = grind (arith, nat_tests)

-- ---- the parts of a word

abbrev pub LowIs : ℕ → ℕ → Type 0
LowIs w x = ((x ≡ w % 2 ^ 12) × (w % 2 ^ 12 < 2 ^ 11)) ⊎ ((x ≡ w % 2 ^ 12 + (2 ^ 32 - 2 ^ 12)) × (2 ^ 11 ≤ w % 2 ^ 12))

pub low_is : (w : ℕ) → LowIs w (low w)
low_is w = grind (arith, nat_tests)

high_low_of : (w x : ℕ) → w < 2 ^ 32 → LowIs w x → (high w * 2 ^ 12 + x) % 2 ^ 32 ≡ w
high_low_of w x b (inl h) = omega arith
high_low_of w x b (inr h) = omega arith

pub high_low : (w : ℕ) → w < 2 ^ 32 → (high w * 2 ^ 12 + low w) % 2 ^ 32 ≡ w
high_low w b = high_low_of w (low w) b (low_is w)

pub high_word : (w : ℕ) → high w * 2 ^ 12 < 2 ^ 32
high_word w = omega arith

-- ---- words that are passed in

pub survives_tells : (r : ℕ) → ((survives r ≡ true) × IsKept r) ⊎ ((survives r ≡ false) × (IsKept r → ⊥))
survives_tells r = grind (arith, nat_tests)

pub words_append : (xs ys : List ℕ) → AreWords xs → AreWords ys → AreWords (xs ++ ys)
words_append [] ys p q = q
words_append (x ∷ xs) ys p q = (p.0, words_append xs ys p.1 q)

pub first_word : (xs : List ℕ) → AreWords xs → first_or_zero xs < 2 ^ 32
first_word [] p = omega arith
first_word (x ∷ xs) p = p.0

pub rest_words : (xs : List ℕ) → AreWords xs → AreWords (rest_of xs)
rest_words [] p = tt
rest_words (x ∷ xs) p = p.1

-- the machine reads its input as the world does
pub same_first : (xs : List ℕ) → machine.first_or_zero xs ≡ first_or_zero xs
same_first [] = refl
same_first (x ∷ xs) = refl

pub same_rest : (xs : List ℕ) → machine.rest_of xs ≡ rest_of xs
same_rest [] = refl
same_rest (x ∷ xs) = refl

-- the words f n, f (n + 1) and so on
abbrev pub listed : (count n : ℕ) → (ℕ → ℕ) → List ℕ
listed zero n f = []
listed (suc k) n f = f n ∷ listed k (suc n) f

pub listed_words : (k n : ℕ) (f : ℕ → ℕ) → ((i : ℕ) → n ≤ i → i < n + k → f i < 2 ^ 32) → AreWords (listed k n f)
listed_words zero n f w = tt
listed_words (suc k) n f w = (w n (omega arith) (omega arith), listed_words k (suc n) f (λ i p q. w i (omega arith) (omega arith)))

pub listed_at : (k n r : ℕ) (f : ℕ → ℕ) → r < k → get_or (listed k n f) r 0 ≡ f (n + r)
listed_at zero n r f lt = absurd (omega arith)
listed_at (suc k) n zero f lt = ap f (let e : n ≡ n + 0 = omega arith in e)
listed_at (suc k) n (suc r) f lt = listed_at k (suc n) r f (omega arith) ∙ ap f (let e : suc n + r ≡ n + suc r = omega arith in e)

pub take_listed : (k n : ℕ) (f : ℕ → ℕ) (ws : List ℕ) → take k (listed k n f ++ ws) ≡ listed k n f
take_listed zero n f ws = refl
take_listed (suc k) n f ws = ap (λ l. f n ∷ l) (take_listed k (suc n) f ws)

pub drop_listed : (k n : ℕ) (f : ℕ → ℕ) (ws : List ℕ) → drop k (listed k n f ++ ws) ≡ ws
drop_listed zero n f ws = refl
drop_listed (suc k) n f ws = drop_listed k (suc n) f ws

-- if an element is found, its index is within the list
pub got : (ws : List ℕ) (i v : ℕ) → slice_get ws i ≡ Some v → (i < length ws) × (get_or ws i 0 ≡ v)
got [] i v e = absurd (let z : None ≡ Some v = e in cc)
got (w ∷ ws) zero v e = (omega arith, let z : Some w ≡ Some v = e in cc)
got (w ∷ ws) (suc i) v e = let g = got ws i v e in (omega arith, g.1)
