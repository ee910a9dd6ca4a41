-- What is read is what was written, and what was written is read again: this is shown for each kind of field, up to the whole
-- function. Fields are combined with `both` and `mapped`, so that each move and each operation takes one line.
use Rattle.std.proofs.Common.{◌≡◌, ℕ, zero, suc, ◌+◌, ◌^◌, ◌<◌, ◌≤◌, Bool, true, false, ◌&&◌, cond, ltb, eqb, List, [], ◌∷◌, ◌++◌, length, get_or, map, take, drop, Option, Some, None, refl, sym, ap, subst, ◌∙◌, append_assoc, arith, ◌⊎◌, inl, inr}
use Rattle.std.specs.Prelude.{nat_le, slice_get, option_map}
use Rattle.std.specs.List.{flat_map, AllByRecursion}
use Rattle.std.specs.Int.{Width, w16, w32, from_le_bytes, to_le_bytes}
use Rattle.std.proofs.lemmas.Bool.{eqb-true, ltb-false, lt-ltb, le-ltb, le-leb}
use Rattle.std.proofs.lemmas.List.{take_at, drop_at, take-append-drop, length-append, length-take}
use Rattle.std.proofs.lemmas.List.Concat.{flat_map-cons}
use Rattle.std.proofs.lemmas.Nat.{le_bytes_2, le_bytes_4, from_le_bytes-to_le_bytes_2, from_le_bytes-to_le_bytes_4}
use Rattle.std.proofs.lemmas.Option.{none-some, same_Some, slice_get-map}
use Rattle.cc_words.specs.declared.operators.Unary.{Unary as UnaryOperator}
use Rattle.cc_words.specs.declared.operators.Unary.TheVariants.{Neg, Complement, IsZero}
use Rattle.cc_words.specs.declared.operators.Binary.{Binary as BinaryOperator}
use Rattle.cc_words.specs.declared.operators.Binary.TheVariants.{Add, Sub, Mul, DivS, DivU, RemS, RemU, Shl, ShrS, ShrU, And, Or, Xor, Eq, Ne, LtS, LtU, LeS, LeU}
use Rattle.cc_ltl.specs.Registers.{IsAllocatable, most_slots}
use Rattle.cc_words.specs.declared.operators.Width.{Width as ElementWidth}
use Rattle.cc_words.specs.declared.operators.Width.TheVariants.{Byte, Word}
use Rattle.cc_words.specs.Widths.{bytes as element_bytes}
use Rattle.cc_ltl.specs.Bytes.{half_bytes, word_bytes, unary_number, binary_number}
use Rattle.cc_ltl.specs.internal.Reading.{◌>>=◌, Reader, both, mapped, times, nothing_in, byte_in, half_in, word_in, register_in, slot_in, unary_operators, binary_operators, one_of, unary_in, binary_in, width_of, width_in, slots_in}

-- ---- tools

-- each number in the list is a byte
abbrev pub AreBytes : List ℕ → Type 0
AreBytes bytes = AllByRecursion (λ b. b < 256) bytes

-- if two steps found something, the first one did, and the second one did with its value
pub bind_some : {A B : Type 0} (o : Option A) (f : A → Option B) (y : B) → (o >>= f) ≡ Some y → (x : A) × (o ≡ Some x) × (f x ≡ Some y)
bind_some (Some x) f y e = (x, refl, e)
bind_some None f y e = absurd (none-some y e)

-- if a choice between two options has a value, the chosen option has it
pub which : {A : Type 0} (b : Bool) (x y : Option A) (z : A) → cond b x y ≡ Some z → ((b ≡ true) × (x ≡ Some z)) ⊎ ((b ≡ false) × (y ≡ Some z))
which true x y z e = inl (refl, e)
which false x y z e = inr (refl, e)

-- if there is a value, the test held
pub when_some : {A : Type 0} (b : Bool) (o : Option A) (y : A) → cond b o None ≡ Some y → (b ≡ true) × (o ≡ Some y)
when_some true o y e = (refl, e)
when_some false o y e = absurd (none-some y e)

-- if there is a value, the test failed
unless_some : {A : Type 0} (b : Bool) (x y : A) → cond b None (Some x) ≡ Some y → (b ≡ false) × (x ≡ y)
unless_some true x y e = absurd (none-some y e)
unless_some false x y e = (refl, same_Some x y e)

at_index : (bytes : List ℕ) → AreBytes bytes → (i : ℕ) → get_or bytes i 0 < 256
at_index [] are i = omega arith
at_index (b ∷ bytes) are zero = are.0
at_index (b ∷ bytes) are (suc i) = at_index bytes are.1 i

pub from_index : (bytes : List ℕ) → ((i : ℕ) → get_or bytes i 0 < 256) → AreBytes bytes
from_index [] below = tt
from_index (b ∷ bytes) below = (below 0, from_index bytes (λ i. below (suc i)))

take-bytes : (k : ℕ) (bytes : List ℕ) → AreBytes bytes → AreBytes (take k bytes)
take-bytes zero bytes are = tt
take-bytes (suc k) [] are = tt
take-bytes (suc k) (b ∷ bytes) are = (are.0, take-bytes k bytes are.1)

drop-bytes : (k : ℕ) (bytes : List ℕ) → AreBytes bytes → AreBytes (drop k bytes)
drop-bytes zero bytes are = are
drop-bytes (suc k) [] are = tt
drop-bytes (suc k) (b ∷ bytes) are = drop-bytes k bytes are.1

-- the reader took `text` from the start of the bytes, and left `rest`
pub record Takes (bytes text rest : List ℕ) : Type 0 where
  pub parts : bytes ≡ text ++ rest
  pub are : AreBytes rest

Takes-then : (a x b y c : List ℕ) → Takes a x b → Takes b y c → Takes a (x ++ y) c
Takes-then a x b y c p q = record { parts = p.parts ∙ ap (λ (t : List ℕ). x ++ t) q.parts ∙ sym (append_assoc x y c); are = q.are }

-- a field: reading consumes what writing produces, and each good value that was written is read again
pub record IsField {X : Type 0} (read : Reader X) (write : X → List ℕ) (Good : X → Type 0) : Type 0 where
  pub takes : (bytes : List ℕ) (x : X) (rest : List ℕ) → AreBytes bytes → read bytes ≡ Some (x, rest) → Takes bytes (write x) rest
  pub again : (x : X) (rest : List ℕ) → Good x → read (write x ++ rest) ≡ Some (x, rest)

-- ---- combining fields

pub both_field : {A B : Type 0} (f : Reader A) (s : A → List ℕ) (P : A → Type 0) (g : Reader B) (t : B → List ℕ) (Q : B → Type 0)
    → IsField f s P → IsField g t Q → IsField (both f g) (λ x. s x.0 ++ t x.1) (λ x. P x.0 × Q x.1)
both_field {A} {B} f s P g t Q p q = record {
  takes = λ bytes x rest are e.
      let a = bind_some (f bytes) (λ a. g a.1 >>= λ b. Some ((a.0, b.0), b.1)) (x, rest) e in
      let b = bind_some (g a.0.1) (λ b. Some ((a.0.0, b.0), b.1)) (x, rest) a.2 in
      let first = p.takes bytes a.0.0 a.0.1 are a.1 in
      let second = q.takes a.0.1 b.0.0 b.0.1 first.are b.1 in
      let made : (A × B) × List ℕ = ((a.0.0, b.0.0), b.0.1) in
      subst (λ (y : (A × B) × List ℕ). Takes bytes (s y.0.0 ++ t y.0.1) y.1) (same_Some made (x, rest) b.2) (Takes-then bytes (s a.0.0) a.0.1 (t b.0.0) b.0.1 first second);
  again = λ x rest good.
      ap (both f g) (append_assoc (s x.0) (t x.1) rest) ∙ rw (p.again x.0 (t x.1 ++ rest) good.0, q.again x.1 rest good.1) refl;
}

pub mapped_takes : {A B : Type 0} (f : Reader A) (s : A → List ℕ) (P : A → Type 0) → IsField f s P → (make : A → B) (bytes : List ℕ) (y : B) (rest : List ℕ) → AreBytes bytes
    → mapped make f bytes ≡ Some (y, rest) → (a : A) × (make a ≡ y) × Takes bytes (s a) rest
mapped_takes {A} {B} f s P p make bytes y rest are e =
    let a = bind_some (f bytes) (λ a. Some (make a.0, a.1)) (y, rest) e in
    let same = same_Some (make a.0.0, a.0.1) (y, rest) a.2 in
    let t = p.takes bytes a.0.0 a.0.1 are a.1 in
    (a.0.0, ap (λ (z : B × List ℕ). z.0) same, subst (Takes bytes (s a.0.0)) (ap (λ (z : B × List ℕ). z.1) same) t)

pub mapped_again : {A B : Type 0} (f : Reader A) (s : A → List ℕ) (P : A → Type 0) → IsField f s P → (make : A → B) (a : A) (rest : List ℕ) → P a → mapped make f (s a ++ rest) ≡ Some (make a, rest)
mapped_again f s P p make a rest good = rw (p.again a rest good) refl

-- a field that comes n times

times_take : {A : Type 0} (f : Reader A) (s : A → List ℕ) (P : A → Type 0) → IsField f s P → (n : ℕ) (bytes : List ℕ) (xs : List A) (rest : List ℕ) → AreBytes bytes
    → times f n bytes ≡ Some (xs, rest) → Takes bytes (flat_map s xs) rest × (length xs ≡ n)
unfolding times
times_take {A} f s P p zero bytes xs rest are e =
    subst (λ (y : List A × List ℕ). Takes bytes (flat_map s y.0) y.1 × (length y.0 ≡ 0)) (same_Some ([], bytes) (xs, rest) e) (record { parts = refl; are = are }, refl)
times_take {A} f s P p (suc n) bytes xs rest are e =
    let a = bind_some (f bytes) (λ first. times f n first.1 >>= λ others. Some (first.0 ∷ others.0, others.1)) (xs, rest) e in
    let b = bind_some (times f n a.0.1) (λ others. Some (a.0.0 ∷ others.0, others.1)) (xs, rest) a.2 in
    let first = p.takes bytes a.0.0 a.0.1 are a.1 in
    let others = times_take f s P p n a.0.1 b.0.0 b.0.1 first.are b.1 in
    let all = Takes-then bytes (s a.0.0) a.0.1 (flat_map s b.0.0) b.0.1 first others.0 in
    let made : List A × List ℕ = (a.0.0 ∷ b.0.0, b.0.1) in
    subst (λ (y : List A × List ℕ). Takes bytes (flat_map s y.0) y.1 × (length y.0 ≡ suc n)) (same_Some made (xs, rest) b.2) (rw flat_map-cons all, ap suc others.1)

times_again : {A : Type 0} (f : Reader A) (s : A → List ℕ) (P : A → Type 0) → IsField f s P → (xs : List A) (rest : List ℕ) → AllByRecursion P xs → times f (length xs) (flat_map s xs ++ rest) ≡ Some (xs, rest)
unfolding times
times_again f s P p [] rest good = refl
times_again {A} f s P p (x ∷ xs) rest good =
    let regrouped : flat_map s (x ∷ xs) ++ rest ≡ s x ++ (flat_map s xs ++ rest) = ap (λ (t : List ℕ). t ++ rest) (flat_map-cons s x xs) ∙ append_assoc (s x) (flat_map s xs) rest in
    ap (times f (suc (length xs))) regrouped ∙ rw (p.again x (flat_map s xs ++ rest) good.0, times_again f s P p xs rest good.1) refl

-- a number, followed by what is read that many times
abbrev counted : {A : Type 0} → Reader ℕ → Reader A → Reader (List A)
counted count f bytes = count bytes >>= λ n. times f n.0 n.1

pub counted_field : {A : Type 0} (count : Reader ℕ) (number : ℕ → List ℕ) (limit : ℕ) (f : Reader A) (s : A → List ℕ) (P : A → Type 0) → IsField count number (λ n. n < limit) → IsField f s P
    → IsField (counted count f) (λ xs. number (length xs) ++ flat_map s xs) (λ xs. (length xs < limit) × AllByRecursion P xs)
counted_field {A} count number limit f s P c p = record {
  takes = λ bytes xs rest are e.
      let n = bind_some (count bytes) (λ n. times f n.0 n.1) (xs, rest) e in
      let first = c.takes bytes n.0.0 n.0.1 are n.1 in
      let others = times_take f s P p n.0.0 n.0.1 xs rest first.are n.2 in
      let all = Takes-then bytes (number n.0.0) n.0.1 (flat_map s xs) rest first others.0 in
      subst (λ (k : ℕ). Takes bytes (number k ++ flat_map s xs) rest) (sym others.1) all;
  again = λ xs rest good.
      ap (counted count f) (append_assoc (number (length xs)) (flat_map s xs) rest) ∙ rw (c.again (length xs) (flat_map s xs ++ rest) good.0, times_again f s P p xs rest good.1) refl;
}

-- ---- nothing, bytes and numbers

pub nothing_field : IsField nothing_in (λ u. []) (λ u. Unit {0})
nothing_field = record {
  takes = λ bytes u rest are e. subst (λ (y : Unit {0} × List ℕ). Takes bytes [] y.1) (same_Some (tt, bytes) (u, rest) e) (record { parts = refl; are = are });
  again = λ u rest good. refl;
}

pub byte_takes : (bytes : List ℕ) (b : ℕ) (rest : List ℕ) → AreBytes bytes → byte_in bytes ≡ Some (b, rest) → Takes bytes (b ∷ []) rest
byte_takes [] b rest are e = absurd (none-some (b, rest) e)
byte_takes (a ∷ bytes) b rest are e = subst (λ (y : ℕ × List ℕ). Takes (a ∷ bytes) (y.0 ∷ []) y.1) (same_Some (a, bytes) (b, rest) e) (record { parts = refl; are = are.1 })

-- k bytes spell a number below the limit
record IsWide (w : Width) (k limit : ℕ) : Type 0 where
  len : (n : ℕ) → length (to_le_bytes w n) ≡ k
  back : (bytes : List ℕ) (n : ℕ) → length bytes ≡ k → AreBytes bytes → n ≡ from_le_bytes w bytes → to_le_bytes w n ≡ bytes
  same : (n : ℕ) → n < limit → from_le_bytes w (to_le_bytes w n) ≡ n

abbrev number_in : Width → ℕ → Reader ℕ
number_in w k bytes = cond (ltb (length bytes) k) None (Some (from_le_bytes w (take k bytes), drop k bytes))

number_field : (w : Width) (k limit : ℕ) → IsWide w k limit → IsField (number_in w k) (to_le_bytes w) (λ n. n < limit)
number_field w k limit wide = record {
  takes = λ bytes n rest are e.
      let g = unless_some (ltb (length bytes) k) (from_le_bytes w (take k bytes), drop k bytes) (n, rest) e in
      let long : k ≤ length bytes = ltb-false _ _ g.0 in
      let n-is : from_le_bytes w (take k bytes) ≡ n = ap (λ (p : ℕ × List ℕ). p.0) g.1 in
      let rest-is : drop k bytes ≡ rest = ap (λ (p : ℕ × List ℕ). p.1) g.1 in
      let spelled : to_le_bytes w n ≡ take k bytes = wide.back (take k bytes) n (omega (arith, length-take k bytes)) (take-bytes k bytes are) (sym n-is) in
      record { parts = rw (spelled, ← rest-is) (sym (take-append-drop k bytes)); are = rw (← rest-is) (drop-bytes k bytes are) };
  again = λ n rest lt.
      let len = wide.len n in
      let long : ltb (length (to_le_bytes w n ++ rest)) k ≡ false = le-ltb _ _ (omega (arith, length-append (to_le_bytes w n) rest)) in
      rw (long, take_at (to_le_bytes w n) rest k len, drop_at (to_le_bytes w n) rest k len, wide.same n lt) refl;
}

pub half_field : IsField half_in half_bytes (λ n. n < 2 ^ 16)
half_field = number_field w16 2 (2 ^ 16) (record {
  len = λ n. refl;
  back = λ bytes n len are is. le_bytes_2 bytes n len (at_index bytes are) is;
  same = from_le_bytes-to_le_bytes_2;
})

pub word_field : IsField word_in word_bytes (λ n. n < 2 ^ 32)
word_field = number_field w32 4 (2 ^ 32) (record {
  len = λ n. refl;
  back = λ bytes n len are is. le_bytes_4 bytes n len (at_index bytes are) is;
  same = from_le_bytes-to_le_bytes_4;
})

-- ---- registers, slots, operators, the width

pub register_field : IsField register_in (λ r. r ∷ []) IsAllocatable
unfolding register_in
register_field = record {
  takes = λ bytes r rest are e.
      let b = bind_some (byte_in bytes) (λ b. cond (nat_le 7 b.0 && ltb b.0 32) (Some b) None) (r, rest) e in
      let g = when_some (nat_le 7 b.0.0 && ltb b.0.0 32) (Some b.0) (r, rest) b.2 in
      byte_takes bytes r rest are (b.1 ∙ g.1);
  again = λ r rest good.
      rw (le-leb _ _ good.0, lt-ltb _ _ good.1) refl;
}

pub slot_field : (slots : ℕ) → slots ≤ most_slots → IsField slot_in half_bytes (λ i. i < slots)
unfolding slot_in
slot_field slots few = record {
  takes = λ bytes i rest are e.
      let n = bind_some (half_in bytes) (λ n. cond (ltb n.0 most_slots) (Some n) None) (i, rest) e in
      let g = when_some (ltb n.0.0 most_slots) (Some n.0) (i, rest) n.2 in
      half_field.takes bytes i rest are (n.1 ∙ g.1);
  again = λ i rest lt.
      rw (half_field.again i rest (omega arith), lt-ltb i most_slots (omega arith)) refl;
}

pub slots_field : IsField slots_in word_bytes (λ n. n ≤ most_slots)
unfolding slots_in
slots_field = record {
  takes = λ bytes i rest are e.
      let n = bind_some (word_in bytes) (λ n. cond (nat_le n.0 most_slots) (Some n) None) (i, rest) e in
      let g = when_some (nat_le n.0.0 most_slots) (Some n.0) (i, rest) n.2 in
      word_field.takes bytes i rest are (n.1 ∙ g.1);
  again = λ i rest le.
      rw (word_field.again i rest (omega arith), le-leb i most_slots le) refl;
}

-- the numbers from a on
abbrev numbers_from : ℕ → ℕ → List ℕ
numbers_from a zero = []
numbers_from a (suc n) = a ∷ numbers_from (suc a) n

number_at : (n a k m : ℕ) → slice_get (numbers_from a n) k ≡ Some m → m ≡ a + k
number_at zero a k m e = absurd (none-some m e)
number_at (suc n) a zero m e = sym (same_Some a m e) ∙ omega arith
number_at (suc n) a (suc k) m e = number_at n (suc a) k m e ∙ omega arith

-- an element of a list in which each element's number is its position
one_of_field : {A : Type 0} (xs : List A) (number : A → ℕ) (n : ℕ) → map number xs ≡ numbers_from 0 n → ((x : A) → slice_get xs (number x) ≡ Some x) → IsField (one_of xs) (λ x. number x ∷ []) (λ x. Unit {0})
one_of_field {A} xs number n all at = record {
  takes = λ bytes x rest are e.
      let b = bind_some (byte_in bytes) (λ b. slice_get xs b.0 >>= λ x. Some (x, b.1)) (x, rest) e in
      let y = bind_some (slice_get xs b.0.0) (λ x. Some (x, b.0.1)) (x, rest) b.2 in
      let found : slice_get (numbers_from 0 n) b.0.0 ≡ Some (number y.0) = ap (λ (l : List ℕ). slice_get l b.0.0) (sym all) ∙ slice_get-map number xs b.0.0 ∙ ap (option_map number) y.1 in
      let is : number y.0 ≡ b.0.0 = number_at n 0 b.0.0 (number y.0) found ∙ omega arith in
      let t = byte_takes bytes b.0.0 b.0.1 are b.1 in
      subst (λ (z : A × List ℕ). Takes bytes (number z.0 ∷ []) z.1) (same_Some (y.0, b.0.1) (x, rest) y.2) (rw is t);
  again = λ x rest good. rw (at x) refl;
}

unary_at : (o : UnaryOperator) → slice_get unary_operators (unary_number o) ≡ Some o
unary_at Neg = refl
unary_at Complement = refl
unary_at IsZero = refl

binary_at : (o : BinaryOperator) → slice_get binary_operators (binary_number o) ≡ Some o
binary_at Add = refl
binary_at Sub = refl
binary_at Mul = refl
binary_at DivS = refl
binary_at DivU = refl
binary_at RemS = refl
binary_at RemU = refl
binary_at Shl = refl
binary_at ShrS = refl
binary_at ShrU = refl
binary_at And = refl
binary_at Or = refl
binary_at Xor = refl
binary_at Eq = refl
binary_at Ne = refl
binary_at LtS = refl
binary_at LtU = refl
binary_at LeS = refl
binary_at LeU = refl

pub unary_field : IsField unary_in (λ o. unary_number o ∷ []) (λ o. Unit {0})
unfolding unary_in
unary_field = one_of_field unary_operators unary_number 3 refl unary_at

pub binary_field : IsField binary_in (λ o. binary_number o ∷ []) (λ o. Unit {0})
unfolding binary_in
binary_field = one_of_field binary_operators binary_number 19 refl binary_at

width_told : (n : ℕ) (w : ElementWidth) → width_of n ≡ Some w → element_bytes w ≡ n
width_told n w e =
    elim (which (eqb n 1) (Some Byte) (cond (eqb n 4) (Some Word) None) w e) [
      | inl p ↦ ap element_bytes (sym (same_Some Byte w p.1)) ∙ sym (eqb-true n 1 p.0)
      | inr p ↦ (let g = when_some (eqb n 4) (Some Word) w p.1 in ap element_bytes (sym (same_Some Word w g.1)) ∙ sym (eqb-true n 4 g.0))
    ]

width_again : (w : ElementWidth) → width_of (element_bytes w) ≡ Some w
width_again Byte = refl
width_again Word = refl

pub width_field : IsField width_in (λ w. element_bytes w ∷ []) (λ w. Unit {0})
unfolding width_in
width_field = record {
  takes = λ bytes w rest are e.
      let b = bind_some (byte_in bytes) (λ b. width_of b.0 >>= λ w. Some (w, b.1)) (w, rest) e in
      let y = bind_some (width_of b.0.0) (λ w. Some (w, b.0.1)) (w, rest) b.2 in
      let is : element_bytes y.0 ≡ b.0.0 = width_told b.0.0 y.0 y.1 in
      let t = byte_takes bytes b.0.0 b.0.1 are b.1 in
      subst (λ (z : ElementWidth × List ℕ). Takes bytes (element_bytes z.0 ∷ []) z.1) (same_Some (y.0, b.0.1) (w, rest) y.2) (rw is t);
  again = λ w rest good. rw (width_again w) refl;
}
