-- Reading the digits of bytes: each digit has its value, two of them make their byte, and none ends a line.
use Rattle.std.proofs.Common.{◌≡◌, ℕ, zero, suc, ◌+◌, ◌*◌, ◌/◌, ◌%◌, ◌<◌, eqb, false, List, [], ◌∷◌, ◌++◌, get_or, take, drop, Some, refl, ap, arith}
use Rattle.std.specs.List.{flat_map}
use Rattle.std.proofs.lemmas.Bool.Decides.{nat_tests}
use Rattle.cc_hex.specs.Format.{digit_value, bytes_of}
use Rattle.cc_hex.specs.Layout.{digit, two_digits}

-- each number is a byte
pub record AreBytes (bytes : List ℕ) : Type 0 where
  pub each : (i : ℕ) → get_or bytes i 0 < 256

pub no_bytes : AreBytes []
no_bytes = record { each = λ i. omega arith }

pub first_byte : (b : ℕ) (bs : List ℕ) → AreBytes (b ∷ bs) → b < 256
first_byte b bs h = h.each 0

pub other_bytes : (b : ℕ) (bs : List ℕ) → AreBytes (b ∷ bs) → AreBytes bs
other_bytes b bs h = record { each = λ i. h.each (suc i) }

at_or_behind : (b : ℕ) (bs : List ℕ) → b < 256 → AreBytes bs → (i : ℕ) → get_or (b ∷ bs) i 0 < 256
at_or_behind b bs lt h zero = lt
at_or_behind b bs lt h (suc i) = h.each i

pub more_bytes : (b : ℕ) (bs : List ℕ) → b < 256 → AreBytes bs → AreBytes (b ∷ bs)
more_bytes b bs lt h = record { each = at_or_behind b bs lt h }

pub appended_bytes : (bs cs : List ℕ) → AreBytes bs → AreBytes cs → AreBytes (bs ++ cs)
appended_bytes [] cs h k = k
appended_bytes (b ∷ bs) cs h k = more_bytes b (bs ++ cs) (first_byte b bs h) (appended_bytes bs cs (other_bytes b bs h) k)

pub front_bytes : (n : ℕ) (bs : List ℕ) → AreBytes bs → AreBytes (take n bs)
front_bytes zero bs h = no_bytes
front_bytes (suc n) [] h = no_bytes
front_bytes (suc n) (b ∷ bs) h = more_bytes b (take n bs) (first_byte b bs h) (front_bytes n bs (other_bytes b bs h))

pub back_bytes : (n : ℕ) (bs : List ℕ) → AreBytes bs → AreBytes (drop n bs)
back_bytes zero bs h = h
back_bytes (suc n) [] h = no_bytes
back_bytes (suc n) (b ∷ bs) h = back_bytes n bs (other_bytes b bs h)

digit_again : (n : ℕ) → n < 16 → digit_value (digit n) ≡ Some n
digit_again n h = grind (arith, nat_tests)

digit_no_end : (n : ℕ) → n < 16 → eqb (digit n) 10 ≡ false
digit_no_end n h = grind (arith, nat_tests)

-- reading the digits of bytes gives those bytes
pub digits_again : (bytes : List ℕ) → AreBytes bytes → bytes_of (flat_map two_digits bytes) ≡ Some bytes
digits_again [] h = refl
digits_again (b ∷ bs) h =
    let fits : b < 256 = first_byte b bs h in
    let high : digit_value (digit (b / 16)) ≡ Some (b / 16) = digit_again (b / 16) (omega arith) in
    let low : digit_value (digit (b % 16)) ≡ Some (b % 16) = digit_again (b % 16) (omega arith) in
    let rest : bytes_of (flat_map two_digits bs) ≡ Some bs = digits_again bs (other_bytes b bs h) in
    let byte : 16 * (b / 16) + b % 16 ≡ b = omega arith in
    rw (high, low, rest) (ap (λ x. Some (x ∷ bs)) byte)

-- none of these characters ends a line
pub data NoEnd : List ℕ → Type 0 where
  Nothing : NoEnd []
  Before : (c : ℕ) (cs : List ℕ) → eqb c 10 ≡ false → NoEnd cs → NoEnd (c ∷ cs)

pub digits_no_end : (bytes : List ℕ) → AreBytes bytes → NoEnd (flat_map two_digits bytes)
digits_no_end [] h = Nothing
digits_no_end (b ∷ bs) h =
    let fits : b < 256 = first_byte b bs h in
    Before (digit (b / 16)) (digit (b % 16) ∷ flat_map two_digits bs) (digit_no_end (b / 16) (omega arith))
    (Before (digit (b % 16)) (flat_map two_digits bs) (digit_no_end (b % 16) (omega arith)) (digits_no_end bs (other_bytes b bs h)))
