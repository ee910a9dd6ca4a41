-- Integer constants (C99 6.4.4.1, as far as the profile includes them).
use Rattle.std.specs.Prelude.{◌≡◌, ◌≢◌, ℕ, ◌+◌, ◌*◌, ◌⊎◌, Bool, true, false, not, ◌&&◌, ◌||◌, ◌==◌, nat_le, nat_lt, if◌then◌else◌, List, [], ◌∷◌, ◌++◌, Option, Some, None, IsTrue}
use Rattle.std.specs.List.{fold, AllByRecursion}
use Rattle.std.specs.Char.{digit_value}
use Rattle.cc_tokens.specs.declared.scalar.Scalar.{Scalar}
use Rattle.cc_tokens.specs.declared.scalar.Scalar.TheVariants.{Int, Unsigned}

-- a constant: its base, its digits after the prefix, and whether the suffix `u` or `U` follows them
pub record Constant : Type 0 where
  pub base : ℕ
  pub digits : List ℕ
  pub suffixed : Bool

-- the byte is a digit of this base
abbrev pub is_digit_of : ℕ → ℕ → Bool
is_digit_of base b = nat_lt (digit_value b) base

-- the bytes before the digits: none before decimal digits, which do not begin with 0; `0` before octal digits, which may be
-- missing; `0x` or `0X` before hexadecimal digits
pub data IsPrefix : List ℕ → ℕ → List ℕ → Type 0 where
  decimal : {d : ℕ} {ds : List ℕ} → d ≢ 48 → IsPrefix [] 10 (d ∷ ds)
  octal : {ds : List ℕ} → IsPrefix (48 ∷ []) 8 ds
  hexadecimal : {x d : ℕ} {ds : List ℕ} → (x ≡ 120) ⊎ (x ≡ 88) → IsPrefix (48 ∷ x ∷ []) 16 (d ∷ ds)

-- the suffix is empty, or `u` or `U`
pub data IsSuffix : List ℕ → Bool → Type 0 where
  none : IsSuffix [] false
  unsigned : {x : ℕ} → (x ≡ 117) ⊎ (x ≡ 85) → IsSuffix (x ∷ []) true

-- the bytes spell the constant: a prefix, digits, a suffix
pub record SpellsConstant (c : Constant) (text : List ℕ) : Type 0 where
  pub prefix : List ℕ
  pub suffix : List ℕ
  pub parts : text ≡ prefix ++ (c.digits ++ suffix)
  pub prefixed : IsPrefix prefix c.base c.digits
  pub all_digits : AllByRecursion (λ b. IsTrue (is_digit_of c.base b)) c.digits
  pub ended : IsSuffix suffix c.suffixed

-- the value of the digits
abbrev pub digits_value : Constant → ℕ
digits_value c = fold (λ v b. v * c.base + digit_value b) 0 c.digits

-- the type of a value: `int` up to 2147483647 without a suffix; `unsigned` up to 4294967295 with a suffix, or for an octal or
-- hexadecimal constant past 2147483647; no type otherwise
abbrev pub type_of_value : (base : ℕ) (suffixed : Bool) (value : ℕ) → Option Scalar
type_of_value base suffixed value =
    if not suffixed && nat_le value 2147483647 then Some Int
    else (if (suffixed || not (base == 10)) && nat_le value 4294967295 then Some Unsigned
    else None)

-- the type of a constant
abbrev pub constant_type : Constant → Option Scalar
constant_type c = type_of_value c.base c.suffixed (digits_value c)
