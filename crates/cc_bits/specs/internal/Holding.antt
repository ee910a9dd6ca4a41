-- What a row holds: nothing if it has no words, and nothing past its end.
use Rattle.std.proofs.Common.{◌≡◌, ℕ, ◌*◌, ◌/◌, ◌%◌, ◌<◌, ◌≤◌, List, [], length, ap, ◌∙◌, Bool, ◌==◌, ◌||◌, ◌&&◌, nat_lt, false, refl, IsTrue, arith, inl, inr, max, zero, suc}
use Rattle.std.specs.Int.{bit_at}
use Rattle.std.specs.Int.RustNames.{bit_or}
use Rattle.std.proofs.lemmas.Nat.Bits.{bit_at-zero, bit_at_or, bit_at-lt}
use Rattle.std.proofs.lemmas.Bool.{cases_lt}
use Rattle.std.proofs.lemmas.List.{get_or_past}
use Rattle.cc_bits.specs.Rows.{holds, key}

-- bit c of row r, if each row has `width` words
abbrev pub bit : (width : ℕ) → (words : List ℕ) → (r c : ℕ) → Bool
bit width words r c = nat_lt c (64 * width) && holds words (key width r c)

pub holds-nothing : (k : ℕ) → holds [] k ≡ false
holds-nothing k = ap (λ n. n == 1) (bit_at-zero (k % 64))

pub holds-past : (row : List ℕ) (k : ℕ) → length row ≤ k / 64 → holds row k ≡ false
holds-past row k h = ap (λ w. bit_at w (k % 64) == 1) (get_or_past row (k / 64) 0 h) ∙ holds-nothing k

pub within_row : (row : List ℕ) (k : ℕ) → IsTrue (holds row k) → k < 64 * length row
within_row row k h = elim (cases_lt (k / 64) (length row)) [
  | inl lt ↦ omega arith
  | inr ge ↦ absurd (let p = holds-past row k ge in cc)
]

max_bits : (p q : ℕ) → p < 2 → q < 2 → (max p q == 1) ≡ (p == 1 || q == 1)
max_bits zero zero h k = refl
max_bits zero (suc zero) h k = refl
max_bits (suc zero) zero h k = refl
max_bits (suc zero) (suc zero) h k = refl
max_bits (suc (suc p)) q h k = absurd (omega arith)
max_bits zero (suc (suc q)) h k = absurd (omega arith)
max_bits (suc zero) (suc (suc q)) h k = absurd (omega arith)

pub bits_or : (x y k : ℕ) → (bit_at (bit_or x y) k == 1) ≡ (bit_at x k == 1 || bit_at y k == 1)
bits_or x y k = ap (λ n. n == 1) (bit_at_or x y k) ∙ max_bits (bit_at x k) (bit_at y k) (bit_at-lt x k) (bit_at-lt y k)
