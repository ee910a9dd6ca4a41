-- The numbers of the bits of a table: rows of one width do not overlap, and each number belongs to a bit.
use Rattle.std.proofs.Common.{◌≡◌, ℕ, suc, ◌+◌, ◌*◌, ◌/◌, ◌%◌, ◌<◌, ◌≤◌, ap, arith, inl, inr}
use Rattle.std.proofs.Math.Nat.{mul-suc, mul-le-mul_left, lt_of_mul-lt-mul_left}
use Rattle.std.proofs.lemmas.Bool.{cases_eq, cases_lt}
use Rattle.cc_bits.specs.Rows.{key, most_width, most_rows, most_words}

-- a row ends where the next one begins, or before
pub next_row : (w r n : ℕ) → r < n → w * r + w ≤ w * n
next_row w r n h = let a = mul-le-mul_left {m = suc r} {n = n} w h in let b = mul-suc w r in omega (arith, a, b)

-- the end of a row is within the greatest length
pub row_small : (w r : ℕ) → w ≤ most_width → r < most_rows → w * r + w ≤ most_words
row_small w r h k = let a = next_row w r most_rows k in let b : w * most_rows ≤ 16 * most_rows = omega (arith, h) in omega (arith, a, b)

-- each place in a table has its own number
pub same_key : (w r c i j : ℕ) → c < 64 * w → j < 64 * w → key w r c ≡ key w i j → (r ≡ i) × (c ≡ j)
same_key w r c i j h k e = elim (cases_lt r i) [
  | inl lt ↦ absurd (let n = next_row w r i lt in omega (arith, n))
  | inr ge ↦ elim (cases_lt i r) [
    | inl lt ↦ absurd (let n = next_row w i r lt in omega (arith, n))
    | inr le ↦ (let same : r ≡ i = omega arith in (same, (let m = ap (λ x. w * x) same in omega (arith, m))))
  ]
]

-- each number below the end of n rows is the number of a bit
pub of_key : (w n k : ℕ) → k < 64 * (w * n) → (r c : ℕ) × (r < n) × (c < 64 * w) × (key w r c ≡ k)
of_key w n k h = elim (cases_eq w 0) [
  | inl none ↦ absurd (let z : w * n ≡ 0 * n = ap (λ x. x * n) none in omega (arith, z))
  | inr some ↦
      let q = k / 64 in
      let r = q / w in
      let parts : w * (q / w) + q % w ≡ q = omega arith in
      let rest : q % w < w = omega arith in
      (r, 64 * (q % w) + k % 64, lt_of_mul-lt-mul_left w {m = r} {n = n} (omega (arith, parts)), omega (arith, rest), omega (arith, parts))
]
