-- How often a row can still grow: once for each register that it lacks.
use Rattle.std.specs.Prelude.{ℕ, zero, suc, ◌+◌, ◌≤◌, ◌<◌, ◌^◌, List, IsTrue, Bool, true, false, if◌then◌else◌}
use Rattle.std.proofs.Common.{arith, ◌≡◌, refl, ap, sym, subst, ◌∙◌, inl, inr}
use Rattle.std.proofs.lemmas.Bool.{cases_eq}
use Rattle.cc_bits.specs.Rows.{holds}
use Rattle.cc_live.specs.internal.Facts.{Below, nothing}

-- a row has at most this many words: as many as all register numbers need
abbrev pub most_words : ℕ
most_words = 2 ^ 26

-- how many registers below n a row lacks
abbrev pub missing : List ℕ → (n : ℕ) → ℕ
missing row zero = 0
missing row (suc n) = (if holds row n then 0 else 1) + missing row n

unfoldable pub room : List ℕ → ℕ
room row = missing row (2 ^ 32)

abbrev pub height : ℕ
height = 2 ^ 32

missing_le : (row : List ℕ) (n : ℕ) → missing row n ≤ n
missing_le row zero = omega arith
missing_le row (suc n) = go (holds row n) (missing_le row n)
  where
    go : (b : Bool) → missing row n ≤ n → (if b then 0 else 1) + missing row n ≤ suc n
    go true h = omega arith
    go false h = omega arith

pub bounded : room nothing ≤ height
unfolding room
bounded = missing_le nothing (2 ^ 32)

-- if one of two rows holds more, it lacks no more than the other, and less if it holds one register more
no_more : (a b : List ℕ) (n : ℕ) → Below a b → missing b n ≤ missing a n
no_more a b zero h = omega arith
no_more a b (suc n) h = go (holds a n) (holds b n) refl refl (no_more a b n h)
  where
    go : (p q : Bool) → holds a n ≡ p → holds b n ≡ q → missing b n ≤ missing a n → (if q then 0 else 1) + missing b n ≤ (if p then 0 else 1) + missing a n
    go true true e f le = omega arith
    go false true e f le = omega arith
    go false false e f le = omega arith
    go true false e f le = absurd (let i = h n e in cc)

less : (a b : List ℕ) (n r : ℕ) → Below a b → r < n → holds a r ≡ false → IsTrue (holds b r) → missing b n < missing a n
less a b zero r h lt out there = absurd (omega arith)
less a b (suc n) r h lt out there = elim (cases_eq r n) [
  | inl same ↦ here (ap (holds a) (sym same) ∙ out) (ap (holds b) (sym same) ∙ there) (no_more a b n h)
  | inr other ↦ further (holds a n) (holds b n) refl refl (less a b n r h (omega arith) out there)
]
  where
    here : holds a n ≡ false → holds b n ≡ true → missing b n ≤ missing a n → (if holds b n then 0 else 1) + missing b n < (if holds a n then 0 else 1) + missing a n
    here e f le = subst (λ q. (if q then 0 else 1) + missing b n < (if holds a n then 0 else 1) + missing a n) (sym f) (subst (λ p. (if true then 0 else 1) + missing b n < (if p then 0 else 1) + missing a n) (sym e) (omega arith))

    further : (p q : Bool) → holds a n ≡ p → holds b n ≡ q → missing b n < missing a n → (if q then 0 else 1) + missing b n < (if p then 0 else 1) + missing a n
    further true true e f lt = omega arith
    further false true e f lt = omega arith
    further false false e f lt = omega arith
    further true false e f lt = absurd (let i = h n e in cc)

pub room_falls : (a b : List ℕ) (r : ℕ) → Below a b → r < 2 ^ 32 → holds a r ≡ false → IsTrue (holds b r) → room b < room a
unfolding room
room_falls a b r h lt out there = less a b (2 ^ 32) r h lt out there
