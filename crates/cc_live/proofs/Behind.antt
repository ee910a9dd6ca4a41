-- What is live after a node according to some live sets and according to larger ones; and whether a result is read, according to
-- a row that holds the same.
use Rattle.std.proofs.Common.{◌≡◌, ℕ, zero, suc, List, [], ◌∷◌, refl, ap, ◌∙◌, Bool, true, false, ◌&&◌, not, IsTrue, arith, inl, inr, Contains}
use Rattle.std.specs.Prelude.{Option, Some, None}
use Rattle.std.proofs.lemmas.Bool.{or_cases, or_left, or_right}
use Rattle.cc_rtl_language.specs.Rtl.{Node, successors}
use Rattle.cc_rtl_language.specs.Live as rtl
use Rattle.cc_rtl_language.specs.Live.{Sets, in_some, live_behind, is_dead, pure_result}
use Rattle.cc_bits.specs.Rows.{holds}
use Rattle.cc_live.specs.Liveness.{LieWithin}
use Rattle.cc_live.specs.internal.Facts.{is_unread}

-- ---- some of the labels

pub in_one : (live : Sets) (labels : List ℕ) (r : ℕ) → IsTrue (in_some live labels r) → (s : ℕ) × Contains labels s × IsTrue (live s r)
in_one live [] r h = absurd cc
in_one live (s ∷ ss) r h = elim (or_cases (live s r) (in_some live ss r) h) [
  | inl here ↦ (s, (0, omega arith, refl), here)
  | inr later ↦ (let m = in_one live ss r later in let i = m.1 in (m.0, (suc i.0, (let l = i.1 in omega arith), i.2), m.2))
]

pub one_in : (live : Sets) (labels : List ℕ) (s r : ℕ) → Contains labels s → IsTrue (live s r) → IsTrue (in_some live labels r)
one_in live [] s r (k, l, e) h = absurd (omega arith)
one_in live (t ∷ ss) s r (zero, l, e) h = or_left (live t r) (in_some live ss r) (ap (λ x. live x r) e ∙ h)
one_in live (t ∷ ss) s r (suc k, l, e) h = or_right (live t r) (in_some live ss r) (one_in live ss s r (k, omega arith, e) h)

-- larger live sets have more after a node
pub behind_less : (live other : Sets) → LieWithin live other → (n : Node) (r : ℕ) → IsTrue (live_behind live n r) → IsTrue (live_behind other n r)
behind_less live other less n r h = let s = in_one live (successors n) r h in one_in other (successors n) s.0 r s.1 (less s.0 r s.2)

-- ---- whether a result is read

not_less : (a b : Bool) → (IsTrue a → IsTrue b) → not a ≡ false → not b ≡ false
not_less true b h e = ap not (h refl)
not_less false b h e = absurd cc

-- a result that was read is still read if more is live
pub read_behind_less : (live other : Sets) (n : Node) → ((r : ℕ) → IsTrue (live_behind live n r) → IsTrue (live_behind other n r)) → is_dead live n ≡ false → is_dead other n ≡ false
read_behind_less live other n h = go (pure_result n)
  where
    go : (o : Option ℕ) → rtl.is_unread live n o ≡ false → rtl.is_unread other n o ≡ false
    go None e = refl
    go (Some to) e = not_less (live_behind live n to) (live_behind other n to) (h to) e

pub read_less : (row : List ℕ) (other : Sets) (n : Node) (strong : Bool) → ((r : ℕ) → IsTrue (holds row r) → IsTrue (live_behind other n r)) → (strong && is_unread row (pure_result n)) ≡ false → (strong && is_dead other n) ≡ false
read_less row other n false h e = refl
read_less row other n true h e = go (pure_result n) e
  where
    go : (o : Option ℕ) → is_unread row o ≡ false → rtl.is_unread other n o ≡ false
    go None f = refl
    go (Some to) f = not_less (holds row to) (live_behind other n to) (h to) f

-- the row and the live sets agree on whether a result is read, if they hold the same after the node
pub read_same : (row : List ℕ) (live : Sets) (n : Node) → ((r : ℕ) → holds row r ≡ live_behind live n r) → is_unread row (pure_result n) ≡ is_dead live n
read_same row live n h = go (pure_result n)
  where
    go : (o : Option ℕ) → is_unread row o ≡ rtl.is_unread live n o
    go None = refl
    go (Some to) = ap not (h to)
