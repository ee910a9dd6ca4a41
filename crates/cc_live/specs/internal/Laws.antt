-- The laws of rows, as lemmas: rows form a lattice, and the step over a node is monotone.
use Rattle.std.proofs.Common.{◌≡◌, ℕ, zero, suc, List, [], ◌∷◌, sym, ◌∙◌, Bool, true, false, ◌||◌, IsTrue}
use Rattle.std.proofs.lemmas.Bool.{or_left, or_right}
use Rattle.cc_flow.specs.Lattice.{IsLattice, Equivalent}
use Rattle.cc_rtl_language.specs.Rtl.{Labelled}
use Rattle.cc_bits.specs.Rows.{holds}
use Rattle.cc_live.specs.internal.Facts.{Below, nothing, either, carries}
use Rattle.cc_bits.specs.internal.Holding.{holds-nothing}
use Rattle.cc_live.specs.internal.Holding.{holds-either, live_before_up}

pub laws : IsLattice Below nothing either
laws = record { reflexive = λ x r h. h; transitive = λ x y z h i r k. i r (h r k); least = least; first = first; second = second; within = within }
  where
    least : (x : List ℕ) → Below nothing x
    least x r h = absurd (let n = holds-nothing r in cc)

    first : (x y : List ℕ) → Below x (either x y)
    first x y r h = holds-either x y r ∙ or_left (holds x r) (holds y r) h

    second : (x y : List ℕ) → Below y (either x y)
    second x y r h = holds-either x y r ∙ or_right (holds x r) (holds y r) h

    one_of : (a b c : Bool) → (IsTrue a → IsTrue c) → (IsTrue b → IsTrue c) → IsTrue (a || b) → IsTrue c
    one_of true b c f g h = f h
    one_of false b c f g h = g h

    within : (x y z : List ℕ) → Below x z → Below y z → Below (either x y) z
    within x y z h i r k = one_of (holds x r) (holds y r) (holds z r) (h r) (i r) (sym (holds-either x y r) ∙ k)

-- rows that hold the same are equivalent
pub same_rows : (a b : List ℕ) → ((r : ℕ) → holds a r ≡ holds b r) → Equivalent Below a b
same_rows a b h = (λ r i. sym (h r) ∙ i, λ r i. h r ∙ i)

pub carries_up : (strong : Bool) (nodes : List Labelled) (i : ℕ) (x y : List ℕ) → Below x y → Below (carries strong nodes i x) (carries strong nodes i y)
carries_up strong [] i x y h = λ r k. k
carries_up strong (n ∷ ns) zero x y h = live_before_up strong n.node x y h
carries_up strong (n ∷ ns) (suc i) x y h = carries_up strong ns i x y h
