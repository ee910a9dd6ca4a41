-- Sets of three variables, and how a node changes such a set.
use Rattle.std.proofs.Common.{◌≡◌, ℕ, ◌+◌, List, get_or, Bool, true, false, not, ◌||◌, ◌&&◌, cond, IsTrue, refl}
use Rattle.cc_flow.specs.Lattice.{IsLattice}
use Rattle.tests_passes.specs.declared.flow.live.Live.{Live}
use Rattle.tests_passes.specs.declared.flow.live.Node.{Node}

abbrev pub implies : Bool → Bool → Type 0
implies x y = IsTrue x → IsTrue y

abbrev pub below : Live → Live → Type 0
below x y = implies x.a y.a × implies x.b y.b × implies x.c y.c

abbrev pub none : Live
none = record { a = false; b = false; c = false }

abbrev pub both : Live → Live → Live
both x y = record { a = x.a || y.a; b = x.b || y.b; c = x.c || y.c }

-- how many variables are not in the set
abbrev pub room : Live → ℕ
room x = cond x.a 0 1 + cond x.b 0 1 + cond x.c 0 1

or_first : (x y : Bool) → implies x (x || y)
or_first true y h = refl
or_first false y h = absurd (cc)

or_second : (x y : Bool) → implies y (x || y)
or_second true y h = refl
or_second false y h = h

or_within : (x y z : Bool) → implies x z → implies y z → implies (x || y) z
or_within true y z h i = h
or_within false y z h i = i

from_none : (x : Bool) → implies false x
from_none x h = absurd (cc)

pub laws : IsLattice below none both
laws = record {
  reflexive = λ x. (λ h. h, λ h. h, λ h. h);
  transitive = λ x y z h i. (λ k. i.0 (h.0 k), λ k. i.1 (h.1 k), λ k. i.2 (h.2 k));
  least = λ x. (from_none x.a, from_none x.b, from_none x.c);
  first = λ x y. (or_first x.a y.a, or_first x.b y.b, or_first x.c y.c);
  second = λ x y. (or_second x.a y.a, or_second x.b y.b, or_second x.c y.c);
  within = λ x y z h i. (or_within x.a y.a z.a h.0 i.0, or_within x.b y.b z.b h.1 i.1, or_within x.c y.c z.c h.2 i.2);
}

-- a variable is live before a node that reads it, and before one that does not write it if it is live after that node
abbrev pub live_before : (reads writes : Bool) → Bool → Bool
live_before reads writes behind = reads || (behind && not writes)

abbrev pub carried : List Node → ℕ → Live → Live
carried nodes node x =
    let n = get_or nodes node (record { reads = none; writes = none }) in
    record { a = live_before n.reads.a n.writes.a x.a; b = live_before n.reads.b n.writes.b x.b; c = live_before n.reads.c n.writes.c x.c }

live_before_up : (reads writes x y : Bool) → implies x y → implies (live_before reads writes x) (live_before reads writes y)
live_before_up true writes x y h i = refl
live_before_up false writes true true h i = i
live_before_up false writes true false h i = absurd (let k = h refl in cc)
live_before_up false writes false y h i = absurd (cc)

pub carried_up : (nodes : List Node) (node : ℕ) (x y : Live) → below x y → below (carried nodes node x) (carried nodes node y)
carried_up nodes node x y h =
    let n = get_or nodes node (record { reads = none; writes = none }) in
    (live_before_up n.reads.a n.writes.a x.a y.a h.0, live_before_up n.reads.b n.writes.b x.b y.b h.1, live_before_up n.reads.c n.writes.c x.c y.c h.2)
