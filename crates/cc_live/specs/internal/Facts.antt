-- Rows of registers ordered by what they hold, and the backward step over a node.
use Rattle.std.specs.Prelude.{◌≡◌, ℕ, zero, suc, ◌*◌, ◌/◌, ◌%◌, ◌^◌, List, [], ◌∷◌, ◌++◌, length, replicate, Contains, Bool, false, IsTrue, ◌==◌, ◌&&◌, ◌≢◌, not, if◌then◌else◌, Option, Some, None}
use Rattle.std.specs.Int.RustNames.{bit_or}
use Rattle.cc_rtl_language.specs.Rtl.{Labelled, Node, node_at}
use Rattle.cc_rtl_language.specs.Live.{Sets, reads, result, pure_result, live_behind, is_dead}
use Rattle.cc_bits.specs.Rows.{holds}

-- the second row holds all that the first one holds
abbrev pub Below : List ℕ → List ℕ → Type 0
Below a b = (r : ℕ) → IsTrue (holds a r) → IsTrue (holds b r)

abbrev pub nothing : List ℕ
nothing = []

-- the row that holds what either row holds
abbrev pub either : List ℕ → List ℕ → List ℕ
either [] b = b
either (x ∷ a) [] = x ∷ a
either (x ∷ a) (y ∷ b) = bit_or x y ∷ either a b

-- a row with only one register, and a row with some more
abbrev pub single : (register : ℕ) → List ℕ
single r = replicate (r / 64) 0 ++ 2 ^ (r % 64) ∷ []

abbrev pub with_all : List ℕ → (row : List ℕ) → List ℕ
with_all [] row = row
with_all (r ∷ rs) row = either (single r) (with_all rs row)

-- the registers of a row that are below n and pass a test; then all registers of the row that pass it
abbrev pub chosen : (test : ℕ → Bool) → (row : List ℕ) → (n : ℕ) → List ℕ
chosen test row zero = []
chosen test row (suc n) = if holds row n && test n then n ∷ chosen test row n else chosen test row n

unfoldable pub those : (test : ℕ → Bool) → (row : List ℕ) → List ℕ
those test row = with_all (chosen test row (64 * length row)) []

abbrev pub but_for : Option ℕ → List ℕ → List ℕ
but_for None row = row
but_for (Some r) row = those (λ x. not (r == x)) row

abbrev pub is_result : Option ℕ → (register : ℕ) → Bool
is_result None r = false
is_result (Some to) r = to == r

-- ---- from what is live after a node to what is live before it; if `strong` is set, a dead node adds nothing

abbrev pub is_unread : (behind : List ℕ) → Option ℕ → Bool
is_unread behind None = false
is_unread behind (Some to) = not (holds behind to)

abbrev pub live_before : (strong : Bool) → Node → (behind : List ℕ) → List ℕ
live_before strong node behind = if strong && is_unread behind (pure_result node) then behind else with_all (reads node) (but_for (result node) behind)

abbrev pub carries : (strong : Bool) → List Labelled → (position : ℕ) → List ℕ → List ℕ
carries strong [] i behind = nothing
carries strong (n ∷ ns) zero behind = live_before strong n.node behind
carries strong (n ∷ ns) (suc i) behind = carries strong ns i behind

-- ---- both kinds of live sets in one definition

pub record CarriesAs (strong : Bool) (live : Sets) (node : Node) (own : ℕ → Bool) : Type 0 where
  pub needed : (strong && is_dead live node) ≡ false → (r : ℕ) → Contains (reads node) r → IsTrue (own r)
  pub inherited : (r : ℕ) → IsTrue (live_behind live node r) → result node ≢ Some r → IsTrue (own r)

abbrev pub AreLiveAs : (strong : Bool) → List Labelled → Sets → Type 0
AreLiveAs strong nodes live = (label : ℕ) (node : Node) → node_at nodes label ≡ Some node → CarriesAs strong live node (live label)

pub record AreLeastAs (strong : Bool) (nodes : List Labelled) (live : Sets) : Type 0 where
  pub are_live : AreLiveAs strong nodes live
  pub least : (other : Sets) → AreLiveAs strong nodes other → (label r : ℕ) → IsTrue (live label r) → IsTrue (other label r)
