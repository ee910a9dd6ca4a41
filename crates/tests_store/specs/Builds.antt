-- Two builds: one in which each source has one or two pieces and the first holds the unit, and one that makes nothing.
use Rattle.std.specs.Prelude.{ℕ, ◌≡◌, Bool, true, false, List, [], ◌∷◌, length, Result, Ok, Err, All, if◌then◌else◌, ◌==◌, refl}
use Rattle.std.proofs.Common.{sym, ap, subst, ◌∙◌, cond, arith}
use Rattle.cc_unit.specs.declared.unit.StoredUnit.{StoredUnit}
use Rattle.cc_core.specs.Rules.{Rules, AreWhole}

-- what contracts see of a piece: its unit, and which piece of the source it is
abbrev pub Seen : Type 0
Seen = StoredUnit × ℕ

-- a source that begins with `#` is refused with 11; one that begins with `2` has two pieces, and any other has one
abbrev pub plan : List ℕ → Result ℕ ℕ
plan [] = Ok 1
plan (first ∷ later) = if first == 35 then Err 11 else (if first == 50 then Ok 2 else Ok 1)

-- the unit, unless the source begins with `!`: such a source is refused with 25
abbrev pub linked : List ℕ → StoredUnit → Result StoredUnit ℕ
linked [] unit = Ok unit
linked (first ∷ later) unit = if first == 33 then Err 25 else Ok unit

-- the unit of the first piece, or 26 if there are no pieces
abbrev pub unit_of : List ℕ → List Seen → Result StoredUnit ℕ
unit_of source [] = Err 26
unit_of source (piece ∷ later) = linked source piece.0

-- the rules of the build of few pieces
abbrev pub rules : Rules Seen
rules = record { plan = λ source answer. answer ≡ plan source; source_of = λ piece. piece.0.source; part_of = λ piece. piece.1; unit = unit_of }

pub planned : (source : List ℕ) → (answer : Result ℕ ℕ) × rules.plan source answer
planned source = (plan source, refl)

-- the image has one code word, the length of the source
abbrev pub is_right : StoredUnit → Type 0
is_right unit = unit.image.code ≡ length unit.source ∷ []

-- the unit of a piece is right
abbrev pub keeps : Seen → Type 0
keeps piece = is_right piece.0

chosen : (b : Bool) (u v : StoredUnit) → cond {A = Result StoredUnit ℕ} b (Err 25) (Ok u) ≡ Ok v → u ≡ v
chosen true u v is = absurd (cc)
chosen false u v is = cc

linked_same : (source : List ℕ) (u v : StoredUnit) → linked source u ≡ Ok v → u ≡ v
linked_same [] u v is = cc
linked_same (first ∷ later) u v is = chosen (first == 33) u v is

-- if pieces are all the pieces of a source, the unit of the first one has this source and is right
pub law : (source : List ℕ) (pieces : List Seen) (unit : StoredUnit) → AreWhole rules source pieces → All keeps pieces → unit_of source pieces ≡ Ok unit → (unit.source ≡ source) × is_right unit
law source [] unit whole kept is = absurd (cc)
law source (piece ∷ later) unit whole kept is =
    let same = linked_same source piece.0 unit is in
    (ap (λ (u : StoredUnit). u.source) (sym same) ∙ (whole.named 0 piece refl).0, subst is_right same (kept 0 piece (omega arith)))

-- ---- the build that makes nothing

-- each source is refused with 11
abbrev pub nothing : Rules Seen
nothing = record { plan = λ source answer. answer ≡ Err 11; source_of = λ piece. piece.0.source; part_of = λ piece. piece.1; unit = λ source pieces. Err 11 }

pub nothing_planned : (source : List ℕ) → (answer : Result ℕ ℕ) × nothing.plan source answer
nothing_planned source = (Err 11, refl)

-- any unit is right
abbrev pub is_anything : StoredUnit → Type 0
is_anything unit = Unit {0}

pub nothing_law : (source : List ℕ) (pieces : List Seen) (unit : StoredUnit) → AreWhole nothing source pieces → All keeps pieces → nothing.unit source pieces ≡ Ok unit → (unit.source ≡ source) × is_anything unit
nothing_law source pieces unit whole kept is = absurd (cc)
