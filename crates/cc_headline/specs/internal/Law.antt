-- The laws that the trait requires of a build: each source has a plan, and a unit made from all pieces of a source is right.
use Rattle.std.specs.Prelude.{ℕ, ◌≡◌, Bool, true, false, List, [], ◌∷◌, Result, Ok, Err, All, refl}
use Rattle.std.proofs.Common.{sym, subst, ◌∙◌, cond, arith}
use Rattle.cc_ast.specs.Source.{source}
use Rattle.cc_unit.specs.declared.unit.StoredUnit.{StoredUnit}
use Rattle.cc_emit.specs.Piece.{Piece}
use Rattle.cc_link.specs.Agree.{Agree}
use Rattle.cc_link.specs.declared.fault.LinkFault.{LinkFault}
use Rattle.cc_link.specs.Linked.{same_bytes, linked_in}
use Rattle.cc_core.specs.Rules.{AreWhole}
use Rattle.cc_syntax.proofs.Determined.{texts_have_answers}
use Rattle.cc_typing.proofs.Determined.{texts_have_verdicts}
use Rattle.cc_headline.specs.Plan.{pieces_of, IsPlan}
use Rattle.cc_headline.specs.Compiling.{numbered, unit_of, text_of, compiling, is_right, Keeps}

-- a text has a verdict, and the plan follows from it
pub sources_are_planned : (text : List ℕ) → (plan : Result ℕ ℕ) × IsPlan text plan
sources_are_planned text =
    let v = texts_have_verdicts texts_have_answers text in
    (pieces_of v.0, ∣ record { verdict = v.0; is = v.1; plan_is = refl } ∣₁)

-- if the numbered result is this unit, the result is this unit
is_unit : (r : Result StoredUnit LinkFault) (u : StoredUnit) → numbered r ≡ Ok u → r ≡ Ok u
is_unit (Ok v) u is = cc
is_unit (Err fault) u is = absurd (cc)

chosen : (b : Bool) (r : Result StoredUnit ℕ) (u : StoredUnit) → cond {A = Result StoredUnit ℕ} b r (Err 28) ≡ Ok u → r ≡ Ok u
chosen true r u is = is
chosen false r u is = absurd (cc)

-- if pieces are all the pieces of a source, the unit made from them has this source and agrees with it
pub whole_units_agree : (text : List ℕ) (pieces : List Piece) (unit : StoredUnit) → AreWhole compiling text pieces → All Keeps pieces → unit_of text pieces ≡ Ok unit → (unit.source ≡ text) × is_right unit
whole_units_agree text [] unit whole kept is = absurd (cc)
whole_units_agree text (piece ∷ pieces) unit whole kept is =
    let keep : Keeps piece = kept 0 piece (omega arith) in
    let linked_so = is_unit (linked_in piece.mode (source piece.unit) (piece ∷ pieces)) unit (chosen (same_bytes (text_of piece) text) (numbered (linked_in piece.mode (source piece.unit) (piece ∷ pieces))) unit is) in
    let followed = keep.follow piece.mode (source piece.unit) (piece ∷ pieces) unit keep.compiled.spelled keep.compiled.checked (λ k d lt. (kept k d lt).compiled.of_unit) linked_so in
    let agreed = keep.agree piece.mode (text_of piece) unit.image followed.1 in
    (followed.0 ∙ (whole.named 0 piece refl).0, subst (λ (z : List ℕ). Agree z unit.image) (sym followed.0) agreed)
