-- A further generation goes on from what the earlier ones left. Between two generations each spool was asked whether it is
-- over, which changes nothing.
use Rattle.std.proofs.Common.{◌≡◌, ℕ, zero, suc, List, refl, sym, subst}
use Rattle.cc_spool.specs.Spool.{Delivered, Taken}
use Rattle.cc_session.specs.Generations.{GoesOn, ServesOn}
use Rattle.cc_session.specs.Spooling.{Given, given_by}
use Rattle.cc_session.specs.declared.end.SessionEnd.{SessionEnd}
use Rattle.cc_session.specs.declared.end.SessionEnd.TheVariants.{Finished, Fault}

-- two spools that took the same scripts and were handed the same answers have the same `Given`
pub same_given : {S : Type 0} (taken : S → List Taken) (ended : S → List Delivered) (x y : S) → taken x ≡ taken y → ended x ≡ ended y
    → given_by taken ended x ≡ given_by taken ended y
same_given taken ended x y one two = λ i. record { taken = one i; ended = two i }

-- the first generation ended well
abbrev pub BeginsWell : (earlier : ℕ) → SessionEnd → Type 0
BeginsWell zero end = GoesOn zero end
BeginsWell (suc earlier) end = Unit {0}

-- a generation that ended like this can be followed by another one
pub goes_on_by : (earlier : ℕ) (end : SessionEnd) → BeginsWell earlier end → GoesOn (suc zero) end → GoesOn earlier end
goes_on_by zero end well may = well
goes_on_by (suc earlier) Finished well may = tt
goes_on_by (suc earlier) (Fault number) well may = may

module _ {D : Type 0} (Ends : List Given → List Given → D → D → SessionEnd → Type 0) (earlier : ℕ) where
  -- serving goes on the same if what was left is unchanged
  pub serves_still : (before left now : List Given) (first between later : D) (ended end : SessionEnd) → now ≡ left → later ≡ between → end ≡ ended
      → ServesOn Ends earlier before left first between ended → ServesOn Ends earlier before now first later end
  serves_still before left now first between later ended end same kept told chain =
      subst (λ (e : SessionEnd). ServesOn Ends earlier before now first later e) (sym told)
      (subst (λ (d : D). ServesOn Ends earlier before now first d ended) (sym kept) (subst (λ (g : List Given). ServesOn Ends earlier before g first between ended) (sym same) chain))

  pub serves_one_more : (before left now after : List Given) (first between later last : D) (ended end : SessionEnd) → GoesOn earlier ended → now ≡ left → later ≡ between
      → ServesOn Ends earlier before left first between ended → Ends now after later last end → ServesOn Ends (suc earlier) before after first last end
  serves_one_more before left now after first between later last ended end on same kept chain one = (
    now,
    later,
    ended,
    on,
    serves_still before left now first between later ended ended same kept refl chain,
    one,
  )
