-- Serving in generations: how they follow one another.
use Rattle.std.specs.Prelude.{◌≡◌, ◌⊎◌, ℕ, zero, suc, List}
use Rattle.cc_session.specs.declared.end.SessionEnd.{SessionEnd}
use Rattle.cc_session.specs.declared.end.SessionEnd.TheVariants.{Finished, Fault}
use Rattle.cc_session.specs.Spooling.{Given}

-- How a generation can end so that another one begins after it, if `before` generations came before it: without a fault, or with
-- 40 or 41, which may pass; the first generation only without a fault.
abbrev pub GoesOn : (before : ℕ) → SessionEnd → Type 0
GoesOn before Finished = Unit {0}
GoesOn zero (Fault number) = ⊥
GoesOn (suc before) (Fault number) = (number ≡ 40) ⊎ (number ≡ 41)

-- How serving on ends if it began with this disk and these spools, each generation ends as `Ends` says, and `earlier` generations
-- came before the last. The first generation begins with that disk and those spools, each later one with the disk and spools that
-- the one before it left.
abbrev pub ServesOn : {D : Type 0} (Ends : (spools_before spools_after : List Given) (before after : D) → SessionEnd → Type 0) (earlier : ℕ)
    (spools_before spools_after : List Given) (before after : D) → SessionEnd → Type 0
ServesOn Ends zero spools_before spools_after before after end = Ends spools_before spools_after before after end
ServesOn {D} Ends (suc earlier) spools_before spools_after before after end =
    (spools : List Given) × (between : D) × (ended : SessionEnd) × GoesOn earlier ended × ServesOn Ends earlier spools_before spools before between ended
    × Ends spools spools_after between after end
