-- The law of the pass.
use Rattle.std.specs.Prelude.{ℕ, suc}
use Rattle.cc_simulation.specs.Meaning.{Meaning}
use Rattle.cc_simulation.specs.Tracks.{Tracks}
use Rattle.cc_cminor_language.specs.Cminor.{Statement, cminor_move, cminor_output, cminor_start}
use Rattle.cc_cminor_language.specs.Breaks.{TracksOrBreaks}
use Rattle.cc_guard.specs.Guard.{guarded_function}
use Rattle.cc_guard.specs.internal.Fits.{Fits, KeepsSizes}

-- If code keeps up with a meaning, or breaks while the meaning is not finished, then the guarded code keeps up with the
-- meaning, at the same rate. The code reads only variables below n, and the guards set variables from n on.
abbrev pub GuardedKeepsUp : Type 0
GuardedKeepsUp =
    (meaning : Meaning) → KeepsSizes meaning → (f rate n : ℕ) (s : Statement) → Fits n 0 s
    → TracksOrBreaks meaning f (suc rate) cminor_move cminor_output (cminor_start s)
    → Tracks meaning f (suc rate) cminor_move cminor_output (cminor_start (guarded_function meaning.objects n s))
