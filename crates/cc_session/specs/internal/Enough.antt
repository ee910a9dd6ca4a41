-- When a generation ends.
use Rattle.std.specs.Prelude.{◌≡◌, ◌⊎◌, ◌≤◌}
use Rattle.cc_session.specs.declared.bounds.Bounds.{Bounds}
use Rattle.cc_session.specs.declared.bounds.Counts.{Counts}

-- No client is to take a further script: at least one was taken, and either the bytes reached `ends` and no script is being done,
-- or the bytes reached `most`, or the number of scripts reached its bound.
abbrev pub IsEnough : Bounds → Counts → Type 0
IsEnough bounds counts =
    (1 ≤ counts.scripts)
    × (((bounds.ends ≤ counts.bytes) × (counts.doing ≡ 0)) ⊎ ((bounds.most ≤ counts.bytes) ⊎ (bounds.scripts ≤ counts.scripts)))
