-- Which fault an answer reports last.
use Rattle.std.specs.Prelude.{ℕ, Bool, true, false, if◌then◌else◌, List, Option, Some, None}
use Rattle.cc_spool.specs.Answer.{between, read_bytes}
use Rattle.cc_spool.specs.declared.lines.Place.{Place}
use Rattle.cc_spool.specs.declared.lines.Place.TheVariants.{Within, Behind, Broken}
use Rattle.cc_spool.specs.declared.lines.Lines.{Lines}

-- whether the next byte lies within a source, or after a source that no newline ended
abbrev pub is_within : Place → Bool
is_within (Within left) = true
is_within Behind = true
is_within Broken = true
is_within place = false

-- the fault that is reported last if an answer ends here: 55 if it ends within a source
abbrev pub last_told : Lines → Option ℕ
last_told lines = if is_within lines.place then Some 55 else lines.last

-- the fault that an answer reports last, if it reports one
abbrev pub tells : (answer : List ℕ) → Option ℕ
tells answer = last_told (read_bytes (between None) answer)
