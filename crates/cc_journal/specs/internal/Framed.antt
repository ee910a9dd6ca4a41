-- What is true of the bytes that are kept for a body: they are the body itself, or everything after the gate of its record.
use Rattle.std.specs.Prelude.{◌≡◌, ℕ, ◌<◌, ◌^◌, Bool, true, false, List, length}
use Rattle.cc_journal.specs.Commit.{behind_gate}

-- if `is_framed` is true, the bytes are what comes after the gate of some record
abbrev pub IsFramed : (is_framed : Bool) (bytes : List ℕ) → Type 0
IsFramed false bytes = Unit {0}
IsFramed true bytes = (body : List ℕ) × (length body < 2 ^ 32) × (bytes ≡ behind_gate body)
