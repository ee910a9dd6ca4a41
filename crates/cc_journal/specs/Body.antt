-- The body in the bytes that are kept for it, which are the body itself or everything after the gate of its record.
use Rattle.std.specs.Prelude.{ℕ, ◌-◌, Bool, true, false, List, length, take, drop}

-- the body in these bytes
abbrev pub body_in : (is_framed : Bool) (bytes : List ℕ) → List ℕ
body_in false bytes = bytes
body_in true bytes = take (length bytes - 5) (drop 4 bytes)
