-- The lines of an input.
use Rattle.std.specs.Prelude.{◌≡◌, ◌≢◌, ◌<◌, ◌≤◌, ℕ, List, [], length, Option, Some, None, IfSome}
use Rattle.std.specs.Io.BufRead.{drop_through, first_piece}
use Rattle.cc_runs.specs.declared.reading.ReadLine.{ReadLine}
use Rattle.cc_runs.specs.declared.reading.ReadLine.TheVariants.{Whole, TooLong}

-- The first line of the bytes that are left, without its newline, if it has at most 16,777,216 bytes; or it has more. The bytes after it are
-- left then. Or no line, if no bytes are left.
abbrev pub IsNextLine : (before after : Option (List ℕ)) (bytes : List ℕ) → Option ReadLine → Type 0
IsNextLine before after bytes (Some Whole) = IfSome before (λ input.
    (input ≢ []) × (bytes ≡ first_piece 10 input) × (length (first_piece 10 input) ≤ 16777216) × (after ≡ Some (drop_through 10 input)))
IsNextLine before after bytes (Some TooLong) = IfSome before (λ input. (16777216 < length (first_piece 10 input)) × (after ≡ Some (drop_through 10 input)))
IsNextLine before after bytes None = IfSome before (λ input. input ≡ [])
