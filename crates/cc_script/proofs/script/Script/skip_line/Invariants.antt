-- Each turn reads one of the bytes that the script may still have, and it is not a newline.
use Rattle.std.proofs.Common.{◌≡◌, ◌≢◌, ◌+◌, ℕ, List, length}
use Rattle.std.specs.Prelude.{All}
use Rattle.std.specs.Io.KnownBytes.{Consumes}
use Rattle.cc_script.specs.Reading.{ahead_of}
use Rattle.cc_script.proofs.script.Script.skip_line.Given as goal

abbrev pub invariant-loop-byte : goal.invariant-loop-byte
invariant-loop-byte g l = (bytes : List ℕ) × All (λ b. b ≢ 10) bytes
    × Consumes ((ahead_of l.initial.self (g.R.Read.remaining l.initial.reader)).rest)
    ((ahead_of l.self (g.R.Read.remaining l.reader)).rest) bytes × (l.self.left + length bytes ≡ l.initial.self.left)

abbrev pub decreases-loop-byte : goal.decreases-loop-byte
decreases-loop-byte g l = l.self.left
