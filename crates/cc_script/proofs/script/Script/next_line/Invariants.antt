-- What was read so far is at the start of the line, and has no newline.
use Rattle.std.proofs.Common.{◌≡◌, ◌≢◌, ◌+◌, length, take}
use Rattle.std.specs.Prelude.{All}
use Rattle.std.specs.Io.KnownBytes.{Consumes}
use Rattle.cc_script.specs.Reading.{ahead_of}
use Rattle.cc_script.proofs.script.Script.next_line.Given as goal

abbrev pub invariant-loop-length : goal.invariant-loop-length
invariant-loop-length g l = record {
  whole : length l.line ≡ 128;
  none : All (λ b. b ≢ 10) (take l.length l.line);
  left : l.self.left + l.length ≡ l.initial.self.left;
  bytes : Consumes ((ahead_of l.initial.self (g.R.Read.remaining l.initial.reader)).rest)
      ((ahead_of l.self (g.R.Read.remaining l.reader)).rest) (take l.length l.line);
}
