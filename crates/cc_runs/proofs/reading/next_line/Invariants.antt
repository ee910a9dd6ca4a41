-- What was read so far is in the line, and has no newline.
use Rattle.std.proofs.Common.{◌≡◌, ◌≢◌, length}
use Rattle.std.specs.Prelude.{All}
use Rattle.std.specs.Io.KnownBytes.{Consumes}
use Rattle.cc_runs.proofs.reading.next_line.Given as goal

abbrev pub invariant-loop-length : goal.invariant-loop-length
invariant-loop-length g l = record {
  whole : length l.line.items ≡ l.length;
  plain : All (λ b. b ≢ 10) l.line.items;
  bytes : Consumes (g.R.Read.remaining l.initial.reader) (g.R.Read.remaining l.reader) l.line.items;
}
