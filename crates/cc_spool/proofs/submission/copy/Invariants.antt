-- The bytes so far are copied and read, at least one in each turn.
use Rattle.std.proofs.Common.{◌≡◌, ◌+◌, ◌≤◌, List, ℕ, None, length}
use Rattle.std.specs.Io.KnownBytes.{Appends, Consumes}
use Rattle.cc_spool.specs.Answer.{between, read_bytes}
use Rattle.cc_spool.proofs.submission.copy.Given as goal

abbrev pub invariant-loop : goal.invariant-loop
invariant-loop g l =
    (bytes : List ℕ)
    × record {
      given : Consumes (g.S.Read.remaining l.initial.reader) (g.S.Read.remaining l.reader) bytes;
      written : Appends (g.W.Write.contents l.initial.writer) (g.W.Write.contents l.writer) bytes;
      read : l.lines ≡ read_bytes (between None) bytes;
      turns : l.counter ≤ length bytes;
      asked : l.fn.most ≤ l.left + length bytes;
      room : length l.piece ≡ 4096;
    }
