-- Calls that were interrupted read nothing.
use Rattle.std.proofs.Common.{◌≡◌, length}
use Rattle.std.specs.Io.KnownBytes.{Keeps}
use Rattle.cc_spool.proofs.submission.read_some.Given as goal

abbrev pub invariant-loop : goal.invariant-loop
invariant-loop g l = Keeps (g.S.Read.remaining l.initial.reader) (g.S.Read.remaining l.reader) × (length l.room ≡ length l.initial.room)
