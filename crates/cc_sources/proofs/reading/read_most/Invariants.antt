-- The loop ends because each turn except the last adds a byte below the limit; what was read so far is the text.
use Rattle.std.proofs.Common.{◌≤◌, ◌-◌, vec_len}
use Rattle.std.specs.Io.KnownBytes.{Consumes}
use Rattle.cc_sources.proofs.reading.read_most.Given as goal

abbrev pub invariant-loop-piece : goal.invariant-loop-piece
invariant-loop-piece g l = (vec_len l.text ≤ l.most) × Consumes (g.R.Read.remaining l.initial.reader) (g.R.Read.remaining l.reader) l.text.items

abbrev pub decreases-loop-piece : goal.decreases-loop-piece
decreases-loop-piece g l = l.most - vec_len l.text
