-- The pieces so far, followed by those made among the rest, are all the pieces that were made.
use Rattle.std.proofs.Common.{◌≡◌, ◌++◌, drop, map}
use Rattle.cc_core.specs.Job.{made_pieces}
use Rattle.cc_core.proofs.job.all_made.Given as goal

abbrev pub invariant-loop-progress : goal.invariant-loop-progress
invariant-loop-progress g l = map (λ piece. piece.now) l.made.items ++ made_pieces (drop l.progress-index l.pieces) ≡ made_pieces l.pieces
