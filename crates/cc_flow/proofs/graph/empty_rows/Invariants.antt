use Rattle.std.proofs.Common.{◌≡◌, [], replicate}
use Rattle.cc_flow.specs.Flow.{rows_of}
use Rattle.cc_flow.proofs.graph.empty_rows.Given as goal

abbrev pub invariant-loop-made : goal.invariant-loop-made
invariant-loop-made l = rows_of l.rows.items ≡ replicate l.made []
