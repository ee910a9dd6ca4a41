use Rattle.std.proofs.Common.{◌≡◌, ◌++◌, [], drop}
use Rattle.cc_linear.specs.internal.Lays.{moves_then}
use Rattle.cc_linear.proofs.writing.put.Given as goal

-- the items so far, followed by those of the rest, are all the items
abbrev pub invariant-loop-between : goal.invariant-loop-between
invariant-loop-between l = l.items.items ++ moves_then (drop l.between-index l.moves) [] ≡ l.fn.items.items ++ moves_then l.moves []
