use Rattle.std.proofs.Common.{◌≡◌, drop}
use Rattle.cc_types.specs.Scope.{same_scalars}
use Rattle.cc_scope.proofs.SameTypes.{types_of}
use Rattle.cc_scope.proofs.entity.same_types.Given as goal

abbrev pub invariant-loop-index : goal.invariant-loop-index
invariant-loop-index l = same_scalars (types_of l.one) (types_of l.other) ≡ same_scalars (types_of (drop l.index l.one)) (types_of (drop l.index l.other))
