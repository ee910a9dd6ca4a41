use Rattle.std.proofs.Common.{◌≡◌, ◌<◌, length, drop, slice_get}
use Rattle.cc_ast.specs.Erase.{external_trees}
use Rattle.cc_types.specs.Typed.{definitions}
use Rattle.cc_types.proofs.typed.TypedUnit.definition.Given as goal

abbrev pub invariant-loop-external : goal.invariant-loop-external
invariant-loop-external l = record {
  left : slice_get (definitions (external_trees (drop l.external-index l.external-items))) l.left ≡ slice_get (definitions (external_trees l.external-items)) l.fn.function;
  bound : l.left < length (definitions (external_trees (drop l.external-index l.external-items)));
}
