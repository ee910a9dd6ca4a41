use Rattle.std.proofs.Common.{◌≡◌, ◌+◌, ◌≤◌, length, drop}
use Rattle.cc_ast.specs.Erase.{external_trees}
use Rattle.cc_types.specs.Limits.{function_names}
use Rattle.cc_types.proofs.typed.TypedUnit.functions.Given as goal

abbrev pub invariant-loop-external : goal.invariant-loop-external
invariant-loop-external l = record {
  sum : l.count + length (function_names (external_trees (drop l.external-index l.external-items))) ≡ length (function_names (external_trees l.external-items));
  bound : l.count ≤ l.external-index;
}
