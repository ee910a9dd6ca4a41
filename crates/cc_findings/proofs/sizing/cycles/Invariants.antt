-- The calls so far have been added, by names.
use Rattle.std.proofs.Common.{◌≡◌, ℕ, length, slice_get, Some}
use Rattle.cc_ast.specs.Source.{source}
use Rattle.cc_findings.specs.Measured.{IsCycle}
use Rattle.cc_findings.specs.declared.sizing.CyclicCall.{CyclicCall}
use Rattle.cc_findings.proofs.sizing.cycles.Given as goal

abbrev pub invariant-loop-call : goal.invariant-loop-call
invariant-loop-call l = record {
  count : length l.cycles.items ≡ l.call-index;
  each : (k : ℕ) (one : CyclicCall) → slice_get l.cycles.items k ≡ Some one → IsCycle (source l.unit) l.calls k one;
}
