-- The functions so far have been added, and the place is that of the next one.
use Rattle.std.proofs.Common.{◌≡◌, ℕ, length, slice_get, Some}
use Rattle.cc_ast.specs.Source.{source}
use Rattle.cc_findings.specs.Measured.{IsFunction, place_by}
use Rattle.cc_findings.specs.declared.sizing.SizedFunction.{SizedFunction}
use Rattle.cc_findings.proofs.sizing.functions.Given as goal

abbrev pub invariant-loop-function : goal.invariant-loop-function
invariant-loop-function l = record {
  count : length l.functions.items ≡ l.function;
  each : (f : ℕ) (one : SizedFunction) → slice_get l.functions.items f ≡ Some one → IsFunction (source l.unit) l.sizes f one;
  address : l.address ≡ place_by l.sizes l.function;
}
