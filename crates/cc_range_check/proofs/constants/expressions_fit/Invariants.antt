use Rattle.std.proofs.Common.{drop}
use Rattle.cc_cminor_language.specs.Code.{expressions_of}
use Rattle.cc_guard.specs.Safe.{AllConstantsFit}
use Rattle.cc_range_check.proofs.constants.expressions_fit.Given as goal

-- if the constants of the rest fit, all fit
abbrev pub invariant-loop-e : goal.invariant-loop-e
invariant-loop-e l = AllConstantsFit (expressions_of (drop l.e-index l.es)) → AllConstantsFit (expressions_of l.es)
