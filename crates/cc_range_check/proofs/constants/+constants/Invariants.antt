use Rattle.std.proofs.Common.{drop}
use Rattle.cc_cminor_language.specs.Code.{in_sequence}
use Rattle.cc_cminor_language.specs.Statements.{statements_of}
use Rattle.cc_guard.specs.Safe.{CodeConstantsFit}
use Rattle.cc_range_check.proofs.constants.+constants.Given as goal

-- if the constants of the rest fit, all fit
abbrev pub invariant-all_fit-loop-s : goal.invariant-all_fit-loop-s
invariant-all_fit-loop-s l = CodeConstantsFit (in_sequence (statements_of (drop l.s-index l.all))) → CodeConstantsFit (in_sequence (statements_of l.all))
