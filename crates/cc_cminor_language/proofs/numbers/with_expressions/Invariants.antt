use Rattle.std.proofs.Common.{◌≡◌, ◌≤◌, drop}
use Rattle.cc_cminor_language.specs.Code.{expressions_of}
use Rattle.cc_cminor_language.specs.Numbers.{most_variables, ExpressionsBelow}
use Rattle.cc_cminor_language.specs.Variables.{above_expressions}
use Rattle.cc_cminor_language.proofs.numbers.with_expressions.Given as goal

-- counting the remaining expressions from the count so far gives the count for all
abbrev pub invariant-loop-e : goal.invariant-loop-e
invariant-loop-e l = record {
  counted : above_expressions l.all (expressions_of (drop l.e-index l.es)) ≡ above_expressions l.fn.count (expressions_of l.es);
  few : l.all ≤ most_variables;
  rest : ExpressionsBelow most_variables (expressions_of (drop l.e-index l.es));
}
