use Rattle.std.proofs.Common.{◌≡◌, ◌≤◌, drop}
use Rattle.cc_cminor_language.specs.Code.{in_sequence}
use Rattle.cc_cminor_language.specs.Statements.{statements_of}
use Rattle.cc_cminor_language.specs.Numbers.{most_variables, StatementFits}
use Rattle.cc_cminor_language.specs.Variables.{above_statement}
use Rattle.cc_cminor_language.proofs.numbers.+statements.Given as goal

-- counting the remaining statements from the count so far gives the count for all
abbrev pub invariant-all_above-loop-s : goal.invariant-all_above-loop-s
invariant-all_above-loop-s l = record {
  counted : above_statement l.counted (in_sequence (statements_of (drop l.s-index l.all))) ≡ above_statement l.fn.count (in_sequence (statements_of l.all));
  few : l.counted ≤ most_variables;
  rest : StatementFits (in_sequence (statements_of (drop l.s-index l.all)));
}
