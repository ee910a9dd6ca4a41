use Rattle.std.proofs.Common.{◌≡◌, drop}
use Rattle.std.specs.Prelude.{◌&&◌}
use Rattle.cc_cminor_language.specs.Code.{expressions_of}
use Rattle.cc_range_table.specs.Inductive.{are_arguments}
use Rattle.cc_range_check.specs.Values.{facts_of}
use Rattle.cc_range_check.proofs.expressions.are_arguments.Given as goal

abbrev pub invariant-loop-i : goal.invariant-loop-i
invariant-loop-i l = (l.are && are_arguments (facts_of l.facts) (expressions_of (drop l.i l.es)) (drop l.i l.parameters)) ≡ are_arguments (facts_of l.facts) (expressions_of l.es) l.parameters
