use Rattle.std.proofs.Common.{drop}
use Rattle.cc_cminor_language.specs.Code.{expressions_of}
use Rattle.cc_range_check.specs.Sizes.{sizes_of}
use Rattle.cc_range_check.specs.Values.{facts_of}
use Rattle.cc_range_check.specs.declared.places.Found.{Found}
use Rattle.cc_range_check.specs.internal.Walked.{FindsInAll}
use Rattle.cc_range_check.proofs.expressions.see_expressions.Given as goal

-- what is found in the rest completes what is found in all
abbrev pub invariant-loop-e : goal.invariant-loop-e
invariant-loop-e l = (last : Found) → FindsInAll (sizes_of l.sizes) (facts_of l.facts) (expressions_of (drop l.e-index l.es)) l.found last → FindsInAll (sizes_of l.sizes) (facts_of l.facts) (expressions_of l.es) l.fn.found last
