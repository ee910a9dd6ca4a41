use Rattle.std.proofs.Common.{◌≡◌, ◌++◌, ◌-◌}
use Rattle.cc_cminor_language.specs.Code as code
use Rattle.cc_cminor.specs.internal.Lowering.{locals_from}
use Rattle.cc_cminor.proofs.expressions.locals_from.Given as goal

-- the variables so far, followed by the remaining ones, are all the variables
abbrev pub invariant-loop-variable : goal.invariant-loop-variable
invariant-loop-variable l = code.expressions_of l.all.items ++ locals_from l.variable (l.variable-end - l.variable) ≡ locals_from l.fn.k l.fn.count
