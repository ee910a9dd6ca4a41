use Rattle.std.proofs.Common.{◌≡◌, ◌≤◌, false, drop}
use Rattle.cc_ast.specs.Erase.{expression_tree}
use Rattle.cc_wide.specs.Places.{bare}
use Rattle.cc_wide_check.specs.internal.Sections.{cases_in, is_chain}
use Rattle.cc_wide_check.specs.internal.Views.{wide_of}
use Rattle.cc_wide_check.proofs.choices.is_chain.Given as goal

abbrev pub invariant-loop-s : goal.invariant-loop-s
invariant-loop-s l =
    record {
      same : is_chain l.local l.default l.low l.high (cases_in l.sections l.label (wide_of (drop l.s-index l.all))) (bare (expression_tree l.left))
          ≡ is_chain l.local l.default l.low l.high (cases_in 0 false (wide_of l.all)) (bare (expression_tree l.e));
      few : l.sections ≤ l.s-index;
    }
