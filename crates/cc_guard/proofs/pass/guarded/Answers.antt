-- Guarded code fits, and code without guards stays as it was.
use Rattle.std.proofs.Common.{◌≤◌, ◌∙◌, [], sym, ap, subst, arith}
use Rattle.std.proofs.Math.Nat.{le-max_right}
use Rattle.cc_c_semantics.specs.Numbered.{objects_in}
use Rattle.cc_cminor_language.specs.Numbers.{most_variables, StatementFits}
use Rattle.cc_cminor_language.specs.Pair.{tree_of, code_of}
use Rattle.cc_cminor_language.specs.Variables.{above_statement}
use Rattle.cc_guard.specs.Guard.{with_loop, variables_in}
use Rattle.cc_guard.proofs.Numbered.{loop_fits}
use Rattle.cc_guard.proofs.Unguarded.{same_code}
use Rattle.cc_guard.proofs.pass.guarded.Goals as goal

pub held-requires : goal.held-requires
held-requires c =
    let p = c.args.pair.now in
    let objects = objects_in (tree_of p) in
    let n = above_statement 0 (code_of p) in
    let v = c.in_ok-made.ensures.seen.variables in
    let w = le-max_right 0 (variables_in objects n (code_of p)) in
    let few : variables_in objects n (code_of p) ≤ most_variables = omega (arith, c.if-seen-gt-MOST_VARIABLES.false) in
    subst StatementFits (sym (c.in_ok-code.ensures ∙ ap with_loop c.in_ok-made.ensures.code)) (loop_fits objects n (code_of p) c.code-kept.ensures.numbers few (sym c.in_ok-made.ensures.seen.guards ∙ c.if-seen.true))

pub returns-else-seen-clause-unguarded : goal.returns-else-seen-clause-unguarded
returns-else-seen-clause-unguarded c = λ none.
    let p = c.args.pair.now in
    c.in_ok-made.ensures.code ∙ same_code (objects_in (tree_of p)) (above_statement 0 (code_of p)) 0 (code_of p) [] none
