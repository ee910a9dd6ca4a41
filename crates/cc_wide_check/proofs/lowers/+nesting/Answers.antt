-- A switch, and a `while`, by the test for a switch.
use Rattle.std.proofs.Common.{◌-◌, true, ◌&&◌, ap, sym, ◌∙◌}
use Rattle.std.proofs.lemmas.Bool.{lt-ltb}
use Rattle.cc_ast.specs.Erase.{expression_tree, statement_tree}
use Rattle.cc_wide_text.specs.Forms.{wide_statement}
use Rattle.cc_wide_check.specs.internal.Lowers.{is_shallow, are_shallow}
use Rattle.cc_wide_check.specs.internal.Views.{wide_of}
use Rattle.cc_wide_check.proofs.Trees.{block-tree, while-tree, tested}
use Rattle.cc_wide_check.proofs.Fitting.{switch-shallow}
use Rattle.cc_wide_check.proofs.lowers.+nesting.Goals as goal

pub is_shallow-returns-in-Block : goal.is_shallow-returns-in-Block
is_shallow-returns-in-Block t c =
    c.are_shallow.ensures ∙ ap (λ l. are_shallow c.args.limit (wide_of l)) c.as_slice.ensures.value
    ∙ sym (ap (λ s. is_shallow c.args.limit (wide_statement s)) (block-tree c.args.s.now c.in-Block.all c.in-Block.is))

pub is_shallow-returns-then-limit-gt0 : goal.is_shallow-returns-then-limit-gt0
is_shallow-returns-then-limit-gt0 t c =
    let l = c.args.limit in
    let body = statement_tree c.in-While.body.value in
    let is = tested c.in-While.c.value c.deref-in-While.result.now c.in-While.body.value c.deref-in-While-2.result.now c.is_switch.result true c.deref-in-While.ensures c.deref-in-While-2.ensures c.is_switch.ensures c.if-is_switch.true in
    c.is_shallow-then-limit-gt0.ensures ∙ ap (λ s. is_shallow (l - 1) (wide_statement (statement_tree s))) c.deref-then-limit-gt0.ensures
    ∙ sym (ap (λ b. b && is_shallow (l - 1) (wide_statement body)) (lt-ltb 0 l c.if-limit-gt0.true)) ∙ sym (switch-shallow l (expression_tree c.in-While.c.value) body is)
    ∙ sym (ap (λ s. is_shallow l (wide_statement s)) (while-tree c.args.s.now c.in-While.c c.in-While.body c.in-While.is))
