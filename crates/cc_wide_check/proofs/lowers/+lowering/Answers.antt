-- A switch, and a `while`, by the test for a switch.
use Rattle.std.proofs.Common.{true, ap, sym, ◌∙◌}
use Rattle.cc_ast.specs.Erase.{expression_tree, statement_tree}
use Rattle.cc_wide_text.specs.Forms.{wide_statement}
use Rattle.cc_wide_check.specs.internal.Lowers.{lowers, all_lower, unlabelled_lower, block_lowers, switch_lowers}
use Rattle.cc_wide_check.specs.internal.Views.{around_of, wide_of}
use Rattle.cc_wide_check.proofs.Trees.{block-tree, while-tree, tested}
use Rattle.cc_wide_check.proofs.Lowering.{switch-lowers}
use Rattle.cc_wide_check.proofs.lowers.+lowering.Goals as goal

pub block_lowers-returns-in-Block : goal.block_lowers-returns-in-Block
block_lowers-returns-in-Block t c =
    c.unlabelled_lower.ensures ∙ ap (λ l. unlabelled_lower c.args.most (around_of c.args.around) c.args.depth (wide_of l)) c.as_slice.ensures.value
    ∙ sym (ap (block_lowers c.args.most (around_of c.args.around) c.args.depth) (block-tree c.args.s.now c.in-Block.all c.in-Block.is))

pub lowers-returns-in-Block : goal.lowers-returns-in-Block
lowers-returns-in-Block t c =
    c.all_lower.ensures ∙ ap (λ l. all_lower c.args.most (around_of c.args.around) c.args.depth (wide_of l)) c.as_slice.ensures.value
    ∙ sym (ap (λ s. lowers c.args.most (around_of c.args.around) c.args.depth (wide_statement s)) (block-tree c.args.s.now c.in-Block.all c.in-Block.is))

pub lowers-returns-then-is_switch : goal.lowers-returns-then-is_switch
lowers-returns-then-is_switch t c =
    let m = c.args.most in
    let a = around_of c.args.around in
    let d = c.args.depth in
    let body = statement_tree c.in-While.body.value in
    let is = tested c.in-While.c.value c.deref-in-While.result.now c.in-While.body.value c.deref-in-While-2.result.now c.is_switch.result true c.deref-in-While.ensures c.deref-in-While-2.ensures c.is_switch.ensures c.if-is_switch.true in
    c.switch_lowers.ensures ∙ ap (λ s. switch_lowers m a d (statement_tree s)) c.deref-then-is_switch.ensures
    ∙ sym (switch-lowers m a d (expression_tree c.in-While.c.value) body is)
    ∙ sym (ap (λ s. lowers m a d (wide_statement s)) (while-tree c.args.s.now c.in-While.c c.in-While.body c.in-While.is))
