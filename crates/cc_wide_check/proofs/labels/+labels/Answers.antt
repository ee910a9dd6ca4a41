-- A switch, and a `while`, by the test for a switch.
use Rattle.std.proofs.Common.{◌≡◌, true, false, ◌&&◌, ap, sym, ◌∙◌}
use Rattle.cc_ast.specs.Erase.{expression_tree, statement_tree}
use Rattle.cc_wide_text.specs.Forms.{wide_statement}
use Rattle.cc_wide_check.specs.internal.Labels.{good_switch, keeps_labels, all_keep_labels}
use Rattle.cc_wide_check.specs.internal.Views.{wide_of}
use Rattle.cc_wide_check.proofs.Trees.{block-tree, while-tree, tested}
use Rattle.cc_wide_check.proofs.Switches.{while-is}
use Rattle.cc_wide_check.proofs.Rules.{switch-keeps}
use Rattle.cc_wide_check.proofs.labels.+labels.Goals as goal

pub keeps_labels-returns-in-Block : goal.keeps_labels-returns-in-Block
keeps_labels-returns-in-Block t c =
    c.all_keep_labels.ensures ∙ ap (λ l. all_keep_labels (wide_of l)) c.as_slice.ensures.value
    ∙ sym (ap (λ s. keeps_labels (wide_statement s)) (block-tree c.args.s.now c.in-Block.all c.in-Block.is))

pub keeps_labels-returns-then-good_switch : goal.keeps_labels-returns-then-good_switch
keeps_labels-returns-then-good_switch t c =
    let body = statement_tree c.in-While.body.value in
    let is = tested c.in-While.c.value c.deref-in-While.result.now c.in-While.body.value c.deref-in-While-2.result.now c.is_switch.result true c.deref-in-While.ensures c.deref-in-While-2.ensures c.is_switch.ensures c.if-is_switch.true in
    let good : good_switch body ≡ true = sym (c.good_switch.ensures ∙ ap (λ s. good_switch (statement_tree s)) c.deref-then-is_switch.ensures) ∙ c.if-good_switch.true in
    c.keeps_labels-then-good_switch.ensures ∙ ap (λ s. keeps_labels (wide_statement (statement_tree s))) c.deref-then-good_switch.ensures
    ∙ sym (ap (λ b. b && keeps_labels (wide_statement body)) good) ∙ sym (switch-keeps (expression_tree c.in-While.c.value) body is)
    ∙ sym (ap (λ s. keeps_labels (wide_statement s)) (while-tree c.args.s.now c.in-While.c c.in-While.body c.in-While.is))

pub keeps_labels-returns-else-good_switch : goal.keeps_labels-returns-else-good_switch
keeps_labels-returns-else-good_switch t c =
    let body = statement_tree c.in-While.body.value in
    let is = tested c.in-While.c.value c.deref-in-While.result.now c.in-While.body.value c.deref-in-While-2.result.now c.is_switch.result true c.deref-in-While.ensures c.deref-in-While-2.ensures c.is_switch.ensures c.if-is_switch.true in
    let bad : good_switch body ≡ false = sym (c.good_switch.ensures ∙ ap (λ s. good_switch (statement_tree s)) c.deref-then-is_switch.ensures) ∙ c.if-good_switch.false in
    c.if-good_switch.false
    ∙ sym (ap (λ b. b && keeps_labels (wide_statement body)) bad) ∙ sym (switch-keeps (expression_tree c.in-While.c.value) body is)
    ∙ sym (ap (λ s. keeps_labels (wide_statement s)) (while-tree c.args.s.now c.in-While.c c.in-While.body c.in-While.is))

pub keeps_labels-returns-else-is_switch : goal.keeps_labels-returns-else-is_switch
keeps_labels-returns-else-is_switch t c =
    let body = statement_tree c.in-While.body.value in
    let is = tested c.in-While.c.value c.deref-in-While.result.now c.in-While.body.value c.deref-in-While-2.result.now c.is_switch.result false c.deref-in-While.ensures c.deref-in-While-2.ensures c.is_switch.ensures c.if-is_switch.false in
    c.keeps_labels-else-is_switch.ensures ∙ ap (λ s. keeps_labels (wide_statement (statement_tree s))) c.deref-else-is_switch.ensures
    ∙ sym (ap keeps_labels (while-is (expression_tree c.in-While.c.value) body is))
    ∙ sym (ap (λ s. keeps_labels (wide_statement s)) (while-tree c.args.s.now c.in-While.c c.in-While.body c.in-While.is))
