-- Locals are counted statement by statement.
use Rattle.std.proofs.Common.{◌+◌, ◌++◌, ◌∙◌, ap, sym, drop}
use Rattle.cc_ast.specs.Erase.{beginning_tree, statement_tree, statements_of}
use Rattle.cc_ast.specs.declared.ast.Statement.{Statement}
use Rattle.cc_types.specs.Counts.{count_after}
use Rattle.cc_types.specs.Limits.{beginning_names, locals_of, locals}
use Rattle.cc_types.proofs.Counting.{count-next, count-two}
use Rattle.cc_types.proofs.Trees.{statement_tree-block, statement_tree-if_else, statement_tree-for}
use Rattle.cc_types.proofs.Items.{drop-item}
use Rattle.cc_types.proofs.limits.+locals.Goals as goal

pub count_locals-loop-statement-preserved : goal.count_locals-loop-statement-preserved
count_locals-loop-statement-preserved t c =
    let left = drop-item c.args.all.now c.loop-statement.statement-index c.statement-item.result c.loop-statement-test.true c.statement-item.is in
    count-next c.loop-statement.count c.count_locals_of.new.count _ (locals_of (statement_tree c.statement-item.result)) (locals (statements_of (drop (c.loop-statement.statement-index + 1) c.args.all.now))) _
    c.loop-statement.invariant (ap (λ l. locals (statements_of l)) left) c.count_locals_of.ensures

pub count_locals_of-returns-in-Block : goal.count_locals_of-returns-in-Block
count_locals_of-returns-in-Block t c =
    let is = ap statement_tree c.in-Block.is ∙ statement_tree-block c.in-Block.all in
    c.count_locals.ensures ∙ ap (λ l. count_after c.args.count.now (locals (statements_of l))) c.as_slice.ensures.value ∙ sym (ap (λ u. count_after c.args.count.now (locals_of u)) is)

pub count_locals_of-returns-in-IfElse : goal.count_locals_of-returns-in-IfElse
count_locals_of-returns-in-IfElse t c =
    let is = ap statement_tree c.in-IfElse.is ∙ statement_tree-if_else c.in-IfElse.field-0 c.in-IfElse.held c.in-IfElse.other in
    let held = locals_of (statement_tree c.deref-in-IfElse.result.now) in
    let other = locals_of (statement_tree c.deref-in-IfElse-2.result.now) in
    count-two c.args.count.now c.count_locals_of-in-IfElse.new.count c.count_locals_of-in-IfElse-2.new.count held other _ c.count_locals_of-in-IfElse.ensures c.count_locals_of-in-IfElse-2.ensures
    (ap locals_of is ∙ ap (λ (s : Statement). locals_of (statement_tree s) ++ locals_of (statement_tree c.in-IfElse.other.value)) (sym c.deref-in-IfElse.ensures)
    ∙ ap (λ (s : Statement). held ++ locals_of (statement_tree s)) (sym c.deref-in-IfElse-2.ensures))

pub count_locals_of-returns-in-For : goal.count_locals_of-returns-in-For
count_locals_of-returns-in-For t c =
    let is = ap statement_tree c.in-For.is ∙ statement_tree-for c.in-For.beginning c.in-For.field-1 c.in-For.field-2 c.in-For.body in
    let names = beginning_names (beginning_tree c.deref-in-For.result.now) in
    count-two c.args.count.now c.count_beginning.new.count c.count_locals_of-in-For.new.count names (locals_of (statement_tree c.deref-in-For-2.result.now)) _ c.count_beginning.ensures c.count_locals_of-in-For.ensures
    (ap locals_of is ∙ ap (λ b. beginning_names (beginning_tree b) ++ locals_of (statement_tree c.in-For.body.value)) (sym c.deref-in-For.ensures)
    ∙ ap (λ (s : Statement). names ++ locals_of (statement_tree s)) (sym c.deref-in-For-2.ensures))
