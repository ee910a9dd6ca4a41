-- One proof for each kind of statement; a list is checked statement by statement.
use Rattle.std.proofs.Common.{◌≡◌, ◌∙◌, refl, ap, sym, subst}
use Rattle.cc_ast.specs.Erase.{expression_tree, optional_tree, optional_action, beginning_tree, statement_tree, statements_of}
use Rattle.cc_ast.specs.Tree.{If, IfElse, While, DoWhile, For}
use Rattle.cc_typing.specs.internal.Findings.{after, around_of}
use Rattle.cc_types.specs.Scope.{Visible, in_scope, opened}
use Rattle.cc_types.specs.Rules.{value_errors, statement_errors, statements_errors, called_in, called_in_statement, called_in_statements}
use Rattle.cc_types.proofs.Items.{drop-item}
use Rattle.cc_types.proofs.Trees.{statement_tree-block, statement_tree-if, statement_tree-if_else, statement_tree-while, statement_tree-do_while, statement_tree-for}
use Rattle.cc_types.proofs.Success.{on_ok}
use Rattle.cc_typing.proofs.Walks.{scope_behind_outer, scope_behind_beginning_outer, closes, closed-is, Walking, Walking-next, if-found, if_else-found, while-found, do_while-found, for-found}
use Rattle.cc_typing.proofs.statements.+statements.Goals as goal

pub all_statements-loop-tree-preserved : goal.all_statements-loop-tree-preserved
all_statements-loop-tree-preserved t c =
    let left = drop-item c.args.trees.now c.loop-tree.tree-index c.tree-item.result c.loop-tree-test.true c.tree-item.is in
    let before = subst (λ ts. Walking (around_of c.args.around) c.args.scope.now c.args.findings.now (statements_of c.args.trees.now) c.loop-tree.scope c.loop-tree.findings (statements_of ts)) left c.loop-tree.invariant in
    Walking-next _ _ _ _ _ _ (statement_tree c.tree-item.result) _ _ _ before c.in_ok-statement.ensures.scope c.in_ok-statement.ensures.found

pub inner_statement-close-requires : goal.inner_statement-close-requires
inner_statement-close-requires t c =
    let outer : c.statement.new.scope.outer ≡ in_scope c.args.scope.now =
    ap (λ (v : Visible). v.outer) c.in_ok-statement.ensures.scope ∙ scope_behind_outer (statement_tree c.args.tree.now) c.open-names.new.self ∙ ap (λ (v : Visible). v.outer) c.open-names.ensures.scope in
    closes c.args.scope.now c.statement.new.scope c.open-names.result outer c.open-names.ensures.around

pub inner_statement-returns-clause-scope : goal.inner_statement-returns-clause-scope
inner_statement-returns-clause-scope t c =
    let outer : c.statement.new.scope.outer ≡ in_scope c.args.scope.now =
    ap (λ (v : Visible). v.outer) c.in_ok-statement.ensures.scope ∙ scope_behind_outer (statement_tree c.args.tree.now) c.open-names.new.self ∙ ap (λ (v : Visible). v.outer) c.open-names.ensures.scope in
    closed-is c.args.scope.now c.statement.new.scope c.close.new.self c.open-names.result outer c.open-names.ensures.around c.close.ensures

pub for_statement-close-requires : goal.for_statement-close-requires
for_statement-close-requires t c =
    let first = beginning_tree c.args.first.now in
    let outer : c.inner_statement.new.scope.outer ≡ in_scope c.args.scope.now =
    ap (λ (v : Visible). v.outer) c.in_ok-inner_statement.ensures.scope ∙ ap (λ (v : Visible). v.outer) c.in_ok-beginning.ensures.scope
    ∙ scope_behind_beginning_outer first c.open-names.new.self ∙ ap (λ (v : Visible). v.outer) c.open-names.ensures.scope in
    closes c.args.scope.now c.inner_statement.new.scope c.open-names.result outer c.open-names.ensures.around

pub for_statement-returns-clause-scope : goal.for_statement-returns-clause-scope
for_statement-returns-clause-scope t c =
    let first = beginning_tree c.args.first.now in
    let outer : c.inner_statement.new.scope.outer ≡ in_scope c.args.scope.now =
    ap (λ (v : Visible). v.outer) c.in_ok-inner_statement.ensures.scope ∙ ap (λ (v : Visible). v.outer) c.in_ok-beginning.ensures.scope
    ∙ scope_behind_beginning_outer first c.open-names.new.self ∙ ap (λ (v : Visible). v.outer) c.open-names.ensures.scope in
    closed-is c.args.scope.now c.inner_statement.new.scope c.close.new.self c.open-names.result outer c.open-names.ensures.around c.close.ensures

pub for_statement-returns-clause-found : goal.for_statement-returns-clause-found
for_statement-returns-clause-found t c =
    let whole = For (beginning_tree c.args.first.now) (optional_tree c.args.condition.now) (optional_action c.args.following.now) (statement_tree c.args.body.now) in
    for-found (around_of c.args.around) c.args.scope.now whole c.args.findings.now (around_of c.within_loop.result) c.within_loop.ensures
    c.open-names.new.self c.beginning.new.scope c.open-names.ensures.scope
    c.beginning.new.findings c.optional_value.new.findings c.optional_action.new.findings c.inner_statement.new.findings
    (beginning_tree c.args.first.now) (optional_tree c.args.condition.now) (optional_action c.args.following.now) (statement_tree c.args.body.now) (statement_tree c.args.body.now)
    refl refl c.in_ok-beginning.ensures.scope c.in_ok-beginning.ensures.found c.optional_value.ensures c.optional_action.ensures c.in_ok-inner_statement.ensures.found

pub statement-returns-in-Block-clause-found : goal.statement-returns-in-Block-clause-found
statement-returns-in-Block-clause-found t c =
    let f = c.args.findings.now in
    let v = c.args.scope.now in
    let a = around_of c.args.around in
    let is = ap statement_tree c.in-Block.is ∙ statement_tree-block c.in-Block.all in
    on_ok c.block.result
    (λ e. e ∙ ap (λ l. after f (statements_errors (statements_of l) a (opened v)) (called_in_statements (statements_of l))) c.deref.ensures.value
    ∙ sym (ap (λ u. after f (statement_errors u a v) (called_in_statement u)) is))
    c.block.ensures.found

pub statement-returns-in-If-clause-found : goal.statement-returns-in-If-clause-found
statement-returns-in-If-clause-found t c =
    let is = ap statement_tree c.in-If.is ∙ statement_tree-if c.in-If.condition c.in-If.held ∙ ap (λ e. If (expression_tree e) (statement_tree c.in-If.held.value)) (sym c.deref-in-If.ensures) in
    on_ok c.inner_statement.result
    (λ e. if-found (around_of c.args.around) c.args.scope.now (statement_tree c.args.tree.now) c.args.findings.now c.value.new.findings c.inner_statement.new.findings (expression_tree c.deref-in-If.result.now)
    (statement_tree c.in-If.held.value) (statement_tree c.deref-in-If-2.result.now) is (ap statement_tree c.deref-in-If-2.ensures) c.value.ensures e)
    c.inner_statement.ensures.found

pub statement-returns-in_ok-inner_statement-in-IfElse-clause-found :
    goal.statement-returns-in_ok-inner_statement-in-IfElse-clause-found
statement-returns-in_ok-inner_statement-in-IfElse-clause-found t c =
    let a = around_of c.args.around in
    let is = ap statement_tree c.in-IfElse.is ∙ statement_tree-if_else c.in-IfElse.condition c.in-IfElse.held c.in-IfElse.other
    ∙ ap (λ e. IfElse (expression_tree e) (statement_tree c.in-IfElse.held.value) (statement_tree c.in-IfElse.other.value)) (sym c.deref-in-IfElse.ensures) in
    let other = statement_tree c.deref-in-IfElse-3.result.now in
    on_ok c.inner_statement-in-IfElse-2.result
    (λ e. if_else-found a c.args.scope.now (statement_tree c.args.tree.now) c.args.findings.now c.value-in-IfElse.new.findings c.inner_statement-in-IfElse.new.findings c.inner_statement-in-IfElse-2.new.findings
    (expression_tree c.deref-in-IfElse.result.now) (statement_tree c.in-IfElse.held.value) (statement_tree c.in-IfElse.other.value) (statement_tree c.deref-in-IfElse-2.result.now) other is
    (ap statement_tree c.deref-in-IfElse-2.ensures) (ap statement_tree c.deref-in-IfElse-3.ensures) c.value-in-IfElse.ensures c.in_ok-inner_statement-in-IfElse.ensures.found
    (e ∙ ap (λ v. after c.inner_statement-in-IfElse.new.findings (statement_errors other a (opened v)) (called_in_statement other)) c.in_ok-inner_statement-in-IfElse.ensures.scope))
    c.inner_statement-in-IfElse-2.ensures.found

pub statement-returns-in-While-clause-found : goal.statement-returns-in-While-clause-found
statement-returns-in-While-clause-found t c =
    let is = ap statement_tree c.in-While.is ∙ statement_tree-while c.in-While.condition c.in-While.body ∙ ap (λ e. While (expression_tree e) (statement_tree c.in-While.body.value)) (sym c.deref-in-While.ensures) in
    on_ok c.inner_statement-in-While.result
    (λ e. while-found (around_of c.args.around) c.args.scope.now (statement_tree c.args.tree.now) c.args.findings.now (around_of c.within_loop.result) c.within_loop.ensures c.value-in-While.new.findings c.inner_statement-in-While.new.findings
    (expression_tree c.deref-in-While.result.now) (statement_tree c.in-While.body.value) (statement_tree c.deref-in-While-2.result.now) is (ap statement_tree c.deref-in-While-2.ensures) c.value-in-While.ensures e)
    c.inner_statement-in-While.ensures.found

pub statement-returns-in_ok-inner_statement-in-DoWhile-clause-found :
    goal.statement-returns-in_ok-inner_statement-in-DoWhile-clause-found
statement-returns-in_ok-inner_statement-in-DoWhile-clause-found t c =
    let is = ap statement_tree c.in-DoWhile.is ∙ statement_tree-do_while c.in-DoWhile.body c.in-DoWhile.condition ∙ ap (λ e. DoWhile (statement_tree c.in-DoWhile.body.value) (expression_tree e)) (sym c.deref-in-DoWhile-2.ensures) in
    let test = expression_tree c.deref-in-DoWhile-2.result.now in
    do_while-found (around_of c.args.around) c.args.scope.now (statement_tree c.args.tree.now) c.args.findings.now (around_of c.within_loop-in-DoWhile.result) c.within_loop-in-DoWhile.ensures
    c.inner_statement-in-DoWhile.new.findings c.value-in-DoWhile.new.findings
    test (statement_tree c.in-DoWhile.body.value) (statement_tree c.deref-in-DoWhile.result.now) is (ap statement_tree c.deref-in-DoWhile.ensures) c.in_ok-inner_statement-in-DoWhile.ensures.found
    (c.value-in-DoWhile.ensures ∙ ap (λ v. after c.inner_statement-in-DoWhile.new.findings (value_errors (in_scope v) test) (called_in test)) c.in_ok-inner_statement-in-DoWhile.ensures.scope)

pub statement-returns-in-For-clause-found : goal.statement-returns-in-For-clause-found
statement-returns-in-For-clause-found t c =
    let f = c.args.findings.now in
    let v = c.args.scope.now in
    let a = around_of c.args.around in
    let first = beginning_tree c.deref-in-For.result.now in
    let test = optional_tree c.in-For.condition in
    let next = optional_action c.in-For.following in
    let is = ap statement_tree c.in-For.is ∙ statement_tree-for c.in-For.first c.in-For.condition c.in-For.following c.in-For.body
    ∙ ap (λ b. For (beginning_tree b) test next (statement_tree c.in-For.body.value)) (sym c.deref-in-For.ensures) in
    on_ok c.for_statement.result
    (λ e. e ∙ ap (λ s. after f (statement_errors (For first test next (statement_tree s)) a v) (called_in_statement (For first test next (statement_tree s)))) c.deref-in-For-2.ensures
    ∙ sym (ap (λ u. after f (statement_errors u a v) (called_in_statement u)) is))
    c.for_statement.ensures.found
