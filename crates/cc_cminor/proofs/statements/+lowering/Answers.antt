-- Scopes, which leave the names as they were; `for`; and lists, statement by statement.
use Rattle.std.proofs.Common.{◌≡◌, ◌+◌, ◌++◌, ◌∙◌, List, [], ◌∷◌, drop, rules, sym, ap, subst}
use Rattle.cc_ast.specs.Erase.{optional_tree, optional_action, beginning_tree, statement_tree, statements_of}
use Rattle.cc_ast.specs.Tree.{Block}
use Rattle.cc_ast.specs.declared.ast.Statement as tree
use Rattle.cc_cminor_language.specs.Cminor as cminor
use Rattle.cc_cminor_language.specs.Code as code
use Rattle.cc_cminor_language.specs.Statements as codes
use Rattle.cc_cminor_language.specs.Code.{statement_of, in_sequence}
use Rattle.cc_cminor.specs.internal.Lowering.{lowered}
use Rattle.cc_cminor.specs.internal.Taken.{taken_of}
use Rattle.cc_cminor_language.proofs.Codes.{if_ok, on_ok, statements_push}
use Rattle.cc_cminor.proofs.Closing.{closed-back, around-fits, in-statement, in-list, in-beginning}
use Rattle.cc_cminor.proofs.Taking.{drop-item}
use Rattle.cc_cminor.proofs.Trees.{statement_tree-block}
use Rattle.cc_cminor.proofs.Listing.{Listing, listing-next, for-is}
use Rattle.cc_cminor.proofs.statements.+lowering.Goals as goal

pub inner_statement-close-requires : goal.inner_statement-close-requires
inner_statement-close-requires t c =
    around-fits c.args.names.now c.statement.new.names c.open-around.result
    (in-statement (statement_tree c.args.tree.now) c.args.names.now c.open-around.new.self c.statement.new.names c.open-around.ensures.scope c.in_ok-code.ensures.names) c.open-around.ensures.around

pub inner_statement-returns-clause-names : goal.inner_statement-returns-clause-names
inner_statement-returns-clause-names t c =
    closed-back c.args.names.now c.statement.new.names c.close.new.names c.open-around.result c.len-locals.result
    (in-statement (statement_tree c.args.tree.now) c.args.names.now c.open-around.new.self c.statement.new.names c.open-around.ensures.scope c.in_ok-code.ensures.names)
    c.open-around.ensures.around c.len-locals.ensures c.close.ensures

pub block-close-requires : goal.block-close-requires
block-close-requires t c =
    around-fits c.args.names.now c.statements.new.names c.open-around.result
    (in-list (statements_of c.args.trees.now) c.args.names.now c.open-around.new.self c.statements.new.names c.open-around.ensures.scope c.in_ok-code.ensures.names) c.open-around.ensures.around

pub block-returns-clause-names : goal.block-returns-clause-names
block-returns-clause-names t c =
    closed-back c.args.names.now c.statements.new.names c.close.new.names c.open-around.result c.len-locals.result
    (in-list (statements_of c.args.trees.now) c.args.names.now c.open-around.new.self c.statements.new.names c.open-around.ensures.scope c.in_ok-code.ensures.names)
    c.open-around.ensures.around c.len-locals.ensures c.close.ensures

pub for_loop-close-requires : goal.for_loop-close-requires
for_loop-close-requires t c =
    around-fits c.args.names.now c.inner_statement.new.names c.open-around.result
    (in-beginning (beginning_tree c.args.first.now) c.args.names.now c.open-around.new.self c.inner_statement.new.names c.open-around.ensures.scope (c.in_ok-body.ensures.names ∙ c.in_ok-first.ensures.names))
    c.open-around.ensures.around

pub for_loop-returns-clause-names : goal.for_loop-returns-clause-names
for_loop-returns-clause-names t c =
    on_ok {A = c.close.new.names ≡ c.close.new.names} c.both.result
    (λ h. closed-back c.args.names.now c.inner_statement.new.names c.close.new.names c.open-around.result c.len-locals.result
    (in-beginning (beginning_tree c.args.first.now) c.args.names.now c.open-around.new.self c.inner_statement.new.names c.open-around.ensures.scope (c.in_ok-body.ensures.names ∙ c.in_ok-first.ensures.names))
    c.open-around.ensures.around c.len-locals.ensures c.close.ensures)
    (search rules)

pub for_loop-returns-clause-code : goal.for_loop-returns-clause-code
for_loop-returns-clause-code t c =
    let x = c.in_ok-test.test in
    if_ok _ _ c.both.result
    (λ s e. e ∙ ap (λ a. cminor.Sequence (statement_of c.in_ok-first.first.value) a) c.in_ok-turns.ensures
    ∙ for-is c.args.in_loop c.args.names.now c.open-around.new.self c.beginning.new.names c.len.result (beginning_tree c.args.first.now) (optional_tree c.args.test.now) (optional_action c.args.following.now)
    (statement_tree c.args.body.now) (taken_of x.before x.expression) (statement_of c.in_ok-first.first.value) (statement_of c.in_ok-body.body.value) (statement_of c.in_ok-following.following.value)
    c.open-around.ensures.scope c.in_ok-first.ensures.names c.len.ensures c.in_ok-test.ensures c.in_ok-first.ensures.code c.in_ok-body.ensures.code c.in_ok-following.ensures)
    c.both.ensures

pub statement-returns-in-Block-clause-code : goal.statement-returns-in-Block-clause-code
statement-returns-in-Block-clause-code t c =
    let v = c.args.names.now in
    let b = c.args.in_loop in
    let is : statement_tree c.args.tree.now ≡ Block (statements_of c.as_slice.result.now) =
    ap statement_tree c.in-Block.is ∙ statement_tree-block c.in-Block.all ∙ ap (λ (l : List tree.Statement). Block (statements_of l)) (sym c.as_slice.ensures.value) in
    if_ok _ _ c.block.result (λ s e. e ∙ sym (ap (lowered v.layout b v) is)) c.block.ensures.code

pub statements-loop-tree-preserved : goal.statements-loop-tree-preserved
statements-loop-tree-preserved t c =
    let v = c.loop-tree.names in
    let b = c.args.in_loop in
    let s = statement_tree c.tree-item.result in
    let all = statements_of c.args.trees.now in
    let done = codes.statements_of c.loop-tree.all.items in
    let left = drop-item c.args.trees.now c.loop-tree.tree-index c.tree-item.result c.loop-tree-test.true c.tree-item.is in
    let before = subst (λ l. Listing b done (statements_of l) v all c.args.names.now) left c.loop-tree.invariant in
    let more : codes.statements_of c.push.new.self.items ≡ done ++ (lowered v.layout b v s ∷ []) =
    ap codes.statements_of c.in_ok-push.ensures.items ∙ statements_push c.loop-tree.all.items c.into_inner.result
    ∙ ap (λ a. done ++ (a ∷ [])) (ap statement_of c.into_inner.ensures ∙ c.in_ok-code.ensures.code) in
    listing-next b done (codes.statements_of c.push.new.self.items) s (statements_of (drop (c.loop-tree.tree-index + 1) c.args.trees.now)) all v c.statement.new.names c.args.names.now before c.in_ok-code.ensures.names more
