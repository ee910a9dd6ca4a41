-- The cases of a list, from its last statement to its first, and of the statements whose parts the code keeps in boxes.
use Rattle.std.proofs.Common.{◌≡◌, ◌+◌, ◌-◌, ◌++◌, ◌∙◌, length, reverse, drop, set, refl, sym, ap, subst, arith}
use Rattle.std.proofs.lemmas.Iterator.Adapters.{YieldsList-from_rev_slice}
use Rattle.std.proofs.lemmas.Iterator.Consumers.{YieldsList-turn, YieldsList-end}
use Rattle.std.proofs.lemmas.List.{drop_all, length_push}
use Rattle.cc_ast.specs.Erase.{expression_tree, optional_tree, optional_action, beginning_tree, statement_tree, statements_of}
use Rattle.cc_ast.specs.Tree.{Block, While, DoWhile, For}
use Rattle.cc_meaning.specs.internal.Writing.{exits_of}
use Rattle.cc_layout.specs.Environment.{inner}
use Rattle.cc_meaning.specs.internal.Form.{statement_code, statements_code}
use Rattle.cc_meaning.specs.declared.form.Instruction.TheVariants.{Repeat}
use Rattle.cc_types.proofs.Items.{drop-item}
use Rattle.cc_types.proofs.Trees.{statement_tree-block, statement_tree-while, statement_tree-do_while, statement_tree-for}
use Rattle.cc_types.proofs.Success.{on_ok}
use Rattle.cc_meaning.proofs.WritingStatements.{behind_all, behind_all-reversed, written_onto, written-is, Writing, Writing-next, statement-is, exits-of-body, turns-are}
use Rattle.cc_meaning.proofs.writer.statements.+resolved_statements.Goals as goal

pub statement-returns-in-Block-clause-code : goal.statement-returns-in-Block-clause-code
statement-returns-in-Block-clause-code t c =
    let v = c.args.names.now in
    let x = exits_of (length c.args.code.now) c.args.exits in
    on_ok c.block.result
    (λ e w h. statement-is (statement_tree c.args.tree.now) (Block (statements_of c.in-Block.all.items)) v w x c.args.code.now c.block.new.code (ap statement_tree c.in-Block.is ∙ statement_tree-block c.in-Block.all) h refl
    (e ∙ ap (λ l. statements_code (inner v) x (statements_of l) ++ c.args.code.now) c.deref.ensures.value))
    c.block.ensures.code

pub statement-returns-in-While-clause-code : goal.statement-returns-in-While-clause-code
statement-returns-in-While-clause-code t c =
    let v = c.args.names.now in
    let x = exits_of (length c.args.code.now) c.args.exits in
    let test = expression_tree c.in-While.test.value in
    on_ok c.while_loop.result
    (λ e w h. statement-is (statement_tree c.args.tree.now) (While test (statement_tree c.in-While.body.value)) v w x c.args.code.now c.while_loop.new.code
    (ap statement_tree c.in-While.is ∙ statement_tree-while c.in-While.test c.in-While.body) h refl
    (e x ∙ ap (λ q. statement_code v x (While (expression_tree q) (statement_tree c.deref-in-While.result.now)) ++ c.args.code.now) c.deref-in-While-2.ensures
    ∙ ap (λ s. statement_code v x (While test (statement_tree s)) ++ c.args.code.now) c.deref-in-While.ensures))
    c.while_loop.ensures.code

pub statement-returns-in-DoWhile-clause-code : goal.statement-returns-in-DoWhile-clause-code
statement-returns-in-DoWhile-clause-code t c =
    let v = c.args.names.now in
    let x = exits_of (length c.args.code.now) c.args.exits in
    let test = expression_tree c.in-DoWhile.test.value in
    on_ok c.do_loop.result
    (λ e w h. statement-is (statement_tree c.args.tree.now) (DoWhile (statement_tree c.in-DoWhile.body.value) test) v w x c.args.code.now c.do_loop.new.code
    (ap statement_tree c.in-DoWhile.is ∙ statement_tree-do_while c.in-DoWhile.body c.in-DoWhile.test) h refl
    (e x ∙ ap (λ q. statement_code v x (DoWhile (statement_tree c.deref-in-DoWhile.result.now) (expression_tree q)) ++ c.args.code.now) c.deref-in-DoWhile-2.ensures
    ∙ ap (λ s. statement_code v x (DoWhile (statement_tree s) test) ++ c.args.code.now) c.deref-in-DoWhile.ensures))
    c.do_loop.ensures.code

pub statement-returns-in-For-clause-code : goal.statement-returns-in-For-clause-code
statement-returns-in-For-clause-code t c =
    let v = c.args.names.now in
    let x = exits_of (length c.args.code.now) c.args.exits in
    let first = beginning_tree c.in-For.first.value in
    let test = optional_tree c.in-For.test in
    let following = optional_action c.in-For.following in
    on_ok c.for_loop.result
    (λ e w h. statement-is (statement_tree c.args.tree.now) (For first test following (statement_tree c.in-For.body.value)) v w x c.args.code.now c.for_loop.new.code
    (ap statement_tree c.in-For.is ∙ statement_tree-for c.in-For.first c.in-For.test c.in-For.following c.in-For.body) h refl
    (e x ∙ ap (λ b. statement_code v x (For (beginning_tree b) test following (statement_tree c.deref-in-For-2.result.now)) ++ c.args.code.now) c.deref-in-For.ensures
    ∙ ap (λ s. statement_code v x (For first test following (statement_tree s)) ++ c.args.code.now) c.deref-in-For-2.ensures))
    c.for_loop.ensures.code

pub statements-loop-tree-2-init : goal.statements-loop-tree-2-init
statements-loop-tree-2-init t c =
    let done = drop_all c.loop-tree.tree-index c.args.trees.now (omega (arith, c.loop-tree-test.false)) in
    record {
      names = sym (ap (λ l. behind_all l c.loop-tree.names) done) ∙ c.loop-tree.invariant ∙ behind_all-reversed c.args.trees.now c.args.names.now;
      code = refl {a = written_onto c.args.exits (reverse c.args.trees.now) c.args.names.now c.args.code.now};
      longer = omega arith;
    }

pub statements-loop-tree-2-preserved : goal.statements-loop-tree-2-preserved
statements-loop-tree-2-preserved t c =
    let x = c.args.exits in
    let w = c.args.names.now in
    let all = reverse c.args.trees.now in
    let turn = YieldsList-turn (YieldsList-from_rev_slice c.args.trees.now cc) c.loop-tree-2.yielded _ c.loop-tree-2.yielded_by _ _ c.in-Some.tree c.in-Some.is c.next.ensures.steps in
    let left = drop-item all (length c.loop-tree-2.yielded) c.in-Some.tree.now turn.0 turn.1 in
    let before = subst (λ l. Writing x w all c.args.code.now c.loop-tree-2.names c.loop-tree-2.code l) left c.loop-tree-2.invariant in
    subst (λ n. Writing x w all c.args.code.now c.statement.new.names c.statement.new.code (drop n all)) (sym (length_push c.loop-tree-2.yielded c.in-Some.tree))
    (Writing-next x w all _ _ _ _ _ _ _ before c.in_ok-statement.ensures.names c.in_ok-statement.ensures.code)

pub statements-returns-clause-code : goal.statements-returns-clause-code
statements-returns-clause-code t c =
    let x = c.args.exits in
    let w = c.args.names.now in
    let all = reverse c.args.trees.now in
    let done = YieldsList-end (YieldsList-from_rev_slice c.args.trees.now cc) c.loop-tree-2.yielded _ c.loop-tree-2.yielded_by _ _ c.in-None.is c.next.ensures.steps in
    let left = drop_all (length c.loop-tree-2.yielded) all (omega (arith, done.1)) in
    sym (ap (λ l. written_onto x l w c.loop-tree-2.code) left) ∙ c.loop-tree-2.invariant.code ∙ written-is x c.args.trees.now w c.args.code.now c.requires.breaks c.requires.continues

pub turns-returns-clause-code : goal.turns-returns-clause-code
turns-returns-clause-code t c =
    let v = inner c.args.names.now in
    let s = statement_tree c.args.body.now in
    on_ok c.emit.result
    (λ e following test rest at b.
    let x : exits_of (length c.args.code.now) (record { breaks = c.args.breaks; continues = c.len-continues.result }) ≡ _ =
    ap (λ n. exits_of (length c.args.code.now) (record { breaks = c.args.breaks; continues = n })) c.len-continues.ensures ∙ exits-of-body following test rest c.args.code.now c.args.breaks at b in
    turns-are _ following test rest c.args.code.now c.inner_statement.new.code c.replace.new.self c.emit.new.self c.args.breaks at b
    (c.in_ok-inner_statement.ensures.code ∙ ap (λ y. statement_code v y s ++ c.args.code.now) x)
    (c.replace.ensures ∙ ap (λ n. set c.inner_statement.new.code (length c.inner_statement.new.code - (c.args.breaks + 1)) (Repeat n)) c.distance-back.ensures) e)
    c.emit.ensures
