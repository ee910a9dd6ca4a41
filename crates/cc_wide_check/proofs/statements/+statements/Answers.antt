-- A switch, and a `while`, by the test for a switch; and the statements of a block one by one.
use Rattle.std.proofs.Common.{◌≡◌, suc, ◌+◌, ◌-◌, ◌/◌, ◌<◌, true, false, ◌&&◌, refl, ap, sym, ◌∙◌, length, take, drop, arith}
use denote.Param.Weighed.{most}
use Rattle.std.proofs.lemmas.List.{take_rest}
use Rattle.cc_ast.proofs.ast.Statement.TheLaws.{the_size}
use Rattle.std.proofs.lemmas.Bool.{lt-leb}
use Rattle.cc_ast.specs.Erase.{expression_tree, statement_tree, statements_of}
use Rattle.cc_ast.specs.Tree as tree
use Rattle.cc_ast.specs.declared.ast.Statement.{Statement}
use Rattle.cc_wide.specs.Places.{bare_statement, bare_statements}
use Rattle.cc_wide.specs.WideTree as wide
use Rattle.cc_wide.specs.Lowering.{Loop, few_sections, lowered, all_lowered}
use Rattle.cc_wide_text.specs.Forms.{wide_statement}
use Rattle.cc_wide_check.specs.internal.Equal.{equal_statement, equal_statements}
use Rattle.cc_wide_check.specs.internal.Sections.{are_few, is_end, are_grouped, are_halved, parts, of_block, of_switch}
use Rattle.cc_wide_check.specs.internal.Views.{around_of, wide_of, left, sections_left}
use Rattle.cc_wide_check.proofs.Few.{few-parts}
use Rattle.cc_wide_check.proofs.Grouping.{most-halves, first-front, first-count, other-front, other-count, no-halves, both-halves}
use Rattle.cc_wide_check.proofs.Lists.{pairs-differ}
use Rattle.cc_wide_check.proofs.Reading.{bare_of, statement-read, statement-differs, read-all, none-left, nothing-left, something-left}
use Rattle.cc_wide_check.proofs.Sections.{groups-few, groups-halved, switch-same}
use Rattle.cc_wide_check.proofs.Switches.{while-is}
use Rattle.cc_wide_check.proofs.Trees.{block-tree, while-tree, tested}
use Rattle.cc_wide_check.proofs.statements.+statements.Goals as goal

pub after_statement-returns-then-not-same_statement-clause-read : goal.after_statement-returns-then-not-same_statement-clause-read
after_statement-returns-then-not-same_statement-clause-read t c =
    let a = around_of c.args.around in
    let w = wide_statement (statement_tree c.args.s.now) in
    let x = c.index-reading-reading.result in
    let one : suc c.args.depth ≡ c.args.depth + 1 = omega arith in
    let differs : equal_statement (bare_statement (statement_tree x)) (bare_statement (lowered a (suc c.args.depth) w)) ≡ false =
    ap (λ k. equal_statement (bare_statement (statement_tree x)) (bare_statement (lowered a k w))) one
    ∙ ap (λ k. equal_statement (bare_statement (statement_tree k)) (bare_statement (lowered a (c.args.depth + 1) w))) c.index-reading-reading.is ∙ sym c.same_statement.ensures ∙ c.if-not-same_statement.true in
    λ go ifs. statement-differs (bare_statement (lowered a (suc c.args.depth) w)) go ifs c.args.reading.body.now c.args.reading.done x c.if-reading.false c.index-reading-reading.is differs

pub after_statement-returns-clause-read : goal.after_statement-returns-clause-read
after_statement-returns-clause-read t c =
    let a = around_of c.args.around in
    let w = wide_statement (statement_tree c.args.s.now) in
    let x = c.index-reading-reading.result in
    let one : suc c.args.depth ≡ c.args.depth + 1 = omega arith in
    let same : equal_statement (bare_statement (statement_tree x)) (bare_statement (lowered a (suc c.args.depth) w)) ≡ true =
    ap (λ k. equal_statement (bare_statement (statement_tree x)) (bare_statement (lowered a k w))) one
    ∙ ap (λ k. equal_statement (bare_statement (statement_tree k)) (bare_statement (lowered a (c.args.depth + 1) w))) c.index-reading-reading.is ∙ sym c.same_statement.ensures ∙ c.if-not-same_statement.false in
    λ go ifs. statement-read (bare_statement (lowered a (suc c.args.depth) w)) go ifs c.args.reading.body.now c.args.reading.done x c.if-reading.false c.index-reading-reading.is same

pub same_sections-returns-then-reading : goal.same_sections-returns-then-reading
same_sections-returns-then-reading t c =
    let r = c.loop-s.reading in
    let ifs = c.args.ifs.now in
    none-left r.next ifs c.loop-s.invariant.within
    ∙ sym (read-all (around_of c.args.around) c.args.depth r.sections r.label c.args.all.now c.loop-s.s-index (left r) (sections_left r ifs) c.loop-s-test.false
    ∙ ap (λ b. b && is_end (sections_left r ifs)) (nothing-left r.body.now r.done c.if-reading.true))
    ∙ c.loop-s.invariant.same

pub same_sections-returns-else-reading : goal.same_sections-returns-else-reading
same_sections-returns-else-reading t c =
    let r = c.loop-s.reading in
    let ifs = c.args.ifs.now in
    lt-leb (length r.body.now) r.done c.if-reading.false
    ∙ sym (read-all (around_of c.args.around) c.args.depth r.sections r.label c.args.all.now c.loop-s.s-index (left r) (sections_left r ifs) c.loop-s-test.false
    ∙ ap (λ b. b && is_end (sections_left r ifs)) (something-left r.body.now r.done c.if-reading.false))
    ∙ c.loop-s.invariant.same

pub same_statement-returns-in-Block-Block : goal.same_statement-returns-in-Block-Block
same_statement-returns-in-Block-Block t c =
    let a = around_of c.args.around in
    let d = c.args.depth in
    let ws = c.in-Block-Block.ws in
    let ss = c.in-Block-Block.ss in
    c.same_statements.ensures
    ∙ ap (λ l. equal_statements (bare_of l) (bare_statements (all_lowered a d (wide_of c.as_slice.result.now)))) c.as_slice-in-Block-Block.ensures.value
    ∙ ap (λ l. equal_statements (bare_of ss.items) (bare_statements (all_lowered a d (wide_of l)))) c.as_slice.ensures.value
    ∙ sym (ap (λ w. equal_statement (bare_statement (statement_tree c.args.tree.now)) (bare_statement (lowered a d (wide_statement w)))) (block-tree c.args.wide.now ws c.in-Block-Block.is-0)
    ∙ ap (λ s. equal_statement (bare_statement s) (bare_statement (lowered a d (wide.Block (wide_of ws.items))))) (block-tree c.args.tree.now ss c.in-Block-Block.is-1))

pub same_statement-returns-then-is_switch : goal.same_statement-returns-then-is_switch
same_statement-returns-then-is_switch t c =
    let a = around_of c.args.around in
    let d = c.args.depth in
    let s = bare_statement (statement_tree c.args.tree.now) in
    let test = c.in-While-default.c in
    let body = c.in-While-default.body in
    let is = tested test.value c.deref-in-While-default.result.now body.value c.deref-in-While-default-2.result.now c.is_switch.result true c.deref-in-While-default.ensures c.deref-in-While-default-2.ensures c.is_switch.ensures c.if-is_switch.true in
    c.same_switch.ensures ∙ ap (λ m. of_switch a d (statement_tree m) s) c.deref-then-is_switch.ensures
    ∙ sym (switch-same a d (expression_tree test.value) (statement_tree body.value) s is)
    ∙ sym (ap (λ w. equal_statement s (bare_statement (lowered a d (wide_statement w)))) (while-tree c.args.wide.now test body c.in-While-default.is-0))

pub same_statement-returns-else-is_switch : goal.same_statement-returns-else-is_switch
same_statement-returns-else-is_switch t c =
    let a = around_of c.args.around in
    let d = c.args.depth in
    let s = bare_statement (statement_tree c.args.tree.now) in
    let test = c.in-While-default.c in
    let body = c.in-While-default.body in
    let is = tested test.value c.deref-in-While-default.result.now body.value c.deref-in-While-default-2.result.now c.is_switch.result false c.deref-in-While-default.ensures c.deref-in-While-default-2.ensures c.is_switch.ensures c.if-is_switch.false in
    c.same_while.ensures
    ∙ ap (λ b. equal_statement s (bare_statement (lowered Loop d (wide.While (expression_tree c.deref-else-is_switch-2.result.now) (wide_statement (statement_tree b)))))) c.deref-else-is_switch.ensures
    ∙ ap (λ e. equal_statement s (bare_statement (lowered Loop d (wide.While (expression_tree e) (wide_statement (statement_tree body.value)))))) c.deref-else-is_switch-2.ensures
    ∙ sym (ap (λ w. equal_statement s (bare_statement (lowered a d w))) (while-is (expression_tree test.value) (statement_tree body.value) is))
    ∙ sym (ap (λ w. equal_statement s (bare_statement (lowered a d (wide_statement w)))) (while-tree c.args.wide.now test body c.in-While-default.is-0))

pub same_statements-returns-then-wide-trees : goal.same_statements-returns-then-wide-trees
same_statements-returns-then-wide-trees t c =
    let a = around_of c.args.around in
    let d = c.args.depth in
    pairs-differ Statement Statement (λ x y. equal_statement (bare_statement (statement_tree y)) (bare_statement (lowered a d (wide_statement (statement_tree x)))))
    (λ k l. equal_statements (bare_of l) (bare_statements (all_lowered a d (wide_of k))))
    (record { none = refl; left = λ x xs. refl; right = λ y ys. refl; more = λ x xs y ys. refl }) c.args.wide.now c.args.trees.now
    (λ (e : length c.args.wide.now ≡ length c.args.trees.now). omega arith)

pub same_block-returns-in-Block-Block : goal.same_block-returns-in-Block-Block
same_block-returns-in-Block-Block t c =
    let a = around_of c.args.around in
    let d = c.args.depth in
    let e = expression_tree c.args.e.now in
    let all = c.in-Block-Block.all in
    let trees = c.in-Block-Block.trees in
    c.same_parts.ensures
    ∙ ap (λ l. parts a d e (wide_of l) (bare_of c.as_slice-in-Block-Block.result.now)) c.as_slice.ensures.value
    ∙ ap (λ l. parts a d e (wide_of all.items) (bare_of l)) c.as_slice-in-Block-Block.ensures.value
    ∙ sym (ap (λ b. of_block a d e b (bare_statement (statement_tree c.args.tree.now))) (block-tree c.args.block.now all c.in-Block-Block.is-0)
    ∙ ap (λ s. of_block a d e (tree.Block (statements_of all.items)) (bare_statement s)) (block-tree c.args.tree.now trees c.in-Block-Block.is-1))

pub same_parts-returns-in-empty : goal.same_parts-returns-in-empty
same_parts-returns-in-empty t c =
    let few : length c.args.trees.now < 3 = omega arith in
    few-parts (around_of c.args.around) c.args.depth (expression_tree c.args.e.now) (wide_of c.args.all.now) c.args.trees.now few

-- ---- groups of sections

pub same_groups-returns-then-are_few : goal.same_groups-returns-then-are_few
same_groups-returns-then-are_few t c =
    c.same_sections.ensures
    ∙ groups-few (around_of c.args.around) c.args.levels c.args.depth c.args.before (wide_of c.args.all.now) (bare_of c.args.ifs.now) c.requires.enters
    (ap (are_few c.args.levels few_sections) (sym c.section_count-count.ensures.is) ∙ sym c.are_few.ensures.is ∙ c.if-are_few.true)

pub same_groups-returns : goal.same_groups-returns
same_groups-returns t c =
    let a = around_of c.args.around in
    let ws = wide_of c.args.all.now in
    let ifs = bare_of c.args.ifs.now in
    let some : 0 < c.args.levels = c.are_few.ensures.some c.if-are_few.false in
    let one : c.args.levels ≡ suc (c.args.levels - 1) = omega (arith, some) in
    c.same_halves.ensures
    ∙ ap (λ k. are_halved a (c.args.levels - 1) c.args.depth c.args.before (k / 2) ws ifs) c.section_count-count.ensures.is
    ∙ groups-halved a c.args.levels (c.args.levels - 1) c.args.depth c.args.before ws ifs one
    (ap (are_few c.args.levels few_sections) (sym c.section_count-count.ensures.is) ∙ sym c.are_few.ensures.is ∙ c.if-are_few.false)

pub same_halves-returns-in_default : goal.same_halves-returns-in_default
same_halves-returns-in_default t c =
    no-halves c.args.half c.args.all.now c.cut-at.result c.cut-at.ensures.is (around_of c.args.around) c.args.levels c.args.depth c.args.before c.args.ifs.now c.first-item.result
    c.in-len1-up.len_at_least c.first-item.is c.in_default.ensures

pub same_halves-same_groups-requires : goal.same_halves-same_groups-requires
same_halves-same_groups-requires t c =
    let deep = most-halves the_size c.cut-at.result c.args.all.now in
    let front = first-front c.args.half c.args.all.now c.cut-at.result c.cut-at.ensures.is in
    let fewer = first-count c.args.half c.args.all.now c.cut-at.result c.cut-at.ensures.is in
    (omega (arith, deep, c.decreases), (c.requires.low, (front ∙ c.requires.enters, omega (arith, fewer, c.requires.room))))

pub same_halves-same_groups-requires-then-same_groups : goal.same_halves-same_groups-requires-then-same_groups
same_halves-same_groups-requires-then-same_groups t c =
    let at = c.cut-at.result in
    let all = c.args.all.now in
    let deep = most-halves the_size at all in
    let same = ap (most the_size) (take_rest all at) in
    let count = other-count c.args.half all at c.cut-at.ensures.is c.requires.half in
    (omega (arith, deep, same, c.decreases), (c.requires.low, (other-front c.args.half all at c.cut-at.ensures.is, omega (arith, count, c.requires.room))))

pub same_halves-returns-then-same_groups : goal.same_halves-returns-then-same_groups
same_halves-returns-then-same_groups t c =
    let a = around_of c.args.around in
    let at = c.cut-at.result in
    let all = c.args.all.now in
    let ifs = c.args.ifs.now in
    let other = are_grouped a c.args.levels c.args.depth (c.args.before + c.args.half) (wide_of (take (length all - at) (drop at all))) (bare_of (take (length ifs - 1) (drop 1 ifs))) in
    c.same_groups-then-same_groups.ensures ∙ sym (ap (λ b. b && other) (sym c.same_groups.ensures ∙ c.if-same_groups.true))
    ∙ both-halves c.args.half all at c.cut-at.ensures.is a c.args.levels c.args.depth c.args.before ifs c.first-item.result c.in-len1-up.len_at_least c.first-item.is c.in-Some.body.now c.in-Some.ensures

pub same_halves-returns-else-same_groups : goal.same_halves-returns-else-same_groups
same_halves-returns-else-same_groups t c =
    let a = around_of c.args.around in
    let at = c.cut-at.result in
    let all = c.args.all.now in
    let ifs = c.args.ifs.now in
    let other = are_grouped a c.args.levels c.args.depth (c.args.before + c.args.half) (wide_of (take (length all - at) (drop at all))) (bare_of (take (length ifs - 1) (drop 1 ifs))) in
    c.if-same_groups.false ∙ sym (ap (λ b. b && other) (sym c.same_groups.ensures ∙ c.if-same_groups.false))
    ∙ both-halves c.args.half all at c.cut-at.ensures.is a c.args.levels c.args.depth c.args.before ifs c.first-item.result c.in-len1-up.len_at_least c.first-item.is c.in-Some.body.now c.in-Some.ensures
