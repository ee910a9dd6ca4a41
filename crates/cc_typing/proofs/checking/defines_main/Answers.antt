-- The declarations are examined one by one.
use Rattle.std.proofs.Common.{◌≡◌, ◌∙◌, ◌+◌, ◌||◌, true, false, [], ap, sym, drop}
use Rattle.std.proofs.Math.ListN.{drop_of_length-le}
use Rattle.cc_ast.specs.Erase.{external_tree, external_trees}
use Rattle.cc_types.specs.Rules.{is_main, defines_main}
use Rattle.cc_types.proofs.Items.{drop-item}
use Rattle.cc_typing.proofs.checking.defines_main.Goals as goal

pub loop-external-preserved : goal.loop-external-preserved
loop-external-preserved c =
    let left = drop-item c.args.externals.now c.loop-external.external-index c.external-item.result c.loop-external-test.true c.external-item.is in
    let rest = external_trees (drop (c.loop-external.external-index + 1) c.args.externals.now) in
    let no : is_main (external_tree c.external-item.result) ≡ false = sym c.is_main.ensures ∙ c.if-is_main.false in
    sym (ap (λ l. defines_main (external_trees l)) left ∙ ap (λ b. b || defines_main rest) no) ∙ c.loop-external.invariant

pub returns-then-is_main : goal.returns-then-is_main
returns-then-is_main c =
    let left = drop-item c.args.externals.now c.loop-external.external-index c.external-item.result c.loop-external-test.true c.external-item.is in
    let rest = external_trees (drop (c.loop-external.external-index + 1) c.args.externals.now) in
    let yes : is_main (external_tree c.external-item.result) ≡ true = sym c.is_main.ensures ∙ c.if-is_main.true in
    sym (ap (λ l. defines_main (external_trees l)) left ∙ ap (λ b. b || defines_main rest) yes) ∙ c.loop-external.invariant

pub returns : goal.returns
returns c =
    let nothing : drop c.loop-external.external-index c.args.externals.now ≡ [] = drop_of_length-le c.args.externals.now c.loop-external-test.false in
    sym (ap (λ l. defines_main (external_trees l)) nothing) ∙ c.loop-external.invariant
