-- The declarations are counted one by one.
use Rattle.std.proofs.Common.{◌+◌, ◌∙◌, ap, sym, drop}
use Rattle.cc_ast.specs.Erase.{external_tree, external_trees}
use Rattle.cc_typing.specs.internal.Counts.{word_count, words_after}
use Rattle.cc_types.specs.internal.Externals.{objects_in}
use Rattle.cc_types.specs.Limits.{objects}
use Rattle.cc_typing.proofs.Excesses.{words_words}
use Rattle.cc_types.proofs.Definitions.{objects-next}
use Rattle.cc_types.proofs.Items.{drop-item}
use Rattle.cc_typing.proofs.limits.past_words.Goals as goal

pub loop-external-preserved : goal.loop-external-preserved
loop-external-preserved c =
    let left = drop-item c.args.externals.now c.loop-external.external-index c.external-item.result c.loop-external-test.true c.external-item.is in
    let e = external_tree c.external-item.result in
    let rest = external_trees (drop (c.loop-external.external-index + 1) c.args.externals.now) in
    ap (λ w. words_after w (objects rest)) c.add_external.ensures ∙ words_words (word_count c.loop-external.words) (objects_in e) (objects rest)
    ∙ sym (ap (words_after (word_count c.loop-external.words)) (ap (λ l. objects (external_trees l)) left ∙ objects-next e rest)) ∙ c.loop-external.invariant
