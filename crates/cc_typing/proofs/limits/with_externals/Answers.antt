-- The declarations are checked one by one.
use Rattle.std.proofs.Common.{◌+◌, ◌∙◌, ap, sym, drop}
use Rattle.cc_ast.specs.Erase.{external_tree, external_trees}
use Rattle.cc_typing.specs.internal.Findings.{noted}
use Rattle.cc_types.specs.Limits.{external_excesses, externals_excesses}
use Rattle.cc_typing.proofs.Parts.{noted-append}
use Rattle.cc_types.proofs.Items.{drop-item}
use Rattle.cc_typing.proofs.limits.with_externals.Goals as goal

pub loop-external-preserved : goal.loop-external-preserved
loop-external-preserved c =
    let left = drop-item c.args.externals.now c.loop-external.external-index c.external-item.result c.loop-external-test.true c.external-item.is in
    let e = external_tree c.external-item.result in
    let rest = external_trees (drop (c.loop-external.external-index + 1) c.args.externals.now) in
    ap (λ f. noted f (externals_excesses rest)) c.with_external-first.ensures ∙ noted-append c.loop-external.first (external_excesses e) (externals_excesses rest)
    ∙ sym (ap (λ l. noted c.loop-external.first (externals_excesses (external_trees l))) left) ∙ c.loop-external.invariant
