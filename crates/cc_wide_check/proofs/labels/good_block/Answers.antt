use Rattle.std.proofs.Common.{ap, sym, ◌∙◌}
use Rattle.cc_wide_check.specs.internal.Labels.{are_good, good_block}
use Rattle.cc_wide_check.specs.internal.Views.{wide_of}
use Rattle.cc_wide_check.proofs.Trees.{block-tree}
use Rattle.cc_wide_check.proofs.labels.good_block.Goals as goal

pub returns-in-Block : goal.returns-in-Block
returns-in-Block c = c.are_good.ensures ∙ ap (λ l. are_good (wide_of l)) c.as_slice.ensures.value ∙ sym (ap good_block (block-tree c.args.s.now c.in-Block.all c.in-Block.is))
