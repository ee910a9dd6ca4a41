use Rattle.std.proofs.Common.{Some, ap, sym, ◌∙◌}
use Rattle.cc_wide.specs.Places.{bare_statement}
use Rattle.cc_wide_check.specs.internal.Sections.{block_of}
use Rattle.cc_wide_check.proofs.Trees.{block-tree}
use Rattle.cc_wide_check.proofs.Reading.{bare_of}
use Rattle.cc_wide_check.proofs.statements.block_of.Goals as goal

pub returns-in-Block : goal.returns-in-Block
returns-in-Block c = ap (λ s. block_of (bare_statement s)) (block-tree c.args.s.now c.in-Block.all c.in-Block.is) ∙ sym (ap (λ l. Some (bare_of l)) c.as_slice.ensures.value)
