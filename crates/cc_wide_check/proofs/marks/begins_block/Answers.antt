use Rattle.std.proofs.Common.{ap, sym, ◌∙◌}
use Rattle.cc_ast.specs.Erase.{statements_of}
use Rattle.cc_wide_check.specs.internal.Switches.{begins, begins_block}
use Rattle.cc_wide_check.proofs.Trees.{block-tree}
use Rattle.cc_wide_check.proofs.marks.begins_block.Goals as goal

pub returns-in-Block : goal.returns-in-Block
returns-in-Block c = c.begins.ensures ∙ ap (λ l. begins (statements_of l)) c.as_slice.ensures.value ∙ sym (ap begins_block (block-tree c.args.s.now c.in-Block.all c.in-Block.is))
