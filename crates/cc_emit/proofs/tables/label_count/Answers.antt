use Rattle.std.proofs.Common.{rules}
use Rattle.cc_emit.proofs.Tabling.{counted_more}
use Rattle.cc_emit.proofs.tables.label_count.Goals as goal

pub loop-step-preserved : goal.loop-step-preserved
loop-step-preserved c =
    counted_more c.args.code.now c.loop-step.step-index c.loop-step.count c.above_label.result c.max-count.result c.step-item.result (search rules) c.step-item.is (search rules) (search rules) c.above_label.ensures c.loop-step.invariant
