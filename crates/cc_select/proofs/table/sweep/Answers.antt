use Rattle.std.proofs.Common.{sym, ◌∙◌}
use Rattle.cc_select.proofs.Sweeping.{sweep_begins, sweep_other}
use Rattle.cc_select.proofs.table.sweep.Goals as goal

pub loop-at-init : goal.loop-at-init
loop-at-init c = sweep_begins c.args.steps.now c.args.table.now c.none-live.result c.none-live.ensures

pub loop-at-preserved : goal.loop-at-preserved
loop-at-preserved c =
    sweep_other c.args.steps.now c.args.table.now c.loop-at.at c.loop-at.live c.live_before-live.result c.loop-at.table c.index-steps-at.result (c.loop-at-test.true, c.index-steps-at.is) (sym c.in-None.is ∙ c.label_of.ensures) c.live_before-live.ensures
    c.loop-at.invariant
