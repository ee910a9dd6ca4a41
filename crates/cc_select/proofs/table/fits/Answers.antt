use Rattle.std.proofs.Common.{sym, ◌∙◌}
use Rattle.cc_select.proofs.Sweeping.{look_begins, look_more, look_fails}
use Rattle.cc_select.proofs.table.fits.Goals as goal

pub loop-at-init : goal.loop-at-init
loop-at-init c = look_begins c.args.steps.now c.args.table.now c.none-live.result c.args.behind.now.items c.none-live.ensures c.requires

pub returns-then-not-is_met-clause-answer : goal.returns-then-not-is_met-clause-answer
returns-then-not-is_met-clause-answer c =
    look_fails c.args.steps.now c.args.table.now c.loop-at.at c.loop-at.live c.loop-at.behind.items c.index-steps-at.result (c.loop-at-test.true, c.index-steps-at.is) (sym c.is_met.ensures ∙ c.if-not-is_met.true) c.loop-at.invariant

pub loop-at-preserved : goal.loop-at-preserved
loop-at-preserved c =
    look_more c.args.steps.now c.args.table.now c.loop-at.at c.loop-at.live c.live_before-live.result c.loop-at.behind.items c.index-steps-at.result (c.loop-at-test.true, c.index-steps-at.is) (sym c.is_met.ensures ∙ c.if-not-is_met.false)
    c.live_before-live.ensures c.loop-at.invariant
