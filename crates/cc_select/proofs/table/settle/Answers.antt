use Rattle.std.proofs.Common.{sym, ◌∙◌}
use Rattle.cc_select.specs.Table.{table, everywhere}
use Rattle.cc_select.proofs.Sweeping.{settle_more, settle_ends, settle_none, everywhere_fits}
use Rattle.cc_select.proofs.table.settle.Goals as goal

pub returns-then-fits-clause-table : goal.returns-then-fits-clause-table
returns-then-fits-clause-table c =
    let steps = c.args.steps.now in
    settle_ends steps (table steps) c.loop-left.left c.loop-left.table c.sweep.new.table c.loop-left.behind.items c.loop-left-test.true c.in_ok-sweep.ensures (λ t h. sym c.if-fits.true ∙ c.fits.ensures.answer t h) c.loop-left.invariant

pub returns-then-fits-clause-behind : goal.returns-then-fits-clause-behind
returns-then-fits-clause-behind c =
    let steps = c.args.steps.now in
    c.fits.ensures.behind c.if-fits.true (table steps)
    (settle_ends steps (table steps) c.loop-left.left c.loop-left.table c.sweep.new.table c.loop-left.behind.items c.loop-left-test.true c.in_ok-sweep.ensures (λ t h. sym c.if-fits.true ∙ c.fits.ensures.answer t h) c.loop-left.invariant)

pub loop-left-preserved : goal.loop-left-preserved
loop-left-preserved c =
    let steps = c.args.steps.now in
    settle_more steps (table steps) c.loop-left.left c.loop-left.table c.sweep.new.table c.loop-left.behind.items c.fits.new.behind.items c.loop-left-test.true c.in_ok-sweep.ensures c.fits.ensures.long
    (λ t h. sym c.if-fits.false ∙ c.fits.ensures.answer t h) c.loop-left.invariant

pub returns-clause-behind : goal.returns-clause-behind
returns-clause-behind c =
    let steps = c.args.steps.now in
    c.fits-2.ensures.behind (c.fits-2.ensures.answer everywhere c.everywhere-table.ensures ∙ everywhere_fits steps) (table steps)
    (settle_none steps (table steps) c.loop-left.left c.loop-left.table c.everywhere-table.result c.loop-left.behind.items c.loop-left-test.false c.everywhere-table.ensures c.loop-left.invariant)
