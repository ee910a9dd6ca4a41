use Rattle.std.proofs.Common.{◌+◌, length, get_or, drop, subst, sym, ap, ◌∙◌, arith, Some, ◌++◌}
use Rattle.std.proofs.lemmas.List.{drop_more}
use Rattle.cc_ltl.specs.declared.block.Block.{Block}
use Rattle.cc_linear.specs.internal.Layout.{laid}
use Rattle.cc_linear.specs.internal.Places.{LeadsIn, end_in, labels_at, listed}
use Rattle.cc_linear.proofs.ByPlace.{labels_long, leads_at, block_there}
use Rattle.cc_linear.proofs.Rows.{laid_more}
use Rattle.cc_linear.proofs.layout.lay_out.Goals as goal

pub put_block-requires-clause-leads : goal.put_block-requires-clause-leads
put_block-requires-clause-leads c =
    let labels = c.args.labels.now in
    let blocks = c.args.blocks.now in
    let place = get_or c.args.order.now c.loop-i.i 0 in
    let low = c.requires.order c.loop-i.i 0 c.loop-i-test.true in
    let many = ap length c.requires.blocks in
    let long = labels_long blocks in
    subst (λ (b : Block). LeadsIn labels b.operation) (sym c.index-blocks-place.is) (leads_at labels blocks place c.index-blocks-place.result c.requires.leads (omega arith))

pub loop-i-preserved : goal.loop-i-preserved
loop-i-preserved c =
    let labels = c.args.labels.now in
    let blocks = c.args.blocks.now in
    let order = c.args.order.now in
    let end = end_in labels c.args.ends.now in
    let i = c.loop-i.i in
    let place = get_or order i 0 in
    let block = c.index-blocks-place.result in
    let low = c.requires.order i 0 c.loop-i-test.true in
    let at = block_there labels blocks place block c.requires.blocks c.requires.labels low ∙ ap (λ (b : Block). Some b) (sym c.index-blocks-place.is) in
    laid_more blocks end (get_or labels place 0) (labels_at labels (drop (i + 1) order)) (listed c.label_at-following.result) block c.loop-i.items.items c.put-in-loop-i.new.items.items c.put_block.new.items.items at c.label_at-following.ensures c.in_ok-put-2.ensures c.in_ok-put_block.ensures
    ∙ ap (λ ls. c.loop-i.items.items ++ laid blocks end (labels_at labels ls)) (sym (drop_more order i 0 c.loop-i-test.true)) ∙ c.loop-i.invariant
