use Rattle.std.proofs.Common.{◌≡◌, ◌≤◌, List, Bool, false, get_or, length, ap, ◌∙◌, arith}
use Rattle.cc_emit.specs.declared.item.PieceItem.{PieceItem}
use Rattle.cc_link.specs.Linked.{all_items, lent_pieces}
use Rattle.cc_size.proofs.Reaching.{asked, bodies_long, found_next, found_row}
use Rattle.cc_size.proofs.recursion.add_of.Goals as goal

pub loop-called-preserved : goal.loop-called-preserved
loop-called-preserved c =
    let ps = c.args.pieces.now in
    found_next (all_items (lent_pieces ps)) c.args.caller c.loop-called.called c.loop-called.found.items c.add_if.new.found.items c.both.result c.in_ok-add_if.ensures
    (asked ps c.args.caller c.loop-called.called c.index-pieces-caller.result c.items.result.now c.as_slice-back.result.now c.both.result c.call-calls.result c.requires.within c.index-pieces-caller.is c.items.ensures.items c.call-calls.ensures (λ g. ap (λ (l : List Bool). get_or l g false) c.as_slice-back.ensures.value ∙ c.in_ok-leading.ensures.each g) c.both.ensures)
    c.loop-called.invariant

pub returns : goal.returns
returns c =
    let ps = c.args.pieces.now in
    let bodies : List (List PieceItem) = all_items (lent_pieces ps) in
    let same : length bodies ≡ length ps = bodies_long ps in
    let long = ap (λ (l : List Bool). length l) c.as_slice-back.ensures.value ∙ c.in_ok-leading.ensures.long in
    let within = c.requires.within in
    let least = c.loop-called-test.false in
    let past : length bodies ≤ c.loop-called.called = omega arith in
    found_row bodies c.args.caller c.loop-called.called c.loop-called.found.items (omega arith) past c.loop-called.invariant
