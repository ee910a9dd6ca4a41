use Rattle.std.proofs.Common.{ℕ, get_or, arith, ◌∙◌, ap}
use Rattle.cc_link.specs.Stack.{most_called}
use Rattle.cc_emit.specs.declared.item.PieceItem.{PieceItem}
use Rattle.std.specs.Prelude.{List, ◌≡◌, ◌+◌, ◌≤◌}
use Rattle.cc_size.proofs.Deepening.{most_low, deeper_next}
use Rattle.cc_size.proofs.needs.deeper.Goals as goal

pub overflow_add-own : goal.overflow_add-own
overflow_add-own c =
    let a : get_or c.args.own.now c.loop-at.at 0 ≤ 2032 = c.requires.own c.loop-at.at in
    let b = most_low (λ g. get_or c.args.table.now g 0) 2078736 c.items.result.now c.requires.table in
    let e = c.most_called.ensures in
    omega arith

pub loop-at-preserved : goal.loop-at-preserved
loop-at-preserved c =
    let n : ℕ → ℕ = λ g. get_or c.args.table.now g 0 in
    let word : ℕ = get_or c.args.own.now c.loop-at.at 0 + c.most_called.result in
    let whose : word ≡ get_or c.args.own.now c.loop-at.at 0 + most_called n c.index-pieces-at.result.now.items =
    ap (λ (m : ℕ). get_or c.args.own.now c.loop-at.at 0 + m) (c.most_called.ensures ∙ ap (λ (l : List PieceItem). most_called n l) c.items.ensures.items) in
    deeper_next n c.args.own.now c.args.pieces.now c.loop-at.at c.index-pieces-at.result c.loop-at.more.items c.push.new.self.items _ word c.loop-at-test.true c.requires.count c.index-pieces-at.is whose (c.in_ok-push.ensures.items) c.loop-at.invariant
