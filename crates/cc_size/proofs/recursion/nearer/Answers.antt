use Rattle.std.proofs.Common.{◌≡◌, ℕ, List, Bool, false, get_or, ap, ◌∙◌}
use Rattle.std.specs.Prelude.{◌||◌}
use Rattle.cc_emit.specs.declared.item.PieceItem.{PieceItem}
use Rattle.cc_size.specs.internal.Reached.{items_call}
use Rattle.cc_size.proofs.Reaching.{nearer_next}
use Rattle.cc_size.proofs.recursion.nearer.Goals as goal

pub loop-at-preserved : goal.loop-at-preserved
loop-at-preserved c =
    let is : ℕ → Bool = λ g. get_or c.args.table.now g false in
    let own : Bool = get_or c.args.table.now c.loop-at.at false in
    let whose : c.either.result ≡ (own || items_call is c.index-pieces-at.result.now.items) =
    c.either.ensures ∙ ap (λ (b : Bool). own || b) (c.items_call-calls.ensures ∙ ap (λ (l : List PieceItem). items_call is l) c.items.ensures.items) in
    nearer_next is c.args.table.now c.args.pieces.now c.loop-at.at c.index-pieces-at.result c.loop-at.more.items c.push.new.self.items _ c.either.result c.loop-at-test.true c.requires c.index-pieces-at.is whose (c.in_ok-push.ensures.items) c.loop-at.invariant
