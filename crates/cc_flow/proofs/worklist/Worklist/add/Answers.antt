-- The node that was pushed is in the queue once.
use Rattle.std.proofs.Common.{◌≡◌, ◌<◌, length, sym, ◌∙◌, heap_items, false, rules}
use Rattle.std.proofs.lemmas.List.{get_or_default}
use Rattle.cc_flow.specs.internal.Waiting.{waits}
use Rattle.cc_flow.proofs.Queue.{queued_more}
use Rattle.cc_flow.proofs.worklist.Worklist.add.Goals as goal

pub invariant_of-self-then-not-index : goal.invariant_of-self-then-not-index
invariant_of-self-then-not-index c =
    let within : c.args.node < length c.self.inside.waits.items = search rules in
    let out : waits c.self.inside.waits.items c.args.node ≡ false = sym (get_or_default c.self.inside.waits.items c.args.node c.index.result.now false within) ∙ sym c.index.ensures ∙ c.if-not-index.true in
    queued_more (heap_items c.self.inside.queue) (heap_items c.push.new.self) c.self.inside.waits.items c.args.node within out c.in_ok-push.ensures.permutation c.self.invariant
