-- The node that was popped was waiting, and is no longer in the queue.
use Rattle.std.proofs.Common.{heap_items, ◌<◌, length, rules}
use Rattle.cc_flow.proofs.Queue.{queued_less, popped_waits, in_flags}
use Rattle.cc_flow.proofs.worklist.Worklist.take.Goals as goal

pub index_mut-requires : goal.index_mut-requires
index_mut-requires c =
    let within : c.in_ok-node.node < length c.self.inside.waits.items = in_flags c.self.inside.waits.items c.in_ok-node.node (popped_waits (heap_items c.self.inside.queue) (heap_items c.pop.new.self) c.self.inside.waits.items c.in_ok-node.node c.in_ok-node.ensures.permutation c.self.invariant) in
    search rules

pub invariant_of-self-2 : goal.invariant_of-self-2
invariant_of-self-2 c = queued_less (heap_items c.self.inside.queue) (heap_items c.pop.new.self) c.self.inside.waits.items c.in_ok-node.node c.in_ok-node.ensures.permutation c.self.invariant
