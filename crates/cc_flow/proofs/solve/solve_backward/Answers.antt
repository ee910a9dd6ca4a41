-- If a node rose, all nodes that read it wait, and the rise pays for them; otherwise one node fewer waits.
use Rattle.std.proofs.Common.{◌≡◌, ℕ, suc, ◌*◌, ◌<◌, length, set, ap, ◌∙◌, sym, subst, arith, sum_by, List, Bool, true, false}
use Rattle.std.proofs.lemmas.List.{length-set}
use Rattle.cc_flow.specs.internal.Waiting.{waits, how_many}
use Rattle.cc_flow.proofs.Queue.{few_wait, one_less, in_flags}
use Rattle.cc_flow.proofs.Joins.{IsDone, done_risen, pays}
use Rattle.cc_flow.proofs.solve.solve_backward.Goals as goal

pub loop-node-smaller-in-Continue-branch-4 : goal.loop-node-smaller-in-Continue-branch-4
loop-node-smaller-in-Continue-branch-4 g c =
    let rose = c.in_ok-raise.ensures.rises c.if-branch.true in
    let taken = c.in-Some.ensures.taken in
    let long : length c.wake.new.waiting ≡ length c.args.graph.now = c.in_ok-wake.ensures.long ∙ ap (λ (w : List Bool). length w) taken.1 ∙ length-set c.loop-node.waiting c.in-Some.node false ∙ c.loop-node.invariant.flags in
    let few = few_wait c.wake.new.waiting in
    pays (length c.args.graph.now) _ _ (how_many c.loop-node.waiting) (how_many c.wake.new.waiting) rose (omega arith)

pub loop-node-smaller : goal.loop-node-smaller
loop-node-smaller g c =
    let same = c.in_ok-raise.ensures.stays c.if-branch.false in
    let taken = c.in-Some.ensures.taken in
    let less = one_less c.loop-node.waiting c.in-Some.node taken.0 in
    let now = ap how_many taken.1 in
    let sum = ap (λ fs. sum_by g.F.Facts.room fs * suc (length c.args.graph.now)) same in
    omega arith

pub loop-node-preserved-in-Continue-branch-4 : goal.loop-node-preserved-in-Continue-branch-4
loop-node-preserved-in-Continue-branch-4 g c =
    let f = g.F.Facts in
    let carries = g.T.Transfer.carries c.args.transfer.now in
    let monotone = g.met.T.Transfer.monotone c.args.transfer.now in
    let graph = c.args.graph.now in
    let facts = c.loop-node.facts.items in
    let node = c.in-Some.node in
    let taken = c.in-Some.ensures.taken in
    let raised = c.in_ok-raise.ensures.raised in
    let flags : length c.wake.new.waiting ≡ length graph = c.in_ok-wake.ensures.long ∙ ap (λ (w : List Bool). length w) taken.1 ∙ length-set c.loop-node.waiting node false ∙ c.loop-node.invariant.flags in
    let inside = in_flags c.loop-node.waiting node taken.0 in
    let within : node < length facts = omega arith in
    let still : (l : ℕ) → waits (set c.loop-node.waiting node false) l ≡ true → waits c.wake.new.waiting l ≡ true = λ l w. c.in_ok-wake.ensures.still l (ap (λ (fs : List Bool). waits fs l) taken.1 ∙ w) in
    let done = done_risen f.below f.bottom f.lub g.met.F.Facts.laws carries monotone graph c.loop-node.waiting c.wake.new.waiting facts node raised.0 within raised.2 still (λ l h. c.in_ok-wake.ensures.woken l (c.predecessors.ensures.leads l h)) c.loop-node.invariant.done in
    record {
      long = ap (λ fs. length fs) raised.1 ∙ length-set facts node raised.0 ∙ c.loop-node.invariant.long;
      flags = flags;
      done = subst (IsDone f.below f.bottom f.lub g.met.F.Facts.laws carries monotone graph c.wake.new.waiting) (sym raised.1) done;
      least = λ other solves. c.in_ok-raise.ensures.within other solves (c.loop-node.invariant.least other solves);
    }
