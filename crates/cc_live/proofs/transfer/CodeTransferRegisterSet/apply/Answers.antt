-- Within the function the step goes over the position's node; past its end nothing is live.
use Rattle.std.proofs.Common.{sym, subst, IfOk}
use Rattle.cc_flow.specs.Lattice.{Equivalent}
use Rattle.cc_rtl_language.specs.Code.{node_of}
use Rattle.cc_live.specs.internal.Facts.{Below, live_before}
use Rattle.cc_live.proofs.Nodes.{carries_at, carries_past, least_same, same_both_ways}
use Rattle.cc_live.proofs.transfer.CodeTransferRegisterSet.apply.Goals as goal

pub returns-in-None : goal.returns-in-None
returns-in-None c =
    let code = c.args.self.now in
    subst (λ x. IfOk c.least.result (λ made. Equivalent Below made x)) (sym (carries_past code.strong code.rtl.now.nodes c.args.node c.args.facts.now c.in-None.ensures)) (least_same c.least.result c.least.ensures)

pub returns-in-Some : goal.returns-in-Some
returns-in-Some c =
    let code = c.args.self.now in
    let n = node_of c.in-Some.node.now in
    subst (λ x. IfOk c.live_before.result (λ made. Equivalent Below made x)) (sym (carries_at code.strong code.rtl.now.nodes c.args.node (record { label = c.args.node; node = n }) c.args.facts.now c.in-Some.ensures))
    (same_both_ways c.live_before.result (live_before code.strong n c.args.facts.now) c.live_before.ensures)
