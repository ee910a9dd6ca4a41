use Rattle.std.proofs.Common.{subst, ℕ, length}
use Rattle.std.specs.Prelude.{◌↔◌}
use Rattle.std.specs.List.{Contains}
use Rattle.cc_linear.proofs.Finding.{closed_order, all_inside}
use Rattle.cc_linear.proofs.tracing.order.order.Goals as goal

pub returns-clause-entry : goal.returns-clause-entry
returns-clause-entry c =
    let same = subst (λ xs. (l : ℕ) → Contains c.in_ok-order.order.items l ↔ Contains xs l) c.as_slice-labels.ensures.value c.in_ok-order.ensures.same in
    (same c.args.entry).1 c.in_ok-found.ensures.entry

pub returns-clause-closed : goal.returns-clause-closed
returns-clause-closed c =
    let same = subst (λ xs. (l : ℕ) → Contains c.in_ok-order.order.items l ↔ Contains xs l) c.as_slice-labels.ensures.value c.in_ok-order.ensures.same in
    closed_order c.args.graph.now c.in_ok-found.found.items c.in_ok-order.order.items same c.in_ok-found.ensures.closed

pub returns-clause-inside : goal.returns-clause-inside
returns-clause-inside c =
    let same = subst (λ xs. (l : ℕ) → Contains c.in_ok-order.order.items l ↔ Contains xs l) c.as_slice-labels.ensures.value c.in_ok-order.ensures.same in
    all_inside (length c.args.graph.now) c.in_ok-found.found.items c.in_ok-order.order.items same c.in_ok-found.ensures.inside
