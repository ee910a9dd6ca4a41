use Rattle.std.proofs.Common.{arith, ◌++◌, ap, ◌∙◌, append-nil}
use Rattle.cc_pool.proofs.hiring.take_back.Goals as goal

pub loop-i-preserved : goal.loop-i-preserved
loop-i-preserved g c =
    let e = c.join.ensures in
    let h = c.loop-i.invariant in
    record {
      role = ap (λ v. v.role) e ∙ h.role;
      splits = ap (λ v. v.splits) e ∙ h.splits;
      joins = omega (arith, ap (λ v. v.joins) e, h.joins);
      sent = ap (λ v. v.sent) e ∙ (λ i. h.sent i ++ c.into_seat.ensures.sent i) ∙ append-nil c.args.seat.now.sent;
    }
