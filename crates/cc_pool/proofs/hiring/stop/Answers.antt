use Rattle.std.proofs.Common.{◌++◌, ◌∷◌, [], ap, ◌∙◌, sym, append_assoc}
use Rattle.cc_pool.specs.declared.item.Item.TheVariants.{Stop}
use Rattle.cc_pool.specs.Rule.{is_live}
use Rattle.cc_pool.specs.Shared.{stops}
use Rattle.cc_pool.proofs.Lists.{stop_next}
use Rattle.cc_pool.proofs.hiring.stop.Goals as goal

pub send-requires : goal.send-requires
send-requires g c = ap is_live c.loop-i.invariant.role

pub loop-i-preserved : goal.loop-i-preserved
loop-i-preserved g c =
    let e = c.in-Ok.ensures.ok in
    let h = c.loop-i.invariant in
    record {
      role = ap (λ v. v.role) e ∙ h.role;
      splits = ap (λ v. v.splits) e ∙ h.splits;
      joins = ap (λ v. v.joins) e ∙ h.joins;
      sent =
          ap (λ v. v.sent) e
          ∙ (λ i. h.sent i ++ Stop ∷ [])
          ∙ append_assoc _ (stops c.loop-i._i) (Stop ∷ [])
          ∙ ap (λ l. c.args.seat.now.sent ++ l) (sym (stop_next c.loop-i._i));
    }
