use Rattle.std.proofs.Common.{rules, ◌+◌, refl, sym, ap, ◌∙◌, subst}
use Rattle.cc_emit.proofs.Kept.{Chosen, chosen_more, chosen_past, kept_below}
use Rattle.cc_emit.proofs.frame.Frame.new.Goals.{then-written-register+in_ok-push-2, else-written-register}
use Rattle.cc_emit.proofs.frame.Frame.new.Goals as goal

pub loop-register-preserved : goal.loop-register-preserved
loop-register-preserved c =
    let i = c.loop-register.register-index in
    let told = c.written-written.ensures _ (kept_below i) in
    elim c.if-written-register.branch [
      | then-written-register+in_ok-push-2 w ↦
          chosen_more c.args.code.now i _ c.loop-register.saved.items c.if-written-register.saved.items refl (search rules) (kept_below i) (sym told ∙ w.if-written-register.true) (ap (λ v. v.items) w.saved-is ∙ w.in_ok-push-2.ensures.items)
          c.loop-register.invariant
      | else-written-register w ↦
          (let past = chosen_past c.args.code.now i _ c.loop-register.saved.items refl (search rules) (sym told ∙ w.if-written-register.false) c.loop-register.invariant in
          subst (λ v. Chosen c.args.code.now (i + 1) v.items) (sym w.saved-is) past)
    ]
