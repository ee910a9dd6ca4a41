use Rattle.std.proofs.Common.{◌≡◌, sym, ap, ◌∙◌, true, false}
use Rattle.cc_linear.specs.Targets.{targets}
use Rattle.cc_linear.specs.internal.Idle.{stays}
use Rattle.cc_linear.proofs.WithoutLabels.{kept_more}
use Rattle.cc_linear.proofs.idle.without_idle.Goals.{then-stays+in_ok-push, else-stays}
use Rattle.cc_linear.proofs.idle.without_idle.Goals as goal

pub loop-item-preserved : goal.loop-item-preserved
loop-item-preserved c =
    let items = c.args.items.now in
    let led = c.in_ok-led.led.items in
    let old = c.loop-item.kept.items in
    let stay : stays led c.item-item.result ≡ c.stays.result = ap (λ xs. stays xs c.item-item.result) (sym c.deref.ensures.value) ∙ sym c.stays.ensures in
    elim c.if-stays.branch [
      | then-stays+in_ok-push w ↦
          kept_more (targets items) led items c.loop-item.item-index c.item-item.result old c.if-stays.kept.items _ true c.in_ok-led.ensures.same c.loop-item-test.true c.item-item.is (stay ∙ w.if-stays.true) (ap (λ v. v.items) w.kept-is ∙ w.in_ok-push.ensures.items) c.loop-item.invariant
      | else-stays w ↦
          kept_more (targets items) led items c.loop-item.item-index c.item-item.result old c.if-stays.kept.items _ false c.in_ok-led.ensures.same c.loop-item-test.true c.item-item.is (stay ∙ w.if-stays.false) (ap (λ v. v.items) w.kept-is) c.loop-item.invariant
    ]
