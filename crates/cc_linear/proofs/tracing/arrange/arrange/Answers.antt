use Rattle.std.proofs.Common.{arith, sym, ap, ◌∙◌, ◌≡◌, ◌<◌, length, get_or}
use Rattle.std.specs.Prelude.{true, false}
use Rattle.std.proofs.lemmas.List.{get_or_default}
use Rattle.std.proofs.Math.ListN.{length-set}
use Rattle.cc_linear.proofs.Arranging.{arranged_more, arranged_to, cleared_more, kept_cleared}
use Rattle.cc_linear.proofs.tracing.arrange.arrange.Goals.{then-label-count+then-index+in_ok-push, else-label-count, else-label-count-via-then-label-count+else-index, else-label-count-via-else-label-count, then-index-2+in_ok-push-2, else-index-2}
use Rattle.cc_linear.proofs.tracing.arrange.arrange.Goals as goal

pub loop-i-2-preserved : goal.loop-i-2-preserved
loop-i-2-preserved c = elim c.if-label-count.branch [
  | then-label-count+then-index+in_ok-push w ↦ (let label = get_or c.args.wish.now c.loop-i-2.i 0 in
      let wanted = c.loop-i-2.wanted.items in
      let below = w.if-label-count.true in
      let is : get_or wanted label false ≡ true = sym (w.index.ensures ∙ get_or_default wanted label w.index.result.now false (omega arith)) ∙ w.if-index.true in
      let wanted_is = ap (λ v. v.items) w.wanted-is in
      let order_is = ap (λ v. v.items) w.order-is in
      let a = arranged_more c.args.labels.now wanted c.loop-i-2.order.items label (omega arith) is c.loop-i-2.invariant.arranging in
      record { long = ap length wanted_is ∙ length-set wanted label false ∙ c.loop-i-2.invariant.long; arranging = arranged_to c.args.labels.now _ _ _ _ wanted_is (order_is ∙ w.in_ok-push.ensures.items) a })
  | else-label-count w ↦ (let wanted_is = ap (λ v. v.items) w.wanted-is in let order_is = ap (λ v. v.items) w.order-is in
      record { long = ap length wanted_is ∙ c.loop-i-2.invariant.long; arranging = arranged_to c.args.labels.now _ _ _ _ wanted_is order_is c.loop-i-2.invariant.arranging })
]

pub loop-i-3-preserved : goal.loop-i-3-preserved
loop-i-3-preserved c = elim c.if-index-2.branch [
  | then-index-2+in_ok-push-2 w ↦ (let label = get_or c.args.labels.now c.loop-i-3.i 0 in
      let wanted = c.loop-i-3.wanted.items in
      let inside : label < c.args.count = c.requires.inside c.loop-i-3.i 0 c.loop-i-3-test.true in
      let is : get_or wanted label false ≡ true = sym (c.index-in-loop-i-3.ensures ∙ get_or_default wanted label c.index-in-loop-i-3.result.now false (omega arith)) ∙ w.if-index-2.true in
      let wanted_is = ap (λ v. v.items) w.wanted-is in
      let order_is = ap (λ v. v.items) w.order-is in
      let a = arranged_more c.args.labels.now wanted c.loop-i-3.order.items label (omega arith) is c.loop-i-3.invariant.arranging in
      record { long = ap length wanted_is ∙ length-set wanted label false ∙ c.loop-i-3.invariant.long; arranging = arranged_to c.args.labels.now _ _ _ _ wanted_is (order_is ∙ w.in_ok-push-2.ensures.items) a; done = cleared_more c.args.labels.now _ wanted c.loop-i-3.i wanted_is c.loop-i-3-test.true (omega arith) c.loop-i-3.invariant.done })
  | else-index-2 w ↦ (let wanted = c.loop-i-3.wanted.items in
      let label = get_or c.args.labels.now c.loop-i-3.i 0 in
      let inside : label < c.args.count = c.requires.inside c.loop-i-3.i 0 c.loop-i-3-test.true in
      let is : get_or wanted label false ≡ false = sym (c.index-in-loop-i-3.ensures ∙ get_or_default wanted label c.index-in-loop-i-3.result.now false (omega arith)) ∙ w.if-index-2.false in
      let wanted_is = ap (λ v. v.items) w.wanted-is in let order_is = ap (λ v. v.items) w.order-is in
      record { long = ap length wanted_is ∙ c.loop-i-3.invariant.long; arranging = arranged_to c.args.labels.now _ _ _ _ wanted_is order_is c.loop-i-3.invariant.arranging; done = kept_cleared c.args.labels.now _ wanted c.loop-i-3.i wanted_is c.loop-i-3-test.true is c.loop-i-3.invariant.done })
]
