use Rattle.std.proofs.Common.{rules, refl, sym, ap, ◌∙◌, subst, get_or, ◌+◌, vec_len, arith}
use Rattle.std.specs.Vec.{vec_capacity}
use Rattle.cc_select.proofs.Passing.{Keeping, keep_one, drop_one, keep_ends}
use Rattle.cc_select.proofs.constants.without_unread.Goals.{then-stays, else-stays}
use Rattle.cc_select.proofs.constants.without_unread.Goals as goal

pub loop-at-preserved : goal.loop-at-preserved
loop-at-preserved c =
    let steps = c.args.steps.now in
    let sets = c.args.behind.now in
    let at = c.loop-at.at in
    let kept = c.loop-at.kept.items in
    let live = c.loop-at.live.items in
    let step = c.index-steps-at.result in
    let set = get_or sets at (record { bits = 0 }) in
    let w0 = c.loop-at.invariant in
    elim c.if-stays.branch [
      | then-stays w ↦
          record {
            keeping =
                keep_one steps sets at kept c.if-stays.kept.items live c.if-stays.live.items step set (record { bits = 0 }) c.loop-at-test.true c.index-steps-at.is refl w.if-stays.ensures (ap (λ v. v.items) w.kept-is ∙ w.push_reserved.ensures.items)
                (ap (λ v. v.items) w.live-is ∙ w.push_reserved-then-stays.ensures.items) w0.keeping;
            many = omega (arith, ap vec_len w.kept-is, w.push_reserved.ensures.len, w0.many);
            room = omega (arith, ap vec_capacity w.kept-is, w.push_reserved.ensures.capacity, w0.room);
            many_live = omega (arith, ap vec_len w.live-is, w.push_reserved-then-stays.ensures.len, w0.many_live);
            room_live = omega (arith, ap vec_capacity w.live-is, w.push_reserved-then-stays.ensures.capacity, w0.room_live);
          }
      | else-stays w ↦
          record {
            keeping =
                subst (λ v. Keeping steps sets (at + 1) v.items c.if-stays.live.items) (sym w.kept-is)
                (subst (λ v. Keeping steps sets (at + 1) kept v.items) (sym w.live-is)
                (drop_one steps sets at kept live step set (record { bits = 0 }) c.loop-at-test.true c.index-steps-at.is refl w.if-stays.ensures w0.keeping));
            many = omega (arith, ap vec_len w.kept-is, w0.many);
            room = omega (arith, ap vec_capacity w.kept-is, w0.room);
            many_live = omega (arith, ap vec_len w.live-is, w0.many_live);
            room_live = omega (arith, ap vec_capacity w.live-is, w0.room_live);
          }
    ]

pub returns-clause-long : goal.returns-clause-long
returns-clause-long c = c.loop-at.invariant.keeping.long

pub returns-clause-steps : goal.returns-clause-steps
returns-clause-steps c = (keep_ends c.args.steps.now c.args.behind.now c.loop-at.at c.loop-at.kept.items c.loop-at.live.items (search rules) c.loop-at.invariant.keeping).0

pub returns-clause-behind : goal.returns-clause-behind
returns-clause-behind c = (keep_ends c.args.steps.now c.args.behind.now c.loop-at.at c.loop-at.kept.items c.loop-at.live.items (search rules) c.loop-at.invariant.keeping).1
