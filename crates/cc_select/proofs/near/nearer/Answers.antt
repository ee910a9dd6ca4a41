use Rattle.std.proofs.Common.{rules, ◌+◌, arith}
use Rattle.cc_select.proofs.Nearing.{made_more, made_all}
use Rattle.cc_select.proofs.near.nearer.Goals as goal

pub loop-step-preserved : goal.loop-step-preserved
loop-step-preserved c =
    let so_far = c.loop-step.invariant in
    record {
      so_far =
          made_more c.args.steps.now c.loop-step.step-index c.loop-step.known _ c.step-item.result _ c.loop-step.made.items _ c.loop-step-test.true c.step-item.is c.near.ensures c.sum_behind-known.ensures c.push_reserved.ensures.items so_far.so_far;
      many = omega (arith, c.push_reserved.ensures.len, so_far.many);
      room = omega (arith, c.push_reserved.ensures.capacity, so_far.room);
    }

pub returns : goal.returns
returns c = made_all c.args.steps.now c.loop-step.step-index c.loop-step.known c.loop-step.made.items c.loop-step-test.false c.loop-step.invariant.so_far
