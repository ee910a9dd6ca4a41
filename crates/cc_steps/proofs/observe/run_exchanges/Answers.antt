use Rattle.std.proofs.Common.{unwrap_or, arith}
use Rattle.cc_steps.proofs.Observing.{begins, fewer, at_most, goes_on}
use Rattle.cc_steps.proofs.observe.run_exchanges.Goals as goal

pub loop-left-init : goal.loop-left-init
loop-left-init c = (c.in-Ok.ensures.start.code, omega arith, begins c.args.image.now c.args.words.now c.in-Ok.machine c.new-events.result.items c.args.steps c.in-Ok.ensures.start c.new-events.ensures.items)

pub loop-left-smaller : goal.loop-left-smaller
loop-left-smaller c = fewer c.in_ok-left.left c.loop-left.left c.in-Some.more c.in-Some.is c.in_ok-left.ensures.less

pub loop-left-preserved : goal.loop-left-preserved
loop-left-preserved c =
    let i = c.loop-left.invariant in
    goes_on c.args.image.now c.args.words.now c.args.steps c.in-Some.more (unwrap_or c.in_ok-left.left 0) c.loop-left.left c.loop-left.machine c.go_on.new.machine c.loop-left.events.items c.go_on.new.events.items c.in-Some.is i.0 i.1
    (at_most c.in_ok-left.left c.in-Some.more c.in_ok-left.ensures.less) i.2 c.in_ok-left.ensures.went
