-- One more zero is appended.
use Rattle.std.proofs.Common.{◌++◌, replicate}
use Rattle.cc_resolve.proofs.Behind.{one-more-zero}
use Rattle.cc_resolve.proofs.objects.add_zeros.Goals as goal

pub loop-preserved : goal.loop-preserved
loop-preserved c =
    one-more-zero c.loop.words.items c.push.new.self.items (c.args.words.now.items ++ replicate c.args.count 0) c.args.count c.loop.counter c.loop-test.true c.loop.invariant c.in_ok-push.ensures.items
