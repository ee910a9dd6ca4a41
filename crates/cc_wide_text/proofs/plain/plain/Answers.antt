use Rattle.std.proofs.Common.{rules}
use Rattle.std.proofs.lemmas.List.{take_rest}
use Rattle.cc_wide_text.proofs.Written.{plain_more}
use Rattle.cc_wide_text.proofs.plain.plain.Goals as goal

pub loop-i-preserved : goal.loop-i-preserved
loop-i-preserved c =
    plain_more c.args.text.now c.loop-i.written.items c.push.new.self.items c.loop-i.state c.loop-i.i c.step-step.result (search rules)
    (rw (take_rest c.args.text.now c.loop-i.i) at c.step-step.ensures) c.in_ok-push.ensures.items c.loop-i.invariant
