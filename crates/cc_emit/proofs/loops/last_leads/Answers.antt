use Rattle.std.proofs.Common.{rules}
use Rattle.cc_emit.proofs.Looping.{noted_first, noted_more, noted_all}
use Rattle.cc_emit.proofs.loops.last_leads.Goals as goal

pub loop-at-init : goal.loop-at-init
loop-at-init c = noted_first _ _ _ (search rules)

pub loop-at-preserved : goal.loop-at-preserved
loop-at-preserved c = noted_more c.args.code.now c.args.count c.loop-at.at _ c.loop-at.last.items _ c.loop-at-test.true (search rules) c.note.ensures.long c.note.ensures.each c.loop-at.invariant

pub returns : goal.returns
returns c = noted_all _ _ _ _ (search rules) c.loop-at.invariant
