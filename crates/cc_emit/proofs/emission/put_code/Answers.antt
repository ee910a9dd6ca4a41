use Rattle.std.proofs.Common.{rules, ◌-◌, ap}
use Rattle.cc_emit.specs.internal.Bases.{base_in}
use Rattle.cc_emit.proofs.Bridging.{emitting_first, emitting_more, place_within, near_reaches, next_reaches}
use Rattle.cc_emit.proofs.emission.put_code.Goals as goal

pub loop-step-init : goal.loop-step-init
loop-step-init c = emitting_first (base_in c.args.bases.now) c.args.frame.now c.args.steps.now c.long-here.result c.args.items.now.items c.requires.opened (search rules)

pub put_items_of-requires-clause-within : goal.put_items_of-requires-clause-within
put_items_of-requires-clause-within c = λ l lt. place_within _ _ _ _ _ l c.requires.places c.requires.leads lt

pub put_items_of-requires-clause-reach : goal.put_items_of-requires-clause-reach
put_items_of-requires-clause-reach c = near_reaches _ _ _ _ _ _ _ _ _ c.requires.places c.requires.leads c.loop-step.invariant

pub put_items_of-requires-clause-next : goal.put_items_of-requires-clause-next
put_items_of-requires-clause-next c = next_reaches _ _ _ _ _ _ _ _ _ c.requires.places c.requires.leads c.loop-step.invariant

pub loop-step-preserved : goal.loop-step-preserved
loop-step-preserved c =
    emitting_more (base_in c.args.bases.now) c.args.frame.now c.args.steps.now _ _ _ c.loop-step.step-index c.loop-step.here _ c.step-item.result c.loop-step.items.items _ c.requires.places c.requires.leads c.loop-step-test.true c.step-item.is
    c.in_ok-put_items_of.ensures (ap (λ n. c.loop-step.here - n) c.long_size-here.ensures.answer) c.loop-step.invariant
