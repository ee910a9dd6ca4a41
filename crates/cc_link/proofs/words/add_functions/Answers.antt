use Rattle.std.specs.Prelude.{length, slice_index}
use Rattle.cc_link.proofs.Filling.{stand_next, function_added}
use Rattle.cc_link.proofs.words.add_functions.Goals as goal

pub loop-items-preserved : goal.loop-items-preserved
loop-items-preserved c = record {
  stand = (stand_next (length c.args.places.now) c.loop-items.place c.loop-items.items-index c.args.bodies.now c.items-item.result c.loop-items-test.true c.items-item.is c.loop-items.invariant.stand).1;
  words = function_added (λ f. slice_index c.args.places.now f) c.loop-items.place c.loop-items.items-index c.args.bodies.now c.items-item.result c.loop-items.words.items c.add_function.new.words.items _ c.loop-items-test.true c.items-item.is c.in_ok-add_function.ensures c.loop-items.invariant.words;
}
