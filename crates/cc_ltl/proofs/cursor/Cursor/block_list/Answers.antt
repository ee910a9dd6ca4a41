-- Each turn reads one more block; if a turn fails, the whole fails with the same fault.
use Rattle.std.proofs.lemmas.Result.{err_from_is_err_and}
use Rattle.cc_ltl.specs.internal.Reading.{times, block_in}
use Rattle.cc_ltl.proofs.Times.{goes_on, ends, is_done}
use Rattle.cc_ltl.proofs.cursor.Cursor.block_list.Goals as goal

pub returns-in_err-block : goal.returns-in_err-block
returns-in_err-block c =
    let p = err_from_is_err_and c.from_residual.result c.from_residual.ensures.1 in
    rw (p.1, p.2) (ends c.in_err-block.field-0.0 block_in c.loop.found.items c.args.count c.loop.counter c.loop.self (times block_in c.args.count c.args.self.now) c.loop-test.true c.in_err-block.ensures c.loop.invariant)

pub loop-preserved : goal.loop-preserved
loop-preserved c =
    rw (c.in_ok-push.ensures.items) (goes_on block_in c.loop.found.items c.args.count c.loop.counter c.loop.self c.in_ok-block.block c.block.new.self (times block_in c.args.count c.args.self.now) c.loop-test.true c.in_ok-block.ensures c.loop.invariant)

pub returns : goal.returns
returns c = is_done block_in c.loop.found.items c.args.count c.loop.counter c.loop.self (times block_in c.args.count c.args.self.now) c.loop-test.false c.loop.invariant
