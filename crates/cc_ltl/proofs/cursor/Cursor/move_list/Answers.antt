-- Each turn reads one more move; if one cannot be read, the whole list cannot.
use Rattle.std.proofs.Common.{◌+◌, ◌∷◌, [], ap, sym, ◌∙◌, length, length-append}
use Rattle.cc_ltl.specs.declared.fault.LtlFault.TheVariants.{Damaged}
use Rattle.cc_ltl.specs.internal.Reading.{times, move_in}
use Rattle.cc_ltl.proofs.Times.{goes_on, ends, is_done}
use Rattle.cc_ltl.proofs.cursor.Cursor.move_list.Goals as goal

pub returns-in_default-clause-given : goal.returns-in_default-clause-given
returns-in_default-clause-given c = ends Damaged move_in c.loop.moves.items c.args.count c.loop.counter c.loop.self (times move_in c.args.count c.args.self.now) c.loop-test.true (sym c.in_default.ensures) c.loop.invariant.read

pub loop-preserved : goal.loop-preserved
loop-preserved c = record {
  read = rw (c.in_ok-push.ensures.items) (goes_on move_in c.loop.moves.items c.args.count c.loop.counter c.loop.self c.in-Some.each c.next_move.new.self (times move_in c.args.count c.args.self.now) c.loop-test.true (sym c.in-Some.ensures) c.loop.invariant.read);
  counted = ap length c.in_ok-push.ensures.items ∙ length-append c.loop.moves.items (c.in-Some.each ∷ []) ∙ ap (λ n. n + 1) c.loop.invariant.counted;
}

pub returns-clause-given : goal.returns-clause-given
returns-clause-given c = is_done move_in c.loop.moves.items c.args.count c.loop.counter c.loop.self (times move_in c.args.count c.args.self.now) c.loop-test.false c.loop.invariant.read
