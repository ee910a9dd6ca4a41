-- The state is a beginning, so the empty list of events leads to it.
use Rattle.std.proofs.Common.{refl, sym, subst, []}
use Rattle.cc_core.specs.Run.{IsBeginning}
use Rattle.cc_core.proofs.state.State.idle.Goals as goal

pub invariant_of-result : goal.invariant_of-result
invariant_of-result g c = record {
  first = record { core = c.args.core; jobs = c.new.result; workers = c.new-2.result };
  started = subst IsBeginning (λ i. record { core = c.args.core; jobs = sym c.new.ensures i; workers = sym c.new-2.ensures i }) c.requires.begins;
  right = c.requires.right;
  events = [];
  run = refl;
}
