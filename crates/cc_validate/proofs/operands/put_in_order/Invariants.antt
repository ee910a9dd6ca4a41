-- The equations of the arguments so far have been added.
use Rattle.std.proofs.Common.{◌≡◌, ◌+◌, take}
use Rattle.cc_validate.specs.Equations.{in_order}
use Rattle.cc_validate.specs.internal.Carried.{AreWith}
use Rattle.cc_validate.proofs.operands.put_in_order.Given as goal

abbrev pub invariant-loop-argument : goal.invariant-loop-argument
invariant-loop-argument l = record {
  place : l.place ≡ 10 + l.argument-index;
  so_far : AreWith (in_order 10 (take l.argument-index l.arguments)) l.initial.before l.before;
}
