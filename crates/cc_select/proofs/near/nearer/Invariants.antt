-- The steps made so far, followed by those of the rest, are all the steps; there is room for them.
use Rattle.std.proofs.Common.{◌≤◌, length, vec_len}
use Rattle.std.specs.Vec.{vec_capacity}
use Rattle.cc_select.proofs.Nearing.{Made}
use Rattle.cc_select.proofs.near.nearer.Given as goal

abbrev pub invariant-loop-step : goal.invariant-loop-step
invariant-loop-step l = record {
  so_far : Made l.steps l.step-index l.known l.made.items;
  many : vec_len l.made ≤ l.step-index;
  room : length l.steps ≤ vec_capacity l.made;
}
