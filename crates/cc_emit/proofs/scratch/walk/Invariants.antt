-- The steps so far, followed by those still to be looked at, are all the steps, and the numbers of instructions of their accesses
-- add up to the whole; there is room for the steps.
use Rattle.std.proofs.Common.{◌≡◌, ◌≤◌, length, vec_len}
use Rattle.std.specs.Vec.{vec_capacity}
use Rattle.cc_emit.specs.internal.Bases.{base_in}
use Rattle.cc_emit.proofs.Addressing.{SoFar, Sized}
use Rattle.cc_emit.proofs.scratch.walk.Given as goal

abbrev pub invariant-loop-step : goal.invariant-loop-step
invariant-loop-step l = record {
  noted : SoFar (base_in l.bases) l.sets_pointer l.code l.step-index l.scratch l.steps.items;
  sized : Sized (base_in l.bases) l.sets_pointer l.code l.step-index l.scratch l.reach l.accesses;
  counted : l.at ≡ l.step-index;
  many : vec_len l.steps ≤ l.step-index;
  room : length l.code ≤ vec_capacity l.steps;
}
