-- `fitting` is an area with room, and no area below `least` has room.
use Rattle.std.proofs.Common.{ℕ, ◌≤◌, ◌<◌, ◌-◌, ◌^◌}
use Rattle.cc_copy.specs.Copy.{room_for}
use Rattle.cc_copy.proofs.filling.least_area.Given as goal

abbrev pub invariant-loop-least : goal.invariant-loop-least
invariant-loop-least l = record {
  begins : 64 ≤ l.least;
  in_order : l.least ≤ l.fitting;
  most : l.fitting ≤ 2 ^ 30;
  fits : room_for l.units ≤ l.fitting;
  below : (less : ℕ) → 64 ≤ less → less < l.least → less < room_for l.units;
}

abbrev pub decreases-loop-least : goal.decreases-loop-least
decreases-loop-least l = l.fitting - l.least
