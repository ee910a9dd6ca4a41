-- The steps so far that stay, with what is live after each, followed by those of the rest that stay, are all that stay;
-- there is room for them.
use Rattle.std.proofs.Common.{◌≤◌, length, vec_len}
use Rattle.std.specs.Vec.{vec_capacity}
use Rattle.cc_select.proofs.Passing.{Keeping}
use Rattle.cc_select.proofs.constants.without_unread.Given as goal

abbrev pub invariant-loop-at : goal.invariant-loop-at
invariant-loop-at l = record {
  keeping : Keeping l.steps l.behind l.at l.kept.items l.live.items;
  many : vec_len l.kept ≤ l.at;
  room : length l.steps ≤ vec_capacity l.kept;
  many_live : vec_len l.live ≤ l.at;
  room_live : length l.steps ≤ vec_capacity l.live;
}
