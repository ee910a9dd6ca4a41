use Rattle.std.proofs.Common.{◌≡◌, ◌≤◌, length}
use Rattle.cc_syntax.specs.internal.Parser.{resting_depth}
use Rattle.cc_syntax.specs.internal.ParserView.{open_views}
use Rattle.cc_syntax.proofs.parser.step.rest.Given as goal

-- the open statements that are left have the same `resting_depth` as all of them, and are no more than those
abbrev pub invariant-loop-last : goal.invariant-loop-last
invariant-loop-last l = record {
  depth : resting_depth (open_views l.initial.left) ≡ resting_depth (open_views l.left);
  within : length l.left ≤ length l.initial.left;
}

abbrev pub decreases-loop-last : goal.decreases-loop-last
decreases-loop-last l = length l.left
