-- What was joined so far, followed by the remaining texts, joined, is the whole.
use Rattle.std.proofs.Common.{◌≡◌, ◌+◌, ◌++◌, drop, length}
use Rattle.cc_sources.specs.Joined.{joined}
use Rattle.cc_sources.proofs.joining.join.Given as goal

abbrev pub invariant-loop-text : goal.invariant-loop-text
invariant-loop-text l = record {
  left : l.left + l.text-index ≡ length l.texts;
  so_far : l.whole.items ++ joined (drop l.text-index l.texts) ≡ joined l.texts;
}
