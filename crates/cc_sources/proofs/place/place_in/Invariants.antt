-- The byte is `left` bytes after the beginning of the next text.
use Rattle.std.proofs.Common.{◌≡◌, ◌+◌}
use Rattle.cc_sources.specs.Places.{begin_of}
use Rattle.cc_sources.proofs.place.place_in.Given as goal

abbrev pub invariant-loop-text : goal.invariant-loop-text
invariant-loop-text l = record {
  number : l.number ≡ l.text-index;
  begins : l.at ≡ begin_of l.texts l.number + l.left;
}
