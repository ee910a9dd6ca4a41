use Rattle.std.proofs.Common.{◌≡◌, ◌+◌, ◌*◌, ◌++◌, drop}
use Rattle.cc_link.specs.Link.{size_of}
use Rattle.cc_link.specs.internal.Filling.{lent, places_from}
use Rattle.cc_link.proofs.words.places.Given as goal

-- the places so far, followed by those of the functions that are left, are all the places
abbrev pub invariant-loop-items : goal.invariant-loop-items
invariant-loop-items l = record {
  place : l.place + 4 * size_of (lent (drop l.items-index l.bodies)) ≡ 65548 + 4 * size_of (lent l.bodies);
  places : l.places.items ++ places_from l.place (lent (drop l.items-index l.bodies)) ≡ places_from 65548 (lent l.bodies);
}
