use Rattle.std.proofs.Common.{drop}
use Rattle.cc_library.specs.Apply.{Units}
use Rattle.cc_library.specs.Recovered.{LeadTo, StandFor}
use Rattle.cc_library.proofs.replaying.replay.Given as goal

-- all records lead to the same maps as the remaining ones do from the map so far
abbrev pub invariant-loop-body : goal.invariant-loop-body
invariant-loop-body l = record {
  onward : (made : Units) → LeadTo l.units (drop l.body-index l.bodies) made → StandFor l.bodies made;
  back : (made : Units) → StandFor l.bodies made → LeadTo l.units (drop l.body-index l.bodies) made;
}
