-- The sizes of objects that values of the code represent.
use Rattle.std.specs.Prelude.{List, map}
use Rattle.cc_simulation.specs.World.{Size}
use Rattle.cc_range_check.specs.declared.sizes.ObjectSize.{ObjectSize}

abbrev pub sizes_of : List ObjectSize → List Size
sizes_of sizes = map (λ (s : ObjectSize). record { width = s.width; elements = s.elements }) sizes
