-- How much of its area a library takes.
use Rattle.std.specs.Prelude.{◌≡◌, ◌≤◌, ℕ, List, length}
use Rattle.std.specs.FinMap.{len}
use Rattle.cc_journal.specs.Format.{records, room_of}
use Rattle.cc_library.specs.declared.space.SpaceUse.{SpaceUse}
use Rattle.cc_library.specs.Apply.{Units}
use Rattle.cc_library.specs.Compact.{compacted}
use Rattle.cc_library.specs.Recovered.{StandFor}

-- the figures of an area with these records and this map: the records' bytes, their bytes after a compaction, and the number of names
abbrev pub space_use : (area : ℕ) (bodies : List (List ℕ)) → Units → SpaceUse
space_use area bodies map = record { area = area; used = length (records bodies); compacted = length (records (compacted map)); units = len map }

-- `space` says how much of the area the records take. The records represent the map, they fit in the area with the closed gate
-- after them, and after a compaction they take no more.
pub record IsSpace (area : ℕ) (bodies : List (List ℕ)) (map : Units) (space : SpaceUse) : Type 0 where
  pub space_is : space ≡ space_use area bodies map
  pub stand : StandFor bodies map
  pub fits : room_of bodies ≤ area
  pub least : length (records (compacted map)) ≤ length (records bodies)
