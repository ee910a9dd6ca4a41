-- A library after its opening.
use Rattle.std.specs.Prelude.{◌≡◌, ℕ, false, IsTrue, List}
use Rattle.cc_disk.specs.declared.disk.Disk.{Ghosts}
use Rattle.cc_disk.specs.Images.{LeavesAlone}
use Rattle.cc_journal.specs.Format.{HoldsRecords}
use Rattle.cc_library.specs.Recovered.{RecoversAlone, StandFor, View}

-- The library is open, and its records represent its map. An honest disk has these records and nothing unsettled, and whatever a
-- crash leaves of it recovers to the map, and to no other map.
pub record IsOpened {Disk : Type 0} (D : Ghosts Disk) (library : View Disk) : Type 0 where
  pub usable : library.closed ≡ false
  pub stand : StandFor library.bodies library.units
  pub records : IsTrue D.honest → HoldsRecords (D.seen library.disk) library.area library.bodies
  pub settled : IsTrue D.honest → LeavesAlone (D.seen library.disk) (D.may_leave library.disk)
  pub images : IsTrue D.honest → (image : List ℕ) → D.may_leave library.disk image → RecoversAlone image library.units
