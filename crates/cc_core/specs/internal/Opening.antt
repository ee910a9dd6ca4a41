-- What is found when a disk is opened, and what a run begins with there.
use Rattle.std.specs.Prelude.{◌≡◌, ℕ, List, length}
use Rattle.cc_disk.specs.Model.{bytes_of, IsImage}
use Rattle.cc_disk.specs.Images.{LeavesAlone}
use Rattle.cc_journal.specs.Format.{HoldsRecords, records}
use Rattle.cc_library.specs.Apply.{Units}
use Rattle.cc_library.specs.Recovered.{StandFor}
use Rattle.cc_core.specs.declared.opening.Opened.{Opened}
use Rattle.cc_core.specs.Run.{IsOrderOf}

-- the bytes hold these records in areas of this size; the records represent this map and take `used` bytes
pub record IsFound (image : List ℕ) (area : ℕ) (bodies : List (List ℕ)) (library : Units) (used : ℕ) : Type 0 where
  pub holds : HoldsRecords image area bodies
  pub stand : StandFor bodies library
  pub used_is : used ≡ length (records bodies)

-- the disk has these bytes, all of them settled; everything else in `opened` follows from them
pub record IsOpenedAt (image : List ℕ) (opened : Opened) : Type 0 where
  pub bytes : bytes_of opened.store.cells ≡ image
  pub alone : LeavesAlone (bytes_of opened.store.cells) (IsImage opened.store.cells)
  pub bodies : List (List ℕ)
  pub holds : HoldsRecords (bytes_of opened.store.cells) opened.store.area bodies
  pub area_byte : holds.area_byte ≡ opened.store.area_byte
  pub stand : StandFor bodies opened.library
  pub used : opened.store.used ≡ length (records bodies)
  pub order : IsOrderOf bodies opened.order opened.upcoming
  pub acknowledged : opened.acknowledged ≡ opened.order
