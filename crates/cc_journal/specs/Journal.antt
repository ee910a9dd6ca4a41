-- What contracts see of a journal, and what its type keeps.
use Rattle.std.specs.Prelude.{◌≡◌, ℕ, ◌+◌, ◌≤◌, Bool, false, IsTrue, List, length}
use Rattle.cc_disk.specs.Images.{LeavesAlone}
use Rattle.cc_journal.specs.Format.{IsArea, HoldsRecords, records, room_of}

-- what contracts see of a journal: its disk, the size of an area, its records, and whether it is closed
pub record View (D : Type 0) : Type 0 where
  pub disk : D
  pub area : ℕ
  pub bodies : List (List ℕ)
  pub closed : Bool

-- the image holds these records, in the area that begins at `start`
pub record HoldsFrom (image : List ℕ) (start area : ℕ) (bodies : List (List ℕ)) : Type 0 where
  pub holds : HoldsRecords image area bodies
  pub begins : start ≡ 16 + length holds.other

-- What the type of a journal keeps. While the journal is not closed, every image has exactly these records.
pub record IsKept (honest : Bool) (size : ℕ) (seen : List ℕ) (may_leave : List ℕ → Type 0) (start area used : ℕ) (bodies : List (List ℕ)) (closed : Bool) : Type 0 where
  pub is_area : IsArea size area
  pub begins : start ≤ 16 + area
  pub taken : used ≡ length (records bodies)
  pub fits : room_of bodies ≤ area
  pub alone : IsTrue honest → closed ≡ false → LeavesAlone seen may_leave
  pub holds : IsTrue honest → closed ≡ false → HoldsFrom seen start area bodies
