-- What contracts see of the core's disk.
use Rattle.std.specs.Prelude.{ℕ, List}
use Rattle.cc_disk.specs.Model.{Cell}

-- its cells; the area byte, which names the first area if even, else the second; the size of an area; the bytes of that area's records
pub record StoreState : Type 0 where
  pub cells : List Cell
  pub area_byte : ℕ
  pub area : ℕ
  pub used : ℕ
