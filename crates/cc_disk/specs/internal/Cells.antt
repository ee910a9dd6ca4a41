-- The cells that a list of bytes and a list of marks represent.
use Rattle.std.specs.Prelude.{ℕ, Bool, List, [], ◌∷◌}
use Rattle.cc_disk.specs.Model.{Cell}

-- the cells with these bytes and these marks, as many as the shorter list has
abbrev pub cells_of : List ℕ → List Bool → List Cell
cells_of [] marks = []
cells_of (byte ∷ bytes) [] = []
cells_of (byte ∷ bytes) (mark ∷ marks) = record { byte = byte; settled = mark } ∷ cells_of bytes marks
