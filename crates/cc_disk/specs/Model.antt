-- The model of a disk: a fixed number of bytes, each settled or unsettled. A write unsettles its range, a sync settles
-- everything, and a crash leaves an arbitrary byte at an unsettled offset.
use Rattle.std.specs.Prelude.{◌≡◌, ℕ, Bool, ◌+◌, List, [], ◌∷◌, ◌++◌, map, length, take, drop, replicate, IsTrue, true, false, if◌then◌else◌}

-- one byte of a disk: what a read gives, and whether a crash keeps it
pub record Cell : Type 0 where
  pub byte : ℕ
  pub settled : Bool

-- a byte that a crash keeps
abbrev pub settled : ℕ → Cell
settled byte = record { byte = byte; settled = true }

-- a byte that a crash may change
abbrev pub unsettled : ℕ → Cell
unsettled byte = record { byte = byte; settled = false }

-- what a read gives
abbrev pub bytes_of : List Cell → List ℕ
bytes_of cells = map (λ (c : Cell). c.byte) cells

-- What a crash may leave: at each settled offset the byte that a read gives there, at any other an arbitrary byte.
abbrev pub IsImage : List Cell → List ℕ → Type 0
IsImage [] [] = Unit {0}
IsImage [] (byte ∷ image) = ⊥
IsImage (cell ∷ cells) [] = ⊥
IsImage (cell ∷ cells) (byte ∷ image) = (IsTrue cell.settled → byte ≡ cell.byte) × IsImage cells image

-- a new disk: zeros, settled
abbrev pub new_cells : ℕ → List Cell
new_cells size = replicate size (settled 0)

-- a write sets its range and unsettles it
abbrev pub written : List Cell → ℕ → List ℕ → List Cell
written cells offset bytes = take offset cells ++ (map unsettled bytes ++ drop (offset + length bytes) cells)

-- a sync settles every byte
abbrev pub synced : List Cell → List Cell
synced cells = map (λ (c : Cell). settled c.byte) cells

-- one cell after a crash that leaves this byte if it can
abbrev pub left : Cell → ℕ → Cell
left cell byte = if cell.settled then settled cell.byte else settled byte

-- a crash that leaves, at each unsettled offset, the choice's byte at that offset, or 0 past the choice's end
abbrev pub crashed : List Cell → List ℕ → List Cell
crashed [] choice = []
crashed (cell ∷ cells) [] = left cell 0 ∷ crashed cells []
crashed (cell ∷ cells) (byte ∷ choice) = left cell byte ∷ crashed cells choice
