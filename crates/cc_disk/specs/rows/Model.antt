-- Crashes of small disks, by computation.
use Rattle.std.specs.Prelude.{◌≡◌, [], ◌∷◌, refl}
use Rattle.cc_disk.specs.Model.{settled, new_cells, written, synced, crashed}

-- a new disk of four bytes, two bytes written at offset 1, and a crash: the choice decides in that range
pub a_write_and_a_crash : crashed (written (new_cells 4) 1 (7 ∷ 8 ∷ [])) (1 ∷ 2 ∷ 3 ∷ 4 ∷ []) ≡ settled 0 ∷ settled 2 ∷ settled 3 ∷ settled 0 ∷ []
a_write_and_a_crash = refl

-- after a sync before the crash the written bytes remain
pub a_sync_and_a_crash : crashed (synced (written (new_cells 4) 1 (7 ∷ 8 ∷ []))) (1 ∷ 2 ∷ 3 ∷ 4 ∷ []) ≡ settled 0 ∷ settled 7 ∷ settled 8 ∷ settled 0 ∷ []
a_sync_and_a_crash = refl

-- past the end of the choice a crash leaves 0
pub a_short_choice : crashed (written (new_cells 4) 1 (7 ∷ 8 ∷ [])) (1 ∷ 2 ∷ []) ≡ settled 0 ∷ settled 2 ∷ settled 0 ∷ settled 0 ∷ []
a_short_choice = refl
