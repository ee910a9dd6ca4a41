-- The file in memory: what a crash may leave of it, and what its calls answer.
use Rattle.std.specs.Prelude.{ℕ, ◌/◌, List, Bool, true, false, IsTrue, Option, Some, None, map, if◌then◌else◌}
use Rattle.std.proofs.Common.{zero, suc}
use Rattle.cc_disk.specs.Model.{Cell, settled, crashed, IsImage}
use Rattle.cc_disk.specs.declared.memory_file.Trouble.{Trouble}
use Rattle.cc_disk.specs.declared.memory_file.Trouble.TheVariants.{Refused, Short}
use Rattle.cc_disk.specs.declared.memory_file.FileState.{FileState}

-- What a crash may leave: an image of the cells, or any file while the length is unsettled.
abbrev pub FileLeaves : FileState → List ℕ → Type 0
FileLeaves file image = IsTrue file.settled_length → IsImage file.cells image

-- a crash with this choice, which is the whole file that is left if the length is unsettled
abbrev pub file_crashed : FileState → List ℕ → List Cell
file_crashed file choice = if file.settled_length then crashed file.cells choice else map settled choice

-- How many bytes the next read or write moves, of those wanted, or none if it is refused. The first number says how many calls
-- come before the one that goes wrong.
abbrev pub moved : Option ℕ → Trouble → ℕ → Option ℕ
moved (Some zero) Refused wanted = None
moved (Some zero) Short wanted = Some (wanted / 2)
moved (Some (suc n)) trouble wanted = Some wanted
moved None trouble wanted = Some wanted

-- whether the next call is done, if it is no read and no write
abbrev pub is_done_next : Option ℕ → Bool
is_done_next (Some zero) = false
is_done_next (Some (suc n)) = true
is_done_next None = true
