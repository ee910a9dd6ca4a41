-- What a crash in the middle of a commit leaves.
use Rattle.std.specs.Prelude.{◌⊎◌, ℕ, List, length}
use Rattle.cc_disk.specs.Images.{IsWritten, DiffersWithin}
use Rattle.cc_journal.specs.Commit.{Commit}

-- the image differs from the old bytes only in the range of the first write; or, after that write has changed the old bytes, it
-- differs from the result only in the deciding byte
abbrev pub IsMidCommit : Commit → List ℕ → List ℕ → Type 0
IsMidCommit c old image =
    DiffersWithin c.offset (length c.bytes) old image ⊎ ((staged : List ℕ) × IsWritten old c.offset c.bytes staged × DiffersWithin c.deciding_offset 1 staged image)
