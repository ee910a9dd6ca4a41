-- How records get onto a disk. An `append` and a `rewrite` are each one commit, and the protocol core makes the same commits step
-- by step. First, bytes are written to a place where they do not count yet, and synced. Then one byte is written that puts them
-- in force, and synced.
use Rattle.std.specs.Prelude.{ℕ, ◌⊎◌, ◌+◌, ◌*◌, ◌%◌, List, [], ◌∷◌, ◌++◌, length}
use Rattle.std.specs.Int.{w32, to_le_bytes}
use Rattle.cc_disk.specs.Images.{IsWritten, DiffersWithin}
use Rattle.cc_journal.specs.Format.{open_gate, records}

-- one commit: the bytes of its first write and their offset, the offset of the byte that decides, and that byte
pub record Commit : Type 0 where
  pub offset : ℕ
  pub bytes : List ℕ
  pub deciding_offset : ℕ
  pub deciding_byte : ℕ

-- what follows the gate of a record with this body: the body's length in four bytes, lowest first, the body, and the next gate, closed
abbrev pub behind_gate : List ℕ → List ℕ
behind_gate body = to_le_bytes w32 (length body) ++ (body ++ 0 ∷ [])

-- an append: first what comes after the gate at this offset is written, and then that gate, open
abbrev pub append_commit : (gate : ℕ) (body : List ℕ) → Commit
append_commit gate body = record { offset = gate + 1; bytes = behind_gate body; deciding_offset = gate; deciding_byte = open_gate }

-- the offset of the area that this area byte names: A is right after the header, B right after A
abbrev pub area_begin : (area_byte area : ℕ) → ℕ
area_begin area_byte area = 16 + area_byte % 2 * area

-- the area byte of the other area: 1 if this byte names A, 0 if it names B
abbrev pub other_area : ℕ → ℕ
other_area area_byte = (area_byte + 1) % 2

-- a rewrite: all records and the closed gate after them are written at the beginning of the other area, then that area's area byte
abbrev pub rewrite_commit : (area_byte area : ℕ) (bodies : List (List ℕ)) → Commit
rewrite_commit area_byte area bodies = record {
  offset = area_begin (other_area area_byte) area;
  bytes = records bodies ++ 0 ∷ [];
  deciding_offset = 0;
  deciding_byte = other_area area_byte;
}

-- `old` and `new` are the bytes of a disk before a commit and after it
abbrev pub IsCommitted : Commit → (old new : List ℕ) → Type 0
IsCommitted c old new = (staged : List ℕ) × IsWritten old c.offset c.bytes staged × IsWritten staged c.deciding_offset (c.deciding_byte ∷ []) new

-- What a failed commit left: either all images differ from the old bytes only in the range of the first write; or, after that
-- write has changed the old bytes, all images differ from the result only in the byte that decides.
abbrev pub FailsIn : Commit → (old : List ℕ) (images : List ℕ → Type 0) → Type 0
FailsIn c old images =
    ((image : List ℕ) → images image → DiffersWithin c.offset (length c.bytes) old image)
    ⊎ ((staged : List ℕ) × IsWritten old c.offset c.bytes staged × ((image : List ℕ) → images image → DiffersWithin c.deciding_offset 1 staged image))
