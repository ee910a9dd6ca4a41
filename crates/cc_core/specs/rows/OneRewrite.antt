-- The device steps of a rewrite after one commit, computed: the bytes that are then on the disk, and what a crash during the
-- write of the area byte leaves.
use Rattle.std.specs.Prelude.{◌≡◌, List, ℕ, [], ◌∷◌, ◌++◌, replicate, refl}
use Rattle.cc_disk.specs.Model.{bytes_of}
use Rattle.cc_journal.specs.Commit.{Commit, rewrite_commit}
use Rattle.cc_journal.specs.Format.{header, records}
use Rattle.cc_library.specs.Body.{body_of}
use Rattle.cc_core.specs.StoreState.{StoreState}
use Rattle.cc_core.specs.declared.contents.RewriteDue.TheVariants.{SyncAll, WriteArea, SyncArea}
use Rattle.cc_core.specs.Store.{crashed_store, first_written, rewrite_stepped}
use Rattle.cc_core.specs.rows.OneCommit.{adds, done}

-- the one record again, in the second area
abbrev anew : Commit
anew = rewrite_commit 0 64 (body_of adds ∷ [])

abbrev area_written : StoreState
area_written = first_written anew done.store

abbrev area_settled : StoreState
area_settled = rewrite_stepped SyncAll anew area_written

abbrev byte_written : StoreState
byte_written = rewrite_stepped WriteArea anew area_settled

abbrev ended : StoreState
ended = rewrite_stepped SyncArea anew byte_written

-- the record and the closed gate after it, in an area of 64 bytes
abbrev area_of_one : List ℕ
area_of_one = records (body_of adds ∷ []) ++ replicate 36 0

-- the second area is in use, and the first one still has its bytes
pub on_disk : (bytes_of ended.cells ≡ header 1 64 ++ (area_of_one ++ area_of_one)) × (ended.area_byte ≡ 1) × (ended.used ≡ 28)
on_disk = (refl, refl, refl)

-- a crash during the write of the area byte may leave any byte there, so either area may be in use; both have the record
pub the_second_area : bytes_of (crashed_store (0xa5 ∷ []) byte_written).cells ≡ header 0xa5 64 ++ (area_of_one ++ area_of_one)
the_second_area = refl

pub the_first_area : bytes_of (crashed_store (0xfe ∷ []) byte_written).cells ≡ header 0xfe 64 ++ (area_of_one ++ area_of_one)
the_first_area = refl
