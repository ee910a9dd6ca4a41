-- How a change, or a compaction, changes the bytes of an honest disk. After 35 the call failed in one of its two writes: the same one
-- for all images.
use Rattle.std.specs.Prelude.{ℕ, Result, Ok, Err}
use Rattle.cc_disk.specs.declared.disk.Disk.{Ghosts}
use Rattle.cc_disk.specs.Images.{LeavesAlone}
use Rattle.cc_journal.specs.Commit.{FailsIn, IsCommitted}
use Rattle.cc_journal.specs.Format.{HasAreaByte, HoldsRecords}
use Rattle.cc_library.specs.Change.{LibraryCommand}
use Rattle.cc_library.specs.Answers.{commit_of, rewrites_in}
use Rattle.cc_library.specs.Recovered.{View}
use Rattle.cc_recorded.specs.declared.fault.BookFault.{BookFault}
use Rattle.cc_recorded.specs.declared.fault.BookFault.TheVariants.{Exists, Absent, Full, DiskFault, Closed, Estranged, OutOfMemory}

-- after Ok the journal's commit of the change's record is made, everything is settled, and the records are the library's; after 35 that
-- commit stopped in its first write, or in its last one
abbrev pub ChangesDisk : {Disk T : Type 0} (D : Ghosts Disk) → LibraryCommand → (old new : View Disk) → Result T BookFault → Type 0
ChangesDisk D change old new (Ok done) =
    HoldsRecords (D.seen new.disk) new.area new.bodies
    × ((area_byte : ℕ) → HasAreaByte (D.seen old.disk) area_byte old.area → IsCommitted (commit_of area_byte old change) (D.seen old.disk) (D.seen new.disk) × LeavesAlone (D.seen new.disk) (D.may_leave new.disk))
ChangesDisk D change old new (Err DiskFault) =
    (area_byte : ℕ) → HasAreaByte (D.seen old.disk) area_byte old.area → FailsIn (commit_of area_byte old change) (D.seen old.disk) (D.may_leave new.disk)
ChangesDisk D change old new (Err (Exists receipt)) = Unit {0}
ChangesDisk D change old new (Err (Absent receipt)) = Unit {0}
ChangesDisk D change old new (Err Full) = Unit {0}
ChangesDisk D change old new (Err Closed) = Unit {0}
ChangesDisk D change old new (Err (Estranged number found)) = Unit {0}
ChangesDisk D change old new (Err OutOfMemory) = Unit {0}

-- how a compaction changes the disk's bytes, depending on its answer
abbrev pub CompactsDisk : {Disk T : Type 0} (D : Ghosts Disk) → (old new : View Disk) → Result T BookFault → Type 0
CompactsDisk D old new (Ok done) =
    HoldsRecords (D.seen new.disk) new.area new.bodies
    × ((area_byte : ℕ) → HasAreaByte (D.seen old.disk) area_byte old.area → IsCommitted (rewrites_in area_byte old) (D.seen old.disk) (D.seen new.disk) × LeavesAlone (D.seen new.disk) (D.may_leave new.disk))
CompactsDisk D old new (Err DiskFault) =
    (area_byte : ℕ) → HasAreaByte (D.seen old.disk) area_byte old.area → FailsIn (rewrites_in area_byte old) (D.seen old.disk) (D.may_leave new.disk)
CompactsDisk D old new (Err (Exists receipt)) = Unit {0}
CompactsDisk D old new (Err (Absent receipt)) = Unit {0}
CompactsDisk D old new (Err Full) = Unit {0}
CompactsDisk D old new (Err Closed) = Unit {0}
CompactsDisk D old new (Err (Estranged number found)) = Unit {0}
CompactsDisk D old new (Err OutOfMemory) = Unit {0}
