-- The promises of a change and of a compaction, put together from their parts: what is true of each moment is true now. If the
-- call ended before a device call, only its answer remains to be shown.
use Rattle.std.proofs.Common.{◌≡◌, ◌≢◌, ◌≤◌, ℕ, List, [], ◌∷◌, ◌++◌, Bool, false, IsTrue, refl, sym, ap, subst}
use Rattle.std.specs.Prelude.{Result, Err, IsOk, OnOk}
use Rattle.cc_disk.specs.Images.{LeavesOnly}
use Rattle.cc_disk.specs.declared.disk.Disk.{Ghosts}
use Rattle.cc_journal.specs.Answers.{AppendAnswers}
use Rattle.cc_journal.specs.Format.{HoldsAlone}
use Rattle.cc_journal.specs.declared.fault.JournalFault.{JournalFault}
use Rattle.cc_journal.specs.Journal as journals
use Rattle.cc_library.specs.Change.{LibraryCommand}
use Rattle.cc_library.specs.declared.fault.LibraryFault.{LibraryFault}
use Rattle.cc_library.specs.declared.fault.LibraryFault.TheVariants.{Exists, Absent, Full, DiskFault, Closed, Damaged, NotALibrary, OutOfMemory}
use Rattle.cc_library.specs.Fault.{fault_of}
use Rattle.cc_library.specs.Apply.{Units, after, apply}
use Rattle.cc_library.specs.Body.{body_of}
use Rattle.cc_library.specs.Compact.{compacted}
use Rattle.cc_library.specs.Recovered.{RecoversAlone, StandFor, View}
use Rattle.cc_library.specs.Answers.{ChangeAnswers, ChangeLeaves, ChangesDisk, CompactAnswers, CompactLeaves, CompactsDisk, IsChangedAs, IsCompactedAs}
use Rattle.cc_library.specs.internal.Steps.{IsOldOrNew}
use Rattle.cc_library.proofs.Refused.{seen_as, change_leaves, change_refused, change_writes_nothing, quiet_change, quiet_edit}
use Rattle.cc_library.proofs.Running.{of_now}

module _ {Disk : Type 0} (D : Ghosts Disk) where
  -- the present moment is one of the moments since an earlier one
  abbrev pub CountsNow : Disk → Type 0
  CountsNow disk = (t : ℕ) (image : List ℕ) → IsTrue D.honest → t ≤ D.moment disk → D.may_leave disk image → D.left_since disk t image

  -- ---- a change

  pub changed_as : (command : LibraryCommand) (old new : View Disk) (result : Result (Unit {0}) LibraryFault) (Holds : List ℕ → Type 0) → CountsNow new.disk
      → ChangeAnswers old command (D.failures old.disk) (D.failures new.disk) result → ChangeLeaves command old new result → D.size new.disk ≡ D.size old.disk
      → (IsTrue D.honest → ChangesDisk D.seen D.may_leave command old new result)
      → OnOk result (IsTrue D.honest → (image : List ℕ) → D.may_leave new.disk image → RecoversAlone image new.units)
      → (IsTrue D.honest → old.closed ≡ false → LeavesOnly D.moment D.left_since old.disk new.disk Holds) → IsChangedAs D command old new result Holds
  changed_as command old new result Holds counts answers leaves size disk kept moments = record {
    answers = answers;
    leaves = leaves;
    size = size;
    disk = disk;
    kept = kept;
    moments = moments;
    images = λ h not_closed. of_now D.may_leave D.moment D.left_since old.disk new.disk Holds (moments h not_closed) (λ t image le now. counts t image h le now);
  }

  still : (command : LibraryCommand) (old : View Disk) (fault : LibraryFault) → fault ≢ DiskFault
      → ChangeLeaves {T = Unit {0}} command old old (Err fault) × ChangesDisk {T = Unit {0}} D.seen D.may_leave command old old (Err fault)
  still command old DiskFault other = absurd (other refl)
  still command old Exists other = (refl, tt)
  still command old Absent other = (refl, tt)
  still command old Full other = (refl, tt)
  still command old Closed other = (refl, tt)
  still command old OutOfMemory other = (refl, tt)
  still command old Damaged other = (refl, tt)
  still command old NotALibrary other = (refl, tt)

  pub quiet_changed : (j : journals.View Disk) (units : Units) (closed : Bool) (old : View Disk) (command : LibraryCommand) (fault : LibraryFault)
      → seen_as j units closed ≡ old → StandFor j.bodies units → closed ≡ j.closed
      → (IsTrue D.honest → j.closed ≡ false → (image : List ℕ) → D.may_leave j.disk image → HoldsAlone image j.area j.bodies)
      → (IsTrue D.honest → (image : List ℕ) → D.left_since j.disk (D.moment j.disk) image → D.may_leave j.disk image) → CountsNow old.disk
      → fault ≢ DiskFault → ChangeAnswers {T = Unit {0}} old command (D.failures old.disk) (D.failures old.disk) (Err fault)
      → IsChangedAs D command old old (Err fault) (IsOldOrNew old.area old.bodies old.units (old.bodies ++ body_of command ∷ []) (after old.units command))
  quiet_changed j units closed old command fault is stand same kept only_now counts other answers =
      changed_as command old old (Err fault) (IsOldOrNew old.area old.bodies old.units (old.bodies ++ body_of command ∷ []) (after old.units command)) counts
      answers (still command old fault other).0 refl (λ _. (still command old fault other).1) tt
      (quiet_change D.honest D.moment D.left_since D.may_leave j units closed old command is stand same kept only_now old.disk (sym (ap (λ (v : View Disk). v.disk) is)))

  -- if the log does not take the record of a change, the promise of a refused change is kept
  pub refused_changed : (j : journals.View Disk) (units : Units) (closed : Bool) (old : View Disk) (command : LibraryCommand) (fault : JournalFault)
      → seen_as j units closed ≡ old → StandFor j.bodies units → closed ≡ j.closed
      → (IsTrue D.honest → j.closed ≡ false → (image : List ℕ) → D.may_leave j.disk image → HoldsAlone image j.area j.bodies)
      → (IsTrue D.honest → (image : List ℕ) → D.left_since j.disk (D.moment j.disk) image → D.may_leave j.disk image) → CountsNow old.disk
      → IsOk (apply units command) → ((failures : ℕ) → AppendAnswers {T = Unit {0}} j.closed j.area j.bodies (body_of command) failures failures (Err fault))
      → IsChangedAs D command old old (Err (fault_of fault)) (IsOldOrNew old.area old.bodies old.units (old.bodies ++ body_of command ∷ []) (after old.units command))
  refused_changed j units closed old command fault is stand same kept only_now counts ok answers =
      changed_as command old old (Err (fault_of fault)) (IsOldOrNew old.area old.bodies old.units (old.bodies ++ body_of command ∷ []) (after old.units command)) counts
      (subst (λ (v : View Disk). ChangeAnswers {T = Unit {0}} v command (D.failures v.disk) (D.failures v.disk) (Err (fault_of fault))) is
      (change_refused fault j units closed command (D.failures j.disk) (D.failures j.disk) same ok (answers (D.failures j.disk))))
      (change_leaves fault j.closed j.area j.bodies (body_of command) old command (answers 0)) refl
      (λ _. change_writes_nothing D.seen D.may_leave fault j.closed j.area j.bodies (body_of command) old command (answers 0)) tt
      (quiet_change D.honest D.moment D.left_since D.may_leave j units closed old command is stand same kept only_now old.disk (sym (ap (λ (v : View Disk). v.disk) is)))

  -- ---- a compaction

  pub compacted_as : (old new : View Disk) (result : Result (Unit {0}) LibraryFault) (Holds : List ℕ → Type 0) → CountsNow new.disk
      → CompactAnswers old (D.failures old.disk) (D.failures new.disk) result → CompactLeaves old new result → D.size new.disk ≡ D.size old.disk
      → (IsTrue D.honest → CompactsDisk D.seen D.may_leave old new result)
      → (IsTrue D.honest → old.closed ≡ false → LeavesOnly D.moment D.left_since old.disk new.disk Holds) → IsCompactedAs D old new result Holds
  compacted_as old new result Holds counts answers leaves size disk moments = record {
    answers = answers;
    leaves = leaves;
    size = size;
    disk = disk;
    moments = moments;
    images = λ h not_closed. of_now D.may_leave D.moment D.left_since old.disk new.disk Holds (moments h not_closed) (λ t image le now. counts t image h le now);
  }

  still_compacted : (old : View Disk) (fault : LibraryFault) → fault ≢ DiskFault
      → CompactLeaves {T = Unit {0}} old old (Err fault) × CompactsDisk {T = Unit {0}} D.seen D.may_leave old old (Err fault)
  still_compacted old DiskFault other = absurd (other refl)
  still_compacted old Exists other = (refl, tt)
  still_compacted old Absent other = (refl, tt)
  still_compacted old Full other = (refl, tt)
  still_compacted old Closed other = (refl, tt)
  still_compacted old OutOfMemory other = (refl, tt)
  still_compacted old Damaged other = (refl, tt)
  still_compacted old NotALibrary other = (refl, tt)

  pub quiet_compacted : (j : journals.View Disk) (units : Units) (closed : Bool) (old : View Disk) (fault : LibraryFault)
      → seen_as j units closed ≡ old → StandFor j.bodies units → closed ≡ j.closed
      → (IsTrue D.honest → j.closed ≡ false → (image : List ℕ) → D.may_leave j.disk image → HoldsAlone image j.area j.bodies)
      → (IsTrue D.honest → (image : List ℕ) → D.left_since j.disk (D.moment j.disk) image → D.may_leave j.disk image) → CountsNow old.disk
      → fault ≢ DiskFault → CompactAnswers {T = Unit {0}} old (D.failures old.disk) (D.failures old.disk) (Err fault)
      → IsCompactedAs D old old (Err fault) (IsOldOrNew old.area old.bodies old.units (compacted old.units) old.units)
  quiet_compacted j units closed old fault is stand same kept only_now counts other answers =
      compacted_as old old (Err fault) (IsOldOrNew old.area old.bodies old.units (compacted old.units) old.units) counts
      answers (still_compacted old fault other).0 refl (λ _. (still_compacted old fault other).1)
      (quiet_edit (λ v. compacted v.units) (λ v. v.units) D.honest D.moment D.left_since D.may_leave j units closed old is stand same kept only_now old.disk (sym (ap (λ (v : View Disk). v.disk) is)))
