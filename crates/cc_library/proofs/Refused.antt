-- What holds after a refused change. If no device call was made, every image still recovers to the old map. The file also shows
-- what a refusal by the journal leaves, and whether the library is then closed.
use Rattle.std.proofs.Common.{◌≡◌, ◌≢◌, ℕ, ◌<◌, ◌≤◌, List, [], ◌∷◌, ◌++◌, Bool, true, false, IsTrue, sym, ap, subst, ◌∙◌, refl, arith}
use Rattle.std.specs.Prelude.{Err, IsOk}
use Rattle.cc_disk.specs.Images.{LeavesOnly}
use Rattle.cc_journal.specs.Format.{HoldsAlone, room_of}
use Rattle.cc_journal.specs.Answers.{AppendAnswers, CommitAnswers}
use denote.Enum.Bare.{sameb}
use Rattle.cc_journal.specs.contracts.fault.JournalFault.{the_type}
use Rattle.cc_journal.specs.declared.fault.JournalFault.{JournalFault}
use Rattle.cc_journal.specs.declared.fault.JournalFault.TheVariants as journal
use Rattle.cc_journal.specs.Journal as journals
use Rattle.cc_library.specs.Change.{LibraryCommand}
use Rattle.cc_library.specs.Fault.{fault_of}
use Rattle.cc_library.specs.Apply.{Units, after, apply}
use Rattle.cc_library.specs.Body.{body_of}
use Rattle.cc_library.specs.Recovered.{StandFor, RecoversAlone, View}
use Rattle.cc_library.specs.internal.Steps.{IsOldOrNew}
use Rattle.cc_library.specs.Compact.{compacted}
use Rattle.cc_library.specs.Answers.{ChangeAnswers, ChangeLeaves, ChangesDisk, CompactAnswers, CompactLeaves, IsAsked, IsMended, room_with}
use Rattle.cc_library.proofs.Standing.{quiet, no_call, holds_recovers}

module _ {D : Type 0} where
  -- what contracts see of a library with this journal and this map
  abbrev pub seen_as : journals.View D → Units → Bool → View D
  seen_as j units closed = record { disk = j.disk; area = j.area; bodies = j.bodies; units = units; closed = closed }

  -- if no device call was made, every image at each moment has the old records
  pub quiet_edit : (made : View D → List (List ℕ)) (result : View D → Units) (honest : Bool) (moment : D → ℕ) (left_since : D → ℕ → List ℕ → Type 0) (may_leave : D → List ℕ → Type 0) (j : journals.View D) (units : Units) (closed : Bool) (old : View D)
      → seen_as j units closed ≡ old → StandFor j.bodies units → closed ≡ j.closed
      → (IsTrue honest → j.closed ≡ false → (image : List ℕ) → may_leave j.disk image → HoldsAlone image j.area j.bodies)
      → (IsTrue honest → (image : List ℕ) → left_since j.disk (moment j.disk) image → may_leave j.disk image) → (d : D) → d ≡ j.disk
      → IsTrue honest → old.closed ≡ false → LeavesOnly moment left_since old.disk d (IsOldOrNew old.area old.bodies old.units (made old) (result old))
  quiet_edit made result honest moment left_since may_leave j units closed old is stand same kept only_now d d_is =
      subst (λ (v : View D). IsTrue honest → v.closed ≡ false → LeavesOnly moment left_since v.disk d (IsOldOrNew v.area v.bodies v.units (made v) (result v))) is
      (λ h not_closed. let v = seen_as j units closed in
      subst (λ (e : D). LeavesOnly moment left_since j.disk e (IsOldOrNew j.area j.bodies units (made v) (result v))) (sym d_is)
      (quiet moment left_since may_leave j.disk j.area j.bodies units (made v) (result v) (kept h (sym same ∙ not_closed)) (only_now h) stand))

  pub quiet_change : (honest : Bool) (moment : D → ℕ) (left_since : D → ℕ → List ℕ → Type 0) (may_leave : D → List ℕ → Type 0) (j : journals.View D) (units : Units) (closed : Bool) (old : View D) (command : LibraryCommand)
      → seen_as j units closed ≡ old → StandFor j.bodies units → closed ≡ j.closed
      → (IsTrue honest → j.closed ≡ false → (image : List ℕ) → may_leave j.disk image → HoldsAlone image j.area j.bodies)
      → (IsTrue honest → (image : List ℕ) → left_since j.disk (moment j.disk) image → may_leave j.disk image) → (d : D) → d ≡ j.disk
      → IsTrue honest → old.closed ≡ false → LeavesOnly moment left_since old.disk d (IsOldOrNew old.area old.bodies old.units (old.bodies ++ body_of command ∷ []) (after old.units command))
  quiet_change honest moment left_since may_leave j units closed old command is stand same kept only_now d d_is =
      quiet_edit (λ v. v.bodies ++ body_of command ∷ []) (λ v. after v.units command) honest moment left_since may_leave j units closed old is stand same kept only_now d d_is

  -- if no device call was made, every image at each moment recovers to the old map
  pub still_map : (P : List ℕ → Type 0) (honest : Bool) (moment : D → ℕ) (left_since : D → ℕ → List ℕ → Type 0) (may_leave : D → List ℕ → Type 0) (j : journals.View D) (units : Units) (closed : Bool) (old : View D)
      → seen_as j units closed ≡ old → StandFor j.bodies units → closed ≡ j.closed
      → (IsTrue honest → j.closed ≡ false → (image : List ℕ) → may_leave j.disk image → HoldsAlone image j.area j.bodies)
      → (IsTrue honest → (image : List ℕ) → left_since j.disk (moment j.disk) image → may_leave j.disk image) → (d : D) → d ≡ old.disk
      → ((image : List ℕ) → RecoversAlone image old.units → P image) → IsTrue honest → old.closed ≡ false → LeavesOnly moment left_since old.disk d P
  still_map P honest moment left_since may_leave j units closed old is stand same kept only_now d d_is f h not_closed =
      subst (λ (e : D). LeavesOnly moment left_since old.disk e P) (sym d_is) (no_call moment left_since P old.disk (λ image left. f image (recovers image left)))
    where
      recovers : (image : List ℕ) → left_since old.disk (moment old.disk) image → RecoversAlone image old.units
      recovers image =
          subst (λ (v : View D). v.closed ≡ false → left_since v.disk (moment v.disk) image → RecoversAlone image v.units) is
          (λ nc left. holds_recovers image j.area j.bodies units (kept h (sym same ∙ nc) image (only_now h image left)) stand) not_closed

  still_open : (old new : journals.View D) (is_fault : Bool) → is_fault ≡ false → old.closed ≡ false → new ≡ old → is_fault ≡ new.closed
  still_open old new is_fault e was same = e ∙ sym (ap (λ (j : journals.View D). j.closed) same ∙ was)

  -- if a journal that was open refuses a call, it is then closed exactly if the fault is `DiskFault`
  pub closed_is : (fault : JournalFault) (is_fault : Bool) (old new : journals.View D) → is_fault ≡ sameb the_type fault journal.DiskFault → old.closed ≡ false
      → (fault ≢ journal.DiskFault → new ≡ old) → (fault ≡ journal.DiskFault → new.closed ≡ true) → is_fault ≡ new.closed
  closed_is journal.DiskFault is_fault old new e was untouched closes = e ∙ sym (closes refl)
  closed_is journal.Full is_fault old new e was untouched closes = still_open old new is_fault e was (untouched (λ p. cc p))
  closed_is journal.Closed is_fault old new e was untouched closes = still_open old new is_fault e was (untouched (λ p. cc p))
  closed_is journal.Damaged is_fault old new e was untouched closes = still_open old new is_fault e was (untouched (λ p. cc p))
  closed_is journal.NotALibrary is_fault old new e was untouched closes = still_open old new is_fault e was (untouched (λ p. cc p))
  closed_is journal.OutOfMemory is_fault old new e was untouched closes = still_open old new is_fault e was (untouched (λ p. cc p))

  untouched_is : (old new : journals.View D) (units made : Units) (closed is_fault : Bool) → made ≡ units → new ≡ old → is_fault ≡ false → closed ≡ false → seen_as new made is_fault ≡ seen_as old units closed
  untouched_is old new units made closed is_fault back same e was =
      let c : is_fault ≡ closed = e ∙ sym was in
      λ i. seen_as (same i) (back i) (c i)

  pub leaves_err : (fault : JournalFault) (command : LibraryCommand) (old new : journals.View D) (units made : Units) (closed is_fault : Bool) → made ≡ units
      → (fault ≢ journal.DiskFault → new ≡ old) → new.bodies ≡ old.bodies → new.area ≡ old.area → is_fault ≡ sameb the_type fault journal.DiskFault → closed ≡ false
      → ChangeLeaves {T = Unit {0}} command (seen_as old units closed) (seen_as new made is_fault) (Err (fault_of fault))
  leaves_err journal.DiskFault command old new units made closed is_fault back untouched bodies area e was =
      λ i. record { disk = new.disk; area = area i; bodies = bodies i; units = back i; closed = e i }
  leaves_err journal.Full command old new units made closed is_fault back untouched bodies area e was = untouched_is old new units made closed is_fault back (untouched (λ p. cc p)) e was
  leaves_err journal.Closed command old new units made closed is_fault back untouched bodies area e was = untouched_is old new units made closed is_fault back (untouched (λ p. cc p)) e was
  leaves_err journal.Damaged command old new units made closed is_fault back untouched bodies area e was = untouched_is old new units made closed is_fault back (untouched (λ p. cc p)) e was
  leaves_err journal.NotALibrary command old new units made closed is_fault back untouched bodies area e was = untouched_is old new units made closed is_fault back (untouched (λ p. cc p)) e was
  leaves_err journal.OutOfMemory command old new units made closed is_fault back untouched bodies area e was = untouched_is old new units made closed is_fault back (untouched (λ p. cc p)) e was

  pub compact_leaves_err : (fault : JournalFault) (old new : journals.View D) (units : Units) (closed is_fault : Bool)
      → (fault ≢ journal.DiskFault → new ≡ old) → new.bodies ≡ old.bodies → new.area ≡ old.area → is_fault ≡ sameb the_type fault journal.DiskFault → closed ≡ false
      → CompactLeaves {T = Unit {0}} (seen_as old units closed) (seen_as new units is_fault) (Err (fault_of fault))
  compact_leaves_err journal.DiskFault old new units closed is_fault untouched bodies area e was =
      λ i. record { disk = new.disk; area = area i; bodies = bodies i; units = units; closed = e i }
  compact_leaves_err journal.Full old new units closed is_fault untouched bodies area e was = untouched_is old new units units closed is_fault refl (untouched (λ p. cc p)) e was
  compact_leaves_err journal.Closed old new units closed is_fault untouched bodies area e was = untouched_is old new units units closed is_fault refl (untouched (λ p. cc p)) e was
  compact_leaves_err journal.Damaged old new units closed is_fault untouched bodies area e was = untouched_is old new units units closed is_fault refl (untouched (λ p. cc p)) e was
  compact_leaves_err journal.NotALibrary old new units closed is_fault untouched bodies area e was = untouched_is old new units units closed is_fault refl (untouched (λ p. cc p)) e was
  compact_leaves_err journal.OutOfMemory old new units closed is_fault untouched bodies area e was = untouched_is old new units units closed is_fault refl (untouched (λ p. cc p)) e was

  -- a right refusal of the journal's `rewrite` is a right refusal of `compact`
  pub compact_refused : (fault : JournalFault) (j : journals.View D) (units : Units) (closed : Bool) (bodies : List (List ℕ)) (before behind : ℕ) → bodies ≡ compacted units → closed ≡ j.closed
      → CommitAnswers {T = Unit {0}} j.closed j.area bodies before behind (Err fault) → CompactAnswers {T = Unit {0}} (seen_as j units closed) before behind (Err (fault_of fault))
  compact_refused journal.Full j units closed bodies before behind is same answers = (same ∙ answers.0, subst (λ (l : List (List ℕ)). j.area < room_of l) is answers.1, answers.2)
  compact_refused journal.DiskFault j units closed bodies before behind is same answers = (same ∙ answers.0, subst (λ (l : List (List ℕ)). room_of l ≤ j.area) is answers.1, answers.2)
  compact_refused journal.Closed j units closed bodies before behind is same answers = (same ∙ answers.0, answers.1)
  compact_refused journal.OutOfMemory j units closed bodies before behind is same answers = (same ∙ answers.0, answers.2)
  compact_refused journal.Damaged j units closed bodies before behind is same answers = absurd answers
  compact_refused journal.NotALibrary j units closed bodies before behind is same answers = absurd answers

  -- a right refusal of the journal's `append`, or of the log's `takes`, is a right refusal of the change
  pub change_refused : (fault : JournalFault) (j : journals.View D) (units : Units) (closed : Bool) (command : LibraryCommand) (before behind : ℕ) → closed ≡ j.closed → IsOk (apply units command)
      → AppendAnswers {T = Unit {0}} j.closed j.area j.bodies (body_of command) before behind (Err fault) → ChangeAnswers {T = Unit {0}} (seen_as j units closed) command before behind (Err (fault_of fault))
  change_refused journal.Full j units closed command before behind same ok answers = ((same ∙ answers.0, ok), answers.1, answers.2)
  change_refused journal.DiskFault j units closed command before behind same ok answers = ((same ∙ answers.0, ok), answers.1, answers.2)
  change_refused journal.Closed j units closed command before behind same ok answers = (same ∙ answers.0, answers.1)
  change_refused journal.OutOfMemory j units closed command before behind same ok answers = ((same ∙ answers.0, ok), answers.2)
  change_refused journal.Damaged j units closed command before behind same ok answers = absurd answers
  change_refused journal.NotALibrary j units closed command before behind same ok answers = absurd answers

  -- ---- what a `compact` would mend

  -- if a command that the map accepts is refused with 34, its record does not fit
  pub is_full : (fault : JournalFault) (full : Bool) (j : journals.View D) (units : Units) (closed : Bool) (command : LibraryCommand) → full ≡ sameb the_type fault journal.Full → full ≡ true → closed ≡ j.closed → IsOk (apply units command)
      → AppendAnswers {T = Unit {0}} j.closed j.area j.bodies (body_of command) 0 0 (Err fault) → IsAsked (seen_as j units closed) command × (j.area < room_with (seen_as j units closed) command)
  is_full journal.Full full j units closed command e is same ok answers = ((same ∙ answers.0, ok), answers.1)
  is_full journal.DiskFault full j units closed command e is same ok answers = let no : true ≡ false = sym is ∙ e in absurd (cc)
  is_full journal.Closed full j units closed command e is same ok answers = let no : true ≡ false = sym is ∙ e in absurd (cc)
  is_full journal.OutOfMemory full j units closed command e is same ok answers = let no : true ≡ false = sym is ∙ e in absurd (cc)
  is_full journal.Damaged full j units closed command e is same ok answers = absurd answers
  is_full journal.NotALibrary full j units closed command e is same ok answers = absurd answers

  -- if the refusal is not 34, a `compact` would not mend it, since the record fits or the journal is closed
  pub not_full : (fault : JournalFault) (full : Bool) (j : journals.View D) (units : Units) (closed : Bool) (command : LibraryCommand) → full ≡ sameb the_type fault journal.Full → full ≡ false → closed ≡ j.closed
      → AppendAnswers {T = Unit {0}} j.closed j.area j.bodies (body_of command) 0 0 (Err fault) → IsMended (seen_as j units closed) command → ⊥
  not_full journal.Full full j units closed command e is same answers mended = let no : true ≡ false = sym e ∙ is in cc
  not_full journal.DiskFault full j units closed command e is same answers mended = omega (arith, answers.1, mended.1)
  not_full journal.Closed full j units closed command e is same answers mended = let no : true ≡ false = sym answers.0 ∙ sym same ∙ mended.0.0 in cc
  not_full journal.OutOfMemory full j units closed command e is same answers mended = omega (arith, answers.1, mended.1)
  not_full journal.Damaged full j units closed command e is same answers mended = absurd answers
  not_full journal.NotALibrary full j units closed command e is same answers mended = absurd answers

  -- if a change is refused although no device call failed, everything is as it was
  pub change_leaves : (fault : JournalFault) (closed : Bool) (area : ℕ) (bodies : List (List ℕ)) (body : List ℕ) (old : View D) (command : LibraryCommand)
      → AppendAnswers {T = Unit {0}} closed area bodies body 0 0 (Err fault) → ChangeLeaves {T = Unit {0}} command old old (Err (fault_of fault))
  change_leaves journal.Full closed area bodies body old command answers = refl
  change_leaves journal.DiskFault closed area bodies body old command answers = absurd (omega (arith, answers.2))
  change_leaves journal.Closed closed area bodies body old command answers = refl
  change_leaves journal.OutOfMemory closed area bodies body old command answers = refl
  change_leaves journal.Damaged closed area bodies body old command answers = refl
  change_leaves journal.NotALibrary closed area bodies body old command answers = refl

  pub change_writes_nothing : (seen : D → List ℕ) (may_leave : D → List ℕ → Type 0) (fault : JournalFault) (closed : Bool) (area : ℕ) (bodies : List (List ℕ)) (body : List ℕ) (old : View D) (command : LibraryCommand)
      → AppendAnswers {T = Unit {0}} closed area bodies body 0 0 (Err fault) → ChangesDisk {T = Unit {0}} seen may_leave command old old (Err (fault_of fault))
  change_writes_nothing seen may_leave journal.Full closed area bodies body old command answers = tt
  change_writes_nothing seen may_leave journal.DiskFault closed area bodies body old command answers = absurd (omega (arith, answers.2))
  change_writes_nothing seen may_leave journal.Closed closed area bodies body old command answers = tt
  change_writes_nothing seen may_leave journal.OutOfMemory closed area bodies body old command answers = tt
  change_writes_nothing seen may_leave journal.Damaged closed area bodies body old command answers = tt
  change_writes_nothing seen may_leave journal.NotALibrary closed area bodies body old command answers = tt
