-- What was read before a service was opened does not change how it ended.
use Rattle.std.proofs.Common.{◌≡◌, ◌∙◌, ℕ, List, Bool, true, false, IsTrue, ap, inl, inr, refl, sym, subst, arith}
use Rattle.std.specs.Prelude.{◌⊎◌}
use Rattle.cc_disk.specs.declared.disk.Disk.{Ghosts}
use Rattle.cc_disk.specs.Images.{OnlyReads}
use Rattle.cc_library.specs.Answers.{OpenFaults}
use Rattle.cc_library.specs.Apply.{Units}
use Rattle.cc_library.specs.Recovered.{Recovers, View}
use Rattle.cc_library.specs.declared.fault.LibraryFault.{LibraryFault}
use Rattle.cc_library.specs.declared.fault.LibraryFault.TheVariants as library
use Rattle.cc_journal.specs.Format.{HasHeader}
use Rattle.cc_history.specs.declared.entry.Entry.{Entry}
use Rattle.cc_history.specs.Closing.{AreOwn, IsClosed, IsNotWhole}
use Rattle.cc_history.specs.History.{MemberView}
use Rattle.cc_recorded.specs.Book.{BookView}
use Rattle.cc_service.specs.Fault.{fault_number}
use Rattle.cc_recorded.specs.Promise.{FailedByDevice, IsGivenUp, IsSound}
use Rattle.cc_recorded.specs.Since.{IsPast}
use Rattle.cc_service.specs.Serving.{IsNotOpened, IsNotStarted}
use Rattle.cc_service.specs.declared.fault.ServiceFault.{ServiceFault}
use Rattle.cc_service.specs.declared.fault.ServiceFault.TheVariants as service
use Rattle.cc_session.specs.Session.{EndsSince, IsEnded, IsLeft, IsUnopened}
use Rattle.cc_session.specs.internal.Ends.{given_up_after}
use Rattle.cc_session.specs.declared.end.SessionEnd.{SessionEnd}
use Rattle.cc_session.specs.declared.end.SessionEnd.TheVariants.{Finished, Fault}

-- the service of some clients was ended or given up; `Worked` says what they did, depending on how their work ended
abbrev pub HasEnded : {Disk : Type 0} (D : Ghosts Disk) (failures : ℕ) (bytes : List ℕ) (from : ℕ) (left : List ℕ → Type 0)
    (Worked : (clients : List MemberView) (played : SessionEnd) → Type 0) → SessionEnd → (after : Disk) → Type 0
HasEnded D failures bytes from left Worked end after =
    (clients : List MemberView) × (played : SessionEnd) × Worked clients played × IsEnded D failures bytes from left clients played end after

-- the faults of the library's opening, stated for the bytes that were seen before
pub open_faults_on : (honest : Bool) (seen later : List ℕ) (before after : ℕ) (fault : LibraryFault) → (IsTrue honest → later ≡ seen)
    → OpenFaults honest later before after fault → OpenFaults honest seen before after fault
open_faults_on honest seen later before after library.DiskFault same it = it
open_faults_on honest seen later before after library.NotALibrary same it =
    (it.0, λ h area has. it.1 h area (subst (λ (bytes : List ℕ). HasHeader bytes area) (sym (same h)) has))
open_faults_on honest seen later before after library.Damaged same it =
    (it.0, λ h. subst (λ (bytes : List ℕ). ((area : ℕ) × HasHeader bytes area) × ((units : Units) → Recovers bytes units → ⊥)) (same h) (it.1 h))
open_faults_on honest seen later before after library.OutOfMemory same it = it
open_faults_on honest seen later before after library.Exists same it = it
open_faults_on honest seen later before after library.Absent same it = it
open_faults_on honest seen later before after library.Full same it = it
open_faults_on honest seen later before after library.Closed same it = it

-- the faults of the service's opening, stated for the bytes that were seen before
pub not_opened_on : (honest : Bool) (seen later : List ℕ) (base : Units) (before after : ℕ) (fault : ServiceFault) → (IsTrue honest → later ≡ seen)
    → IsNotOpened honest later base before after fault → IsNotOpened honest seen base before after fault
not_opened_on honest seen later base before after (service.Opening f) same it = open_faults_on honest seen later before after f same it
not_opened_on honest seen later base before after service.WorkersGone same it =
    (it.0, λ h. subst (λ (bytes : List ℕ). Recovers bytes base) (same h) (it.1 h))
not_opened_on honest seen later base before after service.OutOfMemory same it =
    (it.0, λ h. subst (λ (bytes : List ℕ). Recovers bytes base) (same h) (it.1 h))
not_opened_on honest seen later base before after service.TooManyClients same it = it
not_opened_on honest seen later base before after service.BadName same it = it
not_opened_on honest seen later base before after (service.Text f) same it = it
not_opened_on honest seen later base before after (service.Piece function f) same it = it
not_opened_on honest seen later base before after service.ImageTooLarge same it = it
not_opened_on honest seen later base before after (service.Book f) same it = it
not_opened_on honest seen later base before after (service.Changed receipt) same it = it

-- a service whose workers were not started was not opened
pub not_started : (honest : Bool) (seen : List ℕ) (base : Units) (before after : ℕ) (fault : ServiceFault) → IsNotStarted fault → after ≡ before → (IsTrue honest → Recovers seen base)
    → IsNotOpened honest seen base before after fault
not_started honest seen base before after service.WorkersGone not same recovers = (same, recovers)
not_started honest seen base before after service.OutOfMemory not same recovers = (same, recovers)
not_started honest seen base before after (service.Opening f) not same recovers = absurd not
not_started honest seen base before after service.TooManyClients not same recovers = not
not_started honest seen base before after service.BadName not same recovers = not
not_started honest seen base before after (service.Text f) not same recovers = not
not_started honest seen base before after (service.Piece function f) not same recovers = not
not_started honest seen base before after service.ImageTooLarge not same recovers = not
not_started honest seen base before after (service.Book f) not same recovers = not
not_started honest seen base before after (service.Changed receipt) not same recovers = not

-- the reason for which a session was not opened, stated for the bytes that were seen before
pub unopened_on : (honest : Bool) (seen later : List ℕ) (before after : ℕ) (end : SessionEnd) → (IsTrue honest → later ≡ seen)
    → IsUnopened honest later before after end → IsUnopened honest seen before after end
unopened_on honest seen later before after Finished same it = it
unopened_on honest seen later before after (Fault number) same it =
    (it.0, it.1, it.2, not_opened_on honest seen later it.0 before after it.1 same it.3)

-- ---- how a service was ended

-- if all receipts are there, a service that was given up ends as the work did, or with 40
given_up_whole : (played : SessionEnd) → (given_up_after true played ≡ played) ⊎ ((played ≡ Finished) × (given_up_after true played ≡ Fault 40))
given_up_whole Finished = inr (refl, refl)
given_up_whole (Fault first) = inl refl

module _ {Disk : Type 0} (D : Ghosts Disk) (failures : ℕ) (named : Units) (from : ℕ) (left : List ℕ → Type 0)
    (bytes : List ℕ) (begun : IsTrue D.honest → Recovers bytes named) (clients : List MemberView) (played : SessionEnd) where
  -- if a service was closed, it ends as the work did, and the library that is left is that of its book
  pub kept_by : (book : BookView Disk) (after : Disk) → after ≡ book.library.disk → IsSound D named from left book → FailedByDevice D failures book → IsClosed book.history clients → AreOwn clients
      → IsEnded D failures bytes from left clients played played after
  kept_by book after disk sound blamed closed own =
      inl (inl refl, record { base = named; begun = begun; book = book; disk = sym disk; sound = sound; blamed = blamed; own = own; holds = closed })

  -- a service that was given up has ended, as `IsEnded` says
  pub given_up_by : (are_all : Bool) (after : Disk) → IsGivenUp D failures named from left clients are_all after → IsEnded D failures bytes from left clients played (given_up_after are_all played) after
  given_up_by true after it =
      inl (given_up_whole played, record { base = named; begun = begun; book = it.book; disk = it.disk_is; sound = it.sound; blamed = it.blamed; own = it.own; holds = it.closed refl })
  given_up_by false after it =
      inr (refl, record { base = named; begun = begun; book = it.book; disk = it.disk_is; sound = it.sound; blamed = it.blamed; own = it.own; holds = it.why refl })

-- ---- what was read before the service was opened

-- what is left of a service, stated for the bytes that were seen before
left_on : {Disk : Type 0} (D : Ghosts Disk) (failures : ℕ) (bytes later : List ℕ) (from : ℕ) (left : List ℕ → Type 0) (Holds : List Entry → List MemberView → Type 0) (clients : List MemberView) (after : Disk)
    → (IsTrue D.honest → later ≡ bytes) → IsLeft D failures later from left Holds clients after → IsLeft D failures bytes from left Holds clients after
left_on D failures bytes later from left Holds clients after same it =
    record {
      base = it.base;
      begun = λ h. subst (λ (b : List ℕ). Recovers b it.base) (same h) (it.begun h);
      book = it.book;
      disk = it.disk;
      sound = it.sound;
      blamed = it.blamed;
      own = it.own;
      holds = it.holds;
    }

-- the end of a service that was ended or given up, stated for the bytes that were seen before
ended_on : {Disk : Type 0} (D : Ghosts Disk) (failures : ℕ) (bytes later : List ℕ) (from : ℕ) (left : List ℕ → Type 0) (clients : List MemberView) (played end : SessionEnd) (after : Disk)
    → (IsTrue D.honest → later ≡ bytes) → IsEnded D failures later from left clients played end after → IsEnded D failures bytes from left clients played end after
ended_on D failures bytes later from left clients played end after same (inl kept) =
    inl (kept.0, left_on D failures bytes later from left IsClosed clients after same kept.1)
ended_on D failures bytes later from left clients played end after same (inr estranged) =
    inr (estranged.0, left_on D failures bytes later from left IsNotWhole clients after same estranged.1)

module _ {Disk : Type 0} (D : Ghosts Disk) where
  -- if a disk is the same before and after, it was at most read
  pub reads_none : (a : Disk) → OnlyReads D.seen D.may_leave D.moment D.left_since a a
  reads_none a = record { same = refl; images = λ image leaves. leaves; later = omega arith; moments = λ t image early left. left }

  -- if a disk was only read twice in a row, it was only read
  pub reads_on : (a b c : Disk) → OnlyReads D.seen D.may_leave D.moment D.left_since a b → OnlyReads D.seen D.may_leave D.moment D.left_since b c → OnlyReads D.seen D.may_leave D.moment D.left_since a c
  reads_on a b c one two = record {
    same = two.same ∙ one.same;
    images = λ image leaves. one.images image (two.images image leaves);
    later = omega (arith, one.later, two.later);
    moments = λ t image early left. one.moments t image early (two.moments t image (omega (arith, one.later, early)) left);
  }

  -- how a service ended, stated for the disk before anything was read from it
  on_first : (from : ℕ) (begins : List ℕ → Type 0) (Untouched : Type 0) (HaveDone : List MemberView → SessionEnd → Type 0) (a b after : Disk) (end : SessionEnd)
      → D.failures b ≡ D.failures a → (IsTrue D.honest → OnlyReads D.seen D.may_leave D.moment D.left_since a b)
      → EndsSince D from begins Untouched HaveDone b after end
      → EndsSince D from begins Untouched HaveDone a after end
  on_first from begins Untouched HaveDone a b after end sound reads (inl (unopened, later, untouched)) =
      inl (
        subst (λ (n : ℕ). IsUnopened D.honest (D.seen a) n (D.failures after) end) sound
            (unopened_on D.honest (D.seen a) (D.seen b) (D.failures b) (D.failures after) end (λ h. (reads h).same) unopened),
        λ h. reads_on a b after (reads h) (later h),
        untouched,
      )
  on_first from begins Untouched HaveDone a b after end sound reads (inr ended) =
      inr (
        ended.0,
        ended.1,
        ended.2,
        subst (λ (n : ℕ). IsEnded D n (D.seen a) from begins ended.0 ended.1 end after) sound
            (ended_on D (D.failures b) (D.seen a) (D.seen b) from begins ended.0 ended.1 end after (λ h. (reads h).same) ended.3),
      )

  -- how a service ended, stated for the disk as it was at the beginning
  pub ends_on : (Untouched : Type 0) (HaveDone : List MemberView → SessionEnd → Type 0) (first a b after : Disk) (end : SessionEnd)
      → first ≡ a → D.failures b ≡ D.failures a → (IsTrue D.honest → OnlyReads D.seen D.may_leave D.moment D.left_since a b)
      → EndsSince D (D.moment first) (D.may_leave first) Untouched HaveDone b after end
      → EndsSince D (D.moment a) (D.may_leave a) Untouched HaveDone a after end
  ends_on Untouched HaveDone first a b after end is sound reads it =
      subst (λ (d : Disk). EndsSince D (D.moment d) (D.may_leave d) Untouched HaveDone a after end) is
      (on_first (D.moment first) (D.may_leave first) Untouched HaveDone a b after end sound reads it)

  -- how serving ends if no service was opened for this reason, and the reason is reported
  pub unserved_by : (from : ℕ) (begins : List ℕ → Type 0) (Untouched : Type 0) (HaveDone : List MemberView → SessionEnd → Type 0) (base : Units)
      (fault : ServiceFault) (a b after : Disk) (end : SessionEnd) → after ≡ b → end ≡ Fault (fault_number fault) → IsNotOpened D.honest (D.seen a) base (D.failures a) (D.failures b) fault
      → (IsTrue D.honest → OnlyReads D.seen D.may_leave D.moment D.left_since a b) → Untouched
      → EndsSince D from begins Untouched HaveDone a after end
  unserved_by from begins Untouched HaveDone base fault a b after end is told why reads untouched =
      subst (λ (d : Disk). EndsSince D from begins Untouched HaveDone a d end) (sym is)
      (subst (λ (e : SessionEnd). EndsSince D from begins Untouched HaveDone a b e) (sym told)
      (inl ((base, fault, refl, why), reads, untouched)))

  -- if the disk was only read, a crash since the beginning leaves only what it could have left then
  pub past_at : (first a b : Disk) → ((image : List ℕ) → D.left_since a (D.moment a) image → D.may_leave a image) → first ≡ a → OnlyReads D.seen D.may_leave D.moment D.left_since a b
      → IsPast D (D.moment first) (D.may_leave first) b
  past_at first a b only is reads =
      subst (λ (d : Disk). IsPast D (D.moment d) (D.may_leave d) b) (sym is)
      (record { past = reads.later; all = λ image since. only image (reads.moments (D.moment a) image (omega arith) since) })

  -- ---- over a library that was opened

  -- the bytes of the library's disk recover to the map that the type names
  pub recovers_base : (base : Units) (library : View Disk) → (IsTrue D.honest → Recovers (D.seen library.disk) library.units) → (IsTrue D.honest → library.units ≡ base)
      → IsTrue D.honest → Recovers (D.seen library.disk) base
  recovers_base base library recovers named h = subst (λ (units : Units). Recovers (D.seen library.disk) units) (named h) (recovers h)

  -- why there is no service over a library whose disk was handed back
  pub not_over : (base : Units) (library : View Disk) (after : Disk) (fault : ServiceFault) → (IsTrue D.honest → Recovers (D.seen library.disk) library.units)
      → (IsTrue D.honest → library.units ≡ base) → IsNotStarted fault → after ≡ library.disk
      → IsNotOpened D.honest (D.seen library.disk) base (D.failures library.disk) (D.failures after) fault
  not_over base library after fault recovers named not back =
      not_started D.honest (D.seen library.disk) base (D.failures library.disk) (D.failures after) fault not (ap D.failures back) (recovers_base base library recovers named)

  -- if a disk was handed back unchanged, it was at most read
  pub reads_back : (a b : Disk) → b ≡ a → OnlyReads D.seen D.may_leave D.moment D.left_since a b
  reads_back a b back = subst (λ (d : Disk). OnlyReads D.seen D.may_leave D.moment D.left_since a d) (sym back) (reads_none a)
