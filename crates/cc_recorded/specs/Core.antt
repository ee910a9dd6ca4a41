-- How a book shows a state of the protocol core, and which steps of the core a commit is. No state of the core is made at run time. A
-- book shows every state that has its map, an order that leads to it, its phase, and a disk that reads as its disk does and that leaves
-- everything that its disk may leave.
use Rattle.std.specs.Prelude.{◌≡◌, ◌⊎◌, ℕ, Bool, true, false, IsTrue, List, [], ◌∷◌, ◌++◌, length, Option, Some, None, Result, Ok, Err}
use Rattle.std.specs.FinMap.{empty, get}
use Rattle.cc_disk.specs.declared.disk.Disk.{Ghosts}
use Rattle.cc_disk.specs.Model.{bytes_of, IsImage}
use Rattle.cc_journal.specs.Format.{HoldsRecords, records}
use Rattle.cc_library.specs.Change.{LibraryCommand}
use Rattle.cc_library.specs.Apply.{AreAccepted, library_of}
use Rattle.cc_library.specs.Recovered.{View}
use Rattle.cc_core.specs.declared.command.Numbered.{Numbered}
use Rattle.cc_core.specs.declared.command.Reply.{Reply}
use Rattle.cc_core.specs.declared.command.Reply.TheVariants as replies
use Rattle.cc_core.specs.declared.contents.Contents.{Contents}
use Rattle.cc_core.specs.declared.contents.Phase.{Phase}
use Rattle.cc_core.specs.declared.contents.Phase.TheVariants.{Idle, Failed}
use Rattle.cc_core.specs.declared.event.Event.{Event}
use Rattle.cc_core.specs.declared.event.Event.TheVariants as event
use Rattle.cc_core.specs.declared.fault.Refusal.{Refusal}
use Rattle.cc_core.specs.declared.fault.Refusal.TheVariants as refusal
use Rattle.cc_core.specs.declared.ids.ClientId.{ClientId}
use Rattle.cc_core.specs.declared.job.Job.{Job}
use Rattle.cc_core.specs.Job.{all_there, command_of}
use Rattle.cc_core.specs.Rules.{Rules}
use Rattle.cc_core.specs.StoreState.{StoreState}
use Rattle.cc_core.specs.Step.{Step, commands}
use Rattle.cc_history.specs.History.{changes}
use Rattle.cc_recorded.specs.Book.{BookView}
use Rattle.cc_history.specs.declared.entry.Receipt.{Receipt}
use Rattle.cc_recorded.specs.declared.fault.BookFault.{BookFault}
use Rattle.cc_recorded.specs.declared.fault.BookFault.TheVariants.{Exists, Absent, Full, DiskFault, Closed, Estranged, OutOfMemory}

-- The acknowledged commands are first some that lead to the base, all made before the opening, and then the changes of the history, each
-- answered Ok. The order consists of these, followed by the change that failed, if there was one.
pub record ShowsOrder {D : Type 0} (book : BookView D) (order acknowledged : List Numbered) : Type 0 where
  pub earlier : List LibraryCommand
  pub base : library_of earlier ≡ book.base
  pub accepted : AreAccepted empty earlier
  pub acked : commands acknowledged ≡ earlier ++ changes book.history
  pub failing : List Numbered
  pub in_order : order ≡ acknowledged ++ failing
  pub failed : commands failing ≡ book.failed

-- the phase is Idle; or, once the device has failed, Failed, with the change that failed, if there was one
abbrev pub IsPhase : (closed : Bool) (failed : List LibraryCommand) → Phase → Type 0
IsPhase false failed phase = (failed ≡ []) × (phase ≡ Idle)
IsPhase true [] phase = phase ≡ Failed None
IsPhase true (change ∷ others) phase = (last : Numbered) × (last.command ≡ change) × (phase ≡ Failed (Some last))

-- A store that leaves everything that the disk may leave. While no device call has failed, it reads as the disk does, and its records are
-- those of the disk, in the same area. (After a failure nobody reads the disk before it is opened again.)
pub record ShowsDisk {Disk : Type 0} (D : Ghosts Disk) (view : View Disk) (store : StoreState) : Type 0 where
  pub area : store.area ≡ view.area
  pub used : view.closed ≡ false → store.used ≡ length (records view.bodies)
  pub bytes : IsTrue D.honest → view.closed ≡ false → bytes_of store.cells ≡ D.seen view.disk
  pub images : IsTrue D.honest → (image : List ℕ) → D.may_leave view.disk image → IsImage store.cells image
  pub holds : IsTrue D.honest → view.closed ≡ false → (h : HoldsRecords (D.seen view.disk) view.area view.bodies) × (h.area_byte ≡ store.area_byte)

module _ {Disk P : Type 0} (D : Ghosts Disk) where
  -- the book shows this state: its live map, its order, its phase and its disk
  pub record Shows (book : BookView Disk) (s : Contents P) : Type 0 where
    pub library : s.core.library ≡ book.library.units
    pub order : ShowsOrder book s.core.order s.core.acknowledged
    pub phase : IsPhase book.library.closed book.failed s.core.phase
    pub disk : ShowsDisk D book.library s.core.store

module _ {P : Type 0} (rules : Rules P) where
  -- these events, with their replies, are steps that lead from one state to the other
  abbrev pub Steps : Contents P → List (Event P × Option Reply) → Contents P → Type 0
  Steps old [] new = new ≡ old
  Steps old (one ∷ others) new = (mid : Contents P) × Step rules old one.0 one.1 mid × Steps mid others new

  -- the steps of a commit, from Begin to Ack
  abbrev pub done_steps : ClientId → List (Event P × Option Reply)
  done_steps client =
      (event.Begin client, None) ∷ (event.WriteBody, None) ∷ (event.SyncBody, None) ∷ (event.WriteGate, None) ∷ (event.SyncGate, None)
      ∷ (event.Ack client, Some replies.Done) ∷ []

  -- the step of a commit that is refused
  abbrev pub refused_steps : ClientId → Refusal → List (Event P × Option Reply)
  refused_steps client why = (event.Begin client, Some (replies.Refused why)) ∷ []

  -- the steps of a commit whose first or second device step fails, and of one whose third or fourth fails
  abbrev pub failed_first : ClientId → List (Event P × Option Reply)
  failed_first client = (event.Begin client, None) ∷ (event.Fail, Some (replies.Refused refusal.DiskFault)) ∷ []

  abbrev pub failed_last : ClientId → List (Event P × Option Reply)
  failed_last client =
      (event.Begin client, None) ∷ (event.WriteBody, None) ∷ (event.SyncBody, None) ∷ (event.Fail, Some (replies.Refused refusal.DiskFault)) ∷ []

  -- the client has a job whose pieces have all been handed in and give this change
  pub record Has (s : Contents P) (client : ClientId) (c : LibraryCommand) : Type 0 where
    pub its : Job P
    pub held : get s.jobs client.number ≡ Some its
    pub there : IsTrue (all_there its.pieces)
    pub gives : command_of rules its its.request ≡ Ok c

  -- the core's steps of a commit with this answer: from Begin to Ack, a refusal or a Fail; with 39 or 40 it does not begin
  abbrev pub IsCommitOf : (Contents P → Type 0) → Contents P → ClientId → Result Receipt BookFault → Type 0
  IsCommitOf Shown s client (Ok receipt) = (new : Contents P) × Steps s (done_steps client) new × Shown new
  IsCommitOf Shown s client (Err (Exists receipt)) = (new : Contents P) × Steps s (refused_steps client refusal.Exists) new × Shown new
  IsCommitOf Shown s client (Err (Absent receipt)) = (new : Contents P) × Steps s (refused_steps client refusal.Absent) new × Shown new
  IsCommitOf Shown s client (Err Full) = (new : Contents P) × Steps s (refused_steps client refusal.Full) new × Shown new
  IsCommitOf Shown s client (Err Closed) = (new : Contents P) × Steps s (refused_steps client refusal.Closed) new × Shown new
  IsCommitOf Shown s client (Err DiskFault) =
      (new : Contents P) × (Steps s (failed_first client) new ⊎ Steps s (failed_last client) new) × Shown new
  IsCommitOf Shown s client (Err (Estranged number found)) = Shown s
  IsCommitOf Shown s client (Err OutOfMemory) = Shown s

-- the event is not part of a commit, a rewrite, a failure or a crash: a job is handed in, a piece is taken, or its result is handed in
abbrev pub IsBeside : {P : Type 0} → Event P → Type 0
IsBeside (event.Submit client call request) = Unit {0}
IsBeside (event.Take worker client part) = Unit {0}
IsBeside (event.Done worker piece) = Unit {0}
IsBeside (event.Refuse worker number) = Unit {0}
IsBeside other = ⊥

-- the steps of a rewrite; of one whose first or second device step failed; and of one whose third or fourth failed
module _ {P : Type 0} where
  abbrev pub rewritten_steps : List (Event P × Option Reply)
  rewritten_steps = (event.RewriteAll, None) ∷ (event.SyncAll, None) ∷ (event.WriteArea, None) ∷ (event.SyncArea, None) ∷ []

  abbrev pub rewrite_failed_first : List (Event P × Option Reply)
  rewrite_failed_first = (event.RewriteAll, None) ∷ (event.Fail, None) ∷ []

  abbrev pub rewrite_failed_last : List (Event P × Option Reply)
  rewrite_failed_last = (event.RewriteAll, None) ∷ (event.SyncAll, None) ∷ (event.Fail, None) ∷ []

-- the core's steps of a compaction with this answer: a rewrite, or one that failed; none if it is refused for another reason
abbrev pub IsRewriteOf : {P : Type 0} (rules : Rules P) → (Contents P → Type 0) → Contents P → Result (Unit {0}) BookFault → Type 0
IsRewriteOf rules Shown s (Ok done) = (new : Contents _) × Steps rules s rewritten_steps new × Shown new
IsRewriteOf rules Shown s (Err DiskFault) =
    (new : Contents _) × (Steps rules s rewrite_failed_first new ⊎ Steps rules s rewrite_failed_last new) × Shown new
IsRewriteOf rules Shown s (Err (Exists receipt)) = Shown s
IsRewriteOf rules Shown s (Err (Absent receipt)) = Shown s
IsRewriteOf rules Shown s (Err Full) = Shown s
IsRewriteOf rules Shown s (Err Closed) = Shown s
IsRewriteOf rules Shown s (Err (Estranged number found)) = Shown s
IsRewriteOf rules Shown s (Err OutOfMemory) = Shown s
