-- The protocol core, one step at a time: which reply an event may give in an old state, if any, and to which new state it may lead.
use Rattle.std.specs.Prelude.{ℕ, ◌≡◌, ◌+◌, ◌<◌, ◌≤◌, ◌⊎◌, IsTrue, List, [], ◌∷◌, ◌++◌, length, map, take, slice_get, Option, Some, None, Result, Ok, Err}
use Rattle.std.specs.Ordering.{nat_cmp}
use Rattle.std.specs.FinMap.{FinMap, get, insert, remove, empty}
use Rattle.cc_disk.specs.Model.{bytes_of}
use Rattle.cc_journal.specs.Commit.{Commit}
use Rattle.cc_journal.specs.Format.{HoldsRecords, records, room_of}
use Rattle.cc_library.specs.Change.{LibraryCommand}
use Rattle.cc_library.specs.Apply.{Units, after, library_of}
use Rattle.cc_library.specs.Compact.{compacted}
use Rattle.cc_library.specs.Recovered.{StandFor}
use Rattle.cc_core.specs.Request.{Request}
use Rattle.cc_core.specs.declared.command.Numbered.{Numbered}
use Rattle.cc_core.specs.declared.command.Reply.{Reply}
use Rattle.cc_core.specs.declared.command.Reply.TheVariants as replies
use Rattle.cc_core.specs.declared.job.Job.{Job}
use Rattle.cc_core.specs.declared.job.Work.{Work}
use Rattle.cc_core.specs.declared.job.Progress.TheVariants.{Waiting, Taken, Made, Refused}
use Rattle.cc_core.specs.declared.fault.Refusal.{Refusal}
use Rattle.cc_core.specs.declared.fault.Refusal.TheVariants as refusal
use Rattle.cc_core.specs.declared.ids.CallId.{CallId}
use Rattle.cc_core.specs.declared.ids.ClientId.{ClientId}
use Rattle.cc_core.specs.declared.ids.PartIndex.{PartIndex}
use Rattle.cc_core.specs.declared.ids.WorkerId.{WorkerId}
use Rattle.cc_core.specs.declared.contents.Contents.{Contents}
use Rattle.cc_core.specs.declared.contents.Core.{Core}
use Rattle.cc_core.specs.declared.contents.Due.{Due}
use Rattle.cc_core.specs.declared.contents.Due.TheVariants as due
use Rattle.cc_core.specs.declared.contents.RewriteDue.{RewriteDue}
use Rattle.cc_core.specs.declared.contents.RewriteDue.TheVariants as left
use Rattle.cc_core.specs.declared.contents.Phase.{Phase}
use Rattle.cc_core.specs.declared.contents.Phase.TheVariants.{Idle, Committing, Rewriting, Failed, Crashed}
use Rattle.cc_core.specs.declared.event.Event.{Event}
use Rattle.cc_core.specs.declared.event.Event.TheVariants as event
use Rattle.cc_core.specs.Rules.{Rules}
use Rattle.cc_core.specs.Job.{planned, IsPlanned, source_in, with_piece, all_there, verdict}
use Rattle.cc_core.specs.StoreState.{StoreState}
use Rattle.cc_core.specs.Store.{IsFormatted, stepped, due_after, FailsTo, first_written, rewrite_of, rewrite_stepped, RewriteFailsTo, crashed_store}

-- the disk has not crashed, or has been recovered since
abbrev pub IsUp : Phase → Type 0
IsUp Idle = Unit {0}
IsUp (Committing client numbered due) = Unit {0}
IsUp (Rewriting commit due) = Unit {0}
IsUp (Failed failed) = Unit {0}
IsUp Crashed = ⊥

-- a Begin may take its step: no commit and no rewrite is under way; after a failed device step its command is refused
abbrev pub IsFree : Phase → Type 0
IsFree Idle = Unit {0}
IsFree (Committing client numbered due) = ⊥
IsFree (Rewriting commit due) = ⊥
IsFree (Failed failed) = Unit {0}
IsFree Crashed = ⊥

-- the commands of an order, without their sequence numbers
abbrev pub commands : List Numbered → List LibraryCommand
commands order = map (λ numbered. numbered.command) order

-- `kept` is the longest prefix of the order whose library is this one
pub record IsLongest (library : Units) (order kept : List Numbered) : Type 0 where
  pub count : ℕ
  pub within : count ≤ length order
  pub prefix : kept ≡ take count order
  pub leads : library_of (commands kept) ≡ library
  pub longest : (n : ℕ) → count < n → n ≤ length order → library_of (commands (take n order)) ≡ library → ⊥

-- ---- the commit, in the core only

-- the core once one more Begin has taken its step
abbrev pub ticked : Core → Core
ticked old = record old { upcoming = record { value = old.upcoming.value + 1 } }

-- the command with the sequence number of the Begin that takes its step now
abbrev pub numbered_now : Core → LibraryCommand → Numbered
numbered_now old command = record { number = old.upcoming; command = command }

-- the result of a Begin: a refusal is the reply; a command is added at the end of the order, and the write of its body is due
abbrev pub Begun : Core → ClientId → Result LibraryCommand Refusal → Option Reply → Core → Type 0
Begun old client (Err refused) reply new = (reply ≡ Some (replies.Refused refused)) × (new ≡ ticked old)
Begun old client (Ok command) reply new =
    (reply ≡ None) × (new ≡ record (ticked old) { order = old.order ++ numbered_now old command ∷ []; phase = Committing client (numbered_now old command) due.WriteBody })

-- the device step that is due is done
pub record Advances (due : Due) (old : Core) (reply : Option Reply) (new : Core) : Type 0 where
  pub client : ClientId
  pub numbered : Numbered
  pub committing : old.phase ≡ Committing client numbered due
  pub silent : reply ≡ None
  pub new_is : new ≡ record old { store = stepped due numbered.command old.store; phase = Committing client numbered (due_after due) }

-- the device step that is due for this client fails: the reply is 35, and no further device step is made
pub record Fails (client : ClientId) (old : Core) (reply : Option Reply) (new : Core) : Type 0 where
  pub numbered : Numbered
  pub due : Due
  pub store : StoreState
  pub committing : old.phase ≡ Committing client numbered due
  pub failed : FailsTo due numbered.command old.store store
  pub told : reply ≡ Some (replies.Refused refusal.DiskFault)
  pub new_is : new ≡ record old { store = store; phase = Failed (Some numbered) }

-- the reply is given for a command that is on the disk, and the command is carried out on the library
pub record Acknowledges (client : ClientId) (old : Core) (reply : Option Reply) (new : Core) : Type 0 where
  pub numbered : Numbered
  pub committing : old.phase ≡ Committing client numbered due.Acknowledge
  pub done : reply ≡ Some replies.Done
  pub new_is : new ≡ record old {
    library = after old.library numbered.command;
    acknowledged = old.acknowledged ++ numbered ∷ [];
    phase = Idle;
  }

-- ---- a rewrite, in the core only

-- Between two commits, if the shortest journal of the live map fits in an area, the first write of a rewrite is done: its records
-- and their closed gate are written to the area that is not in use. A write that fails or is torn needs no case of its own: it is
-- this step followed by a failed sync or a crash, since the range of the write is unsettled, and nothing was due before it.
pub record RewritesAll (old : Core) (reply : Option Reply) (new : Core) : Type 0 where
  pub idle : old.phase ≡ Idle
  pub fits : room_of (compacted old.library) ≤ old.store.area
  pub silent : reply ≡ None
  pub new_is : new ≡ record old {
    store = first_written (rewrite_of old.store old.library) old.store;
    phase = Rewriting (rewrite_of old.store old.library) left.SyncAll;
  }

-- the phase after a step of a rewrite: the next step is due; after the last step, no step is due
abbrev pub phase_after : Commit → RewriteDue → Phase
phase_after commit left.SyncAll = Rewriting commit left.WriteArea
phase_after commit left.WriteArea = Rewriting commit left.SyncArea
phase_after commit left.SyncArea = Idle

-- the device step that is due in a rewrite is done; the map and the order stay the same
pub record RewriteAdvances (due : RewriteDue) (old : Core) (reply : Option Reply) (new : Core) : Type 0 where
  pub commit : Commit
  pub rewriting : old.phase ≡ Rewriting commit due
  pub silent : reply ≡ None
  pub new_is : new ≡ record old { store = rewrite_stepped due commit old.store; phase = phase_after commit due }

-- the device step that is due in a rewrite fails: no job is in commit, so there is no reply, and no further device step is made
pub record RewriteFails (old : Core) (reply : Option Reply) (new : Core) : Type 0 where
  pub commit : Commit
  pub due : RewriteDue
  pub store : StoreState
  pub rewriting : old.phase ≡ Rewriting commit due
  pub failed : RewriteFailsTo due commit old.store store
  pub silent : reply ≡ None
  pub new_is : new ≡ record old { store = store; phase = Failed None }

-- ---- a crash, in the core only

-- the disk crashes, at any time; the live map is lost
pub record Crashes (choice : List ℕ) (old : Core) (reply : Option Reply) (new : Core) : Type 0 where
  pub silent : reply ≡ None
  pub new_is : new ≡ record old { library = empty; phase = Crashed; store = crashed_store choice old.store }

-- the library is opened: the live map is that of the records in the named area; the order is cut to its longest prefix with that map
pub record Reopens (old : Core) (reply : Option Reply) (new : Core) : Type 0 where
  pub crashed : old.phase ≡ Crashed
  pub bodies : List (List ℕ)
  pub library : Units
  pub kept : List Numbered
  pub holds : HoldsRecords (bytes_of old.store.cells) old.store.area bodies
  pub stand : StandFor bodies library
  pub longest : IsLongest library old.order kept
  pub silent : reply ≡ None
  pub new_is : new ≡ record old {
    library = library;
    order = kept;
    phase = Idle;
    store = record old.store { area_byte = holds.area_byte; used = length (records bodies) };
  }

-- ---- the core together with jobs and workers

module _ {P : Type 0} where
  -- nothing has happened yet, and the disk is formatted, with areas of `area` bytes
  pub record IsStart (area : ℕ) (new : Contents P) : Type 0 where
    pub library : new.core.library ≡ empty
    pub order : new.core.order ≡ []
    pub acknowledged : new.core.acknowledged ≡ []
    pub jobs : new.jobs ≡ empty
    pub workers : new.workers ≡ empty
    pub phase : new.core.phase ≡ Idle
    pub formatted : IsFormatted area new.core.store
    pub upcoming : new.core.upcoming.value ≡ 0

  -- a client without a job hands one in
  pub record Submits (rules : Rules P) (client : ClientId) (call : CallId) (request : Request) (old : Contents P) (reply : Option Reply) (new : Contents P) : Type 0 where
    pub up : IsUp old.core.phase
    pub free : get old.jobs client.number ≡ None
    pub plan : Result ℕ ℕ
    pub planned_so : IsPlanned rules request plan
    pub silent : reply ≡ None
    pub new_is : new ≡ record old { jobs = insert old.jobs client.number (planned call request plan) }

  -- an idle worker takes a waiting piece of a client's job
  pub record Takes (worker : WorkerId) (client : ClientId) (part : PartIndex) (old : Contents P) (reply : Option Reply) (new : Contents P) : Type 0 where
    pub job : Job P
    pub idle : get old.workers worker.number ≡ None
    pub held : get old.jobs client.number ≡ Some job
    pub waits : slice_get job.pieces part.index ≡ Some Waiting
    pub silent : reply ≡ None
    pub new_is : new ≡ record old {
      jobs = insert old.jobs client.number (with_piece job part Taken);
      workers = insert old.workers worker.number (record { client = client; part = part });
    }

  -- a busy worker hands in the piece that it took: a value that names the job's source and the index of that piece
  pub record Finishes (rules : Rules P) (worker : WorkerId) (piece : P) (old : Contents P) (reply : Option Reply) (new : Contents P) : Type 0 where
    pub work : Work
    pub job : Job P
    pub busy : get old.workers worker.number ≡ Some work
    pub held : get old.jobs work.client.number ≡ Some job
    pub source : source_in job.request ≡ Some (rules.source_of piece)
    pub part : rules.part_of piece ≡ work.part.index
    pub silent : reply ≡ None
    pub new_is : new ≡ record old {
      jobs = insert old.jobs work.client.number (with_piece job work.part (Made piece));
      workers = remove old.workers worker.number;
    }

  -- a busy worker refuses the piece that it took
  pub record Refuses (worker : WorkerId) (number : ℕ) (old : Contents P) (reply : Option Reply) (new : Contents P) : Type 0 where
    pub work : Work
    pub job : Job P
    pub busy : get old.workers worker.number ≡ Some work
    pub held : get old.jobs work.client.number ≡ Some job
    pub silent : reply ≡ None
    pub new_is : new ≡ record old {
      jobs = insert old.jobs work.client.number (with_piece job work.part (Refused number));
      workers = remove old.workers worker.number;
    }

  -- the jobs after a Begin: a refused job has ended
  abbrev pub jobs_begun : FinMap nat_cmp (Job P) → ClientId → Result LibraryCommand Refusal → FinMap nat_cmp (Job P)
  jobs_begun jobs client (Ok command) = jobs
  jobs_begun jobs client (Err refused) = remove jobs client.number

  -- a job whose pieces have all been answered begins, if no other command is in commit and no rewrite is under way
  pub record BeginsCommit (rules : Rules P) (client : ClientId) (old : Contents P) (reply : Option Reply) (new : Contents P) : Type 0 where
    pub job : Job P
    pub free : IsFree old.core.phase
    pub held : get old.jobs client.number ≡ Some job
    pub ready : IsTrue (all_there job.pieces)
    pub begun : Begun old.core client (verdict rules old.core.phase old.core.library old.core.store job) reply new.core
    pub jobs : new.jobs ≡ jobs_begun old.jobs client (verdict rules old.core.phase old.core.library old.core.store job)
    pub workers : new.workers ≡ old.workers

  -- a step that changes only the core
  pub record StepsCore (step : Core → Option Reply → Core → Type 0) (old : Contents P) (reply : Option Reply) (new : Contents P) : Type 0 where
    pub core_step : step old.core reply new.core
    pub jobs : new.jobs ≡ old.jobs
    pub workers : new.workers ≡ old.workers

  -- a step of the core that also ends a client's job
  pub record EndsJob (client : ClientId) (step : Core → Option Reply → Core → Type 0) (old : Contents P) (reply : Option Reply) (new : Contents P) : Type 0 where
    pub core_step : step old.core reply new.core
    pub jobs : new.jobs ≡ remove old.jobs client.number
    pub workers : new.workers ≡ old.workers

  -- the device step that is due in a commit fails, and the job in commit ends
  abbrev pub FailsJob : Contents P → Option Reply → Contents P → Type 0
  FailsJob old reply new = (client : ClientId) × EndsJob client (Fails client) old reply new

  -- the device step that is due fails, in a commit or in a rewrite
  abbrev pub FailsStep : Contents P → Option Reply → Contents P → Type 0
  FailsStep old reply new = FailsJob old reply new ⊎ StepsCore RewriteFails old reply new

  -- a step of the core that also ends all jobs and all work
  pub record EndsAll (step : Core → Option Reply → Core → Type 0) (old : Contents P) (reply : Option Reply) (new : Contents P) : Type 0 where
    pub core_step : step old.core reply new.core
    pub jobs : new.jobs ≡ empty
    pub workers : new.workers ≡ empty

  -- the step that an event takes, possibly without a reply
  abbrev pub Step : Rules P → Contents P → Event P → Option Reply → Contents P → Type 0
  Step rules old (event.Submit client call request) reply new = Submits rules client call request old reply new
  Step rules old (event.Take worker client part) reply new = Takes worker client part old reply new
  Step rules old (event.Done worker piece) reply new = Finishes rules worker piece old reply new
  Step rules old (event.Refuse worker number) reply new = Refuses worker number old reply new
  Step rules old (event.Begin client) reply new = BeginsCommit rules client old reply new
  Step rules old event.WriteBody reply new = StepsCore (Advances due.WriteBody) old reply new
  Step rules old event.SyncBody reply new = StepsCore (Advances due.SyncBody) old reply new
  Step rules old event.WriteGate reply new = StepsCore (Advances due.WriteGate) old reply new
  Step rules old event.SyncGate reply new = StepsCore (Advances due.SyncGate) old reply new
  Step rules old event.RewriteAll reply new = StepsCore RewritesAll old reply new
  Step rules old event.SyncAll reply new = StepsCore (RewriteAdvances left.SyncAll) old reply new
  Step rules old event.WriteArea reply new = StepsCore (RewriteAdvances left.WriteArea) old reply new
  Step rules old event.SyncArea reply new = StepsCore (RewriteAdvances left.SyncArea) old reply new
  Step rules old event.Fail reply new = FailsStep old reply new
  Step rules old (event.Ack client) reply new = EndsJob client (Acknowledges client) old reply new
  Step rules old (event.Crash choice) reply new = EndsAll (Crashes choice) old reply new
  Step rules old event.Recover reply new = StepsCore Reopens old reply new

  -- the event takes no step
  abbrev pub IsImpossible : Rules P → Contents P → Event P → Type 0
  IsImpossible rules old event = (reply : Option Reply) (new : Contents P) → ¬ (Step rules old event reply new)
