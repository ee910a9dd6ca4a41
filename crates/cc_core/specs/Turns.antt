-- How a run can go on: which steps are turns, what they leave unchanged, and how a client's job is handed in and made ready to begin.
use Rattle.std.specs.Prelude.{ℕ, ◌≡◌, ◌≤◌, IsTrue, List, Some, None, Ok}
use Rattle.std.specs.FinMap.{get}
use Rattle.cc_library.specs.Change.{LibraryCommand}
use Rattle.cc_library.specs.Body.{IsCommand, body_of}
use Rattle.cc_core.specs.Request.{Request}
use Rattle.cc_core.specs.declared.contents.Contents.{Contents}
use Rattle.cc_core.specs.declared.event.Event.{Event}
use Rattle.cc_core.specs.declared.event.Event.TheVariants as events
use Rattle.cc_core.specs.declared.ids.CallId.{CallId}
use Rattle.cc_core.specs.declared.ids.ClientId.{ClientId}
use Rattle.cc_core.specs.declared.ids.PartIndex.{PartIndex}
use Rattle.cc_core.specs.declared.ids.WorkerId.{WorkerId}
use Rattle.cc_core.specs.declared.job.Job.{Job}
use Rattle.cc_core.specs.Job.{all_there, closed, command_of}
use Rattle.cc_core.specs.Rules.{Rules}
use Rattle.cc_core.specs.Run.{Run}
use Rattle.cc_core.specs.Store.{room_taken}

module _ {P : Type 0} where
  -- if the event begins a client's job, the job's command has a spelling; this is required only if no device step has failed and
  -- the command's record fits
  abbrev pub BeginsSpelled : Rules P → Contents P → Event P → Type 0
  BeginsSpelled rules old event = (client : ClientId) (job : Job P) (command : LibraryCommand) → event ≡ events.Begin client
      → get old.jobs client.number ≡ Some job → command_of rules job job.request ≡ Ok command
      → closed old.core.phase ≡ None → room_taken old.core.store (body_of command) ≤ old.core.store.area → IsCommand command

  -- the event hands in no job
  abbrev pub IsNoSubmit : Event P → Type 0
  IsNoSubmit event = (client : ClientId) (call : CallId) (request : Request) → event ≡ events.Submit client call request → ⊥

  -- the event gives no worker a piece
  abbrev pub IsNoTake : Event P → Type 0
  IsNoTake event = (worker : WorkerId) (client : ClientId) (part : PartIndex) → event ≡ events.Take worker client part → ⊥

  -- Some events lead on to contents with the same core, in which this client has a job whose pieces are all there and whose
  -- command is this one. No other client's job has changed, and this worker is idle.
  pub record CanBeReady (rules : Rules P) (keeps : P → Type 0) (old : Contents P) (client : ClientId) (worker : WorkerId) (command : LibraryCommand) : Type 0 where
    pub events : List (Event P)
    pub new : Contents P
    pub run : Run rules keeps old events new
    pub core : new.core ≡ old.core
    pub job : Job P
    pub held : get new.jobs client.number ≡ Some job
    pub there : IsTrue (all_there job.pieces)
    pub comes : command_of rules job job.request ≡ Ok command
    pub others : (k : ℕ) → (k ≡ client.number → ⊥) → get new.jobs k ≡ get old.jobs k
    pub idle : get new.workers worker.number ≡ None
