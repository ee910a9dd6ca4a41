-- A client's job: how it begins, and how it ends.
use Rattle.std.specs.Prelude.{ℕ, ◌≡◌, Bool, true, false, List, [], ◌∷◌, slice_set, replicate, Option, Some, None, Result, Ok, Err, nat_le, if◌then◌else◌}
use Rattle.std.specs.List.{list_all}
use Rattle.std.specs.FinMap.{contains_key}
use Rattle.cc_unit.specs.declared.unit.StoredUnit.{StoredUnit}
use Rattle.cc_library.specs.Change.{LibraryCommand}
use Rattle.cc_library.specs.declared.command.Change.TheVariants as command
use Rattle.cc_core.specs.Request.{Request}
use Rattle.cc_core.specs.declared.fault.Refusal.{Refusal}
use Rattle.cc_core.specs.declared.fault.Refusal.TheVariants as refusal
use Rattle.cc_core.specs.declared.ids.CallId.{CallId}
use Rattle.cc_core.specs.declared.ids.PartIndex.{PartIndex}
use Rattle.cc_core.specs.declared.job.Job.{Job}
use Rattle.cc_core.specs.declared.job.Progress.{Progress}
use Rattle.cc_core.specs.declared.job.Progress.TheVariants.{Waiting, Taken, Made, Refused}
use Rattle.cc_core.specs.Rules.{Rules}
use Rattle.cc_core.specs.declared.contents.Phase.{Phase}
use Rattle.cc_core.specs.declared.contents.Phase.TheVariants.{Idle, Committing, Rewriting, Failed, Crashed}
use Rattle.cc_library.specs.Apply.{Units}
use Rattle.cc_library.specs.Body.{body_of}
use Rattle.cc_core.specs.StoreState.{StoreState}
use Rattle.cc_core.specs.Store.{room_taken}

-- the source that a request hands in, if it hands one in
abbrev pub source_in : Request → Option (List ℕ)
source_in (command.Add name source) = Some source
source_in (command.Replace name source) = Some source
source_in (command.Withdraw name) = None

-- the refusal, if there is one; else the next result
abbrev pub unless : {A E : Type 0} → Option E → Result A E → Result A E
unless None next = next
unless (Some refusal) next = Err refusal

-- the command with the unit that was built, or the number that refuses the source or its pieces
abbrev pub with_unit : (StoredUnit → LibraryCommand) → Result StoredUnit ℕ → Result LibraryCommand ℕ
with_unit make (Ok unit) = Ok (make unit)
with_unit make (Err number) = Err number

-- after a device step has failed, every command is refused until the disk is opened again
abbrev pub closed : Phase → Option Refusal
closed Idle = None
closed (Committing client numbered due) = None
closed (Rewriting commit due) = None
closed (Failed failed) = Some refusal.Closed
closed Crashed = None

-- an Add of a name that is in the map is refused, and a Replace or Withdraw of a name that is not
abbrev pub map_refusal : Units → LibraryCommand → Option Refusal
map_refusal library (command.Add name unit) = if contains_key library name then Some refusal.Exists else None
map_refusal library (command.Replace name unit) = if contains_key library name then None else Some refusal.Absent
map_refusal library (command.Withdraw name) = if contains_key library name then None else Some refusal.Absent

-- a command whose record does not fit in the area is refused
abbrev pub full : StoreState → LibraryCommand → Option Refusal
full store command = if nat_le (room_taken store (body_of command)) store.area then None else Some refusal.Full

-- the first of two refusals, if there is one; else the second
abbrev pub first_of_two : Option Refusal → Option Refusal → Option Refusal
first_of_two None second = second
first_of_two (Some refusal) second = Some refusal

-- why a command is refused, if it is: 36 after a failed step, then 31 or 32, then 34
abbrev pub command_refusal : Phase → Units → StoreState → LibraryCommand → Option Refusal
command_refusal phase library store command = first_of_two (closed phase) (first_of_two (map_refusal library command) (full store command))

-- the command if it is accepted, else why it is refused: by the build, or for a reason in `command_refusal`
abbrev pub accepted : Phase → Units → StoreState → Result LibraryCommand ℕ → Result LibraryCommand Refusal
accepted phase library store (Ok command) = unless (command_refusal phase library store command) (Ok command)
accepted phase library store (Err number) = Err (refusal.Build number)

module _ {P : Type 0} where
  -- the job of a call whose source has this plan: each piece waits; if the plan refuses the source, there are no pieces
  abbrev pub planned : CallId → Request → Result ℕ ℕ → Job P
  planned call asked (Ok pieces) = record { call = call; request = asked; refusal = None; pieces = replicate pieces Waiting }
  planned call asked (Err number) = record { call = call; request = asked; refusal = Some number; pieces = [] }

  -- the plan of a request is that of its source: a number of pieces, or a number that refuses; a withdrawal has no pieces
  abbrev pub IsPlanned : Rules P → Request → Result ℕ ℕ → Type 0
  IsPlanned rules (command.Add name source) plan = rules.plan source plan
  IsPlanned rules (command.Replace name source) plan = rules.plan source plan
  IsPlanned rules (command.Withdraw name) plan = plan ≡ Ok 0

  -- the job once this piece has made this progress
  abbrev pub with_piece : Job P → PartIndex → Progress P → Job P
  with_piece job part progress = record job { pieces = slice_set job.pieces part.index progress }

  -- a worker has answered this piece
  abbrev pub is_there : Progress P → Bool
  is_there Waiting = false
  is_there Taken = false
  is_there (Made piece) = true
  is_there (Refused number) = true

  -- a worker has answered every piece
  abbrev pub all_there : List (Progress P) → Bool
  all_there pieces = list_all is_there pieces

  -- the number that refuses the first of the refused pieces
  abbrev pub first_refused : List (Progress P) → Option ℕ
  first_refused [] = None
  first_refused (Waiting ∷ rest) = first_refused rest
  first_refused (Taken ∷ rest) = first_refused rest
  first_refused (Made piece ∷ rest) = first_refused rest
  first_refused (Refused number ∷ rest) = Some number

  -- the pieces that were made, in order
  abbrev pub made_pieces : List (Progress P) → List P
  made_pieces [] = []
  made_pieces (Waiting ∷ rest) = made_pieces rest
  made_pieces (Taken ∷ rest) = made_pieces rest
  made_pieces (Made piece ∷ rest) = piece ∷ made_pieces rest
  made_pieces (Refused number ∷ rest) = made_pieces rest

  -- the unit of a job's source, or what refuses it: the source's number, else the first refused piece's, else the build's for the pieces
  abbrev pub built : Rules P → Job P → List ℕ → Result StoredUnit ℕ
  built rules job source = unless job.refusal (unless (first_refused job.pieces) (rules.unit source (made_pieces job.pieces)))

  -- the command of a job, or the number that refuses the job
  abbrev pub command_of : Rules P → Job P → Request → Result LibraryCommand ℕ
  command_of rules job (command.Add name source) = with_unit (command.Add name) (built rules job source)
  command_of rules job (command.Replace name source) = with_unit (command.Replace name) (built rules job source)
  command_of rules job (command.Withdraw name) = Ok (command.Withdraw name)

  -- the command with which a job begins once all its pieces are there, or why the job is refused
  abbrev pub verdict : Rules P → Phase → Units → StoreState → Job P → Result LibraryCommand Refusal
  verdict rules phase library store job = accepted phase library store (command_of rules job job.request)
