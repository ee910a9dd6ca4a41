-- Many clients of one service. Each runs the scripts that its spool gives.
use Rattle.std.specs.Prelude.{◌≡◌, ℕ, List, [], ◌∷◌, ◌++◌, length, Option, Some, None, IfSome, slice_get}
use Rattle.cc_disk.specs.declared.disk.Disk.{Ghosts}
use Rattle.cc_history.specs.History.{MemberView}
use Rattle.cc_script.specs.Fault as faults
use Rattle.cc_script.specs.declared.command.Dialect.TheVariants.{Served}
use Rattle.cc_script.specs.declared.fault.ScriptFault.{ScriptFault}
use Rattle.cc_spool.specs.Spool.{Delivered, Taken}
use Rattle.cc_c_semantics.specs.declared.mode.Mode.{Mode}
use Rattle.cc_session.specs.Playing.{Grows, IsPlayed, IsStopped, Talk, talk}
use Rattle.cc_session.specs.Session.{EndsSince}
use Rattle.cc_session.specs.declared.end.SessionEnd.{SessionEnd}
use Rattle.cc_session.specs.declared.end.SessionEnd.TheVariants.{Finished, Fault}

-- ---- the scripts of one client

-- How a script of a spool, in the served dialect and the mode, with at most 65,536 lines, ended, depending on `end`: either the whole
-- script is done; or a fault that ends scripts ended it, and it is done up to the point that the fault says. This concerns scripts
-- whose bytes are known.
abbrev pub EndsBy : Mode → (script : Option (List ℕ)) (end : Option ℕ) (old new : Talk) → Type 0
EndsBy mode script None old new = IfSome script (λ bytes. IsPlayed mode Served (Some 65536) bytes old new)
EndsBy mode script (Some number) old new = (fault : ScriptFault) × (number ≡ faults.fault_number fault) × IsStopped mode Served (Some 65536) script old new fault

-- The answer that was handed over belongs to the script that was taken. After what its writer held when the script was taken,
-- the answer has the lines of this script's turns, in order, and no other byte, if both are known. Whatever the script, only
-- this client ran it, and the client keeps its receipts.
abbrev pub IsDoneBy : Mode → Taken → Delivered → (old new : MemberView) → Type 0
IsDoneBy mode taken delivered old new = EndsBy mode taken.script delivered.end (talk old taken.begun) (talk new delivered.answer) × Grows old new

-- the scripts are done in turn, each with its answer
abbrev pub AreDoneBy : Mode → (scripts : List Taken) (answers : List Delivered) (old new : MemberView) → Type 0
AreDoneBy mode [] [] old new = new ≡ old
AreDoneBy mode (script ∷ scripts) (answer ∷ answers) old new = (between : MemberView) × IsDoneBy mode script answer old between × AreDoneBy mode scripts answers between new
AreDoneBy mode [] (answer ∷ answers) old new = ⊥
AreDoneBy mode (script ∷ scripts) [] old new = ⊥

-- what a spool has given so far, and what was handed over to it
pub record Given : Type 0 where
  pub taken : List Taken
  pub ended : List Delivered

abbrev pub given_by : {S : Type 0} (taken : S → List Taken) (ended : S → List Delivered) → S → Given
given_by taken ended spool = record { taken = taken spool; ended = ended spool }

-- Between these moments a spool gave some scripts and was handed an answer for each, in turn. A client ran these scripts and nothing else.
pub record HasDone (mode : Mode) (before : Given) (old : MemberView) (after : Given) (new : MemberView) : Type 0 where
  pub scripts : List Taken
  pub answers : List Delivered
  pub taken : after.taken ≡ before.taken ++ scripts
  pub ended : after.ended ≡ before.ended ++ answers
  pub done : AreDoneBy mode scripts answers old new

-- ---- all clients

-- Each spool has a client, the one at its index, which began without a receipt and ran the scripts that its own spool gave.
pub record HaveDone (mode : Mode) (before after : List Given) (clients : List MemberView) : Type 0 where
  pub many : length after ≡ length before
  pub all : length clients ≡ length before
  pub each : (i : ℕ) (old new : Given) (last : MemberView) → slice_get before i ≡ Some old → slice_get after i ≡ Some new → slice_get clients i ≡ Some last
      → (first : MemberView) × (first.receipts ≡ []) × HasDone mode old first new last

-- What the clients of the spools did, depending on how their work ended: either they ran all that the spools gave; or nothing,
-- if the service has no client for a spool, 30: then no script was taken and no answer handed over.
abbrev pub HaveServed : Mode → (before after : List Given) (clients : List MemberView) → SessionEnd → Type 0
HaveServed mode before after clients Finished = HaveDone mode before after clients
HaveServed mode before after clients (Fault number) =
    (number ≡ 30) × (after ≡ before) × ((i : ℕ) (client : MemberView) → slice_get clients i ≡ Some client → client.receipts ≡ [])

-- How serving ends if it began with this disk and these spools: like a service that began then, whose clients run the scripts
-- that the spools give. If the service was not opened, no script was taken and no answer handed over.
abbrev pub ServingEnds : Mode → {Disk : Type 0} (D : Ghosts Disk) (spools_before spools_after : List Given) (before after : Disk) → SessionEnd → Type 0
ServingEnds mode D spools_before spools_after before after end =
    EndsSince D (D.moment before) (D.may_leave before) (spools_after ≡ spools_before) (HaveServed mode spools_before spools_after) before after end
