-- How sessions end, and what a crash leaves of their disks.
use Rattle.std.specs.Prelude.{◌≡◌, ◌⊎◌, ℕ, Bool, IsTrue, List, [], ◌∷◌, Option, Some, None, IfSome}
use Rattle.cc_disk.specs.declared.disk.Disk.{Ghosts}
use Rattle.cc_disk.specs.Images.{OnlyReads}
use Rattle.cc_library.specs.Apply.{Units}
use Rattle.cc_library.specs.Recovered.{Recovers}
use Rattle.cc_history.specs.declared.entry.Entry.{Entry}
use Rattle.cc_history.specs.Closing.{AreOwn, IsClosed, IsNotWhole}
use Rattle.cc_history.specs.History.{MemberView}
use Rattle.cc_c_semantics.specs.declared.mode.Mode.{Mode}
use Rattle.cc_recorded.specs.Book.{BookView}
use Rattle.cc_service.specs.Fault.{fault_number}
use Rattle.cc_recorded.specs.Promise.{FailedByDevice, IsSound}
use Rattle.cc_service.specs.Serving.{IsNotOpened}
use Rattle.cc_service.specs.declared.fault.ServiceFault.{ServiceFault}
use Rattle.cc_script.specs.Fault as faults
use Rattle.cc_script.specs.declared.command.Dialect.TheVariants.{Plain}
use Rattle.cc_script.specs.declared.fault.ScriptFault.{ScriptFault}
use Rattle.cc_session.specs.Playing.{IsEndedBy, IsEnding, IsPlayed, Talk}
use Rattle.cc_session.specs.declared.end.SessionEnd.{SessionEnd}
use Rattle.cc_session.specs.declared.end.SessionEnd.TheVariants.{Finished, Fault}

-- the service was not opened, for this reason
abbrev pub IsUnopened : (honest : Bool) (seen : List ℕ) (before after : ℕ) → SessionEnd → Type 0
IsUnopened honest seen before after Finished = ⊥
IsUnopened honest seen before after (Fault number) =
    (base : Units) × (fault : ServiceFault) × (number ≡ fault_number fault) × IsNotOpened honest seen base before after fault

-- One client was made for the script. It began with no receipt, while the writer held `before`. If the bytes of the script's
-- reader are known, `Plays` relates the client and the writer before and after the script. If the session ends as its script did,
-- the writer gets nothing more.
pub record HasCalled (script before after : Option (List ℕ)) (played end : SessionEnd) (clients : List MemberView) (Plays : List ℕ → Talk → Talk → Type 0) : Type 0 where
  pub first : Talk
  pub last : Talk
  pub none : first.client.receipts ≡ []
  pub begun : first.written ≡ before
  pub plays : IfSome script (λ bytes. Plays bytes first last)
  pub alone : clients ≡ last.client ∷ []
  pub written : end ≡ played → after ≡ last.written

-- How a session's script, in the plain dialect and a mode, ended, and how it changed the clients and the contents of the writer.
-- The script was done; or the service has no client for it, 30; or one of 51 to 54 ended it.
abbrev pub HaveCalled : Mode → (script before after : Option (List ℕ)) (end : SessionEnd) (clients : List MemberView) → (played : SessionEnd) → Type 0
HaveCalled mode script before after end clients Finished = HasCalled script before after Finished end clients (IsPlayed mode Plain None)
HaveCalled mode script before after end clients (Fault number) =
    ((number ≡ 30) × (clients ≡ []))
    ⊎ ((fault : ScriptFault) × IsEnding None fault × (number ≡ faults.fault_number fault) × HasCalled script before after (Fault number) end clients (IsEndedBy mode Plain None fault))

-- What is left of a service that was opened: its library, with the history of its calls, which begins at the map to which the
-- bytes recover. Its clients have receipts of their own calls, in order, and `Holds` is true of the history and the clients.
-- Whatever a crash then leaves of the disk recovers to that library's map, or to that map without or with the change in which the
-- device failed. So it holds each change that was acknowledged, in order. What a crash left at any moment since `from` is what it
-- could have left before the opening, or it recovers to the first map with the changes of the first calls, and perhaps the failed
-- change. Each unit in the map was there before or agrees with its source. `failures` calls of the device had failed at the
-- opening: if none has failed since, no change has failed, and whatever a crash leaves recovers to the library's map.
pub record IsLeft {Disk : Type 0} (D : Ghosts Disk) (failures : ℕ) (bytes : List ℕ) (from : ℕ) (left : List ℕ → Type 0)
    (Holds : (history : List Entry) (clients : List MemberView) → Type 0) (clients : List MemberView) (after : Disk) : Type 0 where
  pub base : Units
  pub begun : IsTrue D.honest → Recovers bytes base
  pub book : BookView Disk
  pub disk : book.library.disk ≡ after
  pub sound : IsSound D base from left book
  pub blamed : FailedByDevice D failures book
  pub own : AreOwn clients
  pub holds : Holds book.history clients

-- The service of these clients was ended, or given up because it had no memory to end; `played` is how their work (a session's
-- script) ended. All their receipts are in the history, and it has no other entries. The end is how the work ended; or 40, if the
-- work was done and there was no memory. Or the service was given up because a receipt is not in the history, or the history has
-- more entries, or two clients have the same number. Then the end is 39, however the work ended, and no other end means this.
abbrev pub IsEnded : {Disk : Type 0} (D : Ghosts Disk) (failures : ℕ) (bytes : List ℕ) (from : ℕ) (left : List ℕ → Type 0) (clients : List MemberView) (played end : SessionEnd) (after : Disk) → Type 0
IsEnded D failures bytes from left clients played end after =
    (((end ≡ played) ⊎ ((played ≡ Finished) × (end ≡ Fault 40))) × IsLeft D failures bytes from left IsClosed clients after)
    ⊎ ((end ≡ Fault 39) × IsLeft D failures bytes from left IsNotWhole clients after)

-- How a service ends if it began with this disk, where `left` is what a crash could have left from the moment `from` until then.
-- Either it was not opened, an honest disk was at most read, and `Untouched` holds; or it was ended or given up, and the work of
-- its clients is what `Worked` says.
abbrev pub EndsSince : {Disk : Type 0} (D : Ghosts Disk) (from : ℕ) (left : List ℕ → Type 0) (Untouched : Type 0)
    (Worked : (clients : List MemberView) (played : SessionEnd) → Type 0) (before after : Disk) → SessionEnd → Type 0
EndsSince D from left Untouched Worked before after end =
    (IsUnopened D.honest (D.seen before) (D.failures before) (D.failures after) end × (IsTrue D.honest → OnlyReads D.seen D.may_leave D.moment D.left_since before after) × Untouched)
    ⊎ ((clients : List MemberView) × (played : SessionEnd) × Worked clients played
    × IsEnded D (D.failures before) (D.seen before) from left clients played end after)

-- How a session ends if it began with this disk and a writer that held `written_before`: like a service whose only client runs
-- the script. The disk is always handed back.
abbrev pub SessionEnds : Mode → {Disk : Type 0} (D : Ghosts Disk) (script written_before written_after : Option (List ℕ)) (before : Disk) → Option Disk → SessionEnd → Type 0
SessionEnds mode D script written_before written_after before None end = ⊥
SessionEnds mode D script written_before written_after before (Some after) end =
    EndsSince D (D.moment before) (D.may_leave before) (Unit {0}) (HaveCalled mode script written_before written_after end) before after end
