-- Whole runs of the protocol core, and what holds after every run.
use Rattle.std.specs.Prelude.{ℕ, ◌≡◌, ◌-◌, ◌<◌, ◌≤◌, ◌⊎◌, List, [], ◌∷◌, ◌++◌, length, take, slice_get, Option, Some, None, All, Contains}
use Rattle.std.specs.FinMap.{get, empty}
use Rattle.cc_disk.specs.Model.{IsImage, bytes_of}
use Rattle.cc_disk.specs.Images.{LeavesAlone, IsWritten}
use Rattle.cc_journal.specs.Commit.{IsCommitted}
use Rattle.cc_journal.specs.Format.{HoldsRecords, records, record_bytes}
use Rattle.cc_library.specs.Change.{LibraryCommand}
use Rattle.cc_library.specs.declared.command.Change.TheVariants as command
use Rattle.cc_unit.specs.declared.unit.StoredUnit.{StoredUnit}
use Rattle.cc_library.specs.Apply.{Units, AreAccepted, library_of}
use Rattle.cc_library.specs.Body.{IsCommand, body_of}
use Rattle.cc_library.specs.Compact.{compacted}
use Rattle.cc_library.specs.Recovered.{AreSpelled, Recovers, RecoversAlone, StandFor}
use Rattle.cc_core.specs.declared.command.Numbered.{Numbered}
use Rattle.cc_core.specs.declared.command.Reply.{Reply}
use Rattle.cc_core.specs.declared.contents.Contents.{Contents}
use Rattle.cc_core.specs.declared.contents.Core.{Core}
use Rattle.cc_core.specs.declared.contents.Due.TheVariants as dues
use Rattle.cc_core.specs.declared.contents.RewriteDue.TheVariants as left
use Rattle.cc_core.specs.declared.contents.Phase.{Phase}
use Rattle.cc_core.specs.declared.contents.Phase.TheVariants.{Idle, Committing, Rewriting, Failed, Crashed}
use Rattle.cc_core.specs.declared.event.Event.{Event}
use Rattle.cc_core.specs.declared.event.Event.TheVariants as events
use Rattle.cc_core.specs.declared.ids.ClientId.{ClientId}
use Rattle.cc_core.specs.declared.ids.WorkerId.{WorkerId}
use Rattle.cc_core.specs.declared.job.Job.{Job}
use Rattle.cc_core.specs.declared.sequence_number.SequenceNumber.{SequenceNumber}
use Rattle.cc_core.specs.Job.{source_in}
use Rattle.cc_core.specs.Store.{gate_of, rewrite_of}
use Rattle.cc_core.specs.Rules.{Rules}
use Rattle.cc_core.specs.Step.{Step, IsImpossible, IsStart, Advances, RewritesAll, RewriteAdvances, BeginsCommit, commands}

-- each unit of the library has this property
abbrev pub EachUnit : (StoredUnit → Type 0) → Units → Type 0
EachUnit is_right library = (name : List ℕ) (unit : StoredUnit) → get library name ≡ Some unit → is_right unit

-- the unit is in this map, or is right
abbrev pub IsRightOr : (StoredUnit → Type 0) → Units → StoredUnit → Type 0
IsRightOr is_right base unit = ((name : List ℕ) × (get base name ≡ Some unit)) ⊎ is_right unit

-- the sequence numbers of these commands ascend
abbrev pub AreRising : List Numbered → Type 0
AreRising numbered = (i j : ℕ) (a b : Numbered) → i < j → slice_get numbered i ≡ Some a → slice_get numbered j ≡ Some b → a.number.value < b.number.value

-- all commands but the last
abbrev pub but_last : List Numbered → List Numbered
but_last order = take (length order - 1) order

-- the library that clients see: that of the order, without a last command that is in commit or has failed; empty from a crash to recovery
abbrev pub live : Phase → List Numbered → Units
live Idle order = library_of (commands order)
live (Committing client last due) order = library_of (commands (but_last order))
live (Rewriting commit due) order = library_of (commands order)
live (Failed (Some last)) order = library_of (commands (but_last order))
live (Failed None) order = library_of (commands order)
live Crashed order = empty

-- The image recovers to the library of a prefix of the order, and to no other. The prefix has every acknowledged command, and lacks at
-- most the last command of the order. The sequence numbers of the order and of the acknowledged commands ascend, so equal commands that
-- were both acknowledged are both in the prefix.
pub record Survives (image : List ℕ) (order acknowledged : List Numbered) : Type 0 where
  pub rising : AreRising order
  pub rising_acked : AreRising acknowledged
  pub kept : List Numbered
  pub lost : List Numbered
  pub in_order : order ≡ kept ++ lost
  pub few : length lost ≤ 1
  pub acked : All (Contains kept) acknowledged
  pub recovers : RecoversAlone image (library_of (commands kept))

-- every image of the disk survives
abbrev pub EachImageSurvives : Core → Type 0
EachImageSurvives s = (image : List ℕ) → IsImage s.store.cells image → Survives image s.order s.acknowledged

-- if an image recovers to a library, each of its units has this property, also the unit of a command that is in commit or has failed
abbrev pub EachImageIsRight : (StoredUnit → Type 0) → Core → Type 0
EachImageIsRight is_right s = (image : List ℕ) (library : Units) → IsImage s.store.cells image → Recovers image library → EachUnit is_right library

-- the source of a command's unit, if it has one
abbrev pub command_source : LibraryCommand → Option (List ℕ)
command_source (command.Add name unit) = Some unit.source
command_source (command.Replace name unit) = Some unit.source
command_source (command.Withdraw name) = None

-- the unit of a command, if it has one, has this property
abbrev pub IsRightCommand : (StoredUnit → Type 0) → LibraryCommand → Type 0
IsRightCommand is_right (command.Add name unit) = is_right unit
IsRightCommand is_right (command.Replace name unit) = is_right unit
IsRightCommand is_right (command.Withdraw name) = Unit {0}

-- the four device steps of a commit, one after the other
pub record Commits (client : ClientId) (numbered : Numbered) (old new : Core) : Type 0 where
  pub body_written : Core
  pub body_settled : Core
  pub gate_written : Core
  pub due_now : old.phase ≡ Committing client numbered dues.WriteBody
  pub writes_body : Advances dues.WriteBody old None body_written
  pub syncs_body : Advances dues.SyncBody body_written None body_settled
  pub writes_gate : Advances dues.WriteGate body_settled None gate_written
  pub syncs_gate : Advances dues.SyncGate gate_written None new

-- the commit leaves one record with an open gate, and a closed gate after it, at the offset of the old closed gate; no other byte changes
abbrev pub LeavesRecord : Numbered → Core → Core → Type 0
LeavesRecord numbered old new =
    IsWritten (bytes_of old.store.cells) (gate_of old.store) (record_bytes (body_of numbered.command) ++ 0 ∷ []) (bytes_of new.store.cells)

-- the four device steps of a rewrite, one after the other
pub record Rewrites (old new : Core) : Type 0 where
  pub area_written : Core
  pub area_settled : Core
  pub byte_written : Core
  pub writes_all : RewritesAll old None area_written
  pub syncs_all : RewriteAdvances left.SyncAll area_written None area_settled
  pub writes_area : RewriteAdvances left.WriteArea area_settled None byte_written
  pub syncs_area : RewriteAdvances left.SyncArea byte_written None new

-- the rewrite leaves the bytes that the journal's commit leaves, and the records are then one Add per name of the old map
pub record LeavesCompacted (old new : Core) : Type 0 where
  pub bytes : IsCommitted (rewrite_of old.store old.library) (bytes_of old.store.cells) (bytes_of new.store.cells)
  pub holds : HoldsRecords (bytes_of new.store.cells) new.store.area (compacted old.library)

-- a command put into the order has a spelling: its name and its unit are possible ones, as their types guarantee
abbrev pub PutsCommand : Core → Core → Type 0
PutsCommand old new = (numbered : Numbered) → new.order ≡ old.order ++ numbered ∷ [] → IsCommand numbered.command

-- this order has the commands that these records spell, numbered from 0 on; the next Begin gets the number after the last of them
pub record IsOrderOf (bodies : List (List ℕ)) (order : List Numbered) (upcoming : SequenceNumber) : Type 0 where
  pub spelled : AreSpelled bodies (commands order)
  pub counted : (k : ℕ) (a : Numbered) → slice_get order k ≡ Some a → a.number.value ≡ k
  pub next : upcoming.value ≡ length order

module _ {P : Type 0} where
  -- a piece that a worker hands in has what its type keeps
  abbrev pub HandsIn : (P → Type 0) → Event P → Type 0
  HandsIn keeps event = (worker : WorkerId) (piece : P) → event ≡ events.Done worker piece → keeps piece

  -- one turn of a run: an event that can take a step takes it, and a command put into the order has a spelling; else nothing changes
  abbrev pub Turn : Rules P → (P → Type 0) → Contents P → Event P → Contents P → Type 0
  Turn rules keeps old event new =
      ((reply : Option Reply) × Step rules old event reply new × PutsCommand old.core new.core × HandsIn keeps event) ⊎ (IsImpossible rules old event × (new ≡ old))

  -- the run of these events, one turn after the other
  abbrev pub Run : Rules P → (P → Type 0) → Contents P → List (Event P) → Contents P → Type 0
  Run rules keeps old [] new = new ≡ old
  Run rules keeps old (event ∷ later) new = (mid : Contents P) × (Turn rules keeps old event mid × Run rules keeps mid later new)

  -- A disk of any size was opened, with either area in use. Everything is settled, and the records of the area in use represent the live
  -- map. The order consists of some earlier commands that lead to this map, all of them acknowledged. Nothing is required of the units
  -- that were found.
  pub record IsOpened (new : Contents P) : Type 0 where
    pub phase : new.core.phase ≡ Idle
    pub library : new.core.library ≡ library_of (commands new.core.order)
    pub accepted : AreAccepted empty (commands new.core.order)
    pub rising : AreRising new.core.order
    pub below : (k : ℕ) (a : Numbered) → slice_get new.core.order k ≡ Some a → a.number.value < new.core.upcoming.value
    pub acknowledged : new.core.acknowledged ≡ new.core.order
    pub jobs : new.jobs ≡ empty
    pub workers : new.workers ≡ empty
    pub alone : LeavesAlone (bytes_of new.core.store.cells) (IsImage new.core.store.cells)
    pub bodies : List (List ℕ)
    pub holds : HoldsRecords (bytes_of new.core.store.cells) new.core.store.area bodies
    pub area_byte : holds.area_byte ≡ new.core.store.area_byte
    pub stand : StandFor bodies new.core.library
    pub used : new.core.store.used ≡ length (records bodies)

  -- a run begins here: on a fresh disk, or on an opened one
  abbrev pub IsBeginning : Contents P → Type 0
  IsBeginning new = ((area : ℕ) × IsStart area new) ⊎ IsOpened new

  -- this holds for any piece; if it is all that pieces keep, workers may hand in whatever they like
  abbrev pub IsAnyPiece : P → Type 0
  IsAnyPiece piece = Unit {0}

  -- from a crash to the recovery only these events may happen
  abbrev pub IsOfCrash : Event P → Type 0
  IsOfCrash event = ((choice : List ℕ) × (event ≡ events.Crash choice)) ⊎ (event ≡ events.Recover)

  -- a command that begins has the source that its client handed in, or no source if it is a withdrawal
  abbrev pub PutsSource : Rules P → ClientId → Contents P → Contents P → Type 0
  PutsSource rules client old new =
      BeginsCommit rules client old None new → (job : Job P) × (numbered : Numbered) × (get old.jobs client.number ≡ Some job)
      × (new.core.order ≡ old.core.order ++ numbered ∷ []) × (command_source numbered.command ≡ source_in job.request)

  -- some events lead to these contents from a beginning whose units are right
  pub record Reached (rules : Rules P) (keeps : P → Type 0) (is_right : StoredUnit → Type 0) (new : Contents P) : Type 0 where
    pub first : Contents P
    pub started : IsBeginning first
    pub right : EachUnit is_right first.core.library
    pub events : List (Event P)
    pub run : Run rules keeps first events new
