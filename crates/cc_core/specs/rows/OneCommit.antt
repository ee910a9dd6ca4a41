-- One commit on a new disk, computed; each state is computed from the one before by its step. The last two examples show what a
-- crash during the gate's write leaves on the disk: the record if the gate was opened, otherwise no record.
use Rattle.std.specs.Prelude.{◌≡◌, [], ◌∷◌, ◌++◌, drop, map, replicate, Some, None, Ok, refl}
use Rattle.std.specs.FinMap.{empty}
use Rattle.cc_disk.specs.Model.{bytes_of, settled}
use Rattle.cc_journal.specs.Format.{header, records}
use Rattle.cc_library.specs.Change.{LibraryCommand}
use Rattle.cc_library.specs.declared.command.Change.TheVariants as command
use Rattle.cc_library.specs.Apply.{after}
use Rattle.cc_library.specs.Body.{body_of}
use Rattle.cc_core.specs.declared.command.Numbered.{Numbered}
use Rattle.cc_core.specs.declared.command.Reply.TheVariants as replies
use Rattle.cc_core.specs.declared.contents.Core.{Core}
use Rattle.cc_core.specs.declared.contents.Due.TheVariants as due
use Rattle.cc_core.specs.declared.contents.Phase.TheVariants.{Idle, Committing}
use Rattle.cc_core.specs.declared.ids.ClientId.{ClientId}
use Rattle.cc_core.specs.Store.{crashed_store, stepped}
use Rattle.cc_core.specs.Step.{Begun, Advances, Acknowledges, numbered_now, ticked}

-- client 2 adds `a` with the source `two`, and an image of one code word
abbrev pub client : ClientId
client = record { number = 2 }

abbrev pub adds : LibraryCommand
adds = command.Add (0x61 ∷ []) (record { source = 0x74 ∷ 0x77 ∷ 0x6f ∷ []; image = record { code = 19 ∷ []; globals = [] }; certificate = None })

-- the beginning: a new disk with areas of 64 bytes
abbrev pub start : Core
start = record {
  library = empty;
  order = [];
  acknowledged = [];
  phase = Idle;
  store = record { cells = map settled (header 0 64 ++ replicate 128 0); area_byte = 0; area = 64; used = 0 };
  upcoming = record { value = 0 };
}

abbrev pub first : Numbered
first = numbered_now start adds

abbrev pub begun : Core
begun = record (ticked start) { order = first ∷ []; phase = Committing client first due.WriteBody }

abbrev pub body_written : Core
body_written = record begun { store = stepped due.WriteBody adds begun.store; phase = Committing client first due.SyncBody }

abbrev pub body_settled : Core
body_settled = record body_written { store = stepped due.SyncBody adds body_written.store; phase = Committing client first due.WriteGate }

abbrev pub gate_written : Core
gate_written = record body_settled { store = stepped due.WriteGate adds body_settled.store; phase = Committing client first due.SyncGate }

abbrev pub gate_settled : Core
gate_settled = record gate_written { store = stepped due.SyncGate adds gate_written.store; phase = Committing client first due.Acknowledge }

abbrev pub done : Core
done = record gate_settled { library = after gate_settled.library adds; acknowledged = first ∷ []; phase = Idle }

-- the Begin, the four device steps, and the reply
pub one_commit : Begun start client (Ok adds) None begun × Advances due.WriteBody begun None body_written × Advances due.SyncBody body_written None body_settled
    × Advances due.WriteGate body_settled None gate_written × Advances due.SyncGate gate_written None gate_settled × Acknowledges client gate_settled (Some replies.Done) done
one_commit = (
  (refl, refl),
  record { client = client; numbered = first; committing = refl; silent = refl; new_is = refl },
  record { client = client; numbered = first; committing = refl; silent = refl; new_is = refl },
  record { client = client; numbered = first; committing = refl; silent = refl; new_is = refl },
  record { client = client; numbered = first; committing = refl; silent = refl; new_is = refl },
  record { numbered = first; committing = refl; done = refl; new_is = refl },
)

-- the record occupies 28 bytes, and is followed by a closed gate
pub on_disk : (bytes_of done.store.cells ≡ header 0 64 ++ (records (body_of adds ∷ []) ++ (0 ∷ replicate 99 0))) × (done.store.used ≡ 28)
on_disk = (refl, refl)

-- what is on the disk if a crash during the write of the gate leaves the gate open, and if it leaves the gate closed
pub behind_the_gate : bytes_of (crashed_store (replicate 144 0xa5) gate_written.store).cells ≡ header 0 64 ++ (records (body_of adds ∷ []) ++ (0 ∷ replicate 99 0))
behind_the_gate = refl

pub before_the_gate : bytes_of (crashed_store (replicate 144 0) gate_written.store).cells ≡ header 0 64 ++ (0 ∷ (drop 1 (records (body_of adds ∷ [])) ++ replicate 100 0))
before_the_gate = refl
