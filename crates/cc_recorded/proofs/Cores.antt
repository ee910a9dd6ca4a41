-- What a commit answers is what the core does for a job with that command: the steps from Begin to Ack, or to a refusal or a Fail, and the
-- book afterwards shows the state that is reached.
use Rattle.std.proofs.Common.{◌≡◌, ◌⊎◌, ℕ, ◌+◌, ◌<◌, ◌≤◌, inl, inr, Bool, true, false, IsTrue, List, [], ◌∷◌, ◌++◌, length, length-drop, take, drop, map, get_or, Option, Some, None, Result, Ok, Err, refl, sym, ap, ◌∙◌, subst, arith, append_assoc, length-append}
use Rattle.std.specs.Prelude.{IsOk, if◌then◌else◌}
use Rattle.std.specs.FinMap.{contains_key, insert, remove}
use Rattle.std.proofs.lemmas.Bool.{le-leb, lt-leb}
use Rattle.std.proofs.lemmas.List.{map-append, length-map, length-take-le}
use Rattle.cc_disk.specs.declared.disk.Disk.{Ghosts}
use Rattle.cc_disk.specs.Model.{Cell, bytes_of, IsImage, unsettled, written}
use Rattle.cc_disk.specs.Images.{DiffersWithin, IsWritten, LeavesAlone}
use Rattle.std.specs.Int.{w32, to_le_bytes}
use Rattle.cc_disk.specs.internal.Laws.{bytes_are_image}
use Rattle.cc_disk.proofs.Images.{bytes_of-synced}
use Rattle.cc_journal.specs.Commit.{Commit, FailsIn, IsCommitted, append_commit, area_begin}
use Rattle.cc_journal.specs.Format.{HasAreaByte, HoldsRecords, records}
use Rattle.cc_journal.proofs.Records.{length-records_push, length-four_bytes}
use Rattle.cc_library.specs.Change.{LibraryCommand}
use Rattle.cc_library.specs.declared.command.Change.TheVariants as change
use Rattle.cc_library.specs.Apply.{Units, apply, after, exists, absent}
use Rattle.cc_library.specs.Answers.{commit_of, room_with}
use Rattle.cc_library.specs.Body.{body_of}
use Rattle.cc_library.specs.Recovered.{View}
use Rattle.cc_core.specs.declared.command.Numbered.{Numbered}
use Rattle.cc_core.specs.declared.command.Reply.TheVariants as replies
use Rattle.cc_core.specs.declared.contents.Contents.{Contents}
use Rattle.cc_core.specs.declared.contents.Due.{Due}
use Rattle.cc_core.specs.declared.contents.Due.TheVariants as due
use Rattle.cc_core.specs.declared.contents.Phase.{Phase}
use Rattle.cc_core.specs.declared.contents.Phase.TheVariants.{Idle, Committing, Failed}
use Rattle.cc_core.specs.declared.event.Event.TheVariants as event
use Rattle.cc_core.specs.declared.fault.Refusal.{Refusal}
use Rattle.cc_core.specs.declared.fault.Refusal.TheVariants as refusal
use Rattle.cc_core.specs.declared.ids.ClientId.{ClientId}
use Rattle.cc_core.specs.Rules.{Rules}
use Rattle.cc_core.specs.Job as job
use Rattle.cc_core.specs.Store.{append_of, gate_of, stepped, with_cells, FailsTo}
use Rattle.cc_core.specs.StoreState.{StoreState}
use Rattle.cc_core.specs.Step.{Begun, BeginsCommit, IsFree, commands, jobs_begun, numbered_now, ticked}
use Rattle.cc_history.specs.declared.entry.Entry.{Entry}
use Rattle.cc_history.specs.declared.entry.Receipt.{Receipt}
use Rattle.cc_history.specs.declared.reply.Reply as history
use Rattle.cc_history.specs.declared.reply.Reply.TheVariants as reply
use Rattle.cc_history.specs.Calls.{Command, changes_of, done_by, reply_of_change}
use Rattle.cc_history.specs.History.{MemberView, changes}
use Rattle.cc_history.proofs.Histories.{changes-push}
use Rattle.cc_recorded.specs.declared.fault.BookFault.{BookFault}
use Rattle.cc_recorded.specs.declared.fault.BookFault.TheVariants.{Exists, Absent, Full, DiskFault, Closed, Estranged, OutOfMemory}
use Rattle.cc_recorded.specs.Book.{BookView}
use Rattle.cc_recorded.specs.Answers.{CommitAnswers, IsDone, IsRefused, failed_in}
use Rattle.cc_recorded.specs.Disk.{ChangesDisk}
use Rattle.cc_recorded.specs.Core.{Shows, ShowsDisk, ShowsOrder, Has, IsPhase, Steps, IsCommitOf, done_steps, refused_steps, failed_first, failed_last}
use Rattle.cc_recorded.proofs.Disks.{begin_most, begin_least, within_is_image, within_is_written, written_same, committed_same, first_byte_kept}

-- ---- the result of the core's Begin

-- the refusal that matches a reply of the map
abbrev pub refusal_of : history.Reply → Option Refusal
refusal_of reply.Done = None
refusal_of reply.Exists = Some refusal.Exists
refusal_of reply.Absent = Some refusal.Absent
refusal_of (reply.Unit unit) = None
refusal_of (reply.Names names) = None

to_add : (there : Bool) (made : Units) → (if there then Some refusal.Exists else None) ≡ refusal_of (reply_of_change (if there then Err exists else Ok made))
to_add true made = refl
to_add false made = refl

to_present : (there : Bool) (made : Units) → (if there then None else Some refusal.Absent) ≡ refusal_of (reply_of_change (if there then Ok made else Err absent))
to_present true made = refl
to_present false made = refl

map_refuses : (units : Units) (c : LibraryCommand) → job.map_refusal units c ≡ refusal_of (reply_of_change (apply units c))
map_refuses units (change.Add name unit) = to_add (contains_key units name) (insert units name unit)
map_refuses units (change.Replace name unit) = to_present (contains_key units name) (insert units name unit)
map_refuses units (change.Withdraw name) = to_present (contains_key units name) (remove units name)

ok_is_done : (r : Result Units ℕ) → IsOk r → refusal_of (reply_of_change r) ≡ None
ok_is_done (Ok made) ok = refl
ok_is_done (Err number) ok = absurd (cc)

pub closed_phase : (failed : List LibraryCommand) (phase : Phase) → IsPhase true failed phase → (job.closed phase ≡ Some refusal.Closed) × IsFree phase
closed_phase [] phase is = (ap job.closed is, subst IsFree (sym is) tt)
closed_phase (c ∷ failed) phase is = (ap job.closed is.2, subst IsFree (sym is.2) tt)

pub open_phase : (failed : List LibraryCommand) (phase : Phase) → IsPhase false failed phase → (job.closed phase ≡ None) × IsFree phase
open_phase failed phase is = (ap job.closed is.1, subst IsFree (sym is.1) tt)

pub phase_at : (closed : Bool) (failed : List LibraryCommand) (phase : Phase) (b : Bool) → closed ≡ b → IsPhase closed failed phase → IsPhase b failed phase
phase_at closed failed phase b is here = subst (λ (c : Bool). IsPhase c failed phase) is here

-- ---- the order

no_commands : (l : List Numbered) → commands l ≡ [] → l ≡ []
no_commands [] none = refl
no_commands (x ∷ l) none = absurd (cc)

pub nothing_behind : {A : Type 0} (xs : List A) → xs ++ [] ≡ xs
nothing_behind [] = refl
nothing_behind (x ∷ xs) = ap (λ l. x ∷ l) (nothing_behind xs)

module _ {Disk : Type 0} where
  -- if the changes of the history stay the same, so does the order
  pub order_same : (before after : BookView Disk) (order acknowledged : List Numbered) → ShowsOrder before order acknowledged → after.base ≡ before.base → changes after.history ≡ changes before.history → after.failed ≡ before.failed → ShowsOrder after order acknowledged
  order_same before after order acknowledged shows base same failed = record {
    earlier = shows.earlier;
    base = shows.base ∙ sym base;
    accepted = shows.accepted;
    acked = shows.acked ∙ ap (λ (l : List LibraryCommand). shows.earlier ++ l) (sym same);
    failing = shows.failing;
    in_order = shows.in_order;
    failed = shows.failed ∙ sym failed;
  }

  -- if no change failed, the whole order is acknowledged
  all_acked : (before : BookView Disk) (order acknowledged : List Numbered) → ShowsOrder before order acknowledged → before.failed ≡ [] → order ≡ acknowledged
  all_acked before order acknowledged shows none =
      shows.in_order ∙ ap (λ (l : List Numbered). acknowledged ++ l) (no_commands shows.failing (shows.failed ∙ none)) ∙ nothing_behind acknowledged

  -- after one more change that was done, its command is at the end of the order and of the acknowledged commands
  order_done : (before after : BookView Disk) (order acknowledged : List Numbered) (one : Numbered) → ShowsOrder before order acknowledged → before.failed ≡ [] → after.base ≡ before.base
      → changes after.history ≡ changes before.history ++ one.command ∷ [] → after.failed ≡ [] → ShowsOrder after (order ++ one ∷ []) (acknowledged ++ one ∷ [])
  order_done before after order acknowledged one shows none base more still = record {
    earlier = shows.earlier;
    base = shows.base ∙ sym base;
    accepted = shows.accepted;
    acked =
        map-append (λ (n : Numbered). n.command) acknowledged (one ∷ [])
        ∙ ap (λ (l : List LibraryCommand). l ++ one.command ∷ []) shows.acked
        ∙ append_assoc shows.earlier (changes before.history) (one.command ∷ [])
        ∙ ap (λ (l : List LibraryCommand). shows.earlier ++ l) (sym more);
    failing = [];
    in_order = ap (λ (l : List Numbered). l ++ one ∷ []) (all_acked before order acknowledged shows none) ∙ sym (nothing_behind (acknowledged ++ one ∷ []));
    failed = sym still;
  }

  -- after one more change, in which the device failed, its command is at the end of the order only
  order_failed : (before after : BookView Disk) (order acknowledged : List Numbered) (one : Numbered) → ShowsOrder before order acknowledged → before.failed ≡ [] → after.base ≡ before.base
      → changes after.history ≡ changes before.history → after.failed ≡ one.command ∷ [] → ShowsOrder after (order ++ one ∷ []) acknowledged
  order_failed before after order acknowledged one shows none base same failed = record {
    earlier = shows.earlier;
    base = shows.base ∙ sym base;
    accepted = shows.accepted;
    acked = shows.acked ∙ ap (λ (l : List LibraryCommand). shows.earlier ++ l) (sym same);
    failing = one ∷ [];
    in_order = ap (λ (l : List Numbered). l ++ one ∷ []) (all_acked before order acknowledged shows none);
    failed = sym failed;
  }

-- ---- the disk

length-behind : (body : List ℕ) (gate : ℕ) → length (append_commit gate body).bytes ≡ length body + 5
length-behind body gate = omega (arith, length-append (to_le_bytes w32 (length body)) (body ++ 0 ∷ []), length-append body (0 ∷ []), length-four_bytes (length body))

single : (l : List ℕ) → length l ≡ 1 → (byte : ℕ) × (l ≡ byte ∷ [])
single [] long = absurd (omega (arith, long))
single (byte ∷ []) long = (byte, refl)
single (byte ∷ other ∷ l) long = absurd (omega (arith, long))

pub length-cells : (cells : List Cell) → length (bytes_of cells) ≡ length cells
length-cells cells = length-map cells (λ (c : Cell). c.byte)

pub length-written : (cells : List Cell) (offset : ℕ) (bytes : List ℕ) → offset + length bytes ≤ length cells → length (written cells offset bytes) ≡ length cells
length-written cells offset bytes fits =
    omega (arith, length-append (take offset cells) (map unsettled bytes ++ drop (offset + length bytes) cells), length-append (map unsettled bytes) (drop (offset + length bytes) cells), length-map bytes unsettled, length-take-le offset cells (omega arith), length-drop (offset + length bytes) cells)

module _ {Disk : Type 0} (D : Ghosts Disk) where
  -- the commit of a change is the same on the library's disk and in the core's store
  same_commit : (view : View Disk) (store : StoreState) (c : LibraryCommand) → store.area ≡ view.area → store.used ≡ length (records view.bodies) → commit_of store.area_byte view c ≡ append_of store c
  same_commit view store c area used = λ i. append_commit (area_begin store.area_byte (sym area i) + sym used i) (body_of c)

  pub has_byte : (view : View Disk) (store : StoreState) (h : HoldsRecords (D.seen view.disk) view.area view.bodies) → h.area_byte ≡ store.area_byte → HasAreaByte (D.seen view.disk) store.area_byte view.area
  has_byte view store h same = subst (λ (b : ℕ). HasAreaByte (D.seen view.disk) b view.area) same (_, h.bytes)

  -- the store after the first two steps of a commit, and after all four
  abbrev staged_store : LibraryCommand → StoreState → StoreState
  staged_store c store = stepped due.SyncBody c (stepped due.WriteBody c store)

  abbrev stored : LibraryCommand → StoreState → StoreState
  stored c store = stepped due.SyncGate c (stepped due.WriteGate c (staged_store c store))

  abbrev done_view : View Disk → LibraryCommand → Disk → Units → View Disk
  done_view view c disk units = record { disk = disk; area = view.area; bodies = view.bodies ++ body_of c ∷ []; units = units; closed = false }

  abbrev failed_view : View Disk → Disk → View Disk
  failed_view view disk = record view { disk = disk; closed = true }

  -- after a change that was done, the store after all four steps shows the disk
  disk_done : (view : View Disk) (store : StoreState) (c : LibraryCommand) (disk : Disk) (units : Units) → ShowsDisk D view store → view.closed ≡ false
      → (IsTrue D.honest → HoldsRecords (D.seen disk) view.area (view.bodies ++ body_of c ∷ [])
      × ((area_byte : ℕ) → HasAreaByte (D.seen view.disk) area_byte view.area → IsCommitted (commit_of area_byte view c) (D.seen view.disk) (D.seen disk) × LeavesAlone (D.seen disk) (D.may_leave disk)))
      → ShowsDisk D (done_view view c disk units) (stored c store)
  disk_done view store c disk units shows idle facts =
      let settled : (h : IsTrue D.honest) → IsCommitted (append_of store c) (D.seen view.disk) (D.seen disk) × LeavesAlone (D.seen disk) (D.may_leave disk) =
      λ h. let holds = shows.holds h idle in subst (λ (k : Commit). IsCommitted k (D.seen view.disk) (D.seen disk) × LeavesAlone (D.seen disk) (D.may_leave disk)) (same_commit view store c shows.area (shows.used idle)) ((facts h).1 store.area_byte (has_byte view store holds.0 holds.1)) in
      let bytes : IsTrue D.honest → bytes_of (stored c store).cells ≡ D.seen disk = λ h. committed_same (append_of store c) store.cells (D.seen view.disk) (D.seen disk) (shows.bytes h idle) (settled h).0 in
      record {
        area = shows.area;
        used = λ _. omega (arith, shows.used idle, length-records_push view.bodies (body_of c));
        bytes = λ h _. bytes h;
        images = λ h image left. subst (λ (l : List ℕ). IsImage (stored c store).cells l) (bytes h ∙ sym ((settled h).1 image left)) (bytes_are_image (stored c store).cells);
        holds = λ h _.
            let old = shows.holds h idle in
            let new = (facts h).0 in
            let kept = first_byte_kept (append_of store c) (D.seen view.disk) (D.seen disk) (omega (arith, begin_least store.area_byte store.area)) (omega (arith, begin_least store.area_byte store.area)) (omega (arith, old.0.is_area.room)) (settled h).0 in
            let was : get_or (D.seen view.disk) 0 0 ≡ old.0.area_byte = ap (λ (l : List ℕ). get_or l 0 0) old.0.bytes in
            let is : get_or (D.seen disk) 0 0 ≡ new.area_byte = ap (λ (l : List ℕ). get_or l 0 0) new.bytes in
            (new, sym is ∙ kept ∙ was ∙ old.1);
      }

  -- a commit fits on the disk
  fits_disk : (view : View Disk) (store : StoreState) (c : LibraryCommand) (h : HoldsRecords (D.seen view.disk) view.area view.bodies) → store.area ≡ view.area → store.used ≡ length (records view.bodies) → bytes_of store.cells ≡ D.seen view.disk
      → room_with view c ≤ view.area → ((append_of store c).offset + length (append_of store c).bytes ≤ length store.cells) × ((append_of store c).deciding_offset + 1 ≤ length store.cells)
  fits_disk view store c h area used bytes room =
      let most = begin_most store.area_byte store.area in
      let size : length (D.seen view.disk) ≡ length store.cells = sym (ap length bytes) ∙ length-cells store.cells in
      let long = length-behind (body_of c) (gate_of store) in
      let more = length-records_push view.bodies (body_of c) in
      let space = h.is_area.room in
      (omega (arith, most, size, long, more, space, room, area, used), omega (arith, most, size, more, space, room, area, used))

  -- the device failed in a change: in the core's first write, or in its second
  abbrev FailsFirst : View Disk → StoreState → LibraryCommand → Disk → Type 0
  FailsFirst view store c disk = (new : StoreState) × FailsTo due.WriteBody c store new × ShowsDisk D (failed_view view disk) new

  abbrev FailsLast : View Disk → StoreState → LibraryCommand → Disk → Type 0
  FailsLast view store c disk = (new : StoreState) × FailsTo due.WriteGate c (staged_store c store) new × ShowsDisk D (failed_view view disk) new

  failed_first_disk : IsTrue D.honest → (view : View Disk) (store : StoreState) (c : LibraryCommand) (disk : Disk) → ShowsDisk D view store → view.closed ≡ false → room_with view c ≤ view.area
      → ((image : List ℕ) → D.may_leave disk image → DiffersWithin (append_of store c).offset (length (append_of store c).bytes) (D.seen view.disk) image) → D.may_leave disk (D.seen disk) → FailsFirst view store c disk
  failed_first_disk is view store c disk shows idle room failed now =
      let k = append_of store c in
      let old = D.seen view.disk in
      let same : bytes_of store.cells ≡ old = shows.bytes is idle in
      let fits = (fits_disk view store c (shows.holds is idle).0 shows.area (shows.used idle) same room).0 in
      let size : length old ≡ length store.cells = sym (ap length same) ∙ length-cells store.cells in
      let w = within_is_written old (D.seen disk) k.offset (length k.bytes) (omega (arith, fits, size)) (failed (D.seen disk) now) in (
        with_cells store (written store.cells k.offset w.0),
        (w.0, w.1, refl),
        record {
          area = shows.area;
          used = λ never. absurd (cc never);
          bytes = λ _ never. absurd (cc never);
          images = λ _ image left.
              within_is_image store.cells k.offset w.0 image (omega (arith, fits, w.1))
              (subst (λ (l : List ℕ). DiffersWithin k.offset (length w.0) l image) (sym same) (subst (λ (n : ℕ). DiffersWithin k.offset n old image) (sym w.1) (failed image left)));
          holds = λ _ never. absurd (cc never);
        },
      )

  failed_last_disk : IsTrue D.honest → (view : View Disk) (store : StoreState) (c : LibraryCommand) (disk : Disk) → ShowsDisk D view store → view.closed ≡ false → room_with view c ≤ view.area
      → (was : List ℕ) → IsWritten (D.seen view.disk) (append_of store c).offset (append_of store c).bytes was → ((image : List ℕ) → D.may_leave disk image → DiffersWithin (append_of store c).deciding_offset 1 was image) → D.may_leave disk (D.seen disk)
      → FailsLast view store c disk
  failed_last_disk is view store c disk shows idle room was first failed now =
      let k = append_of store c in
      let old = D.seen view.disk in
      let same : bytes_of store.cells ≡ old = shows.bytes is idle in
      let fits = fits_disk view store c (shows.holds is idle).0 shows.area (shows.used idle) same room in
      let mid = staged_store c store in
      let staged : bytes_of mid.cells ≡ was = bytes_of-synced (written store.cells k.offset k.bytes) ∙ written_same store.cells old was k.offset k.bytes same first in
      let long : length mid.cells ≡ length store.cells = length-map (written store.cells k.offset k.bytes) (λ (x : Cell). record { byte = x.byte; settled = true }) ∙ length-written store.cells k.offset k.bytes fits.0 in
      let size : length was ≡ length mid.cells = sym (ap length staged) ∙ length-cells mid.cells in
      let w = within_is_written was (D.seen disk) k.deciding_offset 1 (omega (arith, fits.1, long, size)) (failed (D.seen disk) now) in
      let one = single w.0 w.1 in (
        with_cells mid (written mid.cells k.deciding_offset (one.0 ∷ [])),
        (one.0, refl),
        record {
          area = shows.area;
          used = λ never. absurd (cc never);
          bytes = λ _ never. absurd (cc never);
          images = λ _ image left.
              within_is_image mid.cells k.deciding_offset (one.0 ∷ []) image (omega (arith, fits.1, long))
              (subst (λ (l : List ℕ). DiffersWithin k.deciding_offset 1 l image) (sym staged) (failed image left));
          holds = λ _ never. absurd (cc never);
        },
      )

  disk_failed : (view : View Disk) (store : StoreState) (c : LibraryCommand) (disk : Disk) → ShowsDisk D view store → view.closed ≡ false → room_with view c ≤ view.area
      → (IsTrue D.honest → (area_byte : ℕ) → HasAreaByte (D.seen view.disk) area_byte view.area → FailsIn (commit_of area_byte view c) (D.seen view.disk) (D.may_leave disk)) → (IsTrue D.honest → D.may_leave disk (D.seen disk))
      → FailsFirst view store c disk ⊎ FailsLast view store c disk
  disk_failed view store c disk shows idle room fails now = by D.honest refl
    where
      by : (b : Bool) → D.honest ≡ b → FailsFirst view store c disk ⊎ FailsLast view store c disk
      by true is =
          let holds = shows.holds is idle in
          let how = subst (λ (k : Commit). FailsIn k (D.seen view.disk) (D.may_leave disk)) (same_commit view store c shows.area (shows.used idle)) (fails is store.area_byte (has_byte view store holds.0 holds.1)) in
          elim how [ inl first ↦ inl (failed_first_disk is view store c disk shows idle room first (now is)) | inr last ↦ inr (failed_last_disk is view store c disk shows idle room last.0 last.1 last.2 (now is)) ]
      by false is =
          inl (
            with_cells store (written store.cells (append_of store c).offset (append_of store c).bytes),
            ((append_of store c).bytes, refl, refl),
            record {
              area = shows.area;
              used = λ never. absurd (cc never);
              bytes = λ h. absurd (cc (h, is));
              images = λ h. absurd (cc (h, is));
              holds = λ h. absurd (cc (h, is));
            },
          )

-- ---- the steps

module _ {Disk P : Type 0} (rules : Rules P) (D : Ghosts Disk) where
  verdict_is : (s : Contents P) (client : ClientId) (c : LibraryCommand) (has : Has rules s client c) (why : Option Refusal) → job.command_refusal s.core.phase s.core.library s.core.store c ≡ why
      → job.verdict rules s.core.phase s.core.library s.core.store has.its ≡ job.unless why (Ok c)
  verdict_is s client c has why is = ap (job.accepted s.core.phase s.core.library s.core.store) has.gives ∙ ap (λ (w : Option Refusal). job.unless w (Ok c)) is

  -- the state after a Begin that is refused
  abbrev refused_state : Contents P → ClientId → Contents P
  refused_state s client = record s { core = ticked s.core; jobs = remove s.jobs client.number }

  refuses : (s : Contents P) (client : ClientId) (c : LibraryCommand) (has : Has rules s client c) (why : Refusal) → IsFree s.core.phase → job.command_refusal s.core.phase s.core.library s.core.store c ≡ Some why
      → Steps rules s (refused_steps rules client why) (refused_state s client)
  refuses s client c has why free is =
      let verdict = verdict_is s client c has (Some why) is in (
        refused_state s client,
        record {
          job = has.its;
          free = free;
          held = has.held;
          ready = has.there;
          begun = subst (λ (r : Result LibraryCommand Refusal). Begun s.core client r (Some (replies.Refused why)) (ticked s.core)) (sym verdict) (refl, refl);
          jobs = subst (λ (r : Result LibraryCommand Refusal). remove s.jobs client.number ≡ jobs_begun s.jobs client r) (sym verdict) refl;
          workers = refl;
        },
        refl,
      )

  -- the state after a Begin that is not refused, and the states of its commit
  abbrev begun_state : Contents P → ClientId → LibraryCommand → Contents P
  begun_state s client c = record s { core = record (ticked s.core) { order = s.core.order ++ numbered_now s.core c ∷ []; phase = Committing client (numbered_now s.core c) due.WriteBody } }

  begins : (s : Contents P) (client : ClientId) (c : LibraryCommand) (has : Has rules s client c) → IsFree s.core.phase → job.command_refusal s.core.phase s.core.library s.core.store c ≡ None
      → BeginsCommit rules client s None (begun_state s client c)
  begins s client c has free is =
      let verdict = verdict_is s client c has None is in
      record {
        job = has.its;
        free = free;
        held = has.held;
        ready = has.there;
        begun = subst (λ (r : Result LibraryCommand Refusal). Begun s.core client r None (begun_state s client c).core) (sym verdict) (refl, refl);
        jobs = subst (λ (r : Result LibraryCommand Refusal). s.jobs ≡ jobs_begun s.jobs client r) (sym verdict) refl;
        workers = refl;
      }

  abbrev at_step : Contents P → ClientId → LibraryCommand → StoreState → Due → Contents P
  at_step s client c store next = record s { core = record (begun_state s client c).core { store = store; phase = Committing client (numbered_now s.core c) next } }

  abbrev done_state : Contents P → ClientId → LibraryCommand → StoreState → Contents P
  done_state s client c store =
      record s {
        core = record (begun_state s client c).core { store = store; library = after s.core.library c; acknowledged = s.core.acknowledged ++ numbered_now s.core c ∷ []; phase = Idle };
        jobs = remove s.jobs client.number;
      }

  does : (s : Contents P) (client : ClientId) (c : LibraryCommand) (has : Has rules s client c) → IsFree s.core.phase → job.command_refusal s.core.phase s.core.library s.core.store c ≡ None
      → Steps rules s (done_steps rules client) (done_state s client c (stepped due.SyncGate c (stepped due.WriteGate c (stepped due.SyncBody c (stepped due.WriteBody c s.core.store)))))
  does s client c has free is =
      let one = numbered_now s.core c in
      let t1 = stepped due.WriteBody c s.core.store in
      let t2 = stepped due.SyncBody c t1 in
      let t3 = stepped due.WriteGate c t2 in
      let t4 = stepped due.SyncGate c t3 in
      let acked : Steps rules (at_step s client c t4 due.Acknowledge) ((event.Ack client, Some replies.Done) ∷ []) (done_state s client c t4) =
      (done_state s client c t4, record { core_step = record { numbered = one; committing = refl; done = refl; new_is = refl }; jobs = refl; workers = refl }, refl) in
      let synced_gate : Steps rules (at_step s client c t3 due.SyncGate) ((event.SyncGate, None) ∷ (event.Ack client, Some replies.Done) ∷ []) (done_state s client c t4) =
      (at_step s client c t4 due.Acknowledge, record { core_step = record { client = client; numbered = one; committing = refl; silent = refl; new_is = refl }; jobs = refl; workers = refl }, acked) in
      let wrote_gate : Steps rules (at_step s client c t2 due.WriteGate) ((event.WriteGate, None) ∷ (event.SyncGate, None) ∷ (event.Ack client, Some replies.Done) ∷ []) (done_state s client c t4) =
      (at_step s client c t3 due.SyncGate, record { core_step = record { client = client; numbered = one; committing = refl; silent = refl; new_is = refl }; jobs = refl; workers = refl }, synced_gate) in
      (begun_state s client c, begins s client c has free is, (at_step s client c t1 due.SyncBody, record { core_step = record { client = client; numbered = one; committing = refl; silent = refl; new_is = refl }; jobs = refl; workers = refl }, (at_step s client c t2 due.WriteGate, record { core_step = record { client = client; numbered = one; committing = refl; silent = refl; new_is = refl }; jobs = refl; workers = refl }, wrote_gate)))

  abbrev failed_state : Contents P → ClientId → LibraryCommand → StoreState → Contents P
  failed_state s client c store =
      record s { core = record (begun_state s client c).core { store = store; phase = Failed (Some (numbered_now s.core c)) }; jobs = remove s.jobs client.number }

  fails_first : (s : Contents P) (client : ClientId) (c : LibraryCommand) (has : Has rules s client c) (store : StoreState) → IsFree s.core.phase → job.command_refusal s.core.phase s.core.library s.core.store c ≡ None
      → FailsTo due.WriteBody c s.core.store store → Steps rules s (failed_first rules client) (failed_state s client c store)
  fails_first s client c has store free is fails = (
    begun_state s client c,
    begins s client c has free is,
    (
      failed_state s client c store,
      inl (client, record { core_step = record { numbered = numbered_now s.core c; due = due.WriteBody; store = store; committing = refl; failed = fails; told = refl; new_is = refl }; jobs = refl; workers = refl }),
      refl,
    ),
  )

  fails_last : (s : Contents P) (client : ClientId) (c : LibraryCommand) (has : Has rules s client c) (store : StoreState) → IsFree s.core.phase → job.command_refusal s.core.phase s.core.library s.core.store c ≡ None
      → FailsTo due.WriteGate c (stepped due.SyncBody c (stepped due.WriteBody c s.core.store)) store → Steps rules s (failed_last rules client) (failed_state s client c store)
  fails_last s client c has store free is fails =
      let one = numbered_now s.core c in
      let t1 = stepped due.WriteBody c s.core.store in
      let t2 = stepped due.SyncBody c t1 in
      let failed_now : Steps rules (at_step s client c t2 due.WriteGate) ((event.Fail, Some (replies.Refused refusal.DiskFault)) ∷ []) (failed_state s client c store) = (
        failed_state s client c store,
        inl (client, record { core_step = record { numbered = one; due = due.WriteGate; store = store; committing = refl; failed = fails; told = refl; new_is = refl }; jobs = refl; workers = refl }),
        refl,
      ) in
      (begun_state s client c, begins s client c has free is, (at_step s client c t1 due.SyncBody, record { core_step = record { client = client; numbered = one; committing = refl; silent = refl; new_is = refl }; jobs = refl; workers = refl }, (at_step s client c t2 due.WriteGate, record { core_step = record { client = client; numbered = one; committing = refl; silent = refl; new_is = refl }; jobs = refl; workers = refl }, failed_now)))

  -- ---- why the core refuses

  abbrev Shown : BookView Disk → Contents P → Type 0
  Shown book s = Shows D book s

  open_here : (book : BookView Disk) (s : Contents P) → Shown book s → book.library.closed ≡ false → (book.failed ≡ []) × (job.closed s.core.phase ≡ None) × IsFree s.core.phase
  open_here book s shows idle =
      let phase = phase_at book.library.closed book.failed s.core.phase false idle shows.phase in
      let free = open_phase book.failed s.core.phase phase in
      (phase.0, free.0, free.1)

  map_answers : (book : BookView Disk) (s : Contents P) (c : LibraryCommand) (answer : history.Reply) → Shown book s → answer ≡ reply_of_change (apply book.library.units c) → job.map_refusal s.core.library c ≡ refusal_of answer
  map_answers book s c answer shows is = ap (λ (u : Units). job.map_refusal u c) shows.library ∙ map_refuses book.library.units c ∙ ap refusal_of (sym is)

  room_same : (book : BookView Disk) (s : Contents P) (c : LibraryCommand) → Shown book s → book.library.closed ≡ false → s.core.store.used + (length (body_of c) + 6) ≡ room_with book.library c
  room_same book s c shows idle = omega (arith, shows.disk.used idle, length-records_push book.library.bodies (body_of c))

  fits_is : (book : BookView Disk) (s : Contents P) (c : LibraryCommand) → Shown book s → book.library.closed ≡ false → room_with book.library c ≤ book.library.area → job.full s.core.store c ≡ None
  fits_is book s c shows idle fits =
      let same = room_same book s c shows idle in
      let area = shows.disk.area in
      ap (λ (b : Bool). if b then None else Some refusal.Full) (le-leb (s.core.store.used + (length (body_of c) + 6)) s.core.store.area (omega (arith, same, area, fits)))

  over_is : (book : BookView Disk) (s : Contents P) (c : LibraryCommand) → Shown book s → book.library.closed ≡ false → book.library.area < room_with book.library c → job.full s.core.store c ≡ Some refusal.Full
  over_is book s c shows idle over =
      let same = room_same book s c shows idle in
      let area = shows.disk.area in
      ap (λ (b : Bool). if b then None else Some refusal.Full) (lt-leb (s.core.store.used + (length (body_of c) + 6)) s.core.store.area (omega (arith, same, area, over)))

  why_is : (s : Contents P) (c : LibraryCommand) (first second third : Option Refusal) → job.closed s.core.phase ≡ first → job.map_refusal s.core.library c ≡ second → job.full s.core.store c ≡ third
      → job.command_refusal s.core.phase s.core.library s.core.store c ≡ job.first_of_two first (job.first_of_two second third)
  why_is s c first second third a b d = λ i. job.first_of_two (a i) (job.first_of_two (b i) (d i))

  why_closed : (s : Contents P) (c : LibraryCommand) → job.closed s.core.phase ≡ Some refusal.Closed → job.command_refusal s.core.phase s.core.library s.core.store c ≡ Some refusal.Closed
  why_closed s c is = ap (λ (w : Option Refusal). job.first_of_two w (job.first_of_two (job.map_refusal s.core.library c) (job.full s.core.store c))) is

  why_map : (s : Contents P) (c : LibraryCommand) (why : Refusal) → job.closed s.core.phase ≡ None → job.map_refusal s.core.library c ≡ Some why → job.command_refusal s.core.phase s.core.library s.core.store c ≡ Some why
  why_map s c why idle is = λ i. job.first_of_two (idle i) (job.first_of_two (is i) (job.full s.core.store c))

  accepted_here : (book : BookView Disk) (s : Contents P) (c : LibraryCommand) → Shown book s → IsOk (apply book.library.units c) → job.map_refusal s.core.library c ≡ None
  accepted_here book s c shows ok = ap (λ (u : Units). job.map_refusal u c) shows.library ∙ map_refuses book.library.units c ∙ ok_is_done (apply book.library.units c) ok

  -- a refused call changes only the history, and adds no change to it
  refused_shown : (before after : BookView Disk) (s : Contents P) (client : ClientId) → Shown before s → after.library ≡ before.library → after.failed ≡ before.failed → after.base ≡ before.base → changes after.history ≡ changes before.history
      → Shown after (refused_state s client)
  refused_shown before after s client shows library failed base same = record {
    library = shows.library ∙ ap (λ (v : View Disk). v.units) (sym library);
    order = order_same before after s.core.order s.core.acknowledged shows.order base same failed;
    phase = subst (λ (l : List LibraryCommand). IsPhase after.library.closed l s.core.phase) (sym failed) (subst (λ (v : View Disk). IsPhase v.closed before.failed s.core.phase) (sym library) shows.phase);
    disk = subst (λ (v : View Disk). ShowsDisk D v s.core.store) (sym library) shows.disk;
  }

  -- if a call is done, the book shows the state after its commit
  done_shown : (before after_it : BookView Disk) (old new : MemberView) (command : Command) (receipt : Receipt) (s : Contents P) (client : ClientId) → Shown before s → IsDone before old command after_it new receipt
      → (IsTrue D.honest → HoldsRecords (D.seen after_it.library.disk) after_it.library.area after_it.library.bodies
      × ((area_byte : ℕ) → HasAreaByte (D.seen before.library.disk) area_byte before.library.area → IsCommitted (commit_of area_byte before.library command) (D.seen before.library.disk) (D.seen after_it.library.disk) × LeavesAlone (D.seen after_it.library.disk) (D.may_leave after_it.library.disk)))
      → Shown after_it (done_state s client command (stepped due.SyncGate command (stepped due.WriteGate command (stepped due.SyncBody command (stepped due.WriteBody command s.core.store)))))
  done_shown before after_it old new command receipt s client shows done disk =
      let c = command in
      let idle = done.asked.idle in
      let none = (open_here before s shows idle).0 in
      let shut : after_it.library.closed ≡ false = ap (λ (v : View Disk). v.closed) done.library in
      let recorded = done.recorded in
      let more : changes after_it.history ≡ changes before.history ++ c ∷ [] =
      ap changes recorded.history ∙ changes-push before.history receipt.entry
      ∙ ap (λ (e : Entry). changes before.history ++ changes_of e.asked e.reply) recorded.answered.entry in
      record {
        library = ap (λ (u : Units). after u c) shows.library ∙ sym (ap (λ (v : View Disk). v.units) done.library);
        order = order_done before after_it s.core.order s.core.acknowledged (numbered_now s.core c) shows.order none recorded.base more (done.failed ∙ none);
        phase = subst (λ (b : Bool). IsPhase b after_it.failed Idle) (sym shut) (done.failed ∙ none, refl);
        disk = subst (λ (v : View Disk). ShowsDisk D v (stored D c s.core.store)) (sym done.library)
            (disk_done D before.library s.core.store c after_it.library.disk (after before.library.units c) shows.disk idle
            (λ h. (subst (λ (v : View Disk). HoldsRecords (D.seen after_it.library.disk) v.area v.bodies) done.library (disk h).0, (disk h).1)));
      }

  -- if the device failed in a call, the book shows the state after the Fail
  failed_shown : (before : BookView Disk) (command : Command) (disk : Disk) (s : Contents P) (client : ClientId) (store : StoreState) → Shown before s → before.library.closed ≡ false
      → ShowsDisk D (failed_view D before.library disk) store → Shown (failed_in before command disk) (failed_state s client command store)
  failed_shown before command disk s client store shows idle here =
      let c = command in
      let none = (open_here before s shows idle).0 in
      record {
        library = shows.library;
        order = order_failed before (failed_in before command disk) s.core.order s.core.acknowledged (numbered_now s.core c) shows.order none refl refl refl;
        phase = (numbered_now s.core c, refl, refl);
        disk = here;
      }

  -- after a refused call the changes of the history are the same
  refused_changes : (before after_it : BookView Disk) (old new : MemberView) (command : Command) (answer : history.Reply) (receipt : Receipt) → done_by command answer ≡ [] → IsRefused before old command answer after_it new receipt → changes after_it.history ≡ changes before.history
  refused_changes before after_it old new command answer receipt nothing refused =
      ap changes refused.recorded.history ∙ changes-push before.history receipt.entry
      ∙ ap (λ (e : Entry). changes before.history ++ changes_of e.asked e.reply) refused.recorded.answered.entry
      ∙ ap (λ (l : List LibraryCommand). changes before.history ++ l) nothing ∙ nothing_behind (changes before.history)

  ticked_shown : (book : BookView Disk) (s : Contents P) (client : ClientId) → Shown book s → Shown book (refused_state s client)
  ticked_shown book s client shows = refused_shown book book s client shows refl refl refl refl

  -- ---- the whole

  pub commits : (now : (disk : Disk) → IsTrue D.honest → D.may_leave disk (D.seen disk)) (before after_it : BookView Disk) (old new : MemberView) (command : Command) (result : Result Receipt BookFault) (s : Contents P) (client : ClientId)
      → CommitAnswers D.failures before old command after_it new result → (IsTrue D.honest → ChangesDisk D command before.library after_it.library result)
      → Shown before s → Has rules s client command → IsCommitOf rules (Shown after_it) s client result
  commits now before after_it old new command (Ok receipt) s client answers disk shows has =
      let done = answers.0 in
      let c = command in
      let here = open_here before s shows done.asked.idle in
      let why = why_is s c None None None here.1 (accepted_here before s c shows done.asked.accepted) (fits_is before s c shows done.asked.idle done.fits) in
      (done_state s client c (stored D c s.core.store), does s client c has here.2 why, done_shown before after_it old new command receipt s client shows done disk)
  commits now before after_it old new command (Err (Exists receipt)) s client refused disk shows has =
      let c = command in
      let here = open_here before s shows refused.idle in
      let why = why_map s c refusal.Exists here.1 (map_answers before s c reply.Exists shows refused.recorded.replied) in
      (refused_state s client, refuses s client c has refusal.Exists here.2 why, refused_shown before after_it s client shows refused.library refused.failed refused.recorded.base (refused_changes before after_it old new command reply.Exists receipt refl refused))
  commits now before after_it old new command (Err (Absent receipt)) s client refused disk shows has =
      let c = command in
      let here = open_here before s shows refused.idle in
      let why = why_map s c refusal.Absent here.1 (map_answers before s c reply.Absent shows refused.recorded.replied) in
      (refused_state s client, refuses s client c has refusal.Absent here.2 why, refused_shown before after_it s client shows refused.library refused.failed refused.recorded.base (refused_changes before after_it old new command reply.Absent receipt refl refused))
  commits now before after_it old new command (Err Closed) s client (shut, same, _) disk shows has =
      let c = command in
      let phase = closed_phase before.failed s.core.phase (phase_at before.library.closed before.failed s.core.phase true shut shows.phase) in
      (refused_state s client, refuses s client c has refusal.Closed phase.1 (why_closed s c phase.0), subst (λ (b : BookView Disk). Shown b (refused_state s client)) (sym same) (ticked_shown before s client shows))
  commits now before after_it old new command (Err Full) s client (asked, over, same, _) disk shows has =
      let c = command in
      let here = open_here before s shows asked.idle in
      let why = why_is s c None None (Some refusal.Full) here.1 (accepted_here before s c shows asked.accepted) (over_is before s c shows asked.idle over) in
      (refused_state s client, refuses s client c has refusal.Full here.2 why, subst (λ (b : BookView Disk). Shown b (refused_state s client)) (sym same) (ticked_shown before s client shows))
  commits now before after_it old new command (Err DiskFault) s client (asked, fits, _, same, _) disk shows has =
      let c = command in
      let here = open_here before s shows asked.idle in
      let why = why_is s c None None None here.1 (accepted_here before s c shows asked.accepted) (fits_is before s c shows asked.idle fits) in
      let back = λ (t : Contents P) (it : Shown (failed_in before command after_it.library.disk) t). subst (λ (b : BookView Disk). Shown b t) (sym same) it in
      elim (disk_failed D before.library s.core.store c after_it.library.disk shows.disk asked.idle fits disk (now after_it.library.disk)) [
        | inl first ↦ (failed_state s client c first.0, inl (fails_first s client c has first.0 here.2 why first.1), back (failed_state s client c first.0) (failed_shown before command after_it.library.disk s client first.0 shows asked.idle first.2))
        | inr last ↦ (failed_state s client c last.0, inr (fails_last s client c has last.0 here.2 why last.1), back (failed_state s client c last.0) (failed_shown before command after_it.library.disk s client last.0 shows asked.idle last.2))
      ]
  commits now before after_it old new command (Err (Estranged number found)) s client (_, _, same, _) disk shows has = subst (λ (b : BookView Disk). Shown b s) (sym same) shows
  commits now before after_it old new command (Err OutOfMemory) s client (_, same, _) disk shows has = subst (λ (b : BookView Disk). Shown b s) (sym same) shows
