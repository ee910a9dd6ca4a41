-- What a compaction answers is what the core's rewrite does: its four device steps, or those up to the failure.
use Rattle.std.proofs.Common.{◌≡◌, ◌⊎◌, ℕ, ◌+◌, ◌≤◌, inl, inr, Bool, true, false, IsTrue, List, [], ◌∷◌, length, get_or, None, Result, Ok, Err, refl, sym, ap, ◌∙◌, subst, arith, length-append}
use Rattle.std.proofs.lemmas.List.{length-map}
use Rattle.cc_disk.specs.declared.disk.Disk.{Ghosts}
use Rattle.cc_disk.specs.Model.{Cell, bytes_of, IsImage, written, synced}
use Rattle.cc_disk.specs.Images.{DiffersWithin, IsWritten, LeavesAlone}
use Rattle.cc_disk.specs.internal.Laws.{bytes_are_image}
use Rattle.cc_disk.proofs.Images.{bytes_of-synced}
use Rattle.cc_journal.specs.Commit.{Commit, FailsIn, IsCommitted, other_area, rewrite_commit}
use Rattle.cc_journal.specs.Format.{HasAreaByte, HoldsRecords, records, room_of}
use Rattle.cc_library.specs.Change as made
use Rattle.cc_library.specs.Apply.{Units}
use Rattle.cc_library.specs.Answers.{rewrites_in}
use Rattle.cc_library.specs.Compact.{compacted}
use Rattle.cc_core.specs.declared.contents.Contents.{Contents}
use Rattle.cc_core.specs.declared.contents.RewriteDue.{RewriteDue}
use Rattle.cc_core.specs.declared.contents.RewriteDue.TheVariants as left
use Rattle.cc_core.specs.declared.contents.Phase.TheVariants.{Idle, Rewriting, Failed}
use Rattle.cc_core.specs.declared.event.Event.TheVariants as event
use Rattle.cc_core.specs.Rules.{Rules}
use Rattle.cc_core.specs.Store.{first_written, rewrite_of, rewrite_stepped, settled_all, with_cells}
use Rattle.cc_core.specs.StoreState.{StoreState}
use Rattle.cc_recorded.specs.declared.fault.BookFault.{BookFault}
use Rattle.cc_recorded.specs.declared.fault.BookFault.TheVariants.{Exists, Absent, Full, DiskFault, Closed, Estranged, OutOfMemory}
use Rattle.cc_recorded.specs.Book.{BookView}
use Rattle.cc_recorded.specs.Answers.{CompactAnswers}
use Rattle.cc_recorded.specs.Disk.{CompactsDisk}
use Rattle.cc_recorded.specs.Core.{IsPhase, IsRewriteOf, Shows, Steps, rewritten_steps, rewrite_failed_first, rewrite_failed_last}
use Rattle.cc_recorded.proofs.Cores.{has_byte, length-cells, length-written, order_same, phase_at}
use Rattle.cc_recorded.proofs.Disks.{begin_most, committed_same, within_is_image, written_same}

module _ {Disk P : Type 0} (rules : Rules P) (D : Ghosts Disk) where
  abbrev Shown : BookView Disk → Contents P → Type 0
  Shown book s = Shows D book s

  -- the commit of the rewrite is the one for the book's own map and disk
  same_rewrite : (book : BookView Disk) (s : Contents P) → Shown book s → rewrites_in s.core.store.area_byte book.library ≡ rewrite_of s.core.store s.core.library
  same_rewrite book s shows = λ i. rewrite_commit s.core.store.area_byte (sym shows.disk.area i) (compacted (sym shows.library i))

  -- ---- the states

  abbrev written_state : Contents P → Contents P
  written_state s = record s { core = record s.core { store = first_written (rewrite_of s.core.store s.core.library) s.core.store; phase = Rewriting (rewrite_of s.core.store s.core.library) left.SyncAll } }

  abbrev at_step : Contents P → StoreState → RewriteDue → Contents P
  at_step s store due = record s { core = record s.core { store = store; phase = Rewriting (rewrite_of s.core.store s.core.library) due } }

  abbrev rewritten_store : Contents P → StoreState
  rewritten_store s =
      let k = rewrite_of s.core.store s.core.library in
      rewrite_stepped left.SyncArea k (rewrite_stepped left.WriteArea k (rewrite_stepped left.SyncAll k (first_written k s.core.store)))

  abbrev done_state : Contents P → Contents P
  done_state s = record s { core = record s.core { store = rewritten_store s; phase = Idle } }

  abbrev failed_state : Contents P → StoreState → Contents P
  failed_state s store = record s { core = record s.core { store = store; phase = Failed None } }

  -- ---- the steps

  rewrites : (s : Contents P) → s.core.phase ≡ Idle → room_of (compacted s.core.library) ≤ s.core.store.area → Steps rules s rewritten_steps (done_state s)
  rewrites s idle fits =
      let k = rewrite_of s.core.store s.core.library in
      let t1 = first_written k s.core.store in
      let t2 = rewrite_stepped left.SyncAll k t1 in
      let t3 = rewrite_stepped left.WriteArea k t2 in
      let last : Steps rules (at_step s t3 left.SyncArea) ((event.SyncArea, None) ∷ []) (done_state s) =
      (done_state s, record { core_step = record { commit = k; rewriting = refl; silent = refl; new_is = refl }; jobs = refl; workers = refl }, refl) in
      let third : Steps rules (at_step s t2 left.WriteArea) ((event.WriteArea, None) ∷ (event.SyncArea, None) ∷ []) (done_state s) =
      (at_step s t3 left.SyncArea, record { core_step = record { commit = k; rewriting = refl; silent = refl; new_is = refl }; jobs = refl; workers = refl }, last) in
      let second : Steps rules (written_state s) ((event.SyncAll, None) ∷ (event.WriteArea, None) ∷ (event.SyncArea, None) ∷ []) (done_state s) =
      (at_step s t2 left.WriteArea, record { core_step = record { commit = k; rewriting = refl; silent = refl; new_is = refl }; jobs = refl; workers = refl }, third) in
      (written_state s, record { core_step = record { idle = idle; fits = fits; silent = refl; new_is = refl }; jobs = refl; workers = refl }, second)

  fails_first : (s : Contents P) → s.core.phase ≡ Idle → room_of (compacted s.core.library) ≤ s.core.store.area → Steps rules s rewrite_failed_first (failed_state s (first_written (rewrite_of s.core.store s.core.library) s.core.store))
  fails_first s idle fits =
      let k = rewrite_of s.core.store s.core.library in
      let t1 = first_written k s.core.store in
      let failed_now : Steps rules (written_state s) ((event.Fail, None) ∷ []) (failed_state s t1) =
      (failed_state s t1, inr (record { core_step = record { commit = k; due = left.SyncAll; store = t1; rewriting = refl; failed = refl; silent = refl; new_is = refl }; jobs = refl; workers = refl }), refl) in
      (written_state s, record { core_step = record { idle = idle; fits = fits; silent = refl; new_is = refl }; jobs = refl; workers = refl }, failed_now)

  fails_last : (s : Contents P) (byte : ℕ) → s.core.phase ≡ Idle → room_of (compacted s.core.library) ≤ s.core.store.area
      → Steps rules s rewrite_failed_last (failed_state s (with_cells (settled_all (first_written (rewrite_of s.core.store s.core.library) s.core.store)) (written (synced (first_written (rewrite_of s.core.store s.core.library) s.core.store).cells) 0 (byte ∷ []))))
  fails_last s byte idle fits =
      let k = rewrite_of s.core.store s.core.library in
      let t1 = first_written k s.core.store in
      let t2 = settled_all t1 in
      let t3 = with_cells t2 (written t2.cells 0 (byte ∷ [])) in
      let failed_now : Steps rules (at_step s t2 left.WriteArea) ((event.Fail, None) ∷ []) (failed_state s t3) =
      (failed_state s t3, inr (record { core_step = record { commit = k; due = left.WriteArea; store = t3; rewriting = refl; failed = (byte, refl); silent = refl; new_is = refl }; jobs = refl; workers = refl }), refl) in
      let second : Steps rules (written_state s) ((event.SyncAll, None) ∷ (event.Fail, None) ∷ []) (failed_state s t3) =
      (at_step s t2 left.WriteArea, record { core_step = record { commit = k; rewriting = refl; silent = refl; new_is = refl }; jobs = refl; workers = refl }, failed_now) in
      (written_state s, record { core_step = record { idle = idle; fits = fits; silent = refl; new_is = refl }; jobs = refl; workers = refl }, second)

  -- ---- what is shown afterwards

  first_of : (staged new : List ℕ) (byte : ℕ) → IsWritten staged 0 (byte ∷ []) new → get_or new 0 0 ≡ byte
  first_of staged new byte is = ap (λ (l : List ℕ). get_or l 0 0) is

  done_shown : (before after_it : BookView Disk) (s : Contents P) → Shown before s → before.library.closed ≡ false → before.failed ≡ []
      → after_it ≡ record before { library = record before.library { disk = after_it.library.disk; bodies = compacted before.library.units; closed = false } }
      → (IsTrue D.honest → HoldsRecords (D.seen after_it.library.disk) before.library.area (compacted before.library.units)
      × ((area_byte : ℕ) → HasAreaByte (D.seen before.library.disk) area_byte before.library.area → IsCommitted (rewrites_in area_byte before.library) (D.seen before.library.disk) (D.seen after_it.library.disk) × LeavesAlone (D.seen after_it.library.disk) (D.may_leave after_it.library.disk)))
      → Shown after_it (done_state s)
  done_shown before after_it s shows idle none is facts =
      let disk = after_it.library.disk in
      let store = s.core.store in
      let k = rewrite_of store s.core.library in
      let made : (h : IsTrue D.honest) → IsCommitted k (D.seen before.library.disk) (D.seen disk) × LeavesAlone (D.seen disk) (D.may_leave disk) =
      λ h. let holds = shows.disk.holds h idle in subst (λ (c : Commit). IsCommitted c (D.seen before.library.disk) (D.seen disk) × LeavesAlone (D.seen disk) (D.may_leave disk)) (same_rewrite before s shows) ((facts h).1 store.area_byte (has_byte D before.library store holds.0 holds.1)) in
      let bytes : IsTrue D.honest → bytes_of (rewritten_store s).cells ≡ D.seen disk = λ h. committed_same k store.cells (D.seen before.library.disk) (D.seen disk) (shows.disk.bytes h idle) (made h).0 in
      let more = length-append (records (compacted s.core.library)) (0 ∷ []) in
      let used : (rewritten_store s).used ≡ length (records (compacted before.library.units)) = omega (arith, more) ∙ ap (λ (u : Units). length (records (compacted u))) shows.library in
      subst (λ (b : BookView Disk). Shown b (done_state s)) (sym is) (record {
        library = shows.library;
        order = order_same before (record before { library = record before.library { disk = disk; bodies = compacted before.library.units; closed = false } }) s.core.order s.core.acknowledged shows.order refl refl refl;
        phase = (none, refl);
        disk = record {
          area = shows.disk.area;
          used = λ _. used;
          bytes = λ h _. bytes h;
          images = λ h image left. subst (λ (l : List ℕ). IsImage (rewritten_store s).cells l) (bytes h ∙ sym ((made h).1 image left)) (bytes_are_image (rewritten_store s).cells);
          holds = λ h _.
              let new = (facts h).0 in
              let first : get_or (D.seen disk) 0 0 ≡ new.area_byte = ap (λ (l : List ℕ). get_or l 0 0) new.bytes in
              (new, sym first ∙ first_of (made h).0.0 (D.seen disk) k.deciding_byte (made h).0.2);
        };
      })

  failed_shown : (before : BookView Disk) (disk : Disk) (s : Contents P) (store : StoreState) → Shown before s → before.failed ≡ [] → store.area ≡ s.core.store.area
      → (IsTrue D.honest → (image : List ℕ) → D.may_leave disk image → IsImage store.cells image)
      → Shown (record before { library = record before.library { disk = disk; closed = true } }) (failed_state s store)
  failed_shown before disk s store shows none area images = record {
    library = shows.library;
    order = order_same before (record before { library = record before.library { disk = disk; closed = true } }) s.core.order s.core.acknowledged shows.order refl refl refl;
    phase = subst (λ (l : List made.LibraryCommand). IsPhase true l (Failed None)) (sym none) refl;
    disk = record {
      area = area ∙ shows.disk.area;
      used = λ never. absurd (cc never);
      bytes = λ _ never. absurd (cc never);
      images = images;
      holds = λ _ never. absurd (cc never);
    };
  }

  -- the rewrite fits on the disk
  fits_disk : (before : BookView Disk) (s : Contents P) → Shown before s → before.library.closed ≡ false → IsTrue D.honest → room_of (compacted s.core.library) ≤ s.core.store.area
      → ((rewrite_of s.core.store s.core.library).offset + length (rewrite_of s.core.store s.core.library).bytes ≤ length s.core.store.cells) × (1 ≤ length s.core.store.cells)
  fits_disk before s shows idle h room =
      let store = s.core.store in
      let most = begin_most (other_area store.area_byte) store.area in
      let size : length (D.seen before.library.disk) ≡ length store.cells = sym (ap length (shows.disk.bytes h idle)) ∙ length-cells store.cells in
      let more = length-append (records (compacted s.core.library)) (0 ∷ []) in
      let space = (shows.disk.holds h idle).0.is_area.room in
      let area = shows.disk.area in
      (omega (arith, most, size, more, space, room, area), omega (arith, size, space))

  failed_by : (b : Bool) → D.honest ≡ b → (before : BookView Disk) (disk : Disk) (s : Contents P) → Shown before s → before.library.closed ≡ false → before.failed ≡ [] → s.core.phase ≡ Idle → room_of (compacted s.core.library) ≤ s.core.store.area
      → (IsTrue D.honest → FailsIn (rewrite_of s.core.store s.core.library) (D.seen before.library.disk) (D.may_leave disk))
      → (new : Contents P) × (Steps rules s rewrite_failed_first new ⊎ Steps rules s rewrite_failed_last new) × Shown (record before { library = record before.library { disk = disk; closed = true } }) new
  failed_by false is before disk s shows idle none phase room fails =
      let t1 = first_written (rewrite_of s.core.store s.core.library) s.core.store in
      (failed_state s t1, inl (fails_first s phase room), failed_shown before disk s t1 shows none refl (λ h. absurd (cc (h, is))))
  failed_by true is before disk s shows idle none phase room fails =
      let k = rewrite_of s.core.store s.core.library in
      let cells = s.core.store.cells in
      let t1 = first_written k s.core.store in
      let t2 = settled_all t1 in
      let same : bytes_of cells ≡ D.seen before.library.disk = shows.disk.bytes is idle in
      let fits = fits_disk before s shows idle is room in
      elim (fails is) [
        | inl first ↦ (
          failed_state s t1,
          inl (fails_first s phase room),
          failed_shown before disk s t1 shows none refl (λ _ image here.
              within_is_image cells k.offset k.bytes image fits.0 (subst (λ (l : List ℕ). DiffersWithin k.offset (length k.bytes) l image) (sym same) (first image here))),
        )
        | inr last ↦
            let staged : bytes_of t2.cells ≡ last.0 = bytes_of-synced (written cells k.offset k.bytes) ∙ written_same cells (D.seen before.library.disk) last.0 k.offset k.bytes same last.1 in
            let long : length t2.cells ≡ length cells = length-map (written cells k.offset k.bytes) (λ (x : Cell). record { byte = x.byte; settled = true }) ∙ length-written cells k.offset k.bytes fits.0 in (
              failed_state s (with_cells t2 (written t2.cells 0 (0 ∷ []))),
              inr (fails_last s 0 phase room),
              failed_shown before disk s (with_cells t2 (written t2.cells 0 (0 ∷ []))) shows none refl (λ _ image here.
                  within_is_image t2.cells 0 (0 ∷ []) image (omega (arith, fits.1, long)) (subst (λ (l : List ℕ). DiffersWithin 0 1 l image) (sym staged) (last.2 image here))),
            )
      ]

  pub compacts : (before after_it : BookView Disk) (result : Result (Unit {0}) BookFault) (s : Contents P)
      → CompactAnswers D.failures before after_it result → (IsTrue D.honest → CompactsDisk D before.library after_it.library result) → Shown before s → IsRewriteOf rules (Shown after_it) s result
  compacts before after_it (Ok done) s (idle, fits, _, is) disk shows =
      let phase = phase_at before.library.closed before.failed s.core.phase false idle shows.phase in
      let room : room_of (compacted s.core.library) ≤ s.core.store.area = subst (λ (n : ℕ). room_of (compacted s.core.library) ≤ n) (sym shows.disk.area) (subst (λ (u : Units). room_of (compacted u) ≤ before.library.area) (sym shows.library) fits) in
      (done_state s, rewrites s phase.1 room, done_shown before after_it s shows idle phase.0 is (λ h. (subst (λ (b : BookView Disk). HoldsRecords (D.seen after_it.library.disk) b.library.area b.library.bodies) is (disk h).0, (disk h).1)))
  compacts before after_it (Err DiskFault) s (idle, fits, _, is) disk shows =
      let phase = phase_at before.library.closed before.failed s.core.phase false idle shows.phase in
      let room : room_of (compacted s.core.library) ≤ s.core.store.area = subst (λ (n : ℕ). room_of (compacted s.core.library) ≤ n) (sym shows.disk.area) (subst (λ (u : Units). room_of (compacted u) ≤ before.library.area) (sym shows.library) fits) in
      let made = failed_by D.honest refl before after_it.library.disk s shows idle phase.0 phase.1 room
      (λ h. let holds = shows.disk.holds h idle in subst (λ (c : Commit). FailsIn c (D.seen before.library.disk) (D.may_leave after_it.library.disk)) (same_rewrite before s shows) (disk h s.core.store.area_byte (has_byte D before.library s.core.store holds.0 holds.1))) in
      (made.0, made.1, subst (λ (b : BookView Disk). Shown b made.0) (sym is) made.2)
  compacts before after_it (Err Closed) s (_, is) disk shows = subst (λ (b : BookView Disk). Shown b s) (sym is) shows
  compacts before after_it (Err Full) s (_, _, is) disk shows = subst (λ (b : BookView Disk). Shown b s) (sym is) shows
  compacts before after_it (Err OutOfMemory) s (_, is) disk shows = subst (λ (b : BookView Disk). Shown b s) (sym is) shows
  compacts before after_it (Err (Exists receipt)) s answers disk shows = absurd answers
  compacts before after_it (Err (Absent receipt)) s answers disk shows = absurd answers
  compacts before after_it (Err (Estranged number found)) s answers disk shows = absurd answers
