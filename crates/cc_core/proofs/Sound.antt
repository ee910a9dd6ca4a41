-- What holds for the contents after any events. One record states it; each step keeps this record true, so a whole run keeps it
-- true. Besides the order and the jobs, this record says, by phase, what the disk's images hold. A device step leads from one
-- point of the commit to the next, a crash leaves one of the images, and a recovery reads that image.
use Rattle.std.proofs.Common.{◌≡◌, ◌⊎◌, inl, inr, ℕ, zero, suc, ◌+◌, ◌*◌, ◌<◌, ◌≤◌, ◌^◌, List, [], ◌∷◌, ◌++◌, length, take, drop, Option, Some, None, Result, Ok, Err, refl, sym, ap, subst, ◌∙◌, arith, All, Contains}
use Rattle.std.specs.Prelude.{IsOk, slice_get, replicate}
use Rattle.std.specs.Ordering.{nat_cmp}
use Rattle.std.specs.Cmp.{nat_cmp_total}
use Rattle.std.specs.FinMap.{FinMap, get, insert, remove, empty, get-empty}
use Rattle.std.proofs.lemmas.List.{length-replicate, length-set, length-map, take-append-drop, take_at, append_assoc}
use Rattle.std.proofs.lemmas.List.Elements.{All-replicate, All-weaker, All-push, All-nil, Contains-append_left, Contains-get_or, Contains-push}
use Rattle.std.proofs.lemmas.Option.{slice_get_within}
use Rattle.cc_disk.specs.Model.{Cell, bytes_of, crashed, IsImage}
use Rattle.cc_disk.specs.Images.{IsWritten}
use Rattle.cc_disk.proofs.Images.{bytes_of-written, bytes_of-synced}
use Rattle.std.specs.Int.{w32, to_le_bytes}
use Rattle.cc_disk.specs.internal.Laws.{bytes_are_image}
use Rattle.cc_journal.specs.Commit.{Commit, IsCommitted}
use Rattle.cc_journal.specs.Format.{header, open_gate, record_bytes, records, room_of, HoldsRecords, HoldsOneOf}
use Rattle.cc_journal.proofs.Images.{frame}
use Rattle.cc_journal.proofs.Records.{holds_alone, holds_same}
use Rattle.cc_journal.proofs.Bytes.{empty_holds}
use Rattle.cc_unit.specs.declared.unit.StoredUnit.{StoredUnit}
use Rattle.cc_library.specs.Change.{LibraryCommand}
use Rattle.cc_library.specs.Apply.{Units, apply, after, library_of, AreAccepted}
use Rattle.cc_library.specs.Body.{IsCommand, body_of}
use Rattle.cc_library.specs.Compact.{compacted}
use Rattle.cc_library.specs.Recovered.{StandFor, Recovers}
use Rattle.cc_library.proofs.Standing.{holds_recovers}
use Rattle.cc_core.specs.Request.{Request}
use Rattle.cc_library.specs.declared.command.Change.TheVariants as request
use Rattle.cc_core.specs.declared.command.Numbered.{Numbered}
use Rattle.cc_core.specs.declared.command.Reply.{Reply}
use Rattle.cc_core.specs.declared.job.Job.{Job}
use Rattle.cc_core.specs.declared.job.Progress.{Progress}
use Rattle.cc_core.specs.declared.job.Progress.TheVariants.{Waiting, Taken, Made, Refused}
use Rattle.cc_core.specs.declared.contents.Contents.{Contents}
use Rattle.cc_core.specs.declared.contents.Core.{Core}
use Rattle.cc_core.specs.declared.fault.Refusal.{Refusal}
use Rattle.cc_core.specs.declared.ids.CallId.{CallId}
use Rattle.cc_core.specs.declared.ids.ClientId.{ClientId}
use Rattle.cc_core.specs.declared.ids.PartIndex.{PartIndex}
use Rattle.cc_core.specs.declared.contents.Due.{Due}
use Rattle.cc_core.specs.declared.contents.Due.TheVariants as due
use Rattle.cc_core.specs.declared.contents.RewriteDue.{RewriteDue}
use Rattle.cc_core.specs.declared.contents.RewriteDue.TheVariants as left
use Rattle.cc_core.specs.declared.contents.Phase.{Phase}
use Rattle.cc_core.specs.declared.contents.Phase.TheVariants.{Idle, Committing, Rewriting, Failed, Crashed}
use Rattle.cc_core.specs.declared.event.Event.{Event}
use Rattle.cc_core.specs.declared.event.Event.TheVariants as event
use Rattle.cc_core.specs.Rules.{Rules}
use Rattle.cc_core.specs.Job.{planned, IsPlanned, source_in, with_piece, closed, verdict}
use Rattle.cc_core.specs.StoreState.{StoreState}
use Rattle.cc_core.specs.Store.{IsFormatted, gate_of, stepped, due_after, first_written, rewrite_of, rewrite_stepped, RewriteFailsTo, crashed_store}
use Rattle.cc_core.specs.Step.{Step, BeginsCommit, Begun, Advances, Fails, Acknowledges, RewritesAll, RewriteAdvances, RewriteFails, phase_after, Crashes, Reopens, StepsCore, IsUp, IsFree, IsStart, jobs_begun, ticked, numbered_now, commands}
use Rattle.cc_core.specs.Run.{EachUnit, IsRightCommand, AreRising, live, EachImageSurvives, EachImageIsRight, PutsCommand, HandsIn, Turn, Run, IsBeginning, IsOpened, IsOfCrash, PutsSource, Commits, LeavesRecord, Rewrites, LeavesCompacted, Reached}
use Rattle.cc_core.specs.internal.Ready.{IsFitting, IsRewrite, IsRecoverable, IsReady, IsReadyIn}
use Rattle.cc_core.proofs.Lists.{slice_get-set, slice_get-push, slice_get-last, Contains-slice_get, All-slice_get, take-push}
use Rattle.cc_core.proofs.Whole.{IsNamed, IsLawful, IsOfSource, verdict_right, verdict_source, verdict_taken}
use Rattle.cc_core.proofs.Orders.{found-insert, found-remove, no_push, EachUnit-empty, EachUnit-after, library-push, AreAccepted-push, AreAccepted-before, but_last-push}
use Rattle.cc_core.proofs.Compacted.{compacted_fits, compacted_stands}
use Rattle.cc_core.proofs.Rewrites.{whole, length-whole, first_within, rewrite_begins, rewrite_failed_images, done_held}
use Rattle.cc_core.proofs.Held.{HoldsIn, holds_in, length-bytes_of, commit_goes_on, room_goes_on, failed_images, crashed_image, crashed_alone, begin_most, two_writes}
use Rattle.cc_core.proofs.Possible.{reopens, rewrites_all}
use Rattle.cc_core.proofs.Reopening.{recoverable_of}
use Rattle.cc_core.proofs.Ending.{LacksLast, HoldsOrder, HoldsFlight, HoldsRewrite, HoldsCrash, IsKept, stand_more, HoldsEnds, ends_of, ends_either, rewrite_kept, IsWhole, each_right, one_right, each_ends, ends_survives, ends_right, kept_acked}

-- each sequence number is below this number
abbrev pub AreBelow : ℕ → List Numbered → Type 0
AreBelow n order = (k : ℕ) (a : Numbered) → slice_get order k ≡ Some a → a.number.value < n

AreBelow-push : (n : ℕ) (order : List Numbered) (a : Numbered) → AreBelow n order → a.number.value ≡ n → AreBelow (n + 1) (order ++ a ∷ [])
AreBelow-push n order a below at k b is =
    elim (slice_get-push order a k b is) [
      | inl h ↦ let lt = below k b h in omega arith
      | inr h ↦ let same = ap (λ (p : Numbered). p.number.value) h.1 in omega arith
    ]

AreRising-push : (n : ℕ) (order : List Numbered) (a : Numbered) → AreRising order → AreBelow n order → a.number.value ≡ n → AreRising (order ++ a ∷ [])
AreRising-push n order a rising below at i j b c lt first second =
    elim (slice_get-push order a j c second) [
      | inl h ↦ elim (slice_get-push order a i b first) [
        | inl f ↦ rising i j b c lt f h
        | inr f ↦ let within = slice_get_within order j c h in absurd (omega arith)
      ]
      | inr h ↦ elim (slice_get-push order a i b first) [
        | inl f ↦ let lower = below i b f in let same = ap (λ (p : Numbered). p.number.value) h.1 in omega arith
        | inr f ↦ absurd (omega arith)
      ]
    ]

-- a formatted disk holds no records
formatted_holds : (area : ℕ) (store : StoreState) (order : List Numbered) → IsFormatted area store → order ≡ [] → HoldsOrder store order
formatted_holds area store order f none =
    let held : HoldsIn store.area_byte store.area [] (bytes_of store.cells) = record {
      holds = subst (λ (n : ℕ). HoldsRecords (bytes_of store.cells) n []) (sym f.same_area)
          (empty_holds (bytes_of store.cells) f.rest (length store.cells) area f.bytes (length-map store.cells (λ (c : Cell). c.byte)) f.is_area);
      header_is = ap (λ (l : List ℕ). take 16 l) f.bytes ∙ take_at (header 0 area) (0 ∷ f.rest) 16 refl ∙ ap (header 0) (sym f.same_area) ∙ ap (λ (b : ℕ). header b store.area) (sym f.first_area);
    } in
    record {
      bodies = [];
      rest = record { taken = f.unused; images = λ image now. subst (HoldsIn store.area_byte store.area []) (sym (f.alone image now)) held };
      stand = subst (λ (l : List Numbered). StandFor [] (library_of (commands l))) (sym none) (record { commands = []; spelled = tt; accepted = tt; map_is = refl });
    }

-- if a disk holds what belongs to its phase, its areas have at most 2^30 bytes
area_most : (phase : Phase) (store : StoreState) (order acknowledged : List Numbered) → IsKept phase store order acknowledged → store.area ≤ 2 ^ 30
area_most phase store order acknowledged k =
    (each_ends phase store order acknowledged k (bytes_of store.cells) (bytes_are_image store.cells)).held.is_area.most

-- an element at an index of a prefix is at the same index of the whole list
slice_get-prefix : {X : Type 0} (xs ys : List X) (k : ℕ) (x : X) → slice_get xs k ≡ Some x → slice_get (xs ++ ys) k ≡ Some x
slice_get-prefix [] ys k x is = absurd (cc)
slice_get-prefix (z ∷ xs) ys zero x is = is
slice_get-prefix (z ∷ xs) ys (suc k) x is = slice_get-prefix xs ys k x is

in_whole : (prefix rest whole : List Numbered) → whole ≡ prefix ++ rest → (k : ℕ) (a : Numbered) → slice_get prefix k ≡ Some a → slice_get whole k ≡ Some a
in_whole prefix rest whole is k a there = ap (λ (l : List Numbered). slice_get l k) is ∙ slice_get-prefix prefix rest k a there

-- after a crash the disk is recoverable
recoverable : (store : StoreState) (order acknowledged : List Numbered) → AreAccepted empty (commands order) → HoldsCrash store order acknowledged → IsRecoverable store order
recoverable store order acknowledged all h = at h.ends.known
  where
    at : StandFor h.ends.bodies (library_of (commands order)) ⊎ LacksLast h.ends.bodies order acknowledged → IsRecoverable store order
    at (inl whole) = record {
      alone = h.alone;
      bodies = h.ends.bodies;
      library = library_of (commands order);
      holds = holds_alone (bytes_of store.cells) store.area h.ends.bodies h.ends.held;
      stand = whole;
      accepted = all;
      known = inl refl;
    }
    at (inr lacks) = record {
      alone = h.alone;
      bodies = h.ends.bodies;
      library = library_of (commands lacks.prefix);
      holds = holds_alone (bytes_of store.cells) store.area h.ends.bodies h.ends.held;
      stand = lacks.stand;
      accepted = all;
      known = inr (lacks.prefix, lacks.last, lacks.is, refl);
    }

-- if the acknowledged commands all come before the last command of the order, their numbers are below its number
acked_below : (order acknowledged prefix : List Numbered) (last : Numbered) → order ≡ prefix ++ last ∷ [] → AreRising order → All (Contains prefix) acknowledged → AreBelow last.number.value acknowledged
acked_below order acknowledged prefix last is rising all k a there =
    let found = All-slice_get (Contains prefix) acknowledged k a all there in
    let at = Contains-slice_get prefix a found in
    let first : slice_get order at.0 ≡ Some a = in_whole prefix (last ∷ []) order is at.0 a at.1 in
    let second : slice_get order (length prefix) ≡ Some last = ap (λ (l : List Numbered). slice_get l (length prefix)) is ∙ slice_get-last prefix last in
    rising at.0 (length prefix) a last (slice_get_within prefix at.0 a at.1) first second

-- if two phases of a commit are equal, their commands are equal
numbered_of : {a b : ClientId} {m n : Numbered} {d e : Due} → Committing a m d ≡ Committing b n e → m ≡ n
numbered_of is = cc

idle_not_committing : (client : ClientId) (numbered : Numbered) (due : Due) → Idle ≡ Committing client numbered due → ⊥
idle_not_committing client numbered due is = absurd (cc)

failed_not_committing : (failed : Option Numbered) (client : ClientId) (numbered : Numbered) (due : Due) → Failed failed ≡ Committing client numbered due → ⊥
failed_not_committing failed client numbered due is = absurd (cc)

crashed_not_committing : (client : ClientId) (numbered : Numbered) (due : Due) → Crashed ≡ Committing client numbered due → ⊥
crashed_not_committing client numbered due is = absurd (cc)

rewriting_not_committing : (commit : Commit) (rest : RewriteDue) (client : ClientId) (numbered : Numbered) (due : Due) → Rewriting commit rest ≡ Committing client numbered due → ⊥
rewriting_not_committing commit rest client numbered due is = absurd (cc)

rewriting_not_crashed : (commit : Commit) (rest : RewriteDue) → Rewriting commit rest ≡ Crashed → ⊥
rewriting_not_crashed commit rest is = absurd (cc)

commit_is : {a b : Commit} {d e : RewriteDue} → Rewriting a d ≡ Rewriting b e → a ≡ b
commit_is is = cc

idle_not_crashed : Idle ≡ Crashed → ⊥
idle_not_crashed is = absurd (cc)

failed_not_crashed : (failed : Option Numbered) → Failed failed ≡ Crashed → ⊥
failed_not_crashed failed is = absurd (cc)

begun_not_crashed : (s : Core) (client : ClientId) (v : Result LibraryCommand Refusal) (reply : Option Reply) (new : Core) → IsFree s.phase → Begun s client v reply new → new.phase ≡ Crashed → ⊥
begun_not_crashed s client (Err refused) reply new free begun crashed = subst IsFree (sym (ap (λ (c : Core). c.phase) begun.1) ∙ crashed) free
begun_not_crashed s client (Ok command) reply new free begun crashed = absurd (crashed_not_committing client (numbered_now s command) due.WriteBody (sym crashed ∙ ap (λ (c : Core). c.phase) begun.1))

-- after a step of a rewrite no command is in commit
after_not_committing : (commit : Commit) (rest : RewriteDue) (client : ClientId) (numbered : Numbered) (due : Due) → phase_after commit rest ≡ Committing client numbered due → ⊥
after_not_committing commit left.SyncAll client numbered due is = rewriting_not_committing commit left.WriteArea client numbered due is
after_not_committing commit left.WriteArea client numbered due is = rewriting_not_committing commit left.SyncArea client numbered due is
after_not_committing commit left.SyncArea client numbered due is = idle_not_committing client numbered due is

after_not_crashed : (commit : Commit) (rest : RewriteDue) → phase_after commit rest ≡ Crashed → ⊥
after_not_crashed commit left.SyncAll is = rewriting_not_crashed commit left.WriteArea is
after_not_crashed commit left.WriteArea is = rewriting_not_crashed commit left.SyncArea is
after_not_crashed commit left.SyncArea is = idle_not_crashed is

after_whole : (commit : Commit) (rest : RewriteDue) → IsWhole (phase_after commit rest)
after_whole commit left.SyncAll = tt
after_whole commit left.WriteArea = tt
after_whole commit left.SyncArea = tt

live_after : (commit : Commit) (rest : RewriteDue) (order : List Numbered) → library_of (commands order) ≡ live (phase_after commit rest) order
live_after commit left.SyncAll order = refl
live_after commit left.WriteArea order = refl
live_after commit left.SyncArea order = refl

nothing_held : {X : Type 0} (m : FinMap nat_cmp X) (k : ℕ) (x : X) → m ≡ empty → get m k ≡ Some x → ⊥
nothing_held m k x is found = let none = sym (get-empty nat_cmp k) ∙ ap (λ n. get n k) (sym is) ∙ found in absurd (cc)

-- an image of the disk after a crash is an image of the disk before the crash
crashed_is_image : (cells : List Cell) (choice image : List ℕ) → IsImage (crashed cells choice) image → IsImage cells image
crashed_is_image cells choice image now = subst (IsImage cells) (sym (crashed_alone cells choice image now)) (crashed_image cells choice)

-- the core has everything that is kept after any events
pub record IsSoundCore (is_right : StoredUnit → Type 0) (s : Core) : Type 0 where
  pub replay : s.library ≡ live s.phase s.order
  pub accepted : AreAccepted empty (commands s.order)
  pub units : EachUnit is_right s.library
  pub right : EachImageIsRight is_right s
  pub flying : (client : ClientId) (numbered : Numbered) (due : Due) → s.phase ≡ Committing client numbered due → IsRightCommand is_right numbered.command
  pub acked : All (Contains s.order) s.acknowledged
  pub rising : AreRising s.order
  pub rising_acked : AreRising s.acknowledged
  pub below : AreBelow s.upcoming.value s.order
  pub disk : IsKept s.phase s.store s.order s.acknowledged

module _ {P : Type 0} (rules : Rules P) (keeps : P → Type 0) where
  -- a new job is named: its pieces are planned for its source, and all wait
  planned_named : (call : CallId) (asked : Request) (plan : Result ℕ ℕ) → ((source : List ℕ) → source_in asked ≡ Some source → rules.plan source plan) → IsNamed rules keeps (planned {P = P} call asked plan)
  planned_named call asked (Ok n) plans = record {
    counted = λ source from none. subst (λ (m : ℕ). rules.plan source (Ok m)) (sym (length-replicate n Waiting)) (plans source from);
    named = λ source from k p is. let h : Waiting ≡ Made p = All-slice_get (λ w. Waiting ≡ w) (replicate n Waiting) k (Made p) (All-replicate (λ w. Waiting ≡ w) n Waiting refl) is in absurd (cc);
    kept = λ k p is. let h : Waiting ≡ Made p = All-slice_get (λ w. Waiting ≡ w) (replicate n Waiting) k (Made p) (All-replicate (λ w. Waiting ≡ w) n Waiting refl) is in absurd (cc);
  }
  planned_named call asked (Err number) plans = record {
    counted = λ source from none. absurd (cc);
    named = λ source from k p is. absurd (cc);
    kept = λ k p is. absurd (cc);
  }

  job_named : (call : CallId) (asked : Request) (plan : Result ℕ ℕ) → IsPlanned rules asked plan → IsNamed rules keeps (planned call asked plan)
  job_named call (request.Add name source) plan so = planned_named call (request.Add name source) plan (λ s from. let same : source ≡ s = cc in subst (λ (t : List ℕ). rules.plan t plan) same so)
  job_named call (request.Replace name source) plan so = planned_named call (request.Replace name source) plan (λ s from. let same : source ≡ s = cc in subst (λ (t : List ℕ). rules.plan t plan) same so)
  job_named call (request.Withdraw name) plan so = planned_named call (request.Withdraw name) plan (λ s from. absurd (cc))

  -- a job stays named if a piece makes progress: if the piece is now made, it names the source and its index, and keeps what its
  -- type keeps
  with_piece_named : (job : Job P) (part : PartIndex) (progress : Progress P) → IsNamed rules keeps job
      → ((source : List ℕ) (p : P) → source_in job.request ≡ Some source → progress ≡ Made p → (rules.source_of p ≡ source) × (rules.part_of p ≡ part.index))
      → ((p : P) → progress ≡ Made p → keeps p)
      → IsNamed rules keeps (with_piece job part progress)
  with_piece_named job part progress named right kept = record {
    counted = λ source from none. subst (λ (n : ℕ). rules.plan source (Ok n)) (sym (length-set job.pieces part.index progress)) (named.counted source from none);
    named = λ source from k p is. elim (slice_get-set job.pieces part.index progress k (Made p) is) [
      | inl h ↦ let both = right source p from h.1 in (both.0, both.1 ∙ sym h.0)
      | inr h ↦ named.named source from k p h
    ];
    kept = λ k p is. elim (slice_get-set job.pieces part.index progress k (Made p) is) [
      | inl h ↦ kept p h.1
      | inr h ↦ named.kept k p h
    ];
  }

  -- each client's job is named
  abbrev pub AllNamed : FinMap nat_cmp (Job P) → Type 0
  AllNamed jobs = (client : ℕ) (job : Job P) → get jobs client ≡ Some job → IsNamed rules keeps job

  AllNamed-insert : (jobs : FinMap nat_cmp (Job P)) (client : ℕ) (job : Job P) → AllNamed jobs → IsNamed rules keeps job → AllNamed (insert jobs client job)
  AllNamed-insert jobs client job all named q j is =
      elim (found-insert nat_cmp_total jobs client job q j is) [ inl h ↦ let same : job ≡ j = cc in subst (IsNamed rules keeps) same named | inr h ↦ all q j h ]

  AllNamed-remove : (jobs : FinMap nat_cmp (Job P)) (client : ℕ) → AllNamed jobs → AllNamed (remove jobs client)
  AllNamed-remove jobs client all q j is = all q j (found-remove nat_cmp_total jobs client q j is)

  AllNamed-empty : (jobs : FinMap nat_cmp (Job P)) → jobs ≡ empty → AllNamed jobs
  AllNamed-empty jobs is client job found = absurd (nothing_held jobs client job is found)

  -- the contents have everything that is kept after any events
  pub record IsSound (is_right : StoredUnit → Type 0) (s : Contents P) : Type 0 where
    pub core : IsSoundCore is_right s.core
    pub named : AllNamed s.jobs
    pub quiet : s.core.phase ≡ Crashed → (s.jobs ≡ empty) × (s.workers ≡ empty)

  module _ (is_right : StoredUnit → Type 0) (law : IsLawful rules keeps is_right) where
    pub start-IsSound : (area : ℕ) (s : Contents P) → IsStart area s → IsSound is_right s
    start-IsSound area s st = record {
      core = record {
        replay = st.library ∙ sym (λ i. live (st.phase i) (st.order i));
        accepted = subst (λ (l : List Numbered). AreAccepted empty (commands l)) (sym st.order) tt;
        units = subst (EachUnit is_right) (sym st.library) (EachUnit-empty is_right);
        right = λ image library now. ends_right is_right s.core.store.area s.core.order s.core.acknowledged image
            (each_ends Idle s.core.store s.core.order s.core.acknowledged (formatted_holds area s.core.store s.core.order st.formatted st.order) image now)
            (subst (λ (l : List Numbered). EachUnit is_right (library_of (commands l))) (sym st.order) (EachUnit-empty is_right))
            (λ prefix last is. absurd (no_push prefix last (sym st.order ∙ is))) library;
        flying = λ client numbered due is. absurd (idle_not_committing client numbered due (sym st.phase ∙ is));
        acked = subst (All (Contains s.core.order)) (sym st.acknowledged) (All-nil (Contains s.core.order));
        rising = subst AreRising (sym st.order) (λ i j a b lt first second. absurd (cc));
        rising_acked = subst AreRising (sym st.acknowledged) (λ i j a b lt first second. absurd (cc));
        below = subst (AreBelow s.core.upcoming.value) (sym st.order) (λ k a is. absurd (cc));
        disk = subst (λ phase. IsKept phase s.core.store s.core.order s.core.acknowledged) (sym st.phase) (formatted_holds area s.core.store s.core.order st.formatted st.order);
      };
      named = AllNamed-empty s.jobs st.jobs;
      quiet = λ crashed. (st.jobs, st.workers);
    }

    pub opened-IsSound : (s : Contents P) → IsOpened s → EachUnit is_right s.core.library → IsSound is_right s
    opened-IsSound s o units =
        let image = bytes_of s.core.store.cells in
        let held : HoldsIn s.core.store.area_byte s.core.store.area o.bodies image = record {
          holds = o.holds;
          header_is = ap (λ (l : List ℕ). take 16 l) o.holds.bytes ∙ take_at (header o.holds.area_byte s.core.store.area) (o.holds.other ++ (records o.bodies ++ o.holds.gate ∷ o.holds.behind)) 16 refl
              ∙ ap (λ (b : ℕ). header b s.core.store.area) o.area_byte;
        } in
        let disk : HoldsOrder s.core.store s.core.order = record {
          bodies = o.bodies;
          rest = record { taken = o.used; images = λ image now. subst (HoldsIn s.core.store.area_byte s.core.store.area o.bodies) (sym (o.alone image now)) held };
          stand = subst (StandFor o.bodies) o.library o.stand;
        } in
        let base = holds_recovers image s.core.store.area o.bodies s.core.library (holds_alone image s.core.store.area o.bodies o.holds) o.stand in
        record {
          core = record {
            replay = o.library ∙ sym (ap (λ phase. live phase s.core.order) o.phase);
            accepted = o.accepted;
            units = units;
            right = λ other library now recovered.
                subst (EachUnit is_right) (sym (base.alone library (subst (λ (l : List ℕ). Recovers l library) (o.alone other now) recovered))) units;
            flying = λ client numbered due is. absurd (idle_not_committing client numbered due (sym o.phase ∙ is));
            acked = subst (All (Contains s.core.order)) (sym o.acknowledged) (λ k d within. Contains-get_or s.core.order k d within);
            rising = o.rising;
            rising_acked = subst AreRising (sym o.acknowledged) o.rising;
            below = o.below;
            disk = subst (λ phase. IsKept phase s.core.store s.core.order s.core.acknowledged) (sym o.phase) disk;
          };
          named = AllNamed-empty s.jobs o.jobs;
          quiet = λ crashed. absurd (idle_not_crashed (sym o.phase ∙ crashed));
        }

    -- a step that changes only jobs and workers keeps the contents sound
    kept_IsSound : (s : Contents P) (jobs : _) (workers : _) → IsSound is_right s → AllNamed jobs → (s.core.phase ≡ Crashed → ⊥) → IsSound is_right (record s { jobs = jobs; workers = workers })
    kept_IsSound s jobs workers sound named up = record { core = sound.core; named = named; quiet = λ crashed. absurd (up crashed) }

    idle_of : (phase : Phase) → IsFree phase → closed phase ≡ None → phase ≡ Idle
    idle_of Idle free open' = refl
    idle_of (Committing client numbered due) free open' = absurd free
    idle_of (Rewriting commit due) free open' = absurd free
    idle_of (Failed failed) free open' = absurd (cc)
    idle_of Crashed free open' = absurd free

    begun_sound : (s : Core) (client : ClientId) (v : Result LibraryCommand Refusal) (reply : Option Reply) (new : Core)
        → IsSoundCore is_right s → ((c : LibraryCommand) → v ≡ Ok c → (s.phase ≡ Idle) × IsRightCommand is_right c × IsOk (apply s.library c) × IsFitting s.store c)
        → Begun s client v reply new → PutsCommand s new → IsSoundCore is_right new
    begun_sound s client (Err refused) reply new sound right begun puts =
        let there : IsSoundCore is_right (ticked s) = record {
          replay = sound.replay;
          accepted = sound.accepted;
          units = sound.units;
          right = sound.right;
          flying = sound.flying;
          acked = sound.acked;
          rising = sound.rising;
          rising_acked = sound.rising_acked;
          below = λ k a is. let lt = sound.below k a is in omega arith;
          disk = sound.disk;
        } in
        subst (IsSoundCore is_right) (sym begun.1) there
    begun_sound s client (Ok c) reply new sound right begun puts =
        let numbered = numbered_now s c in
        let r = right c refl in
        let library : s.library ≡ library_of (commands s.order) = sound.replay ∙ ap (λ phase. live phase s.order) r.0 in
        let ok : IsOk (apply (library_of (commands s.order)) c) = subst (λ l. IsOk (apply l c)) library r.2 in
        let h : HoldsOrder s.store s.order = subst (λ phase. IsKept phase s.store s.order s.acknowledged) r.0 sound.disk in
        let spelled : IsCommand c = puts numbered (ap (λ (n : Core). n.order) begun.1) in
        let there : IsSoundCore is_right (record (ticked s) { order = s.order ++ numbered ∷ []; phase = Committing client numbered due.WriteBody }) = record {
          replay = library ∙ ap (λ prefix. library_of (commands prefix)) (sym (take-push s.order numbered));
          accepted = AreAccepted-push s.order numbered sound.accepted ok;
          units = sound.units;
          right = sound.right;
          flying = λ who which now is. subst (λ (n : Numbered). IsRightCommand is_right n.command) (numbered_of is) r.1;
          acked = All-weaker (Contains s.order) (Contains (s.order ++ numbered ∷ [])) (λ x in'. Contains-append_left s.order (numbered ∷ []) x in') s.acknowledged sound.acked;
          rising = AreRising-push s.upcoming.value s.order numbered sound.rising sound.below refl;
          rising_acked = sound.rising_acked;
          below = AreBelow-push s.upcoming.value s.order numbered sound.below refl;
          disk = record {
            bodies = h.bodies;
            prefix = s.order;
            is = refl;
            acked = sound.acked;
            taken = ok;
            stand = h.stand;
            spelled = spelled;
            room = r.3;
            on_disk = h.rest;
          };
        } in
        subst (IsSoundCore is_right) (sym begun.1) there

    -- if a command is in commit, the disk holds what belongs to the step that is due
    flight : (s : Core) (client : ClientId) (numbered : Numbered) (due : Due) → IsSoundCore is_right s → s.phase ≡ Committing client numbered due → HoldsFlight numbered due s.store s.order s.acknowledged
    flight s client numbered due sound committing = subst (λ phase. IsKept phase s.store s.order s.acknowledged) committing sound.disk

    -- if a command is in commit, the library of the order is right both without its last command and with it
    prefix_right : (s : Core) (client : ClientId) (numbered : Numbered) (due : Due) → IsSoundCore is_right s → s.phase ≡ Committing client numbered due
        → (prefix : List Numbered) (last : Numbered) → s.order ≡ prefix ++ last ∷ [] → EachUnit is_right (library_of (commands prefix))
    prefix_right s client numbered due sound committing prefix last is =
        subst (EachUnit is_right) (sound.replay ∙ ap (λ phase. live phase s.order) committing ∙ ap (λ (l : List Numbered). library_of (commands l)) (but_last-push prefix last s.order is)) sound.units

    whole_right : (s : Core) (client : ClientId) (numbered : Numbered) (due : Due) → IsSoundCore is_right s → s.phase ≡ Committing client numbered due → EachUnit is_right (library_of (commands s.order))
    whole_right s client numbered due sound committing =
        let f = flight s client numbered due sound committing in
        subst (EachUnit is_right) (sym (ap (λ (l : List Numbered). library_of (commands l)) f.is ∙ library-push f.prefix numbered))
        (EachUnit-after is_right (library_of (commands f.prefix)) numbered.command (prefix_right s client numbered due sound committing f.prefix numbered f.is) (sound.flying client numbered due committing))

    advanced_sound : (due : Due) (s : Core) (reply : Option Reply) (new : Core) → IsSoundCore is_right s → Advances due s reply new → IsSoundCore is_right new
    advanced_sound due s reply new sound step =
        let f = flight s step.client step.numbered due sound step.committing in
        let disk : HoldsFlight step.numbered (due_after due) (stepped due step.numbered.command s.store) s.order s.acknowledged = record {
          bodies = f.bodies;
          prefix = f.prefix;
          is = f.is;
          acked = f.acked;
          taken = f.taken;
          stand = f.stand;
          spelled = f.spelled;
          room = room_goes_on due s.store step.numbered.command f.room;
          on_disk = commit_goes_on due s.store f.bodies step.numbered.command f.room f.on_disk;
        } in
        let there : IsSoundCore is_right (record s { store = stepped due step.numbered.command s.store; phase = Committing step.client step.numbered (due_after due) }) = record {
          replay = sound.replay ∙ ap (λ phase. live phase s.order) step.committing;
          accepted = sound.accepted;
          units = sound.units;
          right = λ image library now. ends_right is_right (stepped due step.numbered.command s.store).area s.order s.acknowledged image
              (each_ends (Committing step.client step.numbered (due_after due)) (stepped due step.numbered.command s.store) s.order s.acknowledged disk image now)
              (whole_right s step.client step.numbered due sound step.committing) (prefix_right s step.client step.numbered due sound step.committing) library;
          flying = λ who which now is. subst (λ (n : Numbered). IsRightCommand is_right n.command) (numbered_of is) (sound.flying step.client step.numbered due step.committing);
          acked = sound.acked;
          rising = sound.rising;
          rising_acked = sound.rising_acked;
          below = sound.below;
          disk = disk;
        } in
        subst (IsSoundCore is_right) (sym step.new_is) there

    failed_sound : (client : ClientId) (s : Core) (reply : Option Reply) (new : Core) → IsSoundCore is_right s → Fails client s reply new → IsSoundCore is_right new
    failed_sound client s reply new sound step =
        let f = flight s client step.numbered step.due sound step.committing in
        let disk : HoldsEnds step.store s.order s.acknowledged = λ image now.
        ends_of step.numbered step.store s.order s.acknowledged f.bodies f.prefix f.is f.acked f.taken f.stand f.spelled image
        (failed_images step.due s.store step.store f.bodies step.numbered.command f.room f.on_disk step.failed image now) in
        let there : IsSoundCore is_right (record s { store = step.store; phase = Failed (Some step.numbered) }) = record {
          replay = sound.replay ∙ ap (λ phase. live phase s.order) step.committing;
          accepted = sound.accepted;
          units = sound.units;
          right = λ image library now. ends_right is_right step.store.area s.order s.acknowledged image (disk image now)
              (whole_right s client step.numbered step.due sound step.committing) (prefix_right s client step.numbered step.due sound step.committing) library;
          flying = λ who which now is. absurd (failed_not_committing (Some step.numbered) who which now is);
          acked = sound.acked;
          rising = sound.rising;
          rising_acked = sound.rising_acked;
          below = sound.below;
          disk = disk;
        } in
        subst (IsSoundCore is_right) (sym step.new_is) there

    acked_sound : (client : ClientId) (s : Core) (reply : Option Reply) (new : Core) → IsSoundCore is_right s → Acknowledges client s reply new → IsSoundCore is_right new
    acked_sound client s reply new sound step =
        let numbered = step.numbered in
        let f = flight s client numbered due.Acknowledge sound step.committing in
        let before : s.library ≡ library_of (commands f.prefix) =
        sound.replay ∙ ap (λ phase. live phase s.order) step.committing ∙ ap (λ (l : List Numbered). library_of (commands l)) (but_last-push f.prefix numbered s.order f.is) in
        let there : IsSoundCore is_right (record s { library = after s.library numbered.command; acknowledged = s.acknowledged ++ numbered ∷ []; phase = Idle }) = record {
          replay = ap (λ library. after library numbered.command) before ∙ sym (library-push f.prefix numbered) ∙ ap (λ (l : List Numbered). library_of (commands l)) (sym f.is);
          accepted = sound.accepted;
          units = EachUnit-after is_right s.library numbered.command sound.units (sound.flying client numbered due.Acknowledge step.committing);
          right = sound.right;
          flying = λ who which now is. absurd (idle_not_committing who which now is);
          acked = All-push (Contains s.order) s.acknowledged numbered sound.acked (subst (λ order. Contains order numbered) (sym f.is) (Contains-push f.prefix numbered));
          rising = sound.rising;
          rising_acked = AreRising-push numbered.number.value s.acknowledged numbered sound.rising_acked (acked_below s.order s.acknowledged f.prefix numbered f.is sound.rising f.acked) refl;
          below = sound.below;
          disk = record {
            bodies = f.bodies ++ body_of numbered.command ∷ [];
            rest = f.on_disk;
            stand = stand_more f.bodies f.prefix numbered s.order f.is f.stand f.spelled f.taken;
          };
        } in
        subst (IsSoundCore is_right) (sym step.new_is) there

    -- while a rewrite is under way, the live map is the library of the whole order
    whole_order : (s : Core) (commit : Commit) (due : RewriteDue) → IsSoundCore is_right s → s.phase ≡ Rewriting commit due → s.library ≡ library_of (commands s.order)
    whole_order s commit due sound rewriting = sound.replay ∙ ap (λ phase. live phase s.order) rewriting

    rewrites_sound : (s : Core) (reply : Option Reply) (new : Core) → IsSoundCore is_right s → RewritesAll s reply new → IsSoundCore is_right new
    rewrites_sound s reply new sound step =
        let h : HoldsOrder s.store s.order = subst (λ phase. IsKept phase s.store s.order s.acknowledged) step.idle sound.disk in
        let library : s.library ≡ library_of (commands s.order) = sound.replay ∙ ap (λ phase. live phase s.order) step.idle in
        let more = compacted s.library in
        let c = rewrite_of s.store s.library in
        let store = first_written c s.store in
        let disk : HoldsRewrite c left.SyncAll store s.order = record {
          bodies = h.bodies;
          more = more;
          stand = h.stand;
          stand_anew = subst (StandFor more) library (compacted_stands h.bodies s.library (subst (StandFor h.bodies) (sym library) h.stand));
          is = refl;
          room = step.fits;
          on_disk = rewrite_begins s.store h.bodies more h.rest step.fits;
        } in
        let there : IsSoundCore is_right (record s { store = store; phase = Rewriting c left.SyncAll }) = record {
          replay = library;
          accepted = sound.accepted;
          units = sound.units;
          right = λ image units now. each_right is_right (Rewriting c left.SyncAll) store s.order s.acknowledged tt disk (subst (EachUnit is_right) library sound.units) image units now;
          flying = λ who which now is. absurd (rewriting_not_committing c left.SyncAll who which now is);
          acked = sound.acked;
          rising = sound.rising;
          rising_acked = sound.rising_acked;
          below = sound.below;
          disk = disk;
        } in
        subst (IsSoundCore is_right) (sym step.new_is) there

    rewrite_advanced_sound : (due : RewriteDue) (s : Core) (reply : Option Reply) (new : Core) → IsSoundCore is_right s → RewriteAdvances due s reply new → IsSoundCore is_right new
    rewrite_advanced_sound due s reply new sound step =
        let c = step.commit in
        let h : HoldsRewrite c due s.store s.order = subst (λ phase. IsKept phase s.store s.order s.acknowledged) step.rewriting sound.disk in
        let library = whole_order s c due sound step.rewriting in
        let phase = phase_after c due in
        let store = rewrite_stepped due c s.store in
        let disk : IsKept phase store s.order s.acknowledged = rewrite_kept c due s.store s.order s.acknowledged h in
        let there : IsSoundCore is_right (record s { store = store; phase = phase }) = record {
          replay = library ∙ live_after c due s.order;
          accepted = sound.accepted;
          units = sound.units;
          right = λ image units now. each_right is_right phase store s.order s.acknowledged (after_whole c due) disk (subst (EachUnit is_right) library sound.units) image units now;
          flying = λ who which now is. absurd (after_not_committing c due who which now is);
          acked = sound.acked;
          rising = sound.rising;
          rising_acked = sound.rising_acked;
          below = sound.below;
          disk = disk;
        } in
        subst (IsSoundCore is_right) (sym step.new_is) there

    rewrite_failed_sound : (s : Core) (reply : Option Reply) (new : Core) → IsSoundCore is_right s → RewriteFails s reply new → IsSoundCore is_right new
    rewrite_failed_sound s reply new sound step =
        let h : HoldsRewrite step.commit step.due s.store s.order = subst (λ phase. IsKept phase s.store s.order s.acknowledged) step.rewriting sound.disk in
        let library = whole_order s step.commit step.due sound step.rewriting in
        let images : (image : List ℕ) → IsImage step.store.cells image → HoldsOneOf step.store.area h.bodies h.more image =
        rewrite_failed_images step.due s.store step.store h.bodies h.more h.room h.on_disk (subst (λ (c : Commit). RewriteFailsTo step.due c s.store step.store) h.is step.failed) in
        let there : IsSoundCore is_right (record s { store = step.store; phase = Failed None }) = record {
          replay = library;
          accepted = sound.accepted;
          units = sound.units;
          right = λ image units now recovered.
              one_right is_right step.store.area h.bodies h.more (library_of (commands s.order)) h.stand h.stand_anew (subst (EachUnit is_right) library sound.units) image (images image now) units recovered;
          flying = λ who which now is. absurd (failed_not_committing None who which now is);
          acked = sound.acked;
          rising = sound.rising;
          rising_acked = sound.rising_acked;
          below = sound.below;
          disk = λ image now. ends_either step.store.area s.order s.acknowledged h.bodies h.more h.stand h.stand_anew image (images image now);
        } in
        subst (IsSoundCore is_right) (sym step.new_is) there

    crashed_sound : (choice : List ℕ) (s : Core) (reply : Option Reply) (new : Core) → IsSoundCore is_right s → Crashes choice s reply new → IsSoundCore is_right new
    crashed_sound choice s reply new sound step =
        let there : IsSoundCore is_right (record s { library = empty; phase = Crashed; store = crashed_store choice s.store }) = record {
          replay = refl;
          accepted = sound.accepted;
          units = EachUnit-empty is_right;
          right = λ image library now. sound.right image library (crashed_is_image s.store.cells choice image now);
          flying = λ who which now is. absurd (crashed_not_committing who which now is);
          acked = sound.acked;
          rising = sound.rising;
          rising_acked = sound.rising_acked;
          below = sound.below;
          disk = record {
            alone = crashed_alone s.store.cells choice;
            ends = each_ends s.phase s.store s.order s.acknowledged sound.disk (bytes_of (crashed s.store.cells choice)) (crashed_image s.store.cells choice);
          };
        } in
        subst (IsSoundCore is_right) (sym step.new_is) there

    reopened_sound : (s : Core) (reply : Option Reply) (new : Core) → IsSoundCore is_right s → Reopens s reply new → IsSoundCore is_right new
    reopened_sound s reply new sound step =
        let h : HoldsCrash s.store s.order s.acknowledged = subst (λ phase. IsKept phase s.store s.order s.acknowledged) step.crashed sound.disk in
        let e = h.ends in
        let kept = step.kept in
        let rest = drop step.longest.count s.order in
        let whole : s.order ≡ kept ++ rest = sym (take-append-drop step.longest.count s.order) ∙ ap (λ (l : List Numbered). l ++ rest) (sym step.longest.prefix) in
        let same : step.bodies ≡ e.bodies = (holds_same (bytes_of s.store.cells) s.store.area s.store.area e.bodies step.bodies e.held step.holds).1 in
        let byte = step.holds.area_byte in
        let held : HoldsIn byte s.store.area step.bodies (bytes_of s.store.cells) = holds_in s.store.area step.bodies (bytes_of s.store.cells) step.holds in
        let there : IsSoundCore is_right (record s { library = step.library; order = kept; phase = Idle; store = record s.store { area_byte = byte; used = length (records step.bodies) } }) = record {
          replay = sym step.longest.leads;
          accepted = AreAccepted-before kept rest (subst (λ (l : List Numbered). AreAccepted empty (commands l)) whole sound.accepted);
          units = sound.right (bytes_of s.store.cells) step.library (bytes_are_image s.store.cells) (record { area = s.store.area; bodies = step.bodies; holds = step.holds; stand = step.stand });
          right = sound.right;
          flying = λ who which now is. absurd (idle_not_committing who which now is);
          acked = kept_acked e.bodies s.order s.acknowledged kept step.library sound.acked (subst (λ (bs : List (List ℕ)). StandFor bs step.library) same step.stand) e.known step.longest;
          rising = λ i j a b lt first second. sound.rising i j a b lt (in_whole kept rest s.order whole i a first) (in_whole kept rest s.order whole j b second);
          rising_acked = sound.rising_acked;
          below = λ k a is. sound.below k a (in_whole kept rest s.order whole k a is);
          disk = record {
            bodies = step.bodies;
            rest = record { taken = refl; images = λ image now. subst (HoldsIn byte s.store.area step.bodies) (sym (h.alone image now)) held };
            stand = subst (StandFor step.bodies) (sym step.longest.leads) step.stand;
          };
        } in
        subst (IsSoundCore is_right) (sym step.new_is) there

    AllNamed-begun : (jobs : FinMap nat_cmp (Job P)) (client : ClientId) (v : Result LibraryCommand Refusal) → AllNamed jobs → AllNamed (jobs_begun jobs client v)
    AllNamed-begun jobs client (Ok command) all = all
    AllNamed-begun jobs client (Err refused) all = AllNamed-remove jobs client.number all

    -- a Begin keeps the contents sound
    begins_sound : (client : ClientId) (old : Contents P) (reply : Option Reply) (new : Contents P) → IsSound is_right old → BeginsCommit rules client old reply new → PutsCommand old.core new.core → IsSound is_right new
    begins_sound client old reply new sound step puts =
        let core = old.core in
        let v = verdict rules core.phase core.library core.store step.job in
        record {
          core = begun_sound core client v reply new.core sound.core
              (λ c is. let t = verdict_taken rules keeps core.phase core.library core.store step.job c is in (
                idle_of core.phase step.free t.open',
                verdict_right rules keeps is_right law core.phase core.library core.store step.job c (sound.named client.number step.job step.held) step.ready is,
                t.ok,
                (t.fits, area_most core.phase core.store core.order core.acknowledged sound.core.disk),
              )) step.begun puts;
          named = subst AllNamed (sym step.jobs) (AllNamed-begun old.jobs client v sound.named);
          quiet = λ crashed. absurd (begun_not_crashed core client v reply new.core step.free step.begun crashed);
        }

    -- each step keeps the contents sound
    pub step_IsSound : (old : Contents P) (e : Event P) (reply : Option Reply) (new : Contents P) → IsSound is_right old → Step rules old e reply new → PutsCommand old.core new.core → HandsIn keeps e → IsSound is_right new
    step_IsSound old (event.Submit client call asked) reply new sound step puts hands =
        subst (IsSound is_right) (sym step.new_is) (kept_IsSound old _ _ sound (AllNamed-insert old.jobs client.number _ sound.named (job_named call asked step.plan step.planned_so)) (λ crashed. subst IsUp crashed step.up))
    step_IsSound old (event.Take worker client part) reply new sound step puts hands =
        subst (IsSound is_right) (sym step.new_is)
        (kept_IsSound old _ _ sound (AllNamed-insert old.jobs client.number _ sound.named
        (with_piece_named step.job part Taken (sound.named client.number step.job step.held) (λ source p from made. absurd (cc)) (λ p made. absurd (cc))))
        (λ crashed. nothing_held old.jobs client.number step.job (sound.quiet crashed).0 step.held))
    step_IsSound old (event.Done worker piece) reply new sound step puts hands =
        subst (IsSound is_right) (sym step.new_is)
        (kept_IsSound old _ _ sound (AllNamed-insert old.jobs step.work.client.number _ sound.named
        (with_piece_named step.job step.work.part (Made piece) (sound.named step.work.client.number step.job step.held)
        (λ source p from made. let same : piece ≡ p = cc in let sources : rules.source_of piece ≡ source = cc (step.source) in
        (ap rules.source_of (sym same) ∙ sources, ap rules.part_of (sym same) ∙ step.part))
        (λ p made. let same : piece ≡ p = cc in subst keeps same (hands worker piece refl))))
        (λ crashed. nothing_held old.workers worker.number step.work (sound.quiet crashed).1 step.busy))
    step_IsSound old (event.Refuse worker number) reply new sound step puts hands =
        subst (IsSound is_right) (sym step.new_is)
        (kept_IsSound old _ _ sound (AllNamed-insert old.jobs step.work.client.number _ sound.named
        (with_piece_named step.job step.work.part (Refused number) (sound.named step.work.client.number step.job step.held) (λ source p from made. absurd (cc)) (λ p made. absurd (cc))))
        (λ crashed. nothing_held old.workers worker.number step.work (sound.quiet crashed).1 step.busy))
    step_IsSound old (event.Begin client) reply new sound step puts hands = begins_sound client old reply new sound step puts
    step_IsSound old event.WriteBody reply new sound step puts hands =
        record { core = advanced_sound due.WriteBody old.core reply new.core sound.core step.core_step; named = subst AllNamed (sym step.jobs) sound.named; quiet = λ crashed. absurd (crashed_not_committing _ _ _ (sym crashed ∙ ap (λ (c : Core). c.phase) step.core_step.new_is)) }
    step_IsSound old event.SyncBody reply new sound step puts hands =
        record { core = advanced_sound due.SyncBody old.core reply new.core sound.core step.core_step; named = subst AllNamed (sym step.jobs) sound.named; quiet = λ crashed. absurd (crashed_not_committing _ _ _ (sym crashed ∙ ap (λ (c : Core). c.phase) step.core_step.new_is)) }
    step_IsSound old event.WriteGate reply new sound step puts hands =
        record { core = advanced_sound due.WriteGate old.core reply new.core sound.core step.core_step; named = subst AllNamed (sym step.jobs) sound.named; quiet = λ crashed. absurd (crashed_not_committing _ _ _ (sym crashed ∙ ap (λ (c : Core). c.phase) step.core_step.new_is)) }
    step_IsSound old event.SyncGate reply new sound step puts hands =
        record { core = advanced_sound due.SyncGate old.core reply new.core sound.core step.core_step; named = subst AllNamed (sym step.jobs) sound.named; quiet = λ crashed. absurd (crashed_not_committing _ _ _ (sym crashed ∙ ap (λ (c : Core). c.phase) step.core_step.new_is)) }
    step_IsSound old event.RewriteAll reply new sound step puts hands =
        record { core = rewrites_sound old.core reply new.core sound.core step.core_step; named = subst AllNamed (sym step.jobs) sound.named; quiet = λ crashed. absurd (rewriting_not_crashed _ _ (sym (ap (λ (c : Core). c.phase) step.core_step.new_is) ∙ crashed)) }
    step_IsSound old event.SyncAll reply new sound step puts hands =
        record { core = rewrite_advanced_sound left.SyncAll old.core reply new.core sound.core step.core_step; named = subst AllNamed (sym step.jobs) sound.named; quiet = λ crashed. absurd (after_not_crashed step.core_step.commit left.SyncAll (sym (ap (λ (c : Core). c.phase) step.core_step.new_is) ∙ crashed)) }
    step_IsSound old event.WriteArea reply new sound step puts hands =
        record { core = rewrite_advanced_sound left.WriteArea old.core reply new.core sound.core step.core_step; named = subst AllNamed (sym step.jobs) sound.named; quiet = λ crashed. absurd (after_not_crashed step.core_step.commit left.WriteArea (sym (ap (λ (c : Core). c.phase) step.core_step.new_is) ∙ crashed)) }
    step_IsSound old event.SyncArea reply new sound step puts hands =
        record { core = rewrite_advanced_sound left.SyncArea old.core reply new.core sound.core step.core_step; named = subst AllNamed (sym step.jobs) sound.named; quiet = λ crashed. absurd (after_not_crashed step.core_step.commit left.SyncArea (sym (ap (λ (c : Core). c.phase) step.core_step.new_is) ∙ crashed)) }
    step_IsSound old event.Fail reply new sound (inl step) puts hands =
        record { core = failed_sound step.0 old.core reply new.core sound.core step.1.core_step; named = subst AllNamed (sym step.1.jobs) (AllNamed-remove old.jobs step.0.number sound.named); quiet = λ crashed. absurd (failed_not_crashed _ (sym (ap (λ (c : Core). c.phase) step.1.core_step.new_is) ∙ crashed)) }
    step_IsSound old event.Fail reply new sound (inr step) puts hands =
        record { core = rewrite_failed_sound old.core reply new.core sound.core step.core_step; named = subst AllNamed (sym step.jobs) sound.named; quiet = λ crashed. absurd (failed_not_crashed None (sym (ap (λ (c : Core). c.phase) step.core_step.new_is) ∙ crashed)) }
    step_IsSound old (event.Ack client) reply new sound step puts hands =
        record { core = acked_sound client old.core reply new.core sound.core step.core_step; named = subst AllNamed (sym step.jobs) (AllNamed-remove old.jobs client.number sound.named); quiet = λ crashed. absurd (idle_not_crashed (sym (ap (λ (c : Core). c.phase) step.core_step.new_is) ∙ crashed)) }
    step_IsSound old (event.Crash choice) reply new sound step puts hands =
        record { core = crashed_sound choice old.core reply new.core sound.core step.core_step; named = AllNamed-empty new.jobs step.jobs; quiet = λ crashed. (step.jobs, step.workers) }
    step_IsSound old event.Recover reply new sound step puts hands =
        record { core = reopened_sound old.core reply new.core sound.core step.core_step; named = subst AllNamed (sym step.jobs) sound.named; quiet = λ crashed. absurd (idle_not_crashed (sym (ap (λ (c : Core). c.phase) step.core_step.new_is) ∙ crashed)) }

    turn_IsSound : (old : Contents P) (e : Event P) (new : Contents P) → IsSound is_right old → Turn rules keeps old e new → IsSound is_right new
    turn_IsSound old e new sound (inl step) = step_IsSound old e step.0 new sound step.1 step.2 step.3
    turn_IsSound old e new sound (inr stays) = subst (IsSound is_right) (sym stays.1) sound

    -- a run keeps the contents sound
    pub run_IsSound : (old : Contents P) (events : List (Event P)) (new : Contents P) → IsSound is_right old → Run rules keeps old events new → IsSound is_right new
    run_IsSound old [] new sound run = subst (IsSound is_right) (sym run) sound
    run_IsSound old (e ∷ events) new sound run = run_IsSound run.0 events new (turn_IsSound old e run.0 sound run.1.0) run.1.1

    -- each beginning is sound
    pub beginning-IsSound : (s : Contents P) → IsBeginning s → EachUnit is_right s.core.library → IsSound is_right s
    beginning-IsSound s (inl start) units = start-IsSound start.0 s start.1
    beginning-IsSound s (inr opened) units = opened-IsSound s opened units

    -- contents that are reached are sound
    pub reached_IsSound : (s : Contents P) → Reached rules keeps is_right s → IsSound is_right s
    reached_IsSound s reached = run_IsSound reached.first reached.events s (beginning-IsSound reached.first reached.started reached.right) reached.run

    -- ---- what follows

    pub sound_survives : (s : Core) → IsSoundCore is_right s → EachImageSurvives s
    sound_survives s sound image now = ends_survives s.store.area s.order s.acknowledged image sound.rising sound.rising_acked sound.acked (each_ends s.phase s.store s.order s.acknowledged sound.disk image now)

    -- during a rewrite both writes of its commit lie within the disk
    rewrite_ready : (commit : Commit) (due : RewriteDue) (store : StoreState) (order acknowledged : List Numbered) → HoldsRewrite commit due store order → IsRewrite commit store
    rewrite_ready commit due store order acknowledged k =
        let held = (each_ends (Rewriting commit due) store order acknowledged k (bytes_of store.cells) (bytes_are_image store.cells)).held in
        let size : 16 + 2 * store.area ≤ length store.cells = omega (arith, held.is_area.room, length-bytes_of store.cells) in
        subst (λ (c : Commit). IsRewrite c store) (sym k.is) (record {
          within = record { first = first_within store k.more size k.room; second = omega (arith, size) };
          some = omega (arith, length-whole k.more);
          room = omega (arith, length-whole k.more, k.room);
        })

    ready_in : (phase : Phase) (library : Units) (store : StoreState) (order acknowledged : List Numbered) → library ≡ live phase order → AreAccepted empty (commands order) → IsKept phase store order acknowledged
        → IsReadyIn phase library store order
    ready_in Idle library store order acknowledged replay all k =
        let fits : room_of k.bodies ≤ store.area = (k.rest.images (bytes_of store.cells) (bytes_are_image store.cells)).holds.fits in
        let shorter = compacted_fits k.bodies (library_of (commands order)) k.stand in
        subst (λ (units : Units). room_of (compacted units) ≤ store.area) (sym replay) (omega (arith, shorter, fits))
    ready_in (Committing client numbered due) library store order acknowledged replay all k = k.room
    ready_in (Rewriting commit due) library store order acknowledged replay all k = rewrite_ready commit due store order acknowledged k
    ready_in (Failed failed) library store order acknowledged replay all k = tt
    ready_in Crashed library store order acknowledged replay all k = recoverable store order acknowledged all k

    pub sound_ready : (s : Core) → IsSoundCore is_right s → IsReady s
    sound_ready s sound = ready_in s.phase s.library s.store s.order s.acknowledged sound.replay sound.accepted sound.disk

    -- after a crash the recovery is possible
    pub recovery_is_possible : (s : Contents P) → IsSound is_right s → s.core.phase ≡ Crashed → (reply : Option Reply) × (new : Contents P) × StepsCore Reopens s reply new
    recovery_is_possible s sound crashed =
        let some = reopens s.core crashed (recoverable_of s.core (sound_ready s.core sound.core) crashed) in
        (some.0, record s { core = some.1 }, record { core_step = some.2; jobs = refl; workers = refl })

    crashed_no_commit : (s : Core) (client : ClientId) (numbered : Numbered) (due : Due) → s.phase ≡ Crashed → s.phase ≡ Committing client numbered due → ⊥
    crashed_no_commit s client numbered due crashed committing = crashed_not_committing client numbered due (sym crashed ∙ committing)

    crashed_no_rewrite : (s : Core) (commit : Commit) (due : RewriteDue) → s.phase ≡ Crashed → s.phase ≡ Rewriting commit due → ⊥
    crashed_no_rewrite s commit due crashed rewriting = rewriting_not_crashed commit due (sym rewriting ∙ crashed)

    -- after a crash nothing else is possible, except another crash
    pub of_crash : (s : Contents P) (e : Event P) (reply : Option Reply) (new : Contents P) → IsSound is_right s → s.core.phase ≡ Crashed → Step rules s e reply new → IsOfCrash e
    of_crash s (event.Submit client call asked) reply new sound crashed step = absurd (subst IsUp crashed step.up)
    of_crash s (event.Take worker client part) reply new sound crashed step = absurd (nothing_held s.jobs client.number step.job (sound.quiet crashed).0 step.held)
    of_crash s (event.Done worker piece) reply new sound crashed step = absurd (nothing_held s.workers worker.number step.work (sound.quiet crashed).1 step.busy)
    of_crash s (event.Refuse worker number) reply new sound crashed step = absurd (nothing_held s.workers worker.number step.work (sound.quiet crashed).1 step.busy)
    of_crash s (event.Begin client) reply new sound crashed step = absurd (subst IsFree crashed step.free)
    of_crash s event.WriteBody reply new sound crashed step = absurd (crashed_no_commit s.core _ _ _ crashed step.core_step.committing)
    of_crash s event.SyncBody reply new sound crashed step = absurd (crashed_no_commit s.core _ _ _ crashed step.core_step.committing)
    of_crash s event.WriteGate reply new sound crashed step = absurd (crashed_no_commit s.core _ _ _ crashed step.core_step.committing)
    of_crash s event.SyncGate reply new sound crashed step = absurd (crashed_no_commit s.core _ _ _ crashed step.core_step.committing)
    of_crash s event.RewriteAll reply new sound crashed step = absurd (idle_not_crashed (sym step.core_step.idle ∙ crashed))
    of_crash s event.SyncAll reply new sound crashed step = absurd (crashed_no_rewrite s.core _ _ crashed step.core_step.rewriting)
    of_crash s event.WriteArea reply new sound crashed step = absurd (crashed_no_rewrite s.core _ _ crashed step.core_step.rewriting)
    of_crash s event.SyncArea reply new sound crashed step = absurd (crashed_no_rewrite s.core _ _ crashed step.core_step.rewriting)
    of_crash s event.Fail reply new sound crashed (inl step) = absurd (crashed_no_commit s.core _ _ _ crashed step.1.core_step.committing)
    of_crash s event.Fail reply new sound crashed (inr step) = absurd (crashed_no_rewrite s.core _ _ crashed step.core_step.rewriting)
    of_crash s (event.Ack client) reply new sound crashed step = absurd (crashed_no_commit s.core _ _ _ crashed step.core_step.committing)
    of_crash s (event.Crash choice) reply new sound crashed step = inl (choice, refl)
    of_crash s event.Recover reply new sound crashed step = inr refl

    -- a command that begins has the source that was handed in
    begun_source : (s : Core) (client : ClientId) (v : Result LibraryCommand Refusal) (new : Core) → Begun s client v None new → (c : LibraryCommand) × (v ≡ Ok c) × (new.order ≡ s.order ++ numbered_now s c ∷ [])
    begun_source s client (Ok c) new begun = (c, refl, ap (λ (n : Core). n.order) begun.1)
    begun_source s client (Err refused) new begun = absurd (cc (begun.0))

    pub puts_source : IsOfSource rules keeps → (client : ClientId) (s new : Contents P) → IsSound is_right s → PutsSource rules client s new
    puts_source of client s new sound step =
        let core = s.core in
        let v = verdict rules core.phase core.library core.store step.job in
        let b = begun_source core client v new.core step.begun in
        (step.job, numbered_now core b.0, step.held, b.2, verdict_source rules keeps of core.phase core.library core.store step.job b.0 (sound.named client.number step.job step.held) step.ready b.1)

    -- the four device steps of a commit leave its record
    pub commits_leave : (client : ClientId) (numbered : Numbered) (s new : Core) → IsSoundCore is_right s → Commits client numbered s new → LeavesRecord numbered s new
    commits_leave client numbered s new sound c =
        let f = flight s client numbered due.WriteBody sound c.due_now in
        let B = bytes_of s.store.cells in
        let held = f.on_disk.images B (bytes_are_image s.store.cells) in
        let taken = f.on_disk.taken in
        let room = f.room in
        let same : c.writes_body.numbered ≡ numbered = numbered_of (sym c.writes_body.committing ∙ c.due_now) in
        let bytes : List ℕ = frame (body_of c.writes_body.numbered.command) in
        let first : IsWritten B (gate_of s.store + 1) bytes (bytes_of c.body_written.store.cells) =
        ap (λ (k : Core). bytes_of k.store.cells) c.writes_body.new_is ∙ bytes_of-written s.store.cells (gate_of s.store + 1) bytes in
        let gate_first : gate_of c.body_written.store ≡ gate_of s.store = ap (λ (k : Core). gate_of k.store) c.writes_body.new_is in
        let second : bytes_of c.body_settled.store.cells ≡ bytes_of c.body_written.store.cells =
        ap (λ (k : Core). bytes_of k.store.cells) c.syncs_body.new_is ∙ bytes_of-synced c.body_written.store.cells in
        let gate_second : gate_of c.body_settled.store ≡ gate_of s.store = ap (λ (k : Core). gate_of k.store) c.syncs_body.new_is ∙ gate_first in
        let third : IsWritten (bytes_of c.body_settled.store.cells) (gate_of c.body_settled.store) (open_gate ∷ []) (bytes_of c.gate_written.store.cells) =
        ap (λ (k : Core). bytes_of k.store.cells) c.writes_gate.new_is ∙ bytes_of-written c.body_settled.store.cells (gate_of c.body_settled.store) (open_gate ∷ []) in
        let third_is : IsWritten (bytes_of c.body_written.store.cells) (gate_of s.store) (open_gate ∷ []) (bytes_of c.gate_written.store.cells) =
        subst (λ (g : ℕ). IsWritten (bytes_of c.body_written.store.cells) g (open_gate ∷ []) (bytes_of c.gate_written.store.cells)) gate_second
        (subst (λ (l : List ℕ). IsWritten l (gate_of c.body_settled.store) (open_gate ∷ []) (bytes_of c.gate_written.store.cells)) second third) in
        let fourth : bytes_of new.store.cells ≡ bytes_of c.gate_written.store.cells = ap (λ (k : Core). bytes_of k.store.cells) c.syncs_gate.new_is ∙ bytes_of-synced c.gate_written.store.cells in
        let within : gate_of s.store + 1 ≤ length B = omega (arith, room.0, held.holds.is_area.room, begin_most s.store.area_byte s.store.area) in
        let whole = two_writes B (gate_of s.store) open_gate bytes (bytes_of c.body_written.store.cells) (bytes_of c.gate_written.store.cells) within first third_is in
        let one = subst (IsWritten B (gate_of s.store) (open_gate ∷ bytes)) (sym fourth) whole in
        let spelled : open_gate ∷ bytes ≡ record_bytes (body_of numbered.command) ++ 0 ∷ [] =
        ap (λ (n : Numbered). open_gate ∷ frame (body_of n.command)) same ∙ ap (λ (l : List ℕ). open_gate ∷ l) (sym (append_assoc (to_le_bytes w32 (length (body_of numbered.command))) (body_of numbered.command) (0 ∷ []))) in
        subst (λ (l : List ℕ). IsWritten B (gate_of s.store) l (bytes_of new.store.cells)) spelled one

    -- between two commits a rewrite is possible
    pub rewrite_is_possible : (s : Contents P) → IsSound is_right s → s.core.phase ≡ Idle → (reply : Option Reply) × (new : Contents P) × StepsCore RewritesAll s reply new
    rewrite_is_possible s sound idle =
        let fits = subst (λ (phase : Phase). IsReadyIn phase s.core.library s.core.store s.core.order) idle (sound_ready s.core sound.core) in
        let some = rewrites_all s.core idle fits in
        (some.0, record s { core = some.1 }, record { core_step = some.2; jobs = refl; workers = refl })

    -- the four device steps of a rewrite leave one Add per name
    pub rewrites_leave : (s new : Core) → IsSoundCore is_right s → Rewrites s new → LeavesCompacted s new
    rewrites_leave s new sound r =
        let h : HoldsOrder s.store s.order = subst (λ phase. IsKept phase s.store s.order s.acknowledged) r.writes_all.idle sound.disk in
        let c = rewrite_of s.store s.library in
        let B = bytes_of s.store.cells in
        let seen : Core → List ℕ = λ k. bytes_of k.store.cells in
        let first_is : r.syncs_all.commit ≡ c = commit_is (sym r.syncs_all.rewriting ∙ ap (λ (k : Core). k.phase) r.writes_all.new_is) in
        let next_is : r.writes_area.commit ≡ c = commit_is (sym r.writes_area.rewriting ∙ ap (λ (k : Core). k.phase) r.syncs_all.new_is) ∙ first_is in
        let first : IsWritten B c.offset c.bytes (seen r.area_written) = ap seen r.writes_all.new_is ∙ bytes_of-written s.store.cells c.offset c.bytes in
        let second : seen r.area_settled ≡ seen r.area_written = ap seen r.syncs_all.new_is ∙ bytes_of-synced r.area_written.store.cells in
        let write : Commit → Type 0 = λ k. IsWritten (seen r.area_settled) k.deciding_offset (k.deciding_byte ∷ []) (seen r.byte_written) in
        let third : write c = subst write next_is (ap seen r.writes_area.new_is ∙ bytes_of-written r.area_settled.store.cells r.writes_area.commit.deciding_offset (r.writes_area.commit.deciding_byte ∷ [])) in
        let fourth : seen new ≡ seen r.byte_written = ap seen r.syncs_area.new_is ∙ bytes_of-synced r.byte_written.store.cells in
        let done : IsCommitted c B (seen new) = (
          seen r.area_written,
          first,
          subst (λ (l : List ℕ). IsWritten l c.deciding_offset (c.deciding_byte ∷ []) (seen new)) second
              (subst (λ (l : List ℕ). IsWritten (seen r.area_settled) c.deciding_offset (c.deciding_byte ∷ []) l) (sym fourth) third),
        ) in
        let there = done_held s.store.area_byte s.store.area h.bodies (compacted s.library) B (h.rest.images B (bytes_are_image s.store.cells)) r.writes_all.fits (seen new) done in
        let area : Core → ℕ = λ k. k.store.area in
        let same : s.store.area ≡ new.store.area = sym (ap area r.syncs_area.new_is ∙ ap area r.writes_area.new_is ∙ ap area r.syncs_all.new_is ∙ ap area r.writes_all.new_is) in
        record { bytes = done; holds = subst (λ (n : ℕ). HoldsRecords (seen new) n (compacted s.library)) same there.holds }
