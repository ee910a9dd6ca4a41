-- How the tie between a book and the core is kept: a commit hands in its job with the pieces that gave its unit, and then takes the core's
-- steps; a compaction takes the steps of a rewrite. The core's own law says that a run can go on this way.
use Rattle.std.proofs.Common.{◌≡◌, ℕ, ◌+◌, ◌^◌, ◌<◌, ◌≤◌, length, inl, inr, Bool, true, false, List, [], ◌∷◌, ◌++◌, map, Option, Some, None, Result, Ok, Err, refl, sym, ap, ◌∙◌, subst, arith}
use Rattle.std.specs.FinMap.{FinMap, get, get-empty}
use Rattle.std.specs.Ordering.{nat_cmp}
use Rattle.cc_library.specs.Change as made
use Rattle.cc_library.specs.Body.{IsCommand, body_of}
use Rattle.cc_library.specs.Recovered.{StandFor, View}
use Rattle.cc_disk.specs.declared.disk.Disk.{Ghosts}
use Rattle.cc_disk.specs.Images.{LeavesAlone}
use Rattle.cc_journal.specs.Format.{HoldsRecords}
use Rattle.cc_core.specs.declared.command.Reply.{Reply}
use Rattle.cc_core.specs.declared.command.Reply.TheVariants as replies
use Rattle.cc_core.specs.declared.contents.Contents.{Contents}
use Rattle.cc_core.specs.declared.contents.Phase.{Phase}
use Rattle.cc_core.specs.declared.event.Event.{Event}
use Rattle.cc_core.specs.declared.event.Event.TheVariants as event
use Rattle.cc_core.specs.declared.fault.Refusal.{Refusal}
use Rattle.cc_core.specs.declared.fault.Refusal.TheVariants as refusal
use Rattle.cc_core.specs.declared.ids.ClientId.{ClientId}
use Rattle.cc_core.specs.declared.ids.WorkerId.{WorkerId}
use Rattle.cc_core.specs.declared.job.Job.{Job}
use Rattle.cc_core.specs.Rules.{Rules, HasBuilt}
use Rattle.cc_core.specs.Job.{closed, command_of}
use Rattle.cc_core.specs.Step.{IsUp, Step}
use Rattle.cc_core.specs.Run.{HandsIn, Run, Turn}
use Rattle.cc_core.specs.Turns.{BeginsSpelled, CanBeReady, IsNoSubmit, IsNoTake}
use Rattle.cc_history.specs.declared.entry.Receipt.{Receipt}
use Rattle.cc_history.specs.Calls.{Command, changes_of, reply_of}
use Rattle.cc_history.specs.declared.command.Asked.{Asked}
use Rattle.cc_history.specs.declared.entry.Entry.{Entry}
use Rattle.cc_history.specs.History.{MemberView, changes}
use Rattle.cc_history.proofs.Histories.{changes-push}
use Rattle.cc_recorded.specs.declared.fault.BookFault.{BookFault}
use Rattle.cc_recorded.specs.declared.fault.BookFault.TheVariants.{Exists, Absent, Full, DiskFault, Closed, Estranged, OutOfMemory}
use Rattle.cc_recorded.specs.Book.{BookView}
use Rattle.cc_recorded.specs.Answers.{CommitAnswers, CompactAnswers, IsLook, LookAnswers}
use Rattle.cc_recorded.specs.Disk.{ChangesDisk, CompactsDisk}
use Rattle.cc_recorded.specs.Core.{Has, IsPhase, Shows, ShowsDisk, IsCommitOf, IsRewriteOf, Steps, rewritten_steps, rewrite_failed_first, rewrite_failed_last}
use Rattle.cc_recorded.specs.Tie.{IsTied}
use Rattle.cc_recorded.proofs.Cores.{commits, nothing_behind, order_same}
use Rattle.cc_recorded.proofs.Rewriting.{compacts}
use Rattle.cc_recorded.proofs.Beginning.{begins, honest_kind, same_core}
use Rattle.cc_recorded.proofs.Committing.{look_changes_nothing}

-- ---- how a run goes on

-- what the core's law says about turns
pub record TurnLaw {P : Type 0} (rules : Rules P) (keeps : P → Type 0) : Type 0 where
  pub turn : (old new : Contents P) (event : Event P) (reply : Option Reply) → Step rules old event reply new → HandsIn keeps event → BeginsSpelled rules old event → Turn rules keeps old event new
  pub goes_on : (old mid new : Contents P) (events later : List (Event P)) → Run rules keeps old events mid → Run rules keeps mid later new → Run rules keeps old (events ++ later) new
  pub no_job : (old new : Contents P) (event : Event P) (reply : Option Reply) → Step rules old event reply new → IsNoSubmit event → (k : ℕ) → get old.jobs k ≡ None → get new.jobs k ≡ None
  pub no_work : (old new : Contents P) (event : Event P) (reply : Option Reply) → Step rules old event reply new → IsNoTake event → (k : ℕ) → get old.workers k ≡ None → get new.workers k ≡ None
  pub ready : (old : Contents P) (client : ClientId) (worker : WorkerId) (command : made.LibraryCommand) → IsUp old.core.phase → get old.jobs client.number ≡ None → get old.workers worker.number ≡ None
      → HasBuilt rules keeps command → CanBeReady rules keeps old client worker command

module _ {P : Type 0} where
  -- the kind of an event: one number each for those that hand in a job, give a worker a piece, hand in a piece, or begin a commit
  abbrev kind : Event P → ℕ
  kind (event.Submit client call request) = 0
  kind (event.Take worker client part) = 1
  kind (event.Done worker piece) = 2
  kind (event.Begin client) = 3
  kind (event.Refuse worker number) = 4
  kind event.WriteBody = 4
  kind event.SyncBody = 4
  kind event.WriteGate = 4
  kind event.SyncGate = 4
  kind event.RewriteAll = 4
  kind event.SyncAll = 4
  kind event.WriteArea = 4
  kind event.SyncArea = 4
  kind event.Fail = 4
  kind (event.Ack client) = 4
  kind (event.Crash choice) = 4
  kind event.Recover = 4

  no_submit : (e : Event P) → 3 ≤ kind e → IsNoSubmit e
  no_submit e least client call request is = let k : kind e ≡ 0 = ap kind is in absurd (omega (arith, least, k))

  no_take : (e : Event P) → 3 ≤ kind e → IsNoTake e
  no_take e least worker client part is = let k : kind e ≡ 1 = ap kind is in absurd (omega (arith, least, k))

  no_piece : (keeps : P → Type 0) (e : Event P) → 3 ≤ kind e → HandsIn keeps e
  no_piece keeps e least worker piece is = let k : kind e ≡ 2 = ap kind is in absurd (omega (arith, least, k))

  no_begin : (rules : Rules P) (old : Contents P) (e : Event P) → kind e ≡ 4 → BeginsSpelled rules old e
  no_begin rules old e plain client job command is held comes = let k : kind e ≡ 3 = ap kind is in absurd (omega (arith, plain, k))

module _ {P : Type 0} (rules : Rules P) (keeps : P → Type 0) (law : TurnLaw rules keeps) where
  -- The command of the job can be spelled if its record fits; and if no device step has failed, the state's area is at most the greatest
  -- area.
  pub record CanSpell (old : Contents P) (c : made.LibraryCommand) : Type 0 where
    pub command : length (body_of c) < 2 ^ 32 → IsCommand c
    pub area : closed old.core.phase ≡ None → old.core.store.area ≤ 2 ^ 30

  -- if the command of a job can be spelled, `BeginsSpelled` holds of the job's Begin
  spelled : (old : Contents P) (client : ClientId) (c : made.LibraryCommand) → Has rules old client c → CanSpell old c → BeginsSpelled rules old (event.Begin client)
  spelled old client c has can other job command is held comes open' fits =
      let same : client ≡ other = cc in
      let both : Some job ≡ Some has.its = sym held ∙ ap (λ (d : ClientId). get old.jobs d.number) (sym same) ∙ has.held in
      let its : job ≡ has.its = cc in
      let gives : Ok command ≡ Ok c = sym comes ∙ ap (λ (j : Job P). command_of rules j j.request) its ∙ has.gives in
      let it : c ≡ command = cc in
      let few = can.area open' in
      subst IsCommand it (can.command (subst (λ (d : made.LibraryCommand). length (body_of d) < 2 ^ 32) (sym it) (omega (arith, fits, few))))

  -- these events lead on, and give no client a job and no worker a piece
  pub record LeadsOn (old : Contents P) (events : List (Event P)) (new : Contents P) : Type 0 where
    pub run : Run rules keeps old events new
    pub jobs : (k : ℕ) → get old.jobs k ≡ None → get new.jobs k ≡ None
    pub workers : (k : ℕ) → get old.workers k ≡ None → get new.workers k ≡ None

  one_on : (old : Contents P) (e : Event P) (reply : Option Reply) (mid : Contents P) (events : List (Event P)) (new : Contents P) → 3 ≤ kind e → BeginsSpelled rules old e → Step rules old e reply mid → LeadsOn mid events new → LeadsOn old (e ∷ events) new
  one_on old e reply mid events new least begins step rest = record {
    run = (mid, (law.turn old mid e reply step (no_piece keeps e least) begins, rest.run));
    jobs = λ k none. rest.jobs k (law.no_job old mid e reply step (no_submit e least) k none);
    workers = λ k none. rest.workers k (law.no_work old mid e reply step (no_take e least) k none);
  }

  abbrev AllPlain : List (Event P × Option Reply) → Type 0
  AllPlain [] = Unit {0}
  AllPlain (one ∷ others) = (kind one.0 ≡ 4) × AllPlain others

  abbrev events_of : List (Event P × Option Reply) → List (Event P)
  events_of steps = map (λ (one : Event P × Option Reply). one.0) steps

  all_on : (old : Contents P) (steps : List (Event P × Option Reply)) (new : Contents P) → AllPlain steps → Steps rules old steps new → LeadsOn old (events_of steps) new
  all_on old [] new plain is = subst (λ (s : Contents P). LeadsOn old [] s) (sym is) (record { run = refl; jobs = λ k none. none; workers = λ k none. none })
  all_on old (one ∷ others) new plain is =
      one_on old one.0 one.1 is.0 (events_of others) new (omega (arith, plain.0)) (no_begin rules old one.0 plain.0) is.1 (all_on is.0 others new plain.1 is.2)

  -- if the first step begins a commit, and the others are plain, these steps lead on
  begun_steps : (old : Contents P) (client : ClientId) (reply : Option Reply) (others : List (Event P × Option Reply)) (new : Contents P) (c : made.LibraryCommand) → Has rules old client c → CanSpell old c → AllPlain others
      → Steps rules old ((event.Begin client, reply) ∷ others) new → LeadsOn old (event.Begin client ∷ events_of others) new
  begun_steps old client reply others new c has can plain is =
      one_on old (event.Begin client) reply is.0 (events_of others) new (omega arith) (spelled old client c has can) is.1 (all_on is.0 others new plain is.2)

-- ---- the tie

phase_up : (closed : Bool) (failed : List made.LibraryCommand) (phase : Phase) → IsPhase closed failed phase → IsUp phase
phase_up false failed phase is = subst IsUp (sym is.1) tt
phase_up true [] phase is = subst IsUp (sym is) tt
phase_up true (c ∷ failed) phase is = subst IsUp (sym is.2) tt

not_open : (failed : List made.LibraryCommand) (phase : Phase) → IsPhase true failed phase → closed phase ≡ None → ⊥
not_open [] phase is open' = let h : ◌≡◌ {A = Option Refusal} (Some refusal.Closed) None = ap closed (sym is) ∙ open' in cc
not_open (c ∷ failed) phase is open' = let h : ◌≡◌ {A = Option Refusal} (Some refusal.Closed) None = ap closed (sym is.2) ∙ open' in cc

-- how the disk's bytes change does not depend on whether the kind of disk calls itself honest
changes_too : {Disk T : Type 0} (D : Ghosts Disk) (command : made.LibraryCommand) (old new : View Disk) (result : Result T BookFault) → ChangesDisk D command old new result → ChangesDisk (honest_kind D) command old new result
changes_too D command old new (Ok done) is = is
changes_too D command old new (Err DiskFault) is = is
changes_too D command old new (Err (Exists receipt)) is = is
changes_too D command old new (Err (Absent receipt)) is = is
changes_too D command old new (Err Full) is = is
changes_too D command old new (Err Closed) is = is
changes_too D command old new (Err (Estranged number found)) is = is
changes_too D command old new (Err OutOfMemory) is = is

compacts_too : {Disk T : Type 0} (D : Ghosts Disk) (old new : View Disk) (result : Result T BookFault) → CompactsDisk D old new result → CompactsDisk (honest_kind D) old new result
compacts_too D old new (Ok done) is = is
compacts_too D old new (Err DiskFault) is = is
compacts_too D old new (Err (Exists receipt)) is = is
compacts_too D old new (Err (Absent receipt)) is = is
compacts_too D old new (Err Full) is = is
compacts_too D old new (Err Closed) is = is
compacts_too D old new (Err (Estranged number found)) is = is
compacts_too D old new (Err OutOfMemory) is = is

module _ {Disk P : Type 0} (rules : Rules P) (keeps : P → Type 0) (D : Ghosts Disk) where
  abbrev Tied : BookView Disk → Type 0
  Tied book = IsTied rules keeps D book

  abbrev Shown : BookView Disk → Contents P → Type 0
  Shown book s = Shows (honest_kind D) book s

  same_book : (before after_it : BookView Disk) → Tied before → after_it ≡ before → Tied after_it
  same_book before after_it tied same = subst Tied (sym same) tied

  -- ---- a look-up, which changes nothing that is shown

  shown_same : (before after_it : BookView Disk) (s : Contents P) → Shown before s → after_it.library ≡ before.library → after_it.failed ≡ before.failed → after_it.base ≡ before.base → changes after_it.history ≡ changes before.history → Shown after_it s
  shown_same before after_it s shows library failed base same = record {
    library = shows.library ∙ ap (λ (v : View Disk). v.units) (sym library);
    order = order_same before after_it s.core.order s.core.acknowledged shows.order base same failed;
    phase = subst (λ (l : List made.LibraryCommand). IsPhase after_it.library.closed l s.core.phase) (sym failed) (subst (λ (v : View Disk). IsPhase v.closed before.failed s.core.phase) (sym library) shows.phase);
    disk = subst (λ (v : View Disk). ShowsDisk (honest_kind D) v s.core.store) (sym library) shows.disk;
  }

  pub look_tied : (before after_it : BookView Disk) (old new : MemberView) (asked : Asked) (result : Result Receipt BookFault) → IsLook asked → LookAnswers before old asked after_it new result → Tied before → Tied after_it
  look_tied before after_it old new asked (Ok receipt) look (recorded, library, failed) tied =
      let same : changes after_it.history ≡ changes before.history =
      ap changes recorded.history ∙ changes-push before.history receipt.entry
      ∙ ap (λ (e : Entry). changes before.history ++ changes_of e.asked e.reply) recorded.answered.entry
      ∙ ap (λ (l : List made.LibraryCommand). changes before.history ++ l) (look_changes_nothing asked (reply_of before.library.units asked) look) ∙ nothing_behind (changes before.history) in
      record {
        first = tied.first;
        opened = tied.opened;
        begun = tied.begun ∙ sym recorded.base;
        events = tied.events;
        now = tied.now;
        run = tied.run;
        shows = shown_same before after_it tied.now tied.shows library failed recorded.base same;
        clients = tied.clients;
        fresh = tied.fresh;
        idle = tied.idle;
      }
  look_tied before after_it old new asked (Err (Estranged number found)) look (_, same, _) tied = same_book before after_it tied same
  look_tied before after_it old new asked (Err OutOfMemory) look (same, _) tied = same_book before after_it tied same
  look_tied before after_it old new asked (Err (Exists receipt)) look answers tied = absurd answers
  look_tied before after_it old new asked (Err (Absent receipt)) look answers tied = absurd answers
  look_tied before after_it old new asked (Err Full) look answers tied = absurd answers
  look_tied before after_it old new asked (Err Closed) look answers tied = absurd answers
  look_tied before after_it old new asked (Err DiskFault) look answers tied = absurd answers

  -- ---- the opening

  pub opening_tied : (book : BookView Disk) → book.history ≡ [] → book.failed ≡ [] → book.library.closed ≡ false → book.base ≡ book.library.units → StandFor book.library.bodies book.library.units
      → HoldsRecords (D.seen book.library.disk) book.library.area book.library.bodies → LeavesAlone (D.seen book.library.disk) (D.may_leave book.library.disk) → Tied book
  opening_tied book none none_failed idle same stand holds alone =
      let made = begins {P = P} D book none none_failed idle same stand holds alone in
      record {
        first = made.0;
        opened = made.2;
        begun = made.1.library ∙ sym same;
        events = [];
        now = made.0;
        run = refl;
        shows = made.1;
        clients = 0;
        fresh = λ k less. ap (λ (m : FinMap nat_cmp (Job P)). get m k) made.2.jobs ∙ get-empty nat_cmp k;
        idle = ap (λ (w : FinMap nat_cmp _). get w 0) made.2.workers ∙ get-empty nat_cmp 0;
      }

module _ {Disk P : Type 0} (rules : Rules P) (keeps : P → Type 0) (law : TurnLaw rules keeps) (D : Ghosts Disk) where
  abbrev TiedSo : BookView Disk → Type 0
  TiedSo book = IsTied rules keeps D book

  abbrev ShownBy : BookView Disk → Contents P → Type 0
  ShownBy book s = Shows (honest_kind D) book s

  -- if the run goes on to a state that the book shows afterwards, the book is still tied
  goes_on : (before after_it : BookView Disk) (tied : TiedSo before) → after_it.base ≡ before.base → (events : List (Event P)) (new : Contents P) → Run rules keeps tied.now events new → ShownBy after_it new
      → (clients : ℕ) → ((k : ℕ) → clients ≤ k → get new.jobs k ≡ None) → get new.workers 0 ≡ None → TiedSo after_it
  goes_on before after_it tied base events new run shows clients fresh idle = record {
    first = tied.first;
    opened = tied.opened;
    begun = tied.begun ∙ sym base;
    events = tied.events ++ events;
    now = new;
    run = law.goes_on tied.first tied.now new tied.events events tied.run run;
    shows = shows;
    clients = clients;
    fresh = fresh;
    idle = idle;
  }

  -- the worker that hands in pieces, and the client of the next job
  abbrev worker : WorkerId
  worker = record { number = 0 }

  abbrev next : (book : BookView Disk) → TiedSo book → ClientId
  next book tied = record { number = tied.clients }

  abbrev IsReadyFor : (book : BookView Disk) → TiedSo book → made.LibraryCommand → Type 0
  IsReadyFor book tied c = CanBeReady rules keeps tied.now (next book tied) worker c

  -- while no device call has failed, the disk's area is within its limits
  area_small : (book : BookView Disk) (s : Contents P) → Shows (honest_kind D) book s → closed s.core.phase ≡ None → s.core.store.area ≤ 2 ^ 30
  area_small book s shows open' = by book.library.closed refl shows.phase
    where
      by : (b : Bool) → book.library.closed ≡ b → IsPhase b book.failed s.core.phase → s.core.store.area ≤ 2 ^ 30
      by false e is = let most = (shows.disk.holds refl e).0.is_area.most in omega (arith, most, shows.disk.area)
      by true e is = absurd (not_open book.failed s.core.phase is open')

  -- if a commit begins and goes on by plain steps to a state that the book shows, the tie goes on
  begun_on : (before after_it : BookView Disk) (tied : TiedSo before) → after_it.base ≡ before.base → (c : made.LibraryCommand) → (length (body_of c) < 2 ^ 32 → IsCommand c) → (ready_for : IsReadyFor before tied c)
      → (reply : Option Reply) (others : List (Event P × Option Reply)) → AllPlain rules keeps law others → (new : Contents P)
      → Steps rules ready_for.new ((event.Begin (next before tied), reply) ∷ others) new → ShownBy after_it new → TiedSo after_it
  begun_on before after_it tied base c can ready_for reply others plain new steps shows =
      let client = next before tied in
      let has : Has rules ready_for.new client c = record { its = ready_for.job; held = ready_for.held; there = ready_for.there; gives = ready_for.comes } in
      let shown = same_core (honest_kind D) before tied.now ready_for.new ready_for.core tied.shows in
      let spelling : CanSpell rules keeps law ready_for.new c = record { command = can; area = area_small before ready_for.new shown } in
      let on = begun_steps rules keeps law ready_for.new client reply others new c has spelling plain steps in
      let later = event.Begin client ∷ events_of rules keeps law others in
      goes_on before after_it tied base (ready_for.events ++ later) new (law.goes_on tied.now ready_for.new new ready_for.events later ready_for.run on.run) shows (tied.clients + 1)
      (λ k less. on.jobs k (ready_for.others k (λ is. absurd (omega (arith, less, is))) ∙ tied.fresh k (omega (arith, less)))) (on.workers 0 ready_for.idle)

  base_same : (before after_it : BookView Disk) (old new : MemberView) (command : Command) (result : Result Receipt BookFault) → CommitAnswers D.failures before old command after_it new result → after_it.base ≡ before.base
  base_same before after_it old new command (Ok receipt) answers = answers.0.recorded.base
  base_same before after_it old new command (Err (Exists receipt)) answers = answers.recorded.base
  base_same before after_it old new command (Err (Absent receipt)) answers = answers.recorded.base
  base_same before after_it old new command (Err Closed) (_, same, _) = ap (λ (b : BookView Disk). b.base) same
  base_same before after_it old new command (Err (Estranged number found)) (_, _, same, _) = ap (λ (b : BookView Disk). b.base) same
  base_same before after_it old new command (Err Full) (_, _, same, _) = ap (λ (b : BookView Disk). b.base) same
  base_same before after_it old new command (Err DiskFault) (_, _, _, same, _) = ap (λ (b : BookView Disk). b.base) same
  base_same before after_it old new command (Err OutOfMemory) (_, same, _) = ap (λ (b : BookView Disk). b.base) same

  -- if the commit is a commit of the core, the tie goes on
  commit_on : (before after_it : BookView Disk) (old new : MemberView) (command : Command) (result : Result Receipt BookFault) (tied : TiedSo before)
      → CommitAnswers D.failures before old command after_it new result → (length (body_of command) < 2 ^ 32 → IsCommand command) → (ready_for : IsReadyFor before tied command) → after_it.base ≡ before.base
      → IsCommitOf rules (ShownBy after_it) ready_for.new (next before tied) result → TiedSo after_it
  commit_on before after_it old new command (Ok receipt) tied answers can ready_for base made =
      begun_on before after_it tied base command can ready_for None
      ((event.WriteBody, None) ∷ (event.SyncBody, None) ∷ (event.WriteGate, None) ∷ (event.SyncGate, None) ∷ (event.Ack (next before tied), Some replies.Done) ∷ [])
      (refl, (refl, (refl, (refl, (refl, tt))))) made.0 made.1 made.2
  commit_on before after_it old new command (Err (Exists receipt)) tied answers can ready_for base made =
      begun_on before after_it tied base command can ready_for (Some (replies.Refused refusal.Exists)) [] tt made.0 made.1 made.2
  commit_on before after_it old new command (Err (Absent receipt)) tied answers can ready_for base made =
      begun_on before after_it tied base command can ready_for (Some (replies.Refused refusal.Absent)) [] tt made.0 made.1 made.2
  commit_on before after_it old new command (Err Closed) tied answers can ready_for base made =
      begun_on before after_it tied base command can ready_for (Some (replies.Refused refusal.Closed)) [] tt made.0 made.1 made.2
  commit_on before after_it old new command (Err Full) tied answers can ready_for base made =
      begun_on before after_it tied base command can ready_for (Some (replies.Refused refusal.Full)) [] tt made.0 made.1 made.2
  commit_on before after_it old new command (Err DiskFault) tied answers can ready_for base made =
      elim made.1 [
        | inl steps ↦ begun_on before after_it tied base command can ready_for None ((event.Fail, Some (replies.Refused refusal.DiskFault)) ∷ []) (refl, tt) made.0 steps made.2
        | inr steps ↦ begun_on before after_it tied base command can ready_for None ((event.WriteBody, None) ∷ (event.SyncBody, None) ∷ (event.Fail, Some (replies.Refused refusal.DiskFault)) ∷ [])
            (refl, (refl, (refl, tt))) made.0 steps made.2
      ]
  commit_on before after_it old new command (Err (Estranged number found)) tied (_, _, same, _) can ready_for base made = same_book rules keeps D before after_it tied same
  commit_on before after_it old new command (Err OutOfMemory) tied (_, same, _) can ready_for base made = same_book rules keeps D before after_it tied same

  pub commit_tied : ((disk : Disk) → D.may_leave disk (D.seen disk)) → (before after_it : BookView Disk) (old new : MemberView) (command : Command) (result : Result Receipt BookFault)
      → CommitAnswers D.failures before old command after_it new result → ChangesDisk D command before.library after_it.library result
      → (length (body_of command) < 2 ^ 32 → IsCommand command) → HasBuilt rules keeps command → TiedSo before → TiedSo after_it
  commit_tied now before after_it old new command result answers disk can built tied =
      let up = phase_up before.library.closed before.failed tied.now.core.phase tied.shows.phase in
      let ready_for = law.ready tied.now (next before tied) worker command up (tied.fresh tied.clients (omega arith)) tied.idle built in
      let has : Has rules ready_for.new (next before tied) command = record { its = ready_for.job; held = ready_for.held; there = ready_for.there; gives = ready_for.comes } in
      let shows = same_core (honest_kind D) before tied.now ready_for.new ready_for.core tied.shows in
      commit_on before after_it old new command result tied answers can ready_for (base_same before after_it old new command result answers)
      (commits rules (honest_kind D) (λ d h. now d) before after_it old new command result ready_for.new (next before tied) answers (λ h. changes_too D command before.library after_it.library result disk) shows has)

  -- ---- a rewrite

  rewritten_on : (before after_it : BookView Disk) (tied : TiedSo before) → after_it.base ≡ before.base → (steps : List (Event P × Option Reply)) → AllPlain rules keeps law steps → (new : Contents P)
      → Steps rules tied.now steps new → ShownBy after_it new → TiedSo after_it
  rewritten_on before after_it tied base steps plain new is shows =
      let on = all_on rules keeps law tied.now steps new plain is in
      goes_on before after_it tied base (events_of rules keeps law steps) new on.run shows tied.clients (λ k less. on.jobs k (tied.fresh k less)) (on.workers 0 tied.idle)

  rewrite_on : (before after_it : BookView Disk) (result : Result (Unit {0}) BookFault) (tied : TiedSo before) → CompactAnswers D.failures before after_it result
      → IsRewriteOf rules (ShownBy after_it) tied.now result → TiedSo after_it
  rewrite_on before after_it (Ok done) tied (_, _, _, is) made =
      rewritten_on before after_it tied (ap (λ (b : BookView Disk). b.base) is) rewritten_steps (refl, (refl, (refl, (refl, tt)))) made.0 made.1 made.2
  rewrite_on before after_it (Err DiskFault) tied (_, _, _, is) made =
      elim made.1 [
        | inl steps ↦ rewritten_on before after_it tied (ap (λ (b : BookView Disk). b.base) is) rewrite_failed_first (refl, (refl, tt)) made.0 steps made.2
        | inr steps ↦ rewritten_on before after_it tied (ap (λ (b : BookView Disk). b.base) is) rewrite_failed_last (refl, (refl, (refl, tt))) made.0 steps made.2
      ]
  rewrite_on before after_it (Err Closed) tied (_, same) made = same_book rules keeps D before after_it tied same
  rewrite_on before after_it (Err Full) tied (_, _, same) made = same_book rules keeps D before after_it tied same
  rewrite_on before after_it (Err OutOfMemory) tied (_, same) made = same_book rules keeps D before after_it tied same
  rewrite_on before after_it (Err (Exists receipt)) tied answers made = absurd answers
  rewrite_on before after_it (Err (Absent receipt)) tied answers made = absurd answers
  rewrite_on before after_it (Err (Estranged number found)) tied answers made = absurd answers

  pub compact_tied : (before after_it : BookView Disk) (result : Result (Unit {0}) BookFault)
      → CompactAnswers D.failures before after_it result → CompactsDisk D before.library after_it.library result → TiedSo before → TiedSo after_it
  compact_tied before after_it result answers disk tied =
      rewrite_on before after_it result tied answers (compacts rules (honest_kind D) before after_it result tied.now answers (λ h. compacts_too D before.library after_it.library result disk) tied.shows)
