-- If the conditions of an event hold, the event has a step, to the state that the step names. The file also shows when a
-- handler's answer is right for its event.
use Rattle.std.proofs.Common.{◌≡◌, ◌⊎◌, inl, inr, ℕ, ◌+◌, ◌≤◌, refl, sym, subst, ap, ◌∙◌, Option, Some, None, arith, length, List}
use Rattle.std.specs.Prelude.{slice_get, IsTrue, OnOk, OnErr, IsErr, IsErrAnd, IsErrOf, is_err, true, false, ◌↔◌, Result, Ok, Err, ◌++◌, ◌∷◌, []}
use Rattle.std.specs.FinMap.{get, insert, remove, empty}
use Rattle.std.proofs.lemmas.List.{length-append, length-take-le}
use Rattle.cc_journal.specs.Commit.{Commit, behind_gate}
use Rattle.cc_journal.specs.Format.{records, room_of}
use Rattle.cc_disk.specs.Model.{written}
use Rattle.cc_library.specs.Change.{LibraryCommand}
use Rattle.cc_library.specs.Apply.{after}
use Rattle.cc_library.specs.Body.{body_of}
use Rattle.cc_library.specs.Compact.{compacted}
use Rattle.cc_core.specs.Request.{Request}
use Rattle.cc_library.specs.declared.command.Change.TheVariants as request
use Rattle.cc_core.specs.declared.command.Numbered.{Numbered}
use Rattle.cc_core.specs.declared.command.Reply.{Reply}
use Rattle.cc_core.specs.declared.command.Reply.TheVariants as replies
use Rattle.cc_core.specs.declared.job.Job.{Job}
use Rattle.cc_core.specs.declared.job.Progress.TheVariants.{Waiting, Taken}
use Rattle.cc_core.specs.declared.contents.Contents.{Contents}
use Rattle.cc_core.specs.declared.contents.Core.{Core}
use Rattle.cc_core.specs.declared.contents.Due.{Due}
use Rattle.cc_core.specs.declared.contents.Due.TheVariants as due
use Rattle.cc_core.specs.declared.contents.RewriteDue.{RewriteDue}
use Rattle.cc_core.specs.declared.contents.RewriteDue.TheVariants as left
use Rattle.cc_core.specs.declared.contents.Phase.{Phase}
use Rattle.cc_core.specs.declared.contents.Phase.TheVariants.{Idle, Committing, Rewriting, Failed, Crashed}
use Rattle.cc_core.specs.declared.event.Event.{Event}
use Rattle.cc_core.specs.declared.event.Event.TheVariants as event
use Rattle.cc_core.specs.declared.fault.CoreFault.{CoreFault}
use Rattle.cc_core.specs.declared.fault.CoreFault.TheVariants as faults
use Rattle.cc_core.specs.declared.fault.Refusal.{Refusal}
use Rattle.cc_core.specs.declared.fault.Refusal.TheVariants as refusal
use Rattle.cc_core.specs.declared.ids.CallId.{CallId}
use Rattle.cc_core.specs.declared.ids.ClientId.{ClientId}
use Rattle.cc_core.specs.declared.ids.PartIndex.{PartIndex}
use Rattle.cc_core.specs.declared.ids.WorkerId.{WorkerId}
use Rattle.cc_core.specs.Rules.{Rules}
use Rattle.cc_core.specs.Job.{planned, IsPlanned, with_piece, all_there, verdict}
use Rattle.cc_core.specs.StoreState.{StoreState}
use Rattle.cc_core.specs.Store.{stepped, due_after, FailsTo, first_written, rewrite_of, RewriteFailsTo, crashed_store, gate_of, with_cells}
use Rattle.cc_core.specs.Step.{Step, IsImpossible, IsUp, IsFree, Submits, Takes, BeginsCommit, Begun, Advances, Fails, Acknowledges, RewritesAll, RewriteFails, Crashes, Reopens, StepsCore, EndsJob, EndsAll, FailsJob, FailsStep, jobs_begun, ticked, numbered_now}
use Rattle.cc_core.specs.Run.{PutsCommand}
use Rattle.cc_core.specs.internal.Answers.{Answers}
use Rattle.cc_core.specs.internal.Ready.{IsRecoverable}
use Rattle.cc_core.proofs.Orders.{prefix_longest, some_prefix}

-- if a command is in commit, the client and the step that is due may be replaced with equal ones
pub committing_is : (phase : Phase) (a b : ClientId) (numbered : Numbered) (d e : Due) → phase ≡ Committing a numbered d → d ≡ e → a.number ≡ b.number → phase ≡ Committing b numbered e
committing_is phase a b numbered d e is due_is client_is = is ∙ (λ i. Committing (record { number = client_is i }) numbered (due_is i))

-- ---- steps of the core

pub advances : (due : Due) (old : Core) (client : ClientId) (numbered : Numbered) → old.phase ≡ Committing client numbered due
    → (reply : Option Reply) × (new : Core) × Advances due old reply new
advances due old client numbered committing = (
  None,
  record old { store = stepped due numbered.command old.store; phase = Committing client numbered (due_after due) },
  record { client = client; numbered = numbered; committing = committing; silent = refl; new_is = refl },
)

fails_to : (old : Core) (client : ClientId) (numbered : Numbered) (due : Due) (store : StoreState) → old.phase ≡ Committing client numbered due → FailsTo due numbered.command old.store store
    → (reply : Option Reply) × (new : Core) × Fails client old reply new
fails_to old client numbered due store committing failed = (
  Some (replies.Refused refusal.DiskFault),
  record old { store = store; phase = Failed (Some numbered) },
  record { numbered = numbered; due = due; store = store; committing = committing; failed = failed; told = refl; new_is = refl },
)

-- each device step that is due can fail: a failed write may have left exactly what it was meant to write
pub fails : (old : Core) (client : ClientId) (numbered : Numbered) (now : Due) → old.phase ≡ Committing client numbered now → (now ≡ due.Acknowledge → ⊥)
    → (reply : Option Reply) × (new : Core) × Fails client old reply new
fails old client numbered due.WriteBody committing device =
    let bytes = behind_gate (body_of numbered.command) in
    fails_to old client numbered due.WriteBody (with_cells old.store (written old.store.cells (gate_of old.store + 1) bytes)) committing (bytes, refl, refl)
fails old client numbered due.SyncBody committing device = fails_to old client numbered due.SyncBody old.store committing refl
fails old client numbered due.WriteGate committing device =
    fails_to old client numbered due.WriteGate (with_cells old.store (written old.store.cells (gate_of old.store) (0 ∷ []))) committing (0, refl)
fails old client numbered due.SyncGate committing device = fails_to old client numbered due.SyncGate old.store committing refl
fails old client numbered due.Acknowledge committing device = absurd (device refl)

pub acknowledges : (old : Core) (client : ClientId) (numbered : Numbered) → old.phase ≡ Committing client numbered due.Acknowledge
    → (reply : Option Reply) × (new : Core) × Acknowledges client old reply new
acknowledges old client numbered committing = (
  Some replies.Done,
  record old { library = after old.library numbered.command; acknowledged = old.acknowledged ++ numbered ∷ []; phase = Idle },
  record { numbered = numbered; committing = committing; done = refl; new_is = refl },
)

pub rewrites_all : (old : Core) → old.phase ≡ Idle → room_of (compacted old.library) ≤ old.store.area → (reply : Option Reply) × (new : Core) × RewritesAll old reply new
rewrites_all old idle fits =
    let c = rewrite_of old.store old.library in
    (None, record old { store = first_written c old.store; phase = Rewriting c left.SyncAll }, record { idle = idle; fits = fits; silent = refl; new_is = refl })

pub rewrite_fails : (old : Core) (commit : Commit) (due : RewriteDue) (store : StoreState) → old.phase ≡ Rewriting commit due → RewriteFailsTo due commit old.store store
    → (new : Core) → new ≡ record old { store = store; phase = Failed None } → RewriteFails old None new
rewrite_fails old commit due store rewriting failed new is = record { commit = commit; due = due; store = store; rewriting = rewriting; failed = failed; silent = refl; new_is = is }

pub crashes : (choice : List ℕ) (old : Core) → (reply : Option Reply) × (new : Core) × Crashes choice old reply new
crashes choice old = (None, record old { library = empty; phase = Crashed; store = crashed_store choice old.store }, record { silent = refl; new_is = refl })

pub reopens : (old : Core) → old.phase ≡ Crashed → IsRecoverable old.store old.order → (reply : Option Reply) × (new : Core) × Reopens old reply new
reopens old crashed r =
    let kept = some_prefix r.library old.order in (
      None,
      record old { library = r.library; order = kept.0; phase = Idle; store = record old.store { area_byte = r.holds.holds.area_byte; used = length (records r.bodies) } },
      record {
        crashed = crashed;
        bodies = r.bodies;
        library = r.library;
        kept = kept.0;
        holds = r.holds.holds;
        stand = r.stand;
        longest = prefix_longest r.library old.order kept.0 r.accepted r.known kept.1;
        silent = refl;
        new_is = refl;
      },
    )

begun : (old : Core) (client : ClientId) (v : Result LibraryCommand Refusal) → (reply : Option Reply) × (new : Core) × Begun old client v reply new
begun old client (Ok command) = (
  None,
  record (ticked old) { order = old.order ++ numbered_now old command ∷ []; phase = Committing client (numbered_now old command) due.WriteBody },
  (refl, refl),
)
begun old client (Err refused) = (Some (replies.Refused refused), ticked old, (refl, refl))

-- if a result is an error, and an error implies `X`, then `X` is true
pub where_refused : {T E X : Type 0} (r : Result T E) → OnErr r X → true ≡ is_err r → X
where_refused (Ok value) kept err = absurd (cc)
where_refused (Err fault) kept err = kept

-- if a result is Ok, and Ok implies `X`, then `X` is true
pub where_done : {T E X : Type 0} (r : Result T E) → OnOk r X → false ≡ is_err r → X
where_done (Ok value) done err = done
where_done (Err fault) done err = absurd (cc)

-- if memory ran out, everything is as before, and the event has a step, then the answer is right for the event
pub memory_answers : {S : Type 0} (step : Option Reply → S → Type 0) (result : Result (Option Reply) CoreFault) (old new : S) → IsErr result → IsErrAnd result (λ fault. fault ≡ faults.OutOfMemory)
    → (reply : Option Reply) × (after : S) × step reply after → new ≡ old → Answers step result old new
memory_answers step (Ok reply) old new err is some same = absurd (cc)
memory_answers step (Err fault) old new err is some same = (tt, λ e reply after s. absurd (cc), λ _. some, same)

not_longer : (old new : Core) → length new.order ≤ length old.order → PutsCommand old new
not_longer old new le numbered is = absurd (omega (arith, le, ap length is, length-append old.order (numbered ∷ [])))

same_order : (old new : Core) → new.order ≡ old.order → PutsCommand old new
same_order old new is = not_longer old new (omega (arith, ap length is))

committing_apart : {a : ClientId} {n : Numbered} {d : Due} {c : Commit} {e : RewriteDue} → Committing a n d ≡ Rewriting c e → ⊥
committing_apart is = absurd (cc)

-- if the second of two steps is impossible, an answer for the first one is an answer for "one of the two"
pub answers_first : {S : Type 0} (A B : Option Reply → S → Type 0) (result : Result (Option Reply) CoreFault) (old new : S) → ((reply : Option Reply) (after : S) → B reply after → ⊥)
    → Answers A result old new → Answers (λ reply after. A reply after ⊎ B reply after) result old new
answers_first A B (Ok reply) old new none a = (
  inl a.0,
  λ e other after s. elim s [ inl first ↦ a.1 e other after first | inr second ↦ none other after second ],
  λ e. let s = a.2 e in (s.0, s.1, inl s.2),
  tt,
)
answers_first A B (Err fault) old new none a = (
  tt,
  λ e other after s. elim s [ inl first ↦ a.1 e other after first | inr second ↦ none other after second ],
  λ e. let s = a.2 e in (s.0, s.1, inl s.2),
  a.3,
)

pub answers_second : {S : Type 0} (A B : Option Reply → S → Type 0) (result : Result (Option Reply) CoreFault) (old new : S) → ((reply : Option Reply) (after : S) → A reply after → ⊥)
    → Answers B result old new → Answers (λ reply after. A reply after ⊎ B reply after) result old new
answers_second A B (Ok reply) old new none a = (
  inr a.0,
  λ e other after s. elim s [ inl first ↦ none other after first | inr second ↦ a.1 e other after second ],
  λ e. let s = a.2 e in (s.0, s.1, inr s.2),
  tt,
)
answers_second A B (Err fault) old new none a = (
  tt,
  λ e other after s. elim s [ inl first ↦ none other after first | inr second ↦ a.1 e other after second ],
  λ e. let s = a.2 e in (s.0, s.1, inr s.2),
  a.3,
)

-- ---- steps of clients and workers

module _ {P : Type 0} where
  -- each request has a plan, if each source has one
  planned_some : (rules : Rules P) → ((source : List ℕ) → (plan : Result ℕ ℕ) × rules.plan source plan) → (asked : Request) → (plan : Result ℕ ℕ) × IsPlanned rules asked plan
  planned_some rules plans (request.Add name source) = plans source
  planned_some rules plans (request.Replace name source) = plans source
  planned_some rules plans (request.Withdraw name) = (Ok 0, refl)

  pub submits : (rules : Rules P) → ((source : List ℕ) → (plan : Result ℕ ℕ) × rules.plan source plan) → (old : Contents P) (client : ClientId) (call : CallId) (asked : Request) → IsUp old.core.phase → get old.jobs client.number ≡ None
      → (reply : Option Reply) × (new : Contents P) × Submits rules client call asked old reply new
  submits rules plans old client call asked up free =
      let so = planned_some rules plans asked in
      (None, record old { jobs = insert old.jobs client.number (planned call asked so.0) }, record { up = up; free = free; plan = so.0; planned_so = so.1; silent = refl; new_is = refl })

  pub takes : (old : Contents P) (worker : WorkerId) (client : ClientId) (part : PartIndex) (job : Job P) → get old.workers worker.number ≡ None → get old.jobs client.number ≡ Some job
      → slice_get job.pieces part.index ≡ Some Waiting → (reply : Option Reply) × (new : Contents P) × Takes worker client part old reply new
  takes old worker client part job idle held waits = (
    None,
    record old { jobs = insert old.jobs client.number (with_piece job part Taken); workers = insert old.workers worker.number (record { client = client; part = part }) },
    record { job = job; idle = idle; held = held; waits = waits; silent = refl; new_is = refl },
  )

  pub begins : (rules : Rules P) (old : Contents P) (client : ClientId) (job : Job P) → IsFree old.core.phase → get old.jobs client.number ≡ Some job → IsTrue (all_there job.pieces)
      → (reply : Option Reply) × (new : Contents P) × BeginsCommit rules client old reply new
  begins rules old client job free held ready =
      let v = verdict rules old.core.phase old.core.library old.core.store job in
      let b = begun old.core client v in
      (b.0, record old { core = b.1; jobs = jobs_begun old.jobs client v }, record { job = job; free = free; held = held; ready = ready; begun = b.2; jobs = refl; workers = refl })

  -- ---- how a handler answers

  -- if an answer is right for a step of the core, and jobs and workers stay the same, it is right for the whole event
  pub core_answers : (step : Core → Option Reply → Core → Type 0) (old new : Contents P) (result : Result (Option Reply) CoreFault) → Answers (step old.core) result old.core new.core
      → new.jobs ≡ old.jobs → new.workers ≡ old.workers → Answers (StepsCore step old) result old new
  core_answers step old new (Ok reply) a jobs workers = (
    record { core_step = a.0; jobs = jobs; workers = workers },
    λ e other after s. a.1 e other after.core s.core_step,
    λ e. let s = a.2 e in (s.0, record { core = s.1; jobs = old.jobs; workers = old.workers }, record { core_step = s.2; jobs = refl; workers = refl }),
    tt,
  )
  core_answers step old new (Err fault) a jobs workers = (
    tt,
    λ e other after s. a.1 e other after.core s.core_step,
    λ e. let s = a.2 e in (s.0, record { core = s.1; jobs = old.jobs; workers = old.workers }, record { core_step = s.2; jobs = refl; workers = refl }),
    λ i. record { core = a.3 i; jobs = jobs i; workers = workers i },
  )

  -- if a refusal is right for a step of the core, and jobs and workers stay the same, it is right for the event that also
  -- ends a job
  pub ends_refused : (client : ClientId) (step : Core → Option Reply → Core → Type 0) (old new : Contents P) (fault : CoreFault) → Answers (step old.core) (Err fault) old.core new.core
      → new.jobs ≡ old.jobs → new.workers ≡ old.workers → Answers (EndsJob client step old) (Err fault) old new
  ends_refused client step old new fault a jobs workers = (
    tt,
    λ e other after s. a.1 e other after.core s.core_step,
    λ e. let s = a.2 e in (s.0, record { core = s.1; jobs = remove old.jobs client.number; workers = old.workers }, record { core_step = s.2; jobs = refl; workers = refl }),
    λ i. record { core = a.3 i; jobs = jobs i; workers = workers i },
  )

  pub ends_all_refused : (step : Core → Option Reply → Core → Type 0) (old new : Contents P) (fault : CoreFault) → Answers (step old.core) (Err fault) old.core new.core
      → new.jobs ≡ old.jobs → new.workers ≡ old.workers → Answers (EndsAll step old) (Err fault) old new
  ends_all_refused step old new fault a jobs workers = (
    tt,
    λ e other after s. a.1 e other after.core s.core_step,
    λ e. let s = a.2 e in (s.0, record { core = s.1; jobs = empty; workers = empty }, record { core_step = s.2; jobs = refl; workers = refl }),
    λ i. record { core = a.3 i; jobs = jobs i; workers = workers i },
  )

  -- if a refusal is right for the failure of a commit's device step, and jobs and workers stay the same, it is right for
  -- `FailsJob`
  pub fails_refused : (client : ClientId) (numbered : Numbered) (d : Due) (old new : Contents P) (fault : CoreFault) → old.core.phase ≡ Committing client numbered d
      → Answers (Fails client old.core) (Err fault) old.core new.core → new.jobs ≡ old.jobs → new.workers ≡ old.workers → Answers (FailsJob old) (Err fault) old new
  fails_refused client numbered d old new fault committing a jobs workers = (
    tt,
    λ e other after s. let same : s.0 ≡ client = client_of (sym s.1.core_step.committing ∙ committing) in
        a.1 e other after.core (subst (λ (who : ClientId). Fails who old.core other after.core) same s.1.core_step),
    λ e. let s = a.2 e in (s.0, record { core = s.1; jobs = remove old.jobs client.number; workers = old.workers }, (client, record { core_step = s.2; jobs = refl; workers = refl })),
    λ i. record { core = a.3 i; jobs = jobs i; workers = workers i },
  )
    where
      client_of : {a b : ClientId} {m n : Numbered} {d e : Due} → Committing a m d ≡ Committing b n e → a ≡ b
      client_of is = cc

  -- during a rewrite no commit can fail, so the core's answer for a failed rewrite is the answer for `Fail`
  pub in_rewrite : (old : Contents P) (commit : Commit) (due : RewriteDue) → old.core.phase ≡ Rewriting commit due → (result : Result (Option Reply) CoreFault) (core : Core)
      → Answers (RewriteFails old.core) result old.core core → Answers (FailsStep old) result old (record old { core = core })
  in_rewrite old commit due rewriting result core a =
      let new : Contents P = record old { core = core } in
      answers_second (FailsJob old) (StepsCore RewriteFails old) result old new (λ reply after job. committing_apart (sym job.1.core_step.committing ∙ rewriting))
      (core_answers RewriteFails old new result a refl refl)

  pub out_of_rewrite : (old new : Contents P) → ((commit : Commit) (due : RewriteDue) → old.core.phase ≡ Rewriting commit due → ⊥) → (result : Result (Option Reply) CoreFault)
      → Answers (FailsJob old) result old new → Answers (FailsStep old) result old new
  out_of_rewrite old new none result a =
      answers_first (FailsJob old) (StepsCore RewriteFails old) result old new (λ reply after step. none step.core_step.commit step.core_step.due step.core_step.rewriting) a

  -- a right answer is 29 exactly if the event has no step
  pub exact : (rules : Rules P) (old : Contents P) (event : Event P) (result : Result (Option Reply) CoreFault) (new : Contents P)
      → Answers (Step rules old event) result old new → IsErrOf result faults.NotNow ↔ IsImpossible rules old event
  exact rules old event (Ok reply) new a = (a.1, λ none. absurd (none reply new a.0))
  exact rules old event (Err faults.NotNow) new a = (a.1, λ none. refl)
  exact rules old event (Err faults.OutOfMemory) new a =
      (a.1, λ none. let some = a.2 refl in absurd (none some.0 some.1 some.2))

  -- the event is not a Begin, so it adds nothing to the order
  abbrev pub IsNoBegin : Event P → Type 0
  IsNoBegin (event.Submit client call request) = Unit {0}
  IsNoBegin (event.Take worker client part) = Unit {0}
  IsNoBegin (event.Done worker piece) = Unit {0}
  IsNoBegin (event.Refuse worker number) = Unit {0}
  IsNoBegin (event.Begin client) = ⊥
  IsNoBegin event.WriteBody = Unit {0}
  IsNoBegin event.SyncBody = Unit {0}
  IsNoBegin event.WriteGate = Unit {0}
  IsNoBegin event.SyncGate = Unit {0}
  IsNoBegin event.RewriteAll = Unit {0}
  IsNoBegin event.SyncAll = Unit {0}
  IsNoBegin event.WriteArea = Unit {0}
  IsNoBegin event.SyncArea = Unit {0}
  IsNoBegin event.Fail = Unit {0}
  IsNoBegin (event.Ack client) = Unit {0}
  IsNoBegin (event.Crash choice) = Unit {0}
  IsNoBegin event.Recover = Unit {0}

  -- a step that leaves the core as it was adds nothing to the order
  same_core : (old new : Contents P) → new.core ≡ old.core → PutsCommand old.core new.core
  same_core old new is = same_order old.core new.core (ap (λ (s : Core). s.order) is)

  step_puts_none : (rules : Rules P) (old : Contents P) (e : Event P) (reply : Option Reply) (new : Contents P) → IsNoBegin e → Step rules old e reply new → PutsCommand old.core new.core
  step_puts_none rules old (event.Submit client call request) reply new plain step = same_core old new (ap (λ (s : Contents P). s.core) step.new_is)
  step_puts_none rules old (event.Take worker client part) reply new plain step = same_core old new (ap (λ (s : Contents P). s.core) step.new_is)
  step_puts_none rules old (event.Done worker piece) reply new plain step = same_core old new (ap (λ (s : Contents P). s.core) step.new_is)
  step_puts_none rules old (event.Refuse worker number) reply new plain step = same_core old new (ap (λ (s : Contents P). s.core) step.new_is)
  step_puts_none rules old (event.Begin client) reply new plain step = absurd plain
  step_puts_none rules old event.WriteBody reply new plain step = same_order old.core new.core (ap (λ (s : Core). s.order) step.core_step.new_is)
  step_puts_none rules old event.SyncBody reply new plain step = same_order old.core new.core (ap (λ (s : Core). s.order) step.core_step.new_is)
  step_puts_none rules old event.WriteGate reply new plain step = same_order old.core new.core (ap (λ (s : Core). s.order) step.core_step.new_is)
  step_puts_none rules old event.SyncGate reply new plain step = same_order old.core new.core (ap (λ (s : Core). s.order) step.core_step.new_is)
  step_puts_none rules old event.RewriteAll reply new plain step = same_order old.core new.core (ap (λ (s : Core). s.order) step.core_step.new_is)
  step_puts_none rules old event.SyncAll reply new plain step = same_order old.core new.core (ap (λ (s : Core). s.order) step.core_step.new_is)
  step_puts_none rules old event.WriteArea reply new plain step = same_order old.core new.core (ap (λ (s : Core). s.order) step.core_step.new_is)
  step_puts_none rules old event.SyncArea reply new plain step = same_order old.core new.core (ap (λ (s : Core). s.order) step.core_step.new_is)
  step_puts_none rules old event.Fail reply new plain (inl step) = same_order old.core new.core (ap (λ (s : Core). s.order) step.1.core_step.new_is)
  step_puts_none rules old event.Fail reply new plain (inr step) = same_order old.core new.core (ap (λ (s : Core). s.order) step.core_step.new_is)
  step_puts_none rules old (event.Ack client) reply new plain step = same_order old.core new.core (ap (λ (s : Core). s.order) step.core_step.new_is)
  step_puts_none rules old (event.Crash choice) reply new plain step = same_order old.core new.core (ap (λ (s : Core). s.order) step.core_step.new_is)
  step_puts_none rules old event.Recover reply new plain step =
      let r = step.core_step in
      not_longer old.core new.core
      (omega (arith, ap (λ (s : Core). length s.order) r.new_is, ap length r.longest.prefix, length-take-le r.longest.count old.core.order r.longest.within, r.longest.within))

  -- an event that is not a Begin adds nothing to the order, whatever it answers
  pub puts_none : (rules : Rules P) (old : Contents P) (e : Event P) (result : Result (Option Reply) CoreFault) (new : Contents P) → IsNoBegin e
      → Answers (Step rules old e) result old new → OnOk result (PutsCommand old.core new.core)
  puts_none rules old e (Ok reply) new plain a = step_puts_none rules old e reply new plain a.0
  puts_none rules old e (Err fault) new plain a = tt
