-- How a run goes on. Only a Begin makes the order longer. The pieces that make up a unit can be handed in by one worker, one after the
-- other.
use Rattle.std.proofs.Common.{◌≡◌, ◌⊎◌, ℕ, zero, suc, ◌+◌, ◌≤◌, inl, inr, Bool, true, false, cond, IsTrue, List, [], ◌∷◌, ◌++◌, length, map, take, Option, Some, None, Result, Ok, Err, refl, sym, ap, ◌∙◌, subst, arith, append_assoc, All}
use Rattle.std.specs.Prelude.{slice_get, slice_set, replicate}
use Rattle.std.specs.Ordering.{nat_cmp, eq_by_cmp, is_eq}
use Rattle.std.specs.declared.cmp.Ordering.{Ordering}
use Rattle.std.specs.declared.cmp.Ordering.TheVariants.{Less, Equal, Greater}
use Rattle.std.specs.Cmp.{nat_cmp_total, eq_by_cmp_equiv}
use Rattle.std.specs.FinMap.{FinMap, get, insert, remove, empty, get-empty, get-insert, get-remove, nat_cmp-IsAntisymmetric}
use Rattle.std.proofs.lemmas.List.{append-nil, length-append, length-take}
use Rattle.cc_unit.specs.declared.unit.StoredUnit.{StoredUnit}
use Rattle.cc_library.specs.Change.{LibraryCommand}
use Rattle.cc_library.specs.declared.command.Change.TheVariants as command
use Rattle.cc_library.specs.Body.{IsCommand}
use Rattle.cc_core.specs.declared.command.Numbered.{Numbered}
use Rattle.cc_core.specs.declared.command.Reply.{Reply}
use Rattle.cc_core.specs.Request.{Request}
use Rattle.cc_core.specs.declared.contents.Contents.{Contents}
use Rattle.cc_core.specs.declared.contents.Core.{Core}
use Rattle.cc_core.specs.declared.event.Event.{Event}
use Rattle.cc_core.specs.declared.event.Event.TheVariants as event
use Rattle.cc_core.specs.declared.fault.Refusal.{Refusal}
use Rattle.cc_core.specs.declared.ids.CallId.{CallId}
use Rattle.cc_core.specs.declared.ids.ClientId.{ClientId}
use Rattle.cc_core.specs.declared.ids.PartIndex.{PartIndex}
use Rattle.cc_core.specs.declared.ids.WorkerId.{WorkerId}
use Rattle.cc_core.specs.declared.job.Job.{Job}
use Rattle.cc_core.specs.declared.job.Work.{Work}
use Rattle.cc_core.specs.declared.job.Progress.{Progress}
use Rattle.cc_core.specs.declared.job.Progress.TheVariants.{Waiting, Taken, Made, Refused}
use Rattle.cc_core.specs.Rules.{Rules, IsBuilt, HasBuilt}
use Rattle.cc_core.specs.Job.{planned, IsPlanned, source_in, unless, with_unit, with_piece, all_there, first_refused, made_pieces, built, command_of, verdict}
use Rattle.cc_core.specs.Step.{Begun, IsUp, Step, jobs_begun, numbered_now}
use Rattle.cc_core.specs.Run.{HandsIn, PutsCommand, Run, Turn}
use Rattle.cc_core.specs.Turns.{BeginsSpelled, IsNoSubmit, IsNoTake, CanBeReady}
use Rattle.cc_core.proofs.Lists.{All-slice_get}
use Rattle.cc_core.proofs.Orders.{same_last}
use Rattle.cc_core.proofs.Whole.{verdict_taken}

-- ---- finite maps at their keys

got_inserted : {X : Type 0} (m : FinMap nat_cmp X) (k : ℕ) (v : X) → get (insert m k v) k ≡ Some v
got_inserted m k v = get-insert nat_cmp_total m k v k ∙ ap (λ b. cond b (Some v) (get m k)) ((eq_by_cmp_equiv nat_cmp_total).refl k)

got_removed : {X : Type 0} (m : FinMap nat_cmp X) (k : ℕ) → get (remove m k) k ≡ None
got_removed m k = get-remove nat_cmp_total m k k ∙ ap (λ b. cond b None (get m k)) ((eq_by_cmp_equiv nat_cmp_total).refl k)

tied_at : (r : Ordering) → is_eq r ≡ true → r ≡ Equal
tied_at Less e = absurd (cc)
tied_at Equal e = refl
tied_at Greater e = absurd (cc)

-- two keys are equal, or they do not compare as equal
apart_or : (k n : ℕ) → (k ≡ n) ⊎ (eq_by_cmp nat_cmp k n ≡ false)
apart_or k n = at (eq_by_cmp nat_cmp k n) refl
  where
    at : (b : Bool) → eq_by_cmp nat_cmp k n ≡ b → (k ≡ n) ⊎ (eq_by_cmp nat_cmp k n ≡ false)
    at true tied = inl (nat_cmp-IsAntisymmetric k n (tied_at (nat_cmp k n) tied))
    at false tied = inr tied

other_inserted : {X : Type 0} (m : FinMap nat_cmp X) (n : ℕ) (v : X) (k : ℕ) → (k ≡ n → ⊥) → get (insert m n v) k ≡ get m k
other_inserted m n v k apart =
    elim (apart_or k n) [
      | inl same ↦ absurd (apart same)
      | inr tied ↦ get-insert nat_cmp_total m n v k ∙ ap (λ b. cond b (Some v) (get m k)) tied
    ]

-- a key without a value still has none after an insertion at a key that had a value
none_put : {X : Type 0} (m : FinMap nat_cmp X) (n : ℕ) (v w : X) (k : ℕ) → get m n ≡ Some v → get m k ≡ None → get (insert m n w) k ≡ None
none_put m n v w k there none = other_inserted m n w k (λ same. let h = sym (ap (get m) same) ∙ none in let never : Some v ≡ None = sym there ∙ h in absurd (cc)) ∙ none

none_removed : {X : Type 0} (m : FinMap nat_cmp X) (n k : ℕ) → get m k ≡ None → get (remove m n) k ≡ None
none_removed {X} m n k none = get-remove nat_cmp_total m n k ∙ at (eq_by_cmp nat_cmp k n)
  where
    at : (b : Bool) → cond b None (get m k) ≡ None
    at true = refl
    at false = none

none_same : {X : Type 0} (m n : FinMap nat_cmp X) (k : ℕ) → n ≡ m → get m k ≡ None → get n k ≡ None
none_same m n k same none = ap (λ l. get l k) same ∙ none

none_empty : {X : Type 0} (m : FinMap nat_cmp X) (k : ℕ) → m ≡ empty → get m k ≡ None
none_empty m k is = ap (λ l. get l k) is ∙ get-empty nat_cmp k

-- ---- lists

longer : {A : Type 0} (l : List A) (x : A) → l ≡ l ++ x ∷ [] → ⊥
longer l x is = omega (arith, ap length is, length-append l (x ∷ []))

longer_than : {A : Type 0} (l : List A) (n : ℕ) (x : A) → take n l ≡ l ++ x ∷ [] → ⊥
longer_than l n x is = omega (arith, ap length is, length-append l (x ∷ []), short l n)
  where
    short : {A : Type 0} (l : List A) (n : ℕ) → length (take n l) ≤ length l
    short [] zero = omega arith
    short [] (suc n) = omega arith
    short (y ∷ l) zero = omega arith
    short (y ∷ l) (suc n) = let h = short l n in omega arith

module _ {P : Type 0} where
  -- the progress of a job's pieces if the first ones are made and the others wait
  abbrev progress : List P → ℕ → List (Progress P)
  progress prefix waiting = map (λ (p : P). Made p) prefix ++ replicate waiting Waiting

  set_at : (prefix : List P) (x y : Progress P) (tail : List (Progress P)) → slice_set (map (λ (p : P). Made p) prefix ++ x ∷ tail) (length prefix) y ≡ map (λ (p : P). Made p) prefix ++ y ∷ tail
  set_at [] x y tail = refl
  set_at (p ∷ prefix) x y tail = ap (λ (l : List (Progress P)). Made p ∷ l) (set_at prefix x y tail)

  get_at : (prefix : List P) (x : Progress P) (tail : List (Progress P)) → slice_get (map (λ (p : P). Made p) prefix ++ x ∷ tail) (length prefix) ≡ Some x
  get_at [] x tail = refl
  get_at (p ∷ prefix) x tail = get_at prefix x tail

  made_push : (prefix : List P) (p : P) (tail : List (Progress P)) → map (λ (q : P). Made q) (prefix ++ p ∷ []) ++ tail ≡ map (λ (q : P). Made q) prefix ++ Made p ∷ tail
  made_push [] p tail = refl
  made_push (q ∷ prefix) p tail = ap (λ (l : List (Progress P)). Made q ∷ l) (made_push prefix p tail)

  there_all : (ps : List P) → IsTrue (all_there (map (λ (p : P). Made p) ps))
  there_all [] = refl
  there_all (p ∷ ps) = there_all ps

  none_refused : (ps : List P) → first_refused (map (λ (p : P). Made p) ps) ≡ None
  none_refused [] = refl
  none_refused (p ∷ ps) = none_refused ps

  made_are : (ps : List P) → made_pieces (map (λ (p : P). Made p) ps) ≡ ps
  made_are [] = refl
  made_are (p ∷ ps) = ap (λ (l : List P). p ∷ l) (made_are ps)

-- ---- turns

module _ {P : Type 0} (rules : Rules P) where
  -- a step that begins no job leaves the order as it is
  kept_order : (old : Contents P) (e : Event P) (reply : Option Reply) (new : Contents P) → ((client : ClientId) → e ≡ event.Begin client → ⊥) → Step rules old e reply new
      → (numbered : Numbered) → new.core.order ≡ old.core.order ++ numbered ∷ [] → ⊥
  kept_order old (event.Submit client call asked) reply new none step n is = longer old.core.order n (sym (ap (λ (s : Contents P). s.core.order) step.new_is) ∙ is)
  kept_order old (event.Take worker client part) reply new none step n is = longer old.core.order n (sym (ap (λ (s : Contents P). s.core.order) step.new_is) ∙ is)
  kept_order old (event.Done worker piece) reply new none step n is = longer old.core.order n (sym (ap (λ (s : Contents P). s.core.order) step.new_is) ∙ is)
  kept_order old (event.Refuse worker number) reply new none step n is = longer old.core.order n (sym (ap (λ (s : Contents P). s.core.order) step.new_is) ∙ is)
  kept_order old (event.Begin client) reply new none step n is = none client refl
  kept_order old event.WriteBody reply new none step n is = longer old.core.order n (sym (ap (λ (c : Core). c.order) step.core_step.new_is) ∙ is)
  kept_order old event.SyncBody reply new none step n is = longer old.core.order n (sym (ap (λ (c : Core). c.order) step.core_step.new_is) ∙ is)
  kept_order old event.WriteGate reply new none step n is = longer old.core.order n (sym (ap (λ (c : Core). c.order) step.core_step.new_is) ∙ is)
  kept_order old event.SyncGate reply new none step n is = longer old.core.order n (sym (ap (λ (c : Core). c.order) step.core_step.new_is) ∙ is)
  kept_order old event.RewriteAll reply new none step n is = longer old.core.order n (sym (ap (λ (c : Core). c.order) step.core_step.new_is) ∙ is)
  kept_order old event.SyncAll reply new none step n is = longer old.core.order n (sym (ap (λ (c : Core). c.order) step.core_step.new_is) ∙ is)
  kept_order old event.WriteArea reply new none step n is = longer old.core.order n (sym (ap (λ (c : Core). c.order) step.core_step.new_is) ∙ is)
  kept_order old event.SyncArea reply new none step n is = longer old.core.order n (sym (ap (λ (c : Core). c.order) step.core_step.new_is) ∙ is)
  kept_order old event.Fail reply new none (inl step) n is = longer old.core.order n (sym (ap (λ (c : Core). c.order) step.1.core_step.new_is) ∙ is)
  kept_order old event.Fail reply new none (inr step) n is = longer old.core.order n (sym (ap (λ (c : Core). c.order) step.core_step.new_is) ∙ is)
  kept_order old (event.Ack client) reply new none step n is = longer old.core.order n (sym (ap (λ (c : Core). c.order) step.core_step.new_is) ∙ is)
  kept_order old (event.Crash choice) reply new none step n is = longer old.core.order n (sym (ap (λ (c : Core). c.order) step.core_step.new_is) ∙ is)
  kept_order old event.Recover reply new none step n is =
      longer_than old.core.order step.core_step.longest.count n (sym step.core_step.longest.prefix ∙ sym (ap (λ (c : Core). c.order) step.core_step.new_is) ∙ is)

  puts_begun : (old : Core) (client : ClientId) (v : Result LibraryCommand Refusal) (reply : Option Reply) (new : Core) → ((d : LibraryCommand) → v ≡ Ok d → IsCommand d) → Begun old client v reply new → PutsCommand old new
  puts_begun old client (Ok d) reply new is_put begun numbered is =
      let order : old.order ++ numbered_now old d ∷ [] ≡ old.order ++ numbered ∷ [] = sym (ap (λ (c : Core). c.order) begun.1) ∙ is in
      let same = same_last old.order (numbered_now old d) old.order numbered order in
      subst IsCommand (ap (λ (n : Numbered). n.command) same) (is_put d refl)
  puts_begun old client (Err refused) reply new is_put begun numbered is = absurd (longer old.order numbered (sym (ap (λ (c : Core). c.order) begun.1) ∙ is))

  -- if the command that begins has a spelling, the step adds only a command with a spelling to the order
  puts : (keeps : P → Type 0) (old : Contents P) (e : Event P) (reply : Option Reply) (new : Contents P) → BeginsSpelled rules old e → Step rules old e reply new → PutsCommand old.core new.core
  puts keeps old (event.Begin client) reply new spelled step numbered is =
      puts_begun old.core client (verdict rules old.core.phase old.core.library old.core.store step.job) reply new.core
      (λ d so. let taken = verdict_taken rules keeps old.core.phase old.core.library old.core.store step.job d so in spelled client step.job d refl step.held taken.same taken.open' taken.fits) step.begun numbered is
  puts keeps old (event.Submit client call asked) reply new spelled step numbered is = absurd (kept_order old (event.Submit client call asked) reply new (λ other e. absurd (cc)) step numbered is)
  puts keeps old (event.Take worker client part) reply new spelled step numbered is = absurd (kept_order old (event.Take worker client part) reply new (λ other e. absurd (cc)) step numbered is)
  puts keeps old (event.Done worker piece) reply new spelled step numbered is = absurd (kept_order old (event.Done worker piece) reply new (λ other e. absurd (cc)) step numbered is)
  puts keeps old (event.Refuse worker number) reply new spelled step numbered is = absurd (kept_order old (event.Refuse worker number) reply new (λ other e. absurd (cc)) step numbered is)
  puts keeps old event.WriteBody reply new spelled step numbered is = absurd (kept_order old event.WriteBody reply new (λ other e. absurd (cc)) step numbered is)
  puts keeps old event.SyncBody reply new spelled step numbered is = absurd (kept_order old event.SyncBody reply new (λ other e. absurd (cc)) step numbered is)
  puts keeps old event.WriteGate reply new spelled step numbered is = absurd (kept_order old event.WriteGate reply new (λ other e. absurd (cc)) step numbered is)
  puts keeps old event.SyncGate reply new spelled step numbered is = absurd (kept_order old event.SyncGate reply new (λ other e. absurd (cc)) step numbered is)
  puts keeps old event.RewriteAll reply new spelled step numbered is = absurd (kept_order old event.RewriteAll reply new (λ other e. absurd (cc)) step numbered is)
  puts keeps old event.SyncAll reply new spelled step numbered is = absurd (kept_order old event.SyncAll reply new (λ other e. absurd (cc)) step numbered is)
  puts keeps old event.WriteArea reply new spelled step numbered is = absurd (kept_order old event.WriteArea reply new (λ other e. absurd (cc)) step numbered is)
  puts keeps old event.SyncArea reply new spelled step numbered is = absurd (kept_order old event.SyncArea reply new (λ other e. absurd (cc)) step numbered is)
  puts keeps old event.Fail reply new spelled step numbered is = absurd (kept_order old event.Fail reply new (λ other e. absurd (cc)) step numbered is)
  puts keeps old (event.Ack client) reply new spelled step numbered is = absurd (kept_order old (event.Ack client) reply new (λ other e. absurd (cc)) step numbered is)
  puts keeps old (event.Crash choice) reply new spelled step numbered is = absurd (kept_order old (event.Crash choice) reply new (λ other e. absurd (cc)) step numbered is)
  puts keeps old event.Recover reply new spelled step numbered is = absurd (kept_order old event.Recover reply new (λ other e. absurd (cc)) step numbered is)

  pub step_turn : (keeps : P → Type 0) (old : Contents P) (e : Event P) (reply : Option Reply) (new : Contents P) → Step rules old e reply new → HandsIn keeps e → BeginsSpelled rules old e → Turn rules keeps old e new
  step_turn keeps old e reply new step hands spelled = inl (reply, step, puts keeps old e reply new spelled step, hands)

  pub Run-append : (keeps : P → Type 0) (a : Contents P) (es : List (Event P)) (b : Contents P) (fs : List (Event P)) (c : Contents P) → Run rules keeps a es b → Run rules keeps b fs c → Run rules keeps a (es ++ fs) c
  Run-append keeps a [] b fs c first second = subst (λ (s : Contents P). Run rules keeps s fs c) first second
  Run-append keeps a (e ∷ es) b fs c first second = (first.0, (first.1.0, Run-append keeps first.0 es b fs c first.1.1 second))

  -- ---- jobs and workers

  begun_none : (jobs new : FinMap nat_cmp (Job P)) (client : ClientId) (v : Result LibraryCommand Refusal) (k : ℕ) → new ≡ jobs_begun jobs client v → get jobs k ≡ None → get new k ≡ None
  begun_none jobs new client (Ok d) k is none = none_same jobs new k is none
  begun_none jobs new client (Err refused) k is none = ap (λ l. get l k) is ∙ none_removed jobs client.number k none

  pub no_job : (old : Contents P) (e : Event P) (reply : Option Reply) (new : Contents P) → Step rules old e reply new → IsNoSubmit e → (k : ℕ) → get old.jobs k ≡ None → get new.jobs k ≡ None
  no_job old (event.Submit client call asked) reply new step not k none = absurd (not client call asked refl)
  no_job old (event.Take worker client part) reply new step not k none = ap (λ (s : Contents P). get s.jobs k) step.new_is ∙ none_put old.jobs client.number step.job _ k step.held none
  no_job old (event.Done worker piece) reply new step not k none = ap (λ (s : Contents P). get s.jobs k) step.new_is ∙ none_put old.jobs step.work.client.number step.job _ k step.held none
  no_job old (event.Refuse worker number) reply new step not k none = ap (λ (s : Contents P). get s.jobs k) step.new_is ∙ none_put old.jobs step.work.client.number step.job _ k step.held none
  no_job old (event.Begin client) reply new step not k none = begun_none old.jobs new.jobs client (verdict rules old.core.phase old.core.library old.core.store step.job) k step.jobs none
  no_job old event.WriteBody reply new step not k none = none_same old.jobs new.jobs k step.jobs none
  no_job old event.SyncBody reply new step not k none = none_same old.jobs new.jobs k step.jobs none
  no_job old event.WriteGate reply new step not k none = none_same old.jobs new.jobs k step.jobs none
  no_job old event.SyncGate reply new step not k none = none_same old.jobs new.jobs k step.jobs none
  no_job old event.RewriteAll reply new step not k none = none_same old.jobs new.jobs k step.jobs none
  no_job old event.SyncAll reply new step not k none = none_same old.jobs new.jobs k step.jobs none
  no_job old event.WriteArea reply new step not k none = none_same old.jobs new.jobs k step.jobs none
  no_job old event.SyncArea reply new step not k none = none_same old.jobs new.jobs k step.jobs none
  no_job old event.Fail reply new (inl step) not k none = ap (λ l. get l k) step.1.jobs ∙ none_removed old.jobs step.0.number k none
  no_job old event.Fail reply new (inr step) not k none = none_same old.jobs new.jobs k step.jobs none
  no_job old (event.Ack client) reply new step not k none = ap (λ l. get l k) step.jobs ∙ none_removed old.jobs client.number k none
  no_job old (event.Crash choice) reply new step not k none = none_empty new.jobs k step.jobs
  no_job old event.Recover reply new step not k none = none_same old.jobs new.jobs k step.jobs none

  pub no_work : (old : Contents P) (e : Event P) (reply : Option Reply) (new : Contents P) → Step rules old e reply new → IsNoTake e → (k : ℕ) → get old.workers k ≡ None → get new.workers k ≡ None
  no_work old (event.Submit client call asked) reply new step not k none = ap (λ (s : Contents P). get s.workers k) step.new_is ∙ none
  no_work old (event.Take worker client part) reply new step not k none = absurd (not worker client part refl)
  no_work old (event.Done worker piece) reply new step not k none = ap (λ (s : Contents P). get s.workers k) step.new_is ∙ none_removed old.workers worker.number k none
  no_work old (event.Refuse worker number) reply new step not k none = ap (λ (s : Contents P). get s.workers k) step.new_is ∙ none_removed old.workers worker.number k none
  no_work old (event.Begin client) reply new step not k none = none_same old.workers new.workers k step.workers none
  no_work old event.WriteBody reply new step not k none = none_same old.workers new.workers k step.workers none
  no_work old event.SyncBody reply new step not k none = none_same old.workers new.workers k step.workers none
  no_work old event.WriteGate reply new step not k none = none_same old.workers new.workers k step.workers none
  no_work old event.SyncGate reply new step not k none = none_same old.workers new.workers k step.workers none
  no_work old event.RewriteAll reply new step not k none = none_same old.workers new.workers k step.workers none
  no_work old event.SyncAll reply new step not k none = none_same old.workers new.workers k step.workers none
  no_work old event.WriteArea reply new step not k none = none_same old.workers new.workers k step.workers none
  no_work old event.SyncArea reply new step not k none = none_same old.workers new.workers k step.workers none
  no_work old event.Fail reply new (inl step) not k none = none_same old.workers new.workers k step.1.workers none
  no_work old event.Fail reply new (inr step) not k none = none_same old.workers new.workers k step.workers none
  no_work old (event.Ack client) reply new step not k none = none_same old.workers new.workers k step.workers none
  no_work old (event.Crash choice) reply new step not k none = none_empty new.workers k step.workers
  no_work old event.Recover reply new step not k none = none_same old.workers new.workers k step.workers none

module _ {P : Type 0} (rules : Rules P) (keeps : P → Type 0) where
  -- if an event is not a Begin, and a piece that it hands in keeps what its type keeps, its step is a turn
  plain_turn : (old : Contents P) (e : Event P) (reply : Option Reply) (new : Contents P) → ((client : ClientId) → e ≡ event.Begin client → ⊥) → HandsIn keeps e → Step rules old e reply new → Turn rules keeps old e new
  plain_turn old e reply new none hands step = step_turn rules keeps old e reply new step hands (λ client job c is. absurd (none client is))

  -- ---- handing in a job with its pieces

  abbrev job_at : CallId → Request → List (Progress P) → Job P
  job_at call asked pieces = record { call = call; request = asked; refusal = None; pieces = pieces }

  -- some events lead to contents in which a worker has handed in all pieces of this job
  record IsHandedIn (old : Contents P) (client : ClientId) (worker : WorkerId) (its : Job P) : Type 0 where
    events : List (Event P)
    new : Contents P
    run : Run rules keeps old events new
    core : new.core ≡ old.core
    held : get new.jobs client.number ≡ Some its
    others : (k : ℕ) → (k ≡ client.number → ⊥) → get new.jobs k ≡ get old.jobs k
    idle : get new.workers worker.number ≡ None

  -- if the first pieces of a client's job are made and the job waits for the pieces `rest`, the worker can hand them in one after
  -- the other
  hands_all : (old : Contents P) (client : ClientId) (worker : WorkerId) (call : CallId) (asked : Request) (source : List ℕ) (prefix rest : List P)
      → source_in asked ≡ Some source → get old.jobs client.number ≡ Some (job_at call asked (progress prefix (length rest))) → get old.workers worker.number ≡ None
      → ((k : ℕ) (q : P) → slice_get rest k ≡ Some q → (rules.source_of q ≡ source) × (rules.part_of q ≡ length prefix + k) × keeps q)
      → IsHandedIn old client worker (job_at call asked (map (λ (p : P). Made p) (prefix ++ rest)))
  hands_all old client worker call asked source prefix [] from held idle named = record {
    events = [];
    new = old;
    run = refl;
    core = refl;
    held = held ∙ ap (λ (l : List (Progress P)). Some (job_at call asked l)) (append-nil (map (λ (p : P). Made p) prefix) ∙ ap (map (λ (p : P). Made p)) (sym (append-nil prefix)));
    others = λ k apart. refl;
    idle = idle;
  }
  hands_all old client worker call asked source prefix (p ∷ rest) from held idle named =
      let part : PartIndex = record { index = length prefix } in
      let its : Job P = job_at call asked (progress prefix (suc (length rest))) in
      let taken : Job P = with_piece its part Taken in
      let given : Job P = with_piece taken part (Made p) in
      let work : Work = record { client = client; part = part } in
      let s1 : Contents P = record old { jobs = insert old.jobs client.number taken; workers = insert old.workers worker.number work } in
      let s2 : Contents P = record s1 { jobs = insert s1.jobs client.number given; workers = remove s1.workers worker.number } in
      let at = named 0 p refl in
      let takes : Turn rules keeps old (event.Take worker client part) s1 = plain_turn old (event.Take worker client part) None s1 (λ c e. absurd (cc)) (λ w q e. absurd (cc))
      (record { job = its; idle = idle; held = held; waits = get_at prefix Waiting (replicate (length rest) Waiting); silent = refl; new_is = refl }) in
      let finishes : Turn rules keeps s1 (event.Done worker p) s2 = plain_turn s1 (event.Done worker p) None s2 (λ c e. absurd (cc)) (λ w q e. let same : p ≡ q = cc in subst keeps same at.2)
      (record { work = work; job = taken; busy = got_inserted old.workers worker.number work; held = got_inserted old.jobs client.number taken; source = from ∙ ap Some (sym at.0); part = at.1 ∙ omega arith; silent = refl; new_is = refl }) in
      let given_is : given ≡ job_at call asked (progress (prefix ++ p ∷ []) (length rest)) =
      ap (job_at call asked) (ap (λ (l : List (Progress P)). slice_set l (length prefix) (Made p)) (set_at prefix Waiting Taken (replicate (length rest) Waiting))
      ∙ set_at prefix Taken (Made p) (replicate (length rest) Waiting) ∙ sym (made_push prefix p (replicate (length rest) Waiting))) in
      let more : IsHandedIn s2 client worker (job_at call asked (map (λ (q : P). Made q) ((prefix ++ p ∷ []) ++ rest))) =
      hands_all s2 client worker call asked source (prefix ++ p ∷ []) rest from (got_inserted s1.jobs client.number given ∙ ap Some given_is) (got_removed s1.workers worker.number)
      (λ k q here. let it = named (suc k) q here in (it.0, it.1 ∙ omega (arith, length-append prefix (p ∷ [])), it.2)) in
      record {
        events = event.Take worker client part ∷ event.Done worker p ∷ more.events;
        new = more.new;
        run = (s1, (takes, (s2, (finishes, more.run))));
        core = more.core;
        held = more.held ∙ ap (λ (l : List P). Some (job_at call asked (map (λ (q : P). Made q) l))) (append_assoc prefix (p ∷ []) rest);
        others = λ k apart. more.others k apart ∙ other_inserted s1.jobs client.number given k apart ∙ other_inserted old.jobs client.number taken k apart;
        idle = more.idle;
      }

  -- if all pieces of a job are made and make up a unit, that unit is built from the job's source
  built_is : (call : CallId) (asked : Request) (source : List ℕ) (pieces : List P) (unit : StoredUnit) → rules.unit source pieces ≡ Ok unit
      → built rules (job_at call asked (map (λ (p : P). Made p) pieces)) source ≡ Ok unit
  built_is call asked source pieces unit is =
      ap (λ (r : Option ℕ). unless r (rules.unit source (made_pieces (map (λ (p : P). Made p) pieces)))) (none_refused pieces) ∙ ap (λ (l : List P). rules.unit source l) (made_are pieces) ∙ is

  module _ (old : Contents P) (client : ClientId) (worker : WorkerId) (up : IsUp old.core.phase) (free : get old.jobs client.number ≡ None) (idle : get old.workers worker.number ≡ None) where
    abbrev call : CallId
    call = record { number = 0 }

    abbrev submitted : Request → List (Progress P) → Contents P
    submitted asked pieces = record old { jobs = insert old.jobs client.number (job_at call asked pieces) }

    submits : (asked : Request) (n : ℕ) → IsPlanned rules asked (Ok n) → Turn rules keeps old (event.Submit client call asked) (submitted asked (replicate n Waiting))
    submits asked n so =
        plain_turn old (event.Submit client call asked) None (submitted asked (replicate n Waiting)) (λ c e. absurd (cc)) (λ w q e. absurd (cc))
        (record { up = up; free = free; plan = Ok n; planned_so = so; silent = refl; new_is = refl })

    with_source : (asked : Request) (c : LibraryCommand) (unit : StoredUnit) → source_in asked ≡ Some unit.source → ((n : ℕ) → rules.plan unit.source (Ok n) → IsPlanned rules asked (Ok n))
        → ((its : Job P) → built rules its unit.source ≡ Ok unit → command_of rules its asked ≡ Ok c) → IsBuilt rules keeps unit → CanBeReady rules keeps old client worker c
    with_source asked c unit from plans gives b =
        let first = submitted asked (replicate (length b.pieces) Waiting) in
        let all : IsHandedIn first client worker (job_at call asked (map (λ (p : P). Made p) ([] ++ b.pieces))) =
        hands_all first client worker call asked unit.source [] b.pieces from (got_inserted old.jobs client.number (job_at call asked (replicate (length b.pieces) Waiting))) idle
        (λ k q here. let it = b.whole.named k q here in (it.0, it.1 ∙ omega arith, All-slice_get keeps b.pieces k q b.kept here)) in
        record {
          events = event.Submit client call asked ∷ all.events;
          new = all.new;
          run = (first, (submits asked (length b.pieces) (plans (length b.pieces) b.whole.counted), all.run));
          core = all.core;
          job = job_at call asked (map (λ (p : P). Made p) b.pieces);
          held = all.held;
          there = there_all b.pieces;
          comes = gives (job_at call asked (map (λ (p : P). Made p) b.pieces)) (built_is call asked unit.source b.pieces unit b.unit_is);
          others = λ k apart. all.others k apart ∙ other_inserted old.jobs client.number (job_at call asked (replicate (length b.pieces) Waiting)) k apart;
          idle = all.idle;
        }

    pub can_be_ready : (c : LibraryCommand) → HasBuilt rules keeps c → CanBeReady rules keeps old client worker c
    can_be_ready (command.Add name unit) b =
        with_source (command.Add name unit.source) (command.Add name unit) unit refl (λ n so. so) (λ its is. ap (with_unit (command.Add name)) is) b
    can_be_ready (command.Replace name unit) b =
        with_source (command.Replace name unit.source) (command.Replace name unit) unit refl (λ n so. so) (λ its is. ap (with_unit (command.Replace name)) is) b
    can_be_ready (command.Withdraw name) b = record {
      events = event.Submit client call (command.Withdraw name) ∷ [];
      new = submitted (command.Withdraw name) [];
      run = (submitted (command.Withdraw name) [], (submits (command.Withdraw name) 0 refl, refl));
      core = refl;
      job = job_at call (command.Withdraw name) [];
      held = got_inserted old.jobs client.number (job_at call (command.Withdraw name) []);
      there = refl;
      comes = refl;
      others = λ k apart. other_inserted old.jobs client.number (job_at call (command.Withdraw name) []) k apart;
      idle = idle;
    }
