-- A command that a job begins has a right unit: its pieces are all there, none was refused, and each names the job's source and its own
-- index, so they are all pieces of the source, and the build's law holds.
use Rattle.std.proofs.Common.{◌≡◌, ℕ, zero, suc, ◌≤◌, Bool, true, false, if◌then◌else◌, List, [], ◌∷◌, length, Option, Some, None, Result, Ok, Err, refl, sym, ap, subst, ◌∙◌, All}
use Rattle.std.specs.Prelude.{slice_get, IsTrue, IsOk, nat_le}
use Rattle.std.proofs.lemmas.Bool.{leb-true}
use Rattle.cc_unit.specs.declared.unit.StoredUnit.{StoredUnit}
use Rattle.cc_library.specs.Change.{LibraryCommand}
use Rattle.cc_library.specs.declared.command.Change.TheVariants as command
use Rattle.cc_core.specs.Request.{Request}
use Rattle.cc_core.specs.declared.job.Job.{Job}
use Rattle.cc_core.specs.declared.job.Progress.{Progress}
use Rattle.cc_core.specs.declared.job.Progress.TheVariants.{Waiting, Taken, Made, Refused}
use Rattle.cc_library.specs.Apply.{Units, apply, exists, absent}
use Rattle.std.specs.FinMap.{contains_key, insert, remove}
use Rattle.cc_library.specs.Body.{body_of}
use Rattle.cc_core.specs.declared.contents.Phase.{Phase}
use Rattle.cc_core.specs.declared.fault.Refusal.{Refusal}
use Rattle.cc_core.specs.declared.fault.Refusal.TheVariants as refusal
use Rattle.cc_core.specs.StoreState.{StoreState}
use Rattle.cc_core.specs.Store.{room_taken}
use Rattle.cc_core.specs.Rules.{Rules, AreWhole}
use Rattle.cc_core.specs.Run.{command_source, IsRightCommand}
use Rattle.cc_core.proofs.Lists.{All-each}
use Rattle.cc_core.specs.Job.{source_in, unless, with_unit, accepted, all_there, first_refused, made_pieces, built, command_of, closed, full, map_refusal, first_of_two, command_refusal, verdict}

unless-Ok : {A E : Type 0} (o : Option E) (r : Result A E) (x : A) → unless o r ≡ Ok x → (o ≡ None) × (r ≡ Ok x)
unless-Ok None r x is = (refl, is)
unless-Ok (Some refused) r x is = absurd (cc)

both_none : (first second : Option Refusal) → first_of_two first second ≡ None → (first ≡ None) × (second ≡ None)
both_none None second is = (refl, is)
both_none (Some refused) second is = absurd (cc)

-- a command that the map does not refuse is accepted
not_refused : (library : Units) (c : LibraryCommand) → map_refusal library c ≡ None → IsOk (apply library c)
not_refused library (command.Add name unit) none = at (contains_key library name) none
  where
    at : (b : Bool) → (if b then Some refusal.Exists else None) ≡ None → IsOk (if b then Err exists else Ok (insert library name unit))
    at true is = absurd (cc)
    at false is = refl
not_refused library (command.Replace name unit) none = at (contains_key library name) none
  where
    at : (b : Bool) → (if b then None else Some refusal.Absent) ≡ None → IsOk (if b then Ok (insert library name unit) else Err absent)
    at true is = refl
    at false is = absurd (cc)
not_refused library (command.Withdraw name) none = at (contains_key library name) none
  where
    at : (b : Bool) → (if b then None else Some refusal.Absent) ≡ None → IsOk (if b then Ok (remove library name) else Err absent)
    at true is = refl
    at false is = absurd (cc)

not_full : (m n : ℕ) → (if nat_le m n then None else Some refusal.Full) ≡ None → m ≤ n
not_full m n is = at (nat_le m n) refl is
  where
    at : (b : Bool) → nat_le m n ≡ b → (if b then None else Some refusal.Full) ≡ None → m ≤ n
    at true le is = leb-true m n le
    at false le is = absurd (cc)

-- the command is accepted: no device step has failed, the library takes it, and its record fits
pub record IsTaken (phase : Phase) (library : Units) (store : StoreState) (r : Result LibraryCommand ℕ) (c : LibraryCommand) : Type 0 where
  pub open' : closed phase ≡ None
  pub same : r ≡ Ok c
  pub ok : IsOk (apply library c)
  pub fits : room_taken store (body_of c) ≤ store.area

accepted-taken : (phase : Phase) (library : Units) (store : StoreState) (r : Result LibraryCommand ℕ) (c : LibraryCommand) → accepted phase library store r ≡ Ok c → IsTaken phase library store r c
accepted-taken phase library store (Ok d) c is =
    let taken = unless-Ok (command_refusal phase library store d) (Ok d) c is in
    let first = both_none (closed phase) (first_of_two (map_refusal library d) (full store d)) taken.0 in
    let second = both_none (map_refusal library d) (full store d) first.1 in
    let same : d ≡ c = cc (taken.1) in
    record {
      open' = first.0;
      same = ap Ok same;
      ok = subst (λ e. IsOk (apply library e)) same (not_refused library d second.0);
      fits = subst (λ e. room_taken store (body_of e) ≤ store.area) same (not_full (room_taken store (body_of d)) store.area second.1);
    }
accepted-taken phase library store (Err number) c is = absurd (cc)

module _ {P : Type 0} (rules : Rules P) (keeps : P → Type 0) where
  -- a job's pieces are planned for its source, and each piece that was made names that source and its own index, and keeps what
  -- its type keeps
  pub record IsNamed (job : Job P) : Type 0 where
    pub counted : (source : List ℕ) → source_in job.request ≡ Some source → job.refusal ≡ None → rules.plan source (Ok (length job.pieces))
    pub named : (source : List ℕ) → source_in job.request ≡ Some source → (k : ℕ) (p : P) → slice_get job.pieces k ≡ Some (Made p) → (rules.source_of p ≡ source) × (rules.part_of p ≡ k)
    pub kept : (k : ℕ) (p : P) → slice_get job.pieces k ≡ Some (Made p) → keeps p

  -- `has` holds for each source and the unit that its pieces make up
  abbrev pub Gives : (List ℕ → StoredUnit → Type 0) → Type 0
  Gives has = (source : List ℕ) (pieces : List P) (unit : StoredUnit) → AreWhole rules source pieces → All keeps pieces → rules.unit source pieces ≡ Ok unit → has source unit

  -- the unit that the pieces of a source make up is right; each build proves this as part of its law
  abbrev pub IsLawful : (StoredUnit → Type 0) → Type 0
  IsLawful is_right = Gives (λ source unit. is_right unit)

  abbrev pub IsOfSource : Type 0
  IsOfSource = Gives (λ source unit. unit.source ≡ source)

  pub lawful : (is_right : StoredUnit → Type 0) → Gives (λ source unit. (unit.source ≡ source) × is_right unit) → IsLawful is_right
  lawful is_right law source pieces unit whole kept is = (law source pieces unit whole kept is).1

  pub of_source : (is_right : StoredUnit → Type 0) → Gives (λ source unit. (unit.source ≡ source) × is_right unit) → IsOfSource
  of_source is_right law source pieces unit whole kept is = (law source pieces unit whole kept is).0

  -- if all pieces have been answered and none was refused, the made pieces are all the pieces, each at its index
  all_made : (ps : List (Progress P)) → IsTrue (all_there ps) → first_refused ps ≡ None
      → (length (made_pieces ps) ≡ length ps) × ((k : ℕ) (p : P) → slice_get (made_pieces ps) k ≡ Some p → slice_get ps k ≡ Some (Made p))
  all_made [] there none = (refl, λ k p is. absurd (cc))
  all_made (Waiting ∷ ps) there none = absurd (cc)
  all_made (Taken ∷ ps) there none = absurd (cc)
  all_made (Refused number ∷ ps) there none = absurd (cc)
  all_made (Made q ∷ ps) there none =
      let rest = all_made ps there none in
      (ap suc rest.0, λ k p. made_at q ps rest.1 k p)
    where
      made_at : (q : P) (ps : List (Progress P)) → ((k : ℕ) (p : P) → slice_get (made_pieces ps) k ≡ Some p → slice_get ps k ≡ Some (Made p))
          → (k : ℕ) (p : P) → slice_get (q ∷ made_pieces ps) k ≡ Some p → slice_get (Made q ∷ ps) k ≡ Some (Made p)
      made_at q ps rest zero p is = let same : q ≡ p = cc in ap (λ x. Some (Made x)) same
      made_at q ps rest (suc k) p is = rest k p is

  -- if all pieces of a job have been answered, `has` holds for the job's source and the unit that is built from the pieces
  built_has : (has : List ℕ → StoredUnit → Type 0) → Gives has → (job : Job P) (source : List ℕ) (unit : StoredUnit)
      → IsNamed job → source_in job.request ≡ Some source → IsTrue (all_there job.pieces) → built rules job source ≡ Ok unit → has source unit
  built_has has law job source unit named from there is =
      let first = unless-Ok job.refusal _ unit is in
      let second = unless-Ok (first_refused job.pieces) _ unit first.1 in
      let made = all_made job.pieces there second.0 in
      let whole : AreWhole rules source (made_pieces job.pieces) = record {
        counted = subst (λ (n : ℕ). rules.plan source (Ok n)) (sym made.0) (named.counted source from first.0);
        named = λ k p at. named.named source from k p (made.1 k p at);
      } in
      let each : All keeps (made_pieces job.pieces) = All-each keeps (made_pieces job.pieces) (λ k p at. named.kept k p (made.1 k p at)) in
      law source (made_pieces job.pieces) unit whole each second.1

  with_unit_right : (is_right : StoredUnit → Type 0) (make : StoredUnit → LibraryCommand) → ((u : StoredUnit) → is_right u → IsRightCommand is_right (make u))
      → (r : Result StoredUnit ℕ) (c : LibraryCommand) → ((u : StoredUnit) → r ≡ Ok u → is_right u) → with_unit make r ≡ Ok c → IsRightCommand is_right c
  with_unit_right is_right make makes (Ok u) c right is = let same : make u ≡ c = cc in subst (IsRightCommand is_right) same (makes u (right u refl))
  with_unit_right is_right make makes (Err number) c right is = absurd (cc)

  command_right : (is_right : StoredUnit → Type 0) → IsLawful is_right → (job : Job P) (asked : Request) (c : LibraryCommand)
      → job.request ≡ asked → IsNamed job → IsTrue (all_there job.pieces) → command_of rules job asked ≡ Ok c → IsRightCommand is_right c
  command_right is_right law job (command.Add name source) c asks named there is =
      with_unit_right is_right (command.Add name) (λ u h. h) (built rules job source) c (λ u made. built_has (λ s v. is_right v) law job source u named (ap source_in asks) there made) is
  command_right is_right law job (command.Replace name source) c asks named there is =
      with_unit_right is_right (command.Replace name) (λ u h. h) (built rules job source) c (λ u made. built_has (λ s v. is_right v) law job source u named (ap source_in asks) there made) is
  command_right is_right law job (command.Withdraw name) c asks named there is =
      let same : command.Withdraw name ≡ c = cc in subst (IsRightCommand is_right) same tt

  -- the command that a job begins is accepted
  pub verdict_taken : (phase : Phase) (library : Units) (store : StoreState) (job : Job P) (c : LibraryCommand) → verdict rules phase library store job ≡ Ok c
      → IsTaken phase library store (command_of rules job job.request) c
  verdict_taken phase library store job c is = accepted-taken phase library store (command_of rules job job.request) c is

  -- the command that a job begins has a right unit
  pub verdict_right : (is_right : StoredUnit → Type 0) → IsLawful is_right → (phase : Phase) (library : Units) (store : StoreState) (job : Job P) (c : LibraryCommand)
      → IsNamed job → IsTrue (all_there job.pieces) → verdict rules phase library store job ≡ Ok c → IsRightCommand is_right c
  verdict_right is_right law phase library store job c named there is =
      command_right is_right law job job.request c refl named there (verdict_taken phase library store job c is).same

  -- the command that a job begins has the source that was handed in
  with_unit_source : (make : StoredUnit → LibraryCommand) (source : List ℕ) → ((u : StoredUnit) → command_source (make u) ≡ Some u.source)
      → (r : Result StoredUnit ℕ) (c : LibraryCommand) → ((u : StoredUnit) → r ≡ Ok u → u.source ≡ source) → with_unit make r ≡ Ok c → command_source c ≡ Some source
  with_unit_source make source makes (Ok u) c right is = let same : make u ≡ c = cc in ap command_source (sym same) ∙ makes u ∙ ap Some (right u refl)
  with_unit_source make source makes (Err number) c right is = absurd (cc)

  command_has_source : IsOfSource → (job : Job P) (asked : Request) (c : LibraryCommand)
      → job.request ≡ asked → IsNamed job → IsTrue (all_there job.pieces) → command_of rules job asked ≡ Ok c → command_source c ≡ source_in asked
  command_has_source law job (command.Add name source) c asks named there is =
      with_unit_source (command.Add name) source (λ u. refl) (built rules job source) c (λ u made. built_has (λ s v. v.source ≡ s) law job source u named (ap source_in asks) there made) is
  command_has_source law job (command.Replace name source) c asks named there is =
      with_unit_source (command.Replace name) source (λ u. refl) (built rules job source) c (λ u made. built_has (λ s v. v.source ≡ s) law job source u named (ap source_in asks) there made) is
  command_has_source law job (command.Withdraw name) c asks named there is = let same : command.Withdraw name ≡ c = cc in ap command_source (sym same)

  pub verdict_source : IsOfSource → (phase : Phase) (library : Units) (store : StoreState) (job : Job P) (c : LibraryCommand)
      → IsNamed job → IsTrue (all_there job.pieces) → verdict rules phase library store job ≡ Ok c → command_source c ≡ source_in job.request
  verdict_source law phase library store job c named there is =
      command_has_source law job job.request c refl named there (verdict_taken phase library store job c is).same
