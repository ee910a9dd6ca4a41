-- A book over a library that was opened shows a state of the core: the one that the core is in after opening that
-- disk.
use Rattle.std.proofs.Common.{◌≡◌, ℕ, zero, suc, ◌+◌, ◌<◌, Bool, true, false, List, [], ◌∷◌, ◌++◌, length, map, Option, Some, refl, sym, ap, ◌∙◌, subst, arith}
use Rattle.std.specs.Prelude.{slice_get}
use Rattle.std.specs.FinMap.{empty}
use Rattle.cc_disk.specs.declared.disk.Disk.{Ghosts}
use Rattle.cc_disk.specs.Images.{LeavesAlone}
use Rattle.cc_disk.specs.Model.{bytes_of, IsImage, settled}
use Rattle.cc_journal.specs.Format.{HoldsRecords, records}
use Rattle.cc_library.specs.Change.{LibraryCommand}
use Rattle.cc_library.specs.Apply.{AreAccepted, library_of}
use Rattle.cc_library.specs.Recovered.{StandFor}
use Rattle.cc_core.specs.declared.command.Numbered.{Numbered}
use Rattle.cc_core.specs.declared.command.Reply.{Reply}
use Rattle.cc_core.specs.declared.contents.Contents.{Contents}
use Rattle.cc_core.specs.declared.contents.Core.{Core}
use Rattle.cc_core.specs.declared.event.Event.{Event}
use Rattle.cc_core.specs.declared.event.Event.TheVariants as events
use Rattle.cc_core.specs.Rules.{Rules}
use Rattle.cc_core.specs.declared.contents.Phase.TheVariants.{Idle}
use Rattle.cc_core.specs.StoreState.{StoreState}
use Rattle.cc_core.specs.Step.{Step, commands}
use Rattle.cc_core.specs.Run.{AreRising, IsOpened}
use Rattle.cc_history.specs.History.{changes}
use Rattle.cc_recorded.specs.Book.{BookView}
use Rattle.cc_recorded.proofs.Cores.{nothing_behind}
use Rattle.cc_recorded.specs.Core.{IsBeside, IsPhase, Shows, ShowsDisk, ShowsOrder}

-- ---- commands with their numbers

numbered_from : ℕ → List LibraryCommand → List Numbered
numbered_from k [] = []
numbered_from k (c ∷ cs) = record { number = record { value = k }; command = c } ∷ numbered_from (k + 1) cs

commands_of : (k : ℕ) (cs : List LibraryCommand) → commands (numbered_from k cs) ≡ cs
unfolding numbered_from
commands_of k [] = refl
commands_of k (c ∷ cs) = ap (λ (l : List LibraryCommand). c ∷ l) (commands_of (k + 1) cs)

number_at : (k : ℕ) (cs : List LibraryCommand) (i : ℕ) (a : Numbered) → slice_get (numbered_from k cs) i ≡ Some a → (a.number.value ≡ k + i) × (i < length cs)
unfolding numbered_from
number_at k [] i a at = absurd (cc)
number_at k (c ∷ cs) zero a at =
    let same : record { number = record { value = k }; command = c } ≡ a = cc in
    (sym (ap (λ (n : Numbered). n.number.value) same) ∙ omega arith, omega arith)
number_at k (c ∷ cs) (suc i) a at = let rest = number_at (k + 1) cs i a at in (omega (arith, rest.0), omega (arith, rest.1))

rising : (cs : List LibraryCommand) → AreRising (numbered_from 0 cs)
rising cs i j a b less at_i at_j = omega (arith, (number_at 0 cs i a at_i).0, (number_at 0 cs j b at_j).0, less)

-- ---- a settled disk

settled_bytes : (l : List ℕ) → bytes_of (map settled l) ≡ l
settled_bytes [] = refl
settled_bytes (b ∷ l) = ap (λ (rest : List ℕ). b ∷ rest) (settled_bytes l)

settled_image : (l : List ℕ) → IsImage (map settled l) l
settled_image [] = tt
settled_image (b ∷ l) = (λ _. refl, settled_image l)

settled_alone : (l image : List ℕ) → IsImage (map settled l) image → image ≡ l
settled_alone [] [] here = refl
settled_alone [] (x ∷ image) here = absurd here
settled_alone (b ∷ l) [] here = absurd here
settled_alone (b ∷ l) (x ∷ image) here = (λ i. here.0 refl i ∷ settled_alone l image here.1 i)

-- this kind of disk, taken as honest
abbrev pub honest_kind : {Disk : Type 0} → Ghosts Disk → Ghosts Disk
honest_kind D = record D { honest = true }

module _ {Disk P : Type 0} (D : Ghosts Disk) where
  -- on an honest disk the state that the book shows is an initial state of the core, if the units that were found are
  -- right
  pub begins : (book : BookView Disk) → book.history ≡ [] → book.failed ≡ [] → book.library.closed ≡ false → book.base ≡ book.library.units → StandFor book.library.bodies book.library.units
      → HoldsRecords (D.seen book.library.disk) book.library.area book.library.bodies → LeavesAlone (D.seen book.library.disk) (D.may_leave book.library.disk)
      → (s : Contents P) × Shows (honest_kind D) book s × IsOpened s
  begins book none none_failed idle same stand holds alone =
      let view = book.library in
      let bytes = D.seen view.disk in
      let order = numbered_from 0 stand.commands in
      let store : StoreState = record { cells = map settled bytes; area_byte = holds.area_byte; area = view.area; used = length (records view.bodies) } in
      let s : Contents P = record {
        core = record { library = view.units; order = order; acknowledged = order; phase = Idle; store = store; upcoming = record { value = length stand.commands } };
        jobs = empty;
        workers = empty;
      } in
      let cs = commands_of 0 stand.commands in
      let leads : library_of (commands order) ≡ view.units = ap library_of cs ∙ sym stand.map_is in (
        s,
        record {
          library = refl;
          order = record {
            earlier = stand.commands;
            base = sym stand.map_is ∙ sym same;
            accepted = stand.accepted;
            acked = cs ∙ sym (nothing_behind stand.commands) ∙ ap (λ (l : List LibraryCommand). stand.commands ++ l) (sym (ap changes none));
            failing = [];
            in_order = sym (nothing_behind order);
            failed = sym none_failed;
          };
          phase = subst (λ b. IsPhase b book.failed Idle) (sym idle) (none_failed, refl);
          disk = record {
            area = refl;
            used = λ _. refl;
            bytes = λ _ _. settled_bytes bytes;
            images = λ _ image left. subst (λ (l : List ℕ). IsImage (map settled bytes) l) (sym (alone image left)) (settled_image bytes);
            holds = λ _ _. (holds, refl);
          };
        },
        record {
          phase = refl;
          library = sym leads;
          accepted = subst (λ (l : List LibraryCommand). AreAccepted empty l) (sym cs) stand.accepted;
          rising = rising stand.commands;
          below = λ k a at. let n = number_at 0 stand.commands k a at in omega (arith, n.0, n.1);
          acknowledged = refl;
          jobs = refl;
          workers = refl;
          alone = λ image here. settled_alone bytes image here ∙ sym (settled_bytes bytes);
          bodies = view.bodies;
          holds = (moved bytes (bytes_of (map settled bytes)) view.area view.bodies (sym (settled_bytes bytes)) holds).0;
          area_byte = (moved bytes (bytes_of (map settled bytes)) view.area view.bodies (sym (settled_bytes bytes)) holds).1;
          stand = stand;
          used = refl;
        },
      )
    where
      moved : (old new : List ℕ) (area : ℕ) (bodies : List (List ℕ)) → old ≡ new → (h : HoldsRecords old area bodies) → (k : HoldsRecords new area bodies) × (k.area_byte ≡ h.area_byte)
      moved old new area bodies is h = subst (λ (l : List ℕ). (k : HoldsRecords l area bodies) × (k.area_byte ≡ h.area_byte)) is (h, refl)

-- ---- what happens besides commits

pub same_core : {Disk P : Type 0} (D : Ghosts Disk) (book : BookView Disk) (old new : Contents P) → new.core ≡ old.core → Shows D book old → Shows D book new
same_core D book old new same shows = record {
  library = ap (λ (c : Core). c.library) same ∙ shows.library;
  order = subst (λ (c : Core). ShowsOrder book c.order c.acknowledged) (sym same) shows.order;
  phase = subst (λ (c : Core). IsPhase book.library.closed book.failed c.phase) (sym same) shows.phase;
  disk = subst (λ (c : Core). ShowsDisk D book.library c.store) (sym same) shows.disk;
}

-- handing in a job, taking a piece and handing in its result leave the core as it is, so the book still shows the
-- state
pub beside : {Disk P : Type 0} (rules : Rules P) (D : Ghosts Disk) (book : BookView Disk) (old new : Contents P) (event : Event P) (reply : Option Reply)
    → IsBeside event → Step rules old event reply new → Shows D book old → Shows D book new
beside rules D book old new (events.Submit client call request) reply is step shows = same_core D book old new (ap (λ (s : Contents _). s.core) step.new_is) shows
beside rules D book old new (events.Take worker client part) reply is step shows = same_core D book old new (ap (λ (s : Contents _). s.core) step.new_is) shows
beside rules D book old new (events.Done worker piece) reply is step shows = same_core D book old new (ap (λ (s : Contents _). s.core) step.new_is) shows
beside rules D book old new (events.Refuse worker number) reply is step shows = same_core D book old new (ap (λ (s : Contents _). s.core) step.new_is) shows
beside rules D book old new (events.Begin client) reply is step shows = absurd is
beside rules D book old new events.WriteBody reply is step shows = absurd is
beside rules D book old new events.SyncBody reply is step shows = absurd is
beside rules D book old new events.WriteGate reply is step shows = absurd is
beside rules D book old new events.SyncGate reply is step shows = absurd is
beside rules D book old new events.RewriteAll reply is step shows = absurd is
beside rules D book old new events.SyncAll reply is step shows = absurd is
beside rules D book old new events.WriteArea reply is step shows = absurd is
beside rules D book old new events.SyncArea reply is step shows = absurd is
beside rules D book old new events.Fail reply is step shows = absurd is
beside rules D book old new (events.Ack client) reply is step shows = absurd is
beside rules D book old new (events.Crash choice) reply is step shows = absurd is
beside rules D book old new events.Recover reply is step shows = absurd is
