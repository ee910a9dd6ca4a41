-- What each image of the disk recovers to, by phase, and what a recovery keeps. The reason: in each phase every image holds records that
-- represent the order, or the order without its last command; in the second case that command was not acknowledged.
use Rattle.std.proofs.Common.{◌≡◌, ◌≢◌, ◌⊎◌, inl, inr, ℕ, ◌+◌, ◌<◌, ◌≤◌, List, [], ◌∷◌, ◌++◌, length, take, refl, sym, ap, subst, ◌∙◌, arith, All, Contains}
use Rattle.std.specs.Prelude.{IsOk}
use Rattle.std.specs.FinMap.{empty}
use Rattle.std.proofs.lemmas.Bool.{cases_eq}
use Rattle.std.proofs.lemmas.List.{append-nil, take_all, take_at, length-append}
use Rattle.cc_disk.specs.Model.{bytes_of, IsImage}
use Rattle.cc_disk.specs.Images.{LeavesAlone}
use Rattle.cc_journal.specs.Commit.{Commit, rewrite_commit}
use Rattle.cc_journal.specs.Format.{HoldsRecords, HoldsOneOf, room_of}
use Rattle.cc_journal.proofs.Records.{holds_alone}
use Rattle.cc_library.specs.Apply.{Units, apply, library_of}
use Rattle.cc_library.specs.Body.{IsCommand, body_of}
use Rattle.cc_library.specs.Recovered.{StandFor, Recovers}
use Rattle.cc_unit.specs.declared.unit.StoredUnit.{StoredUnit}
use Rattle.cc_library.proofs.Commands.{written}
use Rattle.cc_library.proofs.Standing.{one_more, one_map, holds_recovers}
use Rattle.cc_core.specs.declared.command.Numbered.{Numbered}
use Rattle.cc_core.specs.declared.contents.Due.{Due}
use Rattle.cc_core.specs.declared.contents.RewriteDue.{RewriteDue}
use Rattle.cc_core.specs.declared.contents.RewriteDue.TheVariants.{SyncAll, WriteArea, SyncArea}
use Rattle.cc_core.specs.declared.contents.Phase.{Phase}
use Rattle.cc_core.specs.declared.contents.Phase.TheVariants.{Idle, Committing, Rewriting, Failed, Crashed}
use Rattle.cc_core.specs.StoreState.{StoreState}
use Rattle.cc_core.specs.Store.{rewrite_stepped}
use Rattle.cc_core.specs.Step.{IsLongest, commands, phase_after}
use Rattle.cc_core.specs.Run.{AreRising, EachUnit, Survives}
use Rattle.cc_core.specs.internal.Ready.{HasRoom}
use Rattle.cc_core.proofs.Orders.{library-push}
use Rattle.cc_core.proofs.Held.{HoldsInOneOf, IsAtRest, InCommit, commit_images}
use Rattle.cc_core.proofs.Rewrites.{InRewrite, rewrite_images, all_synced, byte_written, rewrite_ends}

-- ---- what the disk holds, by phase

-- the records represent the order without its last command, which was not acknowledged
pub record LacksLast (bodies : List (List ℕ)) (order acknowledged : List Numbered) : Type 0 where
  pub prefix : List Numbered
  pub last : Numbered
  pub is : order ≡ prefix ++ last ∷ []
  pub acked : All (Contains prefix) acknowledged
  pub stand : StandFor bodies (library_of (commands prefix))

-- the image holds records that represent the order, or the order without its last command
pub record Ends (area : ℕ) (order acknowledged : List Numbered) (image : List ℕ) : Type 0 where
  pub bodies : List (List ℕ)
  pub held : HoldsRecords image area bodies
  pub known : StandFor bodies (library_of (commands order)) ⊎ LacksLast bodies order acknowledged

-- outside a commit: the disk is at rest, and holds the order
pub record HoldsOrder (store : StoreState) (order : List Numbered) : Type 0 where
  pub bodies : List (List ℕ)
  pub rest : IsAtRest store bodies
  pub stand : StandFor bodies (library_of (commands order))

-- in a commit: the disk is at the point where this step is due; its old records represent the order without the last command
pub record HoldsFlight (numbered : Numbered) (due : Due) (store : StoreState) (order acknowledged : List Numbered) : Type 0 where
  pub bodies : List (List ℕ)
  pub prefix : List Numbered
  pub is : order ≡ prefix ++ numbered ∷ []
  pub acked : All (Contains prefix) acknowledged
  pub taken : IsOk (apply (library_of (commands prefix)) numbered.command)
  pub stand : StandFor bodies (library_of (commands prefix))
  pub spelled : IsCommand numbered.command
  pub room : HasRoom due store numbered.command
  pub on_disk : InCommit due store bodies (body_of numbered.command)

-- in a rewrite: the disk is at the point where this step is due; the old records and the new ones both represent the order
pub record HoldsRewrite (commit : Commit) (due : RewriteDue) (store : StoreState) (order : List Numbered) : Type 0 where
  pub bodies : List (List ℕ)
  pub more : List (List ℕ)
  pub stand : StandFor bodies (library_of (commands order))
  pub stand_anew : StandFor more (library_of (commands order))
  pub is : commit ≡ rewrite_commit store.area_byte store.area more
  pub room : room_of more ≤ store.area
  pub on_disk : InRewrite due store bodies more

-- after a failed step: `Ends` holds for each image
abbrev pub HoldsEnds : StoreState → List Numbered → List Numbered → Type 0
HoldsEnds store order acknowledged = (image : List ℕ) → IsImage store.cells image → Ends store.area order acknowledged image

-- after a crash: there is one image, and `Ends` holds for it
pub record HoldsCrash (store : StoreState) (order acknowledged : List Numbered) : Type 0 where
  pub alone : LeavesAlone (bytes_of store.cells) (IsImage store.cells)
  pub ends : Ends store.area order acknowledged (bytes_of store.cells)

abbrev pub IsKept : Phase → StoreState → List Numbered → List Numbered → Type 0
IsKept Idle store order acknowledged = HoldsOrder store order
IsKept (Committing client numbered due) store order acknowledged = HoldsFlight numbered due store order acknowledged
IsKept (Rewriting commit due) store order acknowledged = HoldsRewrite commit due store order
IsKept (Failed failed) store order acknowledged = HoldsEnds store order acknowledged
IsKept Crashed store order acknowledged = HoldsCrash store order acknowledged

-- if one more record is added for an accepted command, the records represent the order with this command
pub stand_more : (bodies : List (List ℕ)) (prefix : List Numbered) (numbered : Numbered) (order : List Numbered) → order ≡ prefix ++ numbered ∷ [] → StandFor bodies (library_of (commands prefix)) → IsCommand numbered.command
    → IsOk (apply (library_of (commands prefix)) numbered.command) → StandFor (bodies ++ body_of numbered.command ∷ []) (library_of (commands order))
stand_more bodies prefix numbered order is stand spelled taken =
    subst (StandFor (bodies ++ body_of numbered.command ∷ [])) (sym (ap (λ (l : List Numbered). library_of (commands l)) is ∙ library-push prefix numbered))
    (one_more bodies (library_of (commands prefix)) (body_of numbered.command) numbered.command stand (written numbered.command spelled) taken)

-- if an image holds the old records, or these and one more, `Ends` holds for it
pub ends_of : (numbered : Numbered) (store : StoreState) (order acknowledged : List Numbered) (bodies : List (List ℕ)) (prefix : List Numbered) → order ≡ prefix ++ numbered ∷ [] → All (Contains prefix) acknowledged
    → IsOk (apply (library_of (commands prefix)) numbered.command) → StandFor bodies (library_of (commands prefix)) → IsCommand numbered.command
    → (image : List ℕ) → HoldsInOneOf store.area_byte store.area bodies (body_of numbered.command) image → Ends store.area order acknowledged image
ends_of numbered store order acknowledged bodies prefix is acked taken stand spelled image (inl old) =
    record { bodies = bodies; held = old.holds; known = inr (record { prefix = prefix; last = numbered; is = is; acked = acked; stand = stand }) }
ends_of numbered store order acknowledged bodies prefix is acked taken stand spelled image (inr new) =
    record { bodies = bodies ++ body_of numbered.command ∷ []; held = new.holds; known = inl (stand_more bodies prefix numbered order is stand spelled taken) }

-- if an image holds the old records or the new ones of a rewrite, `Ends` holds for it
pub ends_either : (area : ℕ) (order acknowledged : List Numbered) (bodies more : List (List ℕ)) → StandFor bodies (library_of (commands order)) → StandFor more (library_of (commands order))
    → (image : List ℕ) → HoldsOneOf area bodies more image → Ends area order acknowledged image
ends_either area order acknowledged bodies more stand stand_anew image (inl old) = record { bodies = bodies; held = old.holds; known = inl stand }
ends_either area order acknowledged bodies more stand stand_anew image (inr new) = record { bodies = more; held = new.holds; known = inl stand_anew }

-- in every phase `Ends` holds for each image
pub each_ends : (phase : Phase) (store : StoreState) (order acknowledged : List Numbered) → IsKept phase store order acknowledged → (image : List ℕ) → IsImage store.cells image → Ends store.area order acknowledged image
each_ends Idle store order acknowledged k image now = record { bodies = k.bodies; held = (k.rest.images image now).holds; known = inl k.stand }
each_ends (Committing client numbered due) store order acknowledged k image now =
    ends_of numbered store order acknowledged k.bodies k.prefix k.is k.acked k.taken k.stand k.spelled image (commit_images due store k.bodies (body_of numbered.command) k.on_disk image now)
each_ends (Rewriting commit due) store order acknowledged k image now =
    ends_either store.area order acknowledged k.bodies k.more k.stand k.stand_anew image (rewrite_images due store k.bodies k.more k.room k.on_disk image now)
each_ends (Failed failed) store order acknowledged k image now = k image now
each_ends Crashed store order acknowledged k image now = subst (Ends store.area order acknowledged) (sym (k.alone image now)) k.ends

-- if the disk holds what belongs to a step of a rewrite, then after the step it holds what belongs to the new phase
pub rewrite_kept : (commit : Commit) (due : RewriteDue) (store : StoreState) (order acknowledged : List Numbered) → HoldsRewrite commit due store order
    → IsKept (phase_after commit due) (rewrite_stepped due commit store) order acknowledged
rewrite_kept commit SyncAll store order acknowledged h = record {
  bodies = h.bodies;
  more = h.more;
  stand = h.stand;
  stand_anew = h.stand_anew;
  is = h.is;
  room = h.room;
  on_disk = all_synced store h.bodies h.more commit h.on_disk;
}
rewrite_kept commit WriteArea store order acknowledged h = record {
  bodies = h.bodies;
  more = h.more;
  stand = h.stand;
  stand_anew = h.stand_anew;
  is = h.is;
  room = h.room;
  on_disk = subst (λ (c : Commit). InRewrite SyncArea (rewrite_stepped WriteArea c store) h.bodies h.more) (sym h.is) (byte_written store h.bodies h.more h.room h.on_disk);
}
rewrite_kept commit SyncArea store order acknowledged h = record {
  bodies = h.more;
  rest = subst (λ (c : Commit). IsAtRest (rewrite_stepped SyncArea c store) h.more) (sym h.is) (rewrite_ends store h.bodies h.more h.on_disk);
  stand = h.stand_anew;
}

-- if `Ends` holds for an image, and the acknowledged commands are in the order, the image survives
pub ends_survives : (area : ℕ) (order acknowledged : List Numbered) (image : List ℕ) → AreRising order → AreRising acknowledged → All (Contains order) acknowledged → Ends area order acknowledged image
    → Survives image order acknowledged
ends_survives area order acknowledged image rising rising_acked acked e = at e.known
  where
    at : StandFor e.bodies (library_of (commands order)) ⊎ LacksLast e.bodies order acknowledged → Survives image order acknowledged
    at (inl stand) = record {
      rising = rising;
      rising_acked = rising_acked;
      kept = order;
      lost = [];
      in_order = sym (append-nil order);
      few = omega arith;
      acked = acked;
      recovers = holds_recovers image area e.bodies (library_of (commands order)) (holds_alone image area e.bodies e.held) stand;
    }
    at (inr lacks) = record {
      rising = rising;
      rising_acked = rising_acked;
      kept = lacks.prefix;
      lost = lacks.last ∷ [];
      in_order = lacks.is;
      few = omega arith;
      acked = lacks.acked;
      recovers = holds_recovers image area e.bodies (library_of (commands lacks.prefix)) (holds_alone image area e.bodies e.held) lacks.stand;
    }

-- if `Ends` holds for an image, the library that it recovers to is right, provided that the order's library is right, with and without
-- its last command
pub ends_right : (is_right : StoredUnit → Type 0) (area : ℕ) (order acknowledged : List Numbered) (image : List ℕ) → Ends area order acknowledged image → EachUnit is_right (library_of (commands order))
    → ((prefix : List Numbered) (last : Numbered) → order ≡ prefix ++ last ∷ [] → EachUnit is_right (library_of (commands prefix))) → (library : Units) → Recovers image library → EachUnit is_right library
ends_right is_right area order acknowledged image e whole before library recovered = at e.known
  where
    at : StandFor e.bodies (library_of (commands order)) ⊎ LacksLast e.bodies order acknowledged → EachUnit is_right library
    at (inl stand) = subst (EachUnit is_right) (sym ((holds_recovers image area e.bodies (library_of (commands order)) (holds_alone image area e.bodies e.held) stand).alone library recovered)) whole
    at (inr lacks) =
        subst (EachUnit is_right) (sym ((holds_recovers image area e.bodies (library_of (commands lacks.prefix)) (holds_alone image area e.bodies e.held) lacks.stand).alone library recovered))
        (before lacks.prefix lacks.last lacks.is)

-- if both lists of records represent the same right library, and an image holds one of the lists, the library that it recovers to is
-- right
pub one_right : (is_right : StoredUnit → Type 0) (area : ℕ) (bodies more : List (List ℕ)) (units : Units) → StandFor bodies units → StandFor more units → EachUnit is_right units
    → (image : List ℕ) → HoldsOneOf area bodies more image → (library : Units) → Recovers image library → EachUnit is_right library
one_right is_right area bodies more units stand stand_anew each image (inl old) library recovered = subst (EachUnit is_right) (sym ((holds_recovers image area bodies units old stand).alone library recovered)) each
one_right is_right area bodies more units stand stand_anew each image (inr new) library recovered = subst (EachUnit is_right) (sym ((holds_recovers image area more units new stand_anew).alone library recovered)) each

-- in this phase the disk holds the whole order, since no command is in commit or has failed
abbrev pub IsWhole : Phase → Type 0
IsWhole Idle = Unit {0}
IsWhole (Committing client numbered due) = ⊥
IsWhole (Rewriting commit due) = Unit {0}
IsWhole (Failed failed) = ⊥
IsWhole Crashed = ⊥

-- in a phase in which the disk holds the whole order, each image recovers to a right library, if the order's library is right
pub each_right : (is_right : StoredUnit → Type 0) (phase : Phase) (store : StoreState) (order acknowledged : List Numbered) → IsWhole phase → IsKept phase store order acknowledged
    → EachUnit is_right (library_of (commands order)) → (image : List ℕ) (library : Units) → IsImage store.cells image → Recovers image library → EachUnit is_right library
each_right is_right Idle store order acknowledged w k each image library now =
    one_right is_right store.area k.bodies k.bodies (library_of (commands order)) k.stand k.stand each image (inl (holds_alone image store.area k.bodies (k.rest.images image now).holds)) library
each_right is_right (Committing client numbered due) store order acknowledged w k each image library now = absurd w
each_right is_right (Rewriting commit due) store order acknowledged w k each image library now =
    one_right is_right store.area k.bodies k.more (library_of (commands order)) k.stand k.stand_anew each image (rewrite_images due store k.bodies k.more k.room k.on_disk image now) library
each_right is_right (Failed failed) store order acknowledged w k each image library now = absurd w
each_right is_right Crashed store order acknowledged w k each image library now = absurd w

-- ---- the recovery

-- the order that a recovery keeps has every acknowledged command
pub kept_acked : (bodies : List (List ℕ)) (order acknowledged kept : List Numbered) (library : Units) → All (Contains order) acknowledged → StandFor bodies library
    → StandFor bodies (library_of (commands order)) ⊎ LacksLast bodies order acknowledged → IsLongest library order kept → All (Contains kept) acknowledged
kept_acked bodies order acknowledged kept library acked stand known longest =
    subst (λ (l : List Numbered). All (Contains l) acknowledged) (sym longest.prefix) (at known (cases_eq longest.count (length order)))
  where
    -- a prefix that leads to this library is not longer than the one that is kept
    no_more : (n : ℕ) (prefix : List Numbered) → n ≤ length order → take n order ≡ prefix → StandFor bodies (library_of (commands prefix)) → longest.count < n → ⊥
    no_more n prefix within is prefix_stand less =
        longest.longest n less within (ap (λ (l : List Numbered). library_of (commands l)) is ∙ one_map empty bodies (library_of (commands prefix)) library prefix_stand stand)

    at : StandFor bodies (library_of (commands order)) ⊎ LacksLast bodies order acknowledged → (longest.count ≡ length order) ⊎ (longest.count ≢ length order) → All (Contains (take longest.count order)) acknowledged
    at known (inl same) = subst (λ (l : List Numbered). All (Contains l) acknowledged) (sym (take_all longest.count order (omega arith))) acked
    at (inl whole) (inr differs) = absurd (no_more (length order) order (omega arith) (take_all (length order) order (omega arith)) whole (omega (arith, longest.within, differs)))
    at (inr lacks) (inr differs) =
        let long : length order ≡ length lacks.prefix + 1 = ap length lacks.is ∙ length-append lacks.prefix (lacks.last ∷ []) in
        let prefix_is : take (length lacks.prefix) order ≡ lacks.prefix =
        ap (λ (l : List Numbered). take (length lacks.prefix) l) lacks.is ∙ take_at lacks.prefix (lacks.last ∷ []) (length lacks.prefix) refl in
        let not_less : longest.count < length lacks.prefix → ⊥ = no_more (length lacks.prefix) lacks.prefix (omega arith) prefix_is lacks.stand in
        let count_is : longest.count ≡ length lacks.prefix = omega (arith, not_less, differs, longest.within) in
        subst (λ (l : List Numbered). All (Contains l) acknowledged) (sym (ap (λ (n : ℕ). take n order) count_is ∙ prefix_is)) lacks.acked
