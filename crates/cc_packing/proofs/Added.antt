-- What an Add leaves of a disk that was read before, why it is refused, and that a refusal changes nothing.
use Rattle.std.proofs.Common.{◌≡◌, ◌≢◌, ◌⊎◌, ◌∙◌, inl, inr, ℕ, ◌+◌, Bool, true, false, IsTrue, List, Result, Ok, Err, refl, sym, ap, subst, arith}
use Rattle.std.specs.Prelude.{if◌then◌else◌, is_ok, IfErr, IfOk, IsOk, OnOk}
use Rattle.std.specs.FinMap as map
use Rattle.cc_disk.specs.Images.{LeavesOnly, OnlyReads}
use Rattle.cc_journal.specs.Format.{HoldsRecords}
use Rattle.cc_unit.specs.declared.unit.StoredUnit.{StoredUnit}
use Rattle.cc_library.specs.Change.{LibraryCommand}
use Rattle.cc_library.specs.declared.command.Change.TheVariants.{Add}
use Rattle.cc_library.specs.declared.fault.LibraryFault.{LibraryFault}
use Rattle.cc_library.specs.declared.fault.LibraryFault.TheVariants.{Exists, Absent, Full, DiskFault, Closed, Damaged, NotALibrary, OutOfMemory}
use Rattle.cc_library.specs.Answers.{ChangeAnswers, ChangeLeaves, OpenFaults}
use Rattle.cc_library.specs.Apply.{Units, after, apply, exists, kept}
use Rattle.cc_library.specs.Recovered.{Recovers, RecoversAlone, RecoversOneOf, View}
use Rattle.cc_packing.specs.Added.{IsAddedTo, IsNotAdded, MayBeAdded}

-- ---- the map

-- an Add of a name without a unit sets the unit under the name
pub added : (units : Units) (name : List ℕ) (unit : StoredUnit) → map.contains_key units name ≡ false → after units (Add name unit) ≡ map.insert units name unit
added units name unit e = ap (λ (b : Bool). kept units (if b then Err exists else Ok (map.insert units name unit))) e

free_as : (units : Units) (name : List ℕ) (unit : StoredUnit) (has : Bool) → map.contains_key units name ≡ has → IsOk (apply units (Add name unit)) → map.contains_key units name ≡ false
free_as units name unit false e ok = e
free_as units name unit true e ok =
    let no = sym (ap (λ (b : Bool). is_ok (if b then Err exists else Ok (map.insert units name unit))) e) ∙ ok in absurd (cc)

-- if the map accepts an Add, the name has no unit
pub free : (units : Units) (name : List ℕ) (unit : StoredUnit) → IsOk (apply units (Add name unit)) → map.contains_key units name ≡ false
free units name unit ok = free_as units name unit (map.contains_key units name) refl ok

taken_as : (units : Units) (name : List ℕ) (unit : StoredUnit) (has : Bool) → map.contains_key units name ≡ has → apply units (Add name unit) ≡ Err exists → map.contains_key units name ≡ true
taken_as units name unit true e why = e
taken_as units name unit false e why =
    let no = sym (ap (λ (b : Bool). is_ok (if b then Err exists else Ok (map.insert units name unit))) e) ∙ ap is_ok why in absurd (cc)

-- if the map refuses it, the name has one
pub taken : (units : Units) (name : List ℕ) (unit : StoredUnit) → apply units (Add name unit) ≡ Err exists → map.contains_key units name ≡ true
taken units name unit why = taken_as units name unit (map.contains_key units name) refl why

never_absent_as : (units : Units) (name : List ℕ) (unit : StoredUnit) (has : Bool) → map.contains_key units name ≡ has → (e : ℕ) → e ≢ exists → apply units (Add name unit) ≡ Err e → ⊥
never_absent_as units name unit true e n other why =
    let is = sym (ap (λ (b : Bool). if b then Err exists else Ok (map.insert units name unit)) e) ∙ why in
    let same : n ≡ exists = cc in absurd (other same)
never_absent_as units name unit false e n other why =
    let no = sym (ap (λ (b : Bool). is_ok (if b then Err exists else Ok (map.insert units name unit))) e) ∙ ap is_ok why in absurd (cc)

-- ---- moments

module _ {D : Type 0} (seen : D → List ℕ) (may_leave : D → List ℕ → Type 0) (moment : D → ℕ) (left_since : D → ℕ → List ℕ → Type 0) where
  earlier : {A B P : Type 0} → (A → B) → A ⊎ P → B ⊎ P
  earlier f (inl a) = inl (f a)
  earlier f (inr p) = inr p

  deeper : {A B C P : Type 0} → (A → B) → A ⊎ P → B ⊎ (C ⊎ P)
  deeper f (inl a) = inl (f a)
  deeper f (inr p) = inr (inr p)

  -- if a disk is read and then changed in a way that leaves only P, the two together leave only what could be left before, or
  -- P
  pub read_then : (P : List ℕ → Type 0) (old mid new : D) → ((image : List ℕ) → left_since old (moment old) image → may_leave old image)
      → OnlyReads seen may_leave moment left_since old mid → LeavesOnly moment left_since mid new P → LeavesOnly moment left_since old new (λ image. may_leave old image ⊎ P image)
  read_then P old mid new only_now first second = record {
    later = omega (arith, first.later, second.later);
    each = λ image left. earlier (λ l. only_now image (first.moments (moment old) image (omega arith) l)) (second.before (moment old) image first.later left);
    before = λ t image le left. deeper (λ l. first.moments t image le l) (second.before t image (omega (arith, le, first.later)) left);
  }

  -- a read by itself leaves only what could be left before
  pub read_alone : (P : List ℕ → Type 0) (old new : D) → ((image : List ℕ) → left_since old (moment old) image → may_leave old image)
      → OnlyReads seen may_leave moment left_since old new → LeavesOnly moment left_since old new (λ image. may_leave old image ⊎ P image)
  read_alone P old new only_now reads = record {
    later = reads.later;
    each = λ image left. inl (only_now image (reads.moments (moment old) image (omega arith) left));
    before = λ t image le left. inl (reads.moments t image le left);
  }

  -- what is not touched is only read
  pub reads_none : (disk : D) → OnlyReads seen may_leave moment left_since disk disk
  reads_none disk = record { same = refl; images = λ image left. left; later = omega arith; moments = λ t image within left. left }

-- ---- answers

-- if A implies B, and A holds if the answer is Ok, then so does B
pub on_ok : {T F : Type 0} {A B : Type 0} → (A → B) → (r : Result T F) → OnOk r A → OnOk r B
on_ok step (Ok t) a = step a
on_ok step (Err f) a = tt

-- if P implies Q, and P holds of a result's value, if there is one, then so does Q
pub of_ok : {A F : Type 0} {P Q : A → Type 0} → ((a : A) → P a → Q a) → (r : Result A F) → IfOk r P → IfOk r Q
of_ok step (Ok a) p = step a p
of_ok step (Err f) p = tt

-- if P implies Q, and P holds of a result's refusal, if there is one, then so does Q
pub of_err : {A F : Type 0} {P Q : F → Type 0} → ((f : F) → P f → Q f) → (r : Result A F) → IfErr r P → IfErr r Q
of_err step (Ok a) p = tt
of_err step (Err f) p = step f p

-- after Ok, every image recovers to the earlier map with the unit
pub added_to : {D : Type 0} (answer : Result (Unit {0}) LibraryFault) (old new : View D) (name : List ℕ) (unit : StoredUnit) (may_leave : D → List ℕ → Type 0) (H : Type 0) (seen : List ℕ) (before later : ℕ)
    → ChangeAnswers old (Add name unit) before later answer → ChangeLeaves (Add name unit) old new answer → (H → Recovers seen old.units)
    → OnOk answer (H → (image : List ℕ) → may_leave new.disk image → RecoversAlone image new.units)
    → OnOk answer (H → IsAddedTo seen name unit (may_leave new.disk))
added_to (Ok done) old new name unit may_leave H seen before later answers leaves recovers kept = λ h.
    let is_free : map.contains_key old.units name ≡ false = free old.units name unit answers.0.1 in
    let units : new.units ≡ map.insert old.units name unit = ap (λ v. v.units) leaves ∙ added old.units name unit is_free in
    record {
      units = old.units;
      recovers = recovers h;
      free = is_free;
      added = λ image left. subst (λ (m : Units). RecoversAlone image m) units (kept h image left);
    }
added_to (Err fault) old new name unit may_leave H seen before later answers leaves recovers kept = tt

-- a change that was refused without a failure of the device leaves everything as it was
pub change_untouched : {D : Type 0} (answer : Result (Unit {0}) LibraryFault) (command : LibraryCommand) (old new : View D) → ChangeLeaves command old new answer → IfErr answer (λ fault. fault ≢ DiskFault → new ≡ old)
change_untouched (Ok done) command old new leaves = tt
change_untouched (Err DiskFault) command old new leaves = λ other. absurd (other refl)
change_untouched (Err Closed) command old new leaves = λ other. leaves
change_untouched (Err Exists) command old new leaves = λ other. leaves
change_untouched (Err Absent) command old new leaves = λ other. leaves
change_untouched (Err Full) command old new leaves = λ other. leaves
change_untouched (Err OutOfMemory) command old new leaves = λ other. leaves
change_untouched (Err Damaged) command old new leaves = λ other. leaves
change_untouched (Err NotALibrary) command old new leaves = λ other. leaves

-- the reason for which the change was refused is the reason why the unit is not added
pub add_refused : {D : Type 0} (honest : Bool) (seen : List ℕ) (begin before after : ℕ) (answer : Result (Unit {0}) LibraryFault) (old : View D) (name : List ℕ) (unit : StoredUnit) → before ≡ begin → old.closed ≡ false
    → (IsTrue honest → Recovers seen old.units) → (IsTrue honest → HoldsRecords seen old.area old.bodies) → ChangeAnswers old (Add name unit) before after answer
    → IfErr answer (IsNotAdded honest seen begin after name unit)
add_refused honest seen begin before after (Ok done) old name unit same is_open recovers holds why = tt
add_refused honest seen begin before after (Err Exists) old name unit same is_open recovers holds why =
    (why.2 ∙ same, λ h. (old.units, recovers h, taken old.units name unit why.1))
add_refused honest seen begin before after (Err Full) old name unit same is_open recovers holds why =
    (why.2 ∙ same, λ h. (old.area, old.bodies, holds h, why.1))
add_refused honest seen begin before after (Err DiskFault) old name unit same is_open recovers holds why = why.2 ∙ ap (λ n. n + 1) same
add_refused honest seen begin before after (Err OutOfMemory) old name unit same is_open recovers holds why = why.1 ∙ same
add_refused honest seen begin before after (Err Closed) old name unit same is_open recovers holds why = let no = sym is_open ∙ why.0 in absurd (cc)
add_refused honest seen begin before after (Err Absent) old name unit same is_open recovers holds why =
    absurd (never_absent_as old.units name unit (map.contains_key old.units name) refl _ (omega arith) why.1)
add_refused honest seen begin before after (Err Damaged) old name unit same is_open recovers holds why = absurd why
add_refused honest seen begin before after (Err NotALibrary) old name unit same is_open recovers holds why = absurd why

-- if the library was not opened, no unit is added
pub open_refused : (honest : Bool) (seen : List ℕ) (before after : ℕ) (name : List ℕ) (unit : StoredUnit) (fault : LibraryFault) → OpenFaults honest seen before after fault → IsNotAdded honest seen before after name unit fault
open_refused honest seen before after name unit DiskFault why = why
open_refused honest seen before after name unit NotALibrary why = why
open_refused honest seen before after name unit Damaged why = why
open_refused honest seen before after name unit OutOfMemory why = why
open_refused honest seen before after name unit Exists why = absurd why
open_refused honest seen before after name unit Absent why = absurd why
open_refused honest seen before after name unit Full why = absurd why
open_refused honest seen before after name unit Closed why = absurd why

-- ---- the map after an Add

one_of_added_as : (units : Units) (name : List ℕ) (unit : StoredUnit) (has : Bool) → map.contains_key units name ≡ has → (image : List ℕ)
    → RecoversOneOf units (after units (Add name unit)) image → RecoversOneOf units (map.insert units name unit) image
one_of_added_as units name unit false e image is = subst (λ (m : Units). RecoversOneOf units m image) (added units name unit e) is
one_of_added_as units name unit true e image (inl old) = inl old
one_of_added_as units name unit true e image (inr new) =
    inl (subst (λ (m : Units). RecoversAlone image m) (ap (λ (b : Bool). kept units (if b then Err exists else Ok (map.insert units name unit))) e) new)

-- an image with the map before an Add or the one after it has the former or that with the unit
pub one_of_added : (units : Units) (name : List ℕ) (unit : StoredUnit) (before : List ℕ → Type 0) (image : List ℕ) → before image ⊎ RecoversOneOf units (after units (Add name unit)) image → MayBeAdded before units name unit image
one_of_added units name unit before image (inl left) = inl left
one_of_added units name unit before image (inr is) = inr (one_of_added_as units name unit (map.contains_key units name) refl image is)
