-- What is put back: what a crash leaves of a disk that was read and then changed, and the map that an Add or a Replace makes.
use Rattle.std.proofs.Common.{◌≡◌, ◌⊎◌, inl, inr, ℕ, Bool, true, false, List, refl, ap, subst, ◌∙◌, Result, Ok, Err, arith}
use Rattle.std.specs.Prelude.{if◌then◌else◌, OnOk}
use Rattle.std.specs.FinMap as map
use Rattle.cc_disk.specs.Images.{LeavesOnly, OnlyReads}
use Rattle.cc_unit.specs.declared.unit.StoredUnit.{StoredUnit}
use Rattle.cc_library.specs.Change.{LibraryCommand}
use Rattle.cc_library.specs.declared.command.Change.TheVariants.{Add, Replace}
use Rattle.cc_library.specs.declared.fault.LibraryFault.{LibraryFault}
use Rattle.cc_library.specs.Apply.{Units, after, exists, absent, kept, library_of}
use Rattle.cc_library.specs.Answers.{ChangeLeaves}
use Rattle.cc_library.specs.Recovered.{Recovers, RecoversAlone, RecoversOneOf, View}
use Rattle.cc_log.specs.Commands.{HasCommands}
use Rattle.cc_past.specs.Past.{IsStoredOn}
use Rattle.cc_past.specs.Restored.{MayBeRestored}
use Rattle.cc_past.specs.internal.Steps.{MayBe}

-- ---- the map

-- an Add of a name without a unit, or a Replace of one with a unit, sets the unit under the name
pub added : (units : Units) (name : List ℕ) (unit : StoredUnit) → map.contains_key units name ≡ false → after units (Add name unit) ≡ map.insert units name unit
added units name unit e = ap (λ (b : Bool). kept units (if b then Err exists else Ok (map.insert units name unit))) e

pub replaced : (units : Units) (name : List ℕ) (unit : StoredUnit) → map.contains_key units name ≡ true → after units (Replace name unit) ≡ map.insert units name unit
replaced units name unit e = ap (λ (b : Bool). kept units (if b then Ok (map.insert units name unit) else Err absent)) e

-- an image that has the records of commands recovers to the map that they made
pub commands_recover : (image : List ℕ) (commands : List LibraryCommand) → HasCommands image commands → Recovers image (library_of commands)
commands_recover image commands has = record {
  area = has.area;
  bodies = has.bodies;
  holds = has.holds;
  stand = record { commands = commands; spelled = has.read.spelled; accepted = has.read.accepted; map_is = refl };
}

-- ---- moments

module _ {D : Type 0} (seen : D → List ℕ) (may_leave : D → List ℕ → Type 0) (moment : D → ℕ) (left_since : D → ℕ → List ℕ → Type 0) where
  earlier : {A B P : Type 0} → (A → B) → A ⊎ P → B ⊎ P
  earlier f (inl a) = inl (f a)
  earlier f (inr p) = inr p

  deeper : {A B C P : Type 0} → (A → B) → A ⊎ P → B ⊎ (C ⊎ P)
  deeper f (inl a) = inl (f a)
  deeper f (inr p) = inr (inr p)

  -- if a disk is read and then changed in a way that leaves only P, the two together leave only what could be left before, or
  -- P
  pub read_then : (P : List ℕ → Type 0) (old mid new : D) → ((image : List ℕ) → left_since old (moment old) image → may_leave old image)
      → OnlyReads seen may_leave moment left_since old mid → LeavesOnly moment left_since mid new P → LeavesOnly moment left_since old new (λ image. may_leave old image ⊎ P image)
  read_then P old mid new only_now first second = record {
    later = omega (arith, first.later, second.later);
    each = λ image left. earlier (λ l. only_now image (first.moments (moment old) image (omega arith) l)) (second.before (moment old) image first.later left);
    before = λ t image le left. deeper (λ l. first.moments t image le l) (second.before t image (omega (arith, le, first.later)) left);
  }

  -- a read by itself leaves only what could be left before
  pub read_alone : (P : List ℕ → Type 0) (old new : D) → ((image : List ℕ) → left_since old (moment old) image → may_leave old image)
      → OnlyReads seen may_leave moment left_since old new → LeavesOnly moment left_since old new (λ image. may_leave old image ⊎ P image)
  read_alone P old new only_now reads = record {
    later = reads.later;
    each = λ image left. inl (only_now image (reads.moments (moment old) image (omega arith) left));
    before = λ t image le left. inl (reads.moments t image le left);
  }

-- ---- answers

-- if A implies B, and A holds if the answer is Ok, then so does B
pub on_ok : {T F : Type 0} {A B : Type 0} → (A → B) → (r : Result T F) → OnOk r A → OnOk r B
on_ok step (Ok t) a = step a
on_ok step (Err f) a = tt

-- after Ok, every image recovers to the map that the change makes
pub kept_as : {D : Type 0} (answer : Result (Unit {0}) LibraryFault) (command : LibraryCommand) (old new : View D) (may_leave : D → List ℕ → Type 0) (H : Type 0) (made : Units)
    → after old.units command ≡ made → ChangeLeaves command old new answer → OnOk answer (H → (image : List ℕ) → may_leave new.disk image → RecoversAlone image new.units)
    → OnOk answer (H → (image : List ℕ) → may_leave new.disk image → RecoversAlone image made)
kept_as (Ok done) command old new may_leave H made is leaves kept =
    let units : new.units ≡ made = ap (λ v. v.units) leaves ∙ is in
    λ h image left. subst (λ (m : Units). RecoversAlone image m) units (kept h image left)
kept_as (Err fault) command old new may_leave H made is leaves kept = tt

-- an image left after the disk was read and the unit put may have been left before, or has the earlier map or the restored
-- one
pub may_be_restored : (seen name : List ℕ) (number : ℕ) (before mid : List ℕ → Type 0) (units : Units) (stored : List ℕ) (unit : StoredUnit) → ((image : List ℕ) → mid image → before image)
    → stored ≡ name → IsStoredOn seen name number unit → (image : List ℕ) → before image ⊎ MayBe mid units (map.insert units stored unit) image → MayBeRestored seen name number before units image
may_be_restored seen name number before mid units stored unit none same is image (inl left) = inl left
may_be_restored seen name number before mid units stored unit none same is image (inr (inl left)) = inl (none image left)
may_be_restored seen name number before mid units stored unit none same is image (inr (inr p)) =
    inr (unit, is, subst (λ (n : List ℕ). RecoversOneOf units (map.insert units n unit) image) same p)
