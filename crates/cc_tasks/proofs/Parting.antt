-- What is taken out of a disk: facts about the recovered map, stated for the disk.
use Rattle.std.proofs.Common.{◌≡◌, ℕ, Bool, IsTrue, List, Result, Ok, Err, IfOk, IfErr}
use Rattle.cc_library.specs.Apply.{Units}
use Rattle.cc_library.specs.Recovered.{Recovers}
use Rattle.cc_tasks.specs.Part.{IsNoPartIn, IsNoPartOn}
use Rattle.cc_tasks.specs.declared.part.PartFault.{PartFault}
use Rattle.cc_tasks.specs.declared.part.PartFault.TheVariants.{BadName, Absent, Library, OutOfMemory}

-- if `P` implies `Q`, and a result's answer has `P`, then it has `Q`
pub of_ok : {A F : Type 0} {P Q : A → Type 0} → ((a : A) → P a → Q a) → (r : Result A F) → IfOk r P → IfOk r Q
of_ok step (Ok a) p = step a p
of_ok step (Err f) p = tt

-- if `P` implies `Q`, and a result's refusal has `P`, then it has `Q`
pub of_err : {A F : Type 0} {P Q : F → Type 0} → ((f : F) → P f → Q f) → (r : Result A F) → IfErr r P → IfErr r Q
of_err step (Ok a) p = tt
of_err step (Err f) p = step f p

-- if no read failed, the reason why the map to which a disk recovers has no such part is also the reason why the disk has none
pub no_part_on : (honest : Bool) (seen : List ℕ) (before after : ℕ) (name : List ℕ) (units : Units) → after ≡ before → (IsTrue honest → Recovers seen units)
    → (fault : PartFault) → IsNoPartIn units name fault → IsNoPartOn honest seen before after name fault
no_part_on honest seen before after name units same recovers BadName why = (same, why, λ h. (units, recovers h))
no_part_on honest seen before after name units same recovers Absent why = (same, λ h. (units, recovers h, why))
no_part_on honest seen before after name units same recovers (Library f) why = absurd why
no_part_on honest seen before after name units same recovers OutOfMemory why = same
