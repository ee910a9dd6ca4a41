-- The unit that was found is the one that is written of, under its name.
use Rattle.std.proofs.Common.{◌≡◌, IsTrue, ℕ, List, sym, subst}
use Rattle.cc_call.specs.Call.{IsUnitOn}
use Rattle.cc_packing.specs.Packing.{IsPacked}
use Rattle.cc_unit.specs.declared.unit.StoredUnit.{StoredUnit}
use Rattle.cc_keeping.proofs.packing.packed_on.Goals as goal

pub returns-in-Ok-pack : goal.returns-in-Ok-pack
returns-in-Ok-pack g c =
    let D = g.D.Disk in
    let found : IsTrue D.honest → IsUnitOn (D.seen c.args.disk) c.args.name.now c.in_ok-unit.unit.value = rw c.in_ok-unit.was at c.unit_on-unit.ensures.found in
    let kept = subst (λ (unit : StoredUnit). IsTrue D.honest → IsUnitOn (D.seen c.args.disk) c.args.name.now unit) (sym c.deref.ensures) found in
    let told = subst (λ (name : List ℕ). IsPacked name c.deref.result.now c.in-Ok-pack.file.items) c.in-Ok.ensures.answer c.in-Ok-pack.ensures in
    λ h. (c.deref.result.now, kept h, told)
