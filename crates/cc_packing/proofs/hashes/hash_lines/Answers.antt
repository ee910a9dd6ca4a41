-- The line that is added is that of the unit under the name.
use Rattle.std.proofs.Common.{◌≡◌, ℕ, List, ◌++◌, Some, sym, ap, ◌∙◌}
use Rattle.std.specs.FinMap as map
use Rattle.cc_unit.specs.declared.unit.StoredUnit.{StoredUnit}
use Rattle.cc_packing.proofs.Lines.{lines_more}
use Rattle.cc_packing.proofs.hashes.hash_lines.Goals as goal

pub loop-name-preserved : goal.loop-name-preserved
loop-name-preserved c =
    let units = c.args.units.now in
    let name = c.name-item.result in
    let unit : StoredUnit = c.deref.result.now in
    let found : map.get units name ≡ Some unit = sym c.in-Some.ensures ∙ ap Some (sym c.deref.ensures) in
    lines_more units c.args.names.now c.loop-name.name-index name unit _ _ _ c.loop-name-test.true c.name-item.is found c.in_ok-line.ensures
    (c.in_ok-extend_from_slice.ensures.items ∙ ap (λ (l : List ℕ). c.loop-name.text.items ++ l) c.as_slice.ensures.value) c.loop-name.invariant
