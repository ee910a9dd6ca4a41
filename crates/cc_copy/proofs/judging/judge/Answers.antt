-- The unit that is audited is the one under the name.
use Rattle.std.proofs.Common.{◌≡◌, Some, sym, ap, ◌∙◌}
use Rattle.std.specs.FinMap as map
use Rattle.cc_unit.specs.declared.unit.StoredUnit.{StoredUnit}
use Rattle.cc_copy.proofs.Audited.{judged_more}
use Rattle.cc_copy.proofs.judging.judge.Goals as goal

pub loop-name-preserved : goal.loop-name-preserved
loop-name-preserved g c =
    let units = c.args.units.now in
    let name = c.name-item.result in
    let unit : StoredUnit = c.deref.result.now in
    let found : map.get units name ≡ Some unit = sym c.in-Some.ensures ∙ ap Some (sym c.deref.ensures) in
    judged_more units c.args.names.now c.loop-name.name-index name c.in_ok-audit.audit c.loop-name.judged c.put.new.judged c.loop-name-test.true c.name-item.is (unit, found, c.in_ok-audit.ensures)
    c.in_ok-put.ensures.confirmed c.in_ok-put.ensures.left_out c.loop-name.invariant
