-- The unit that was found is the one that runs.
use Rattle.std.proofs.Common.{◌≡◌, IsTrue, sym, subst}
use Rattle.cc_unit.specs.declared.unit.StoredUnit.{StoredUnit}
use Rattle.cc_call.specs.Call.{IsUnitOn}
use Rattle.cc_call.proofs.calling.call.Goals.{in-Ok-run_words_within, in-Err-run_words_within}
use Rattle.cc_call.proofs.calling.call.Goals as goal

pub returns-after-run_words_within-clause-run : goal.returns-after-run_words_within-clause-run
returns-after-run_words_within-clause-run g c =
    let D = g.D.Disk in
    let found : IsTrue D.honest → IsUnitOn (D.seen c.args.disk) c.args.name.now c.in-Ok.unit.value = rw c.in-Ok.is at c.unit_on-found.ensures.found in
    let same : c.deref.result.now ≡ c.in-Ok.unit.value = c.deref.ensures in
    let kept = subst (λ (unit : StoredUnit). IsTrue D.honest → IsUnitOn (D.seen c.args.disk) c.args.name.now unit) (sym same) found in
    elim c.match-run_words_within.branch [
      | in-Ok-run_words_within w ↦ rw w.run-is (c.deref.result.now, kept, w.in-Ok-run_words_within.ensures)
      | in-Err-run_words_within w ↦ rw w.run-is tt
    ]
