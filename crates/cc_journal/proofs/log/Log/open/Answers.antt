use Rattle.std.proofs.Common.{◌≡◌, List, ℕ, refl, sym, ◌∙◌, subst}
use Rattle.cc_journal.specs.Format.{HoldsAlone}
use Rattle.cc_journal.proofs.Kept.{kept_alone}
use Rattle.cc_journal.proofs.log.Log.open.Goals as goal

pub returns-in-Ok-clause-kept : goal.returns-in-Ok-clause-kept
returns-in-Ok-clause-kept g c = λ h image now.
    let told_is : c.told.result.items ≡ c.in-Ok.found.bodies.items = c.told.ensures ∙ c.deref.ensures.value in
    subst (λ (l : List (List ℕ)). HoldsAlone image c.in-Ok.found.area l) (sym told_is) (kept_alone _ _ _ (g.D.Disk.may_leave c.find_records.new.disk) _ _ _ _ _ c.in-Ok.ensures.kept h refl image now)
