use Rattle.std.proofs.Common.{◌≡◌, List, ℕ, false, IsTrue, subst}
use Rattle.cc_journal.specs.Format.{HoldsAlone}
use Rattle.cc_journal.specs.Journal.{View}
use Rattle.cc_journal.proofs.Kept.{kept_alone}
use Rattle.cc_journal.proofs.log.Log.is_closed.Goals as goal

pub returns-clause-kept : goal.returns-clause-kept
returns-clause-kept g c =
    subst (λ (v : View g.row.D.Denot). IsTrue g.D.Disk.honest → v.closed ≡ false → (image : List ℕ) → g.D.Disk.may_leave v.disk image → HoldsAlone image v.area v.bodies) c.self.view_is
    (λ h not_closed image now. kept_alone _ _ _ (g.D.Disk.may_leave c.self.inside.disk) _ _ _ _ _ c.self.invariant h not_closed image now)
