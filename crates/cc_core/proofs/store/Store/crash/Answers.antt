-- A crash keeps the size of the disk.
use Rattle.std.proofs.Common.{◌≡◌, sym, ap, subst, ◌∙◌, length}
use Rattle.cc_journal.specs.Format.{IsArea}
use Rattle.cc_core.proofs.Held.{length-crashed}
use Rattle.cc_core.proofs.store.Store.crash.Goals as goal

pub invariant_of-self : goal.invariant_of-self
invariant_of-self c =
    let same : length c.in_ok-self-inside.field-0.cells ≡ length c.self.inside.disk.cells = ap length c.in_ok-self-inside.ensures.cells ∙ length-crashed c.self.inside.disk.cells c.args.choice.now in
    (subst (λ n. IsArea n c.self.inside.area) (sym same) c.self.invariant.0, c.self.invariant.1)
