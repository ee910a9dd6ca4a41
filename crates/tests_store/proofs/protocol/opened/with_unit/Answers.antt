-- The added unit is that of a piece, and the type of pieces keeps that it is right.
use Rattle.std.proofs.Common.{◌≡◌, sym, ap, subst, ◌∙◌}
use Rattle.std.specs.Arc.{arc_value}
use Rattle.cc_unit.specs.declared.unit.StoredUnit.{StoredUnit}
use Rattle.cc_library.specs.declared.command.Change.TheVariants as command
use Rattle.cc_core.specs.Run.{EachUnit}
use Rattle.tests_store.specs.Builds.{Seen, is_right}
use Rattle.tests_store.proofs.protocol.opened.with_unit.Goals as goal

pub returns-in-Ok-clause-right : goal.returns-in-Ok-clause-right
returns-in-Ok-clause-right c =
    let unit : StoredUnit = arc_value c.in_ok-unit.unit in
    let same : unit ≡ c.piece.inside.unit = c.in_ok-unit.ensures ∙ c.unit.ensures ∙ sym (ap (λ (p : Seen). p.0) c.piece.view_is) in
    subst (EachUnit is_right) (sym (ap (λ v. v.units) c.in-Ok.ensures.changed.leaves))
    (c.units_law.ensures.right c.args.library.units (command.Add c.in_ok-name.name unit) c.requires (subst is_right (sym same) c.piece.invariant))
