-- Removing an entry is a removal from the finite map, and returns the unit that was there.
use Rattle.std.proofs.Common.{ap, sym, ◌∙◌}
use Rattle.std.specs.Prelude.{is_some}
use Rattle.std.specs.Cmp.Lexicographic.{nat_list_cmp_total}
use Rattle.std.specs.FinMap as map
use Rattle.cc_library.proofs.Tables.{get-map, remove-map}
use Rattle.cc_library.proofs.units.UnitMap.take.Goals as goal

pub returns-clause-taken : goal.returns-clause-taken
returns-clause-taken c =
    remove-map nat_list_cmp_total (map.slice_cmp-IsAntisymmetric map.nat_cmp-IsAntisymmetric) c.self.inside.units c.remove-old.new.self c.args.name.now c.remove-old.ensures.updates.0
    ∙ ap (λ m. map.remove m c.args.name.now) c.self.view_is

pub returns-clause-had : goal.returns-clause-had
returns-clause-had c =
    c.is_some.ensures ∙ ap is_some (c.remove-old.ensures.value ∙ sym (get-map nat_list_cmp_total c.self.inside.units c.args.name.now)) ∙ ap (λ m. map.contains_key m c.args.name.now) c.self.view_is
