-- Inserting an entry is an insertion into the finite map, and returns the unit that was there.
use Rattle.std.proofs.Common.{ap, sym, ◌∙◌}
use Rattle.std.specs.Prelude.{is_some}
use Rattle.std.specs.Cmp.Lexicographic.{nat_list_cmp_total}
use Rattle.std.specs.FinMap as map
use Rattle.cc_library.proofs.Tables.{get-map, insert-map}
use Rattle.cc_library.proofs.units.UnitMap.set.Goals as goal

pub returns-clause-set : goal.returns-clause-set
returns-clause-set c =
    insert-map nat_list_cmp_total (map.slice_cmp-IsAntisymmetric map.nat_cmp-IsAntisymmetric) c.self.inside.units c.insert.new.self c.args.name c.args.unit c.in_ok-old.ensures.updates.0
    ∙ ap (λ m. map.insert m c.args.name c.args.unit) c.self.view_is

pub returns-clause-had : goal.returns-clause-had
returns-clause-had c =
    c.is_some.ensures ∙ ap is_some (c.in_ok-old.ensures.old ∙ sym (get-map nat_list_cmp_total c.self.inside.units c.args.name)) ∙ ap (λ m. map.contains_key m c.args.name) c.self.view_is
