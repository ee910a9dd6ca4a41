-- Inserting an entry is an insertion into the finite map, and only an absent key needs memory.
use Rattle.std.proofs.Common.{ap, ◌∙◌}
use Rattle.std.specs.Prelude.{is_some}
use Rattle.std.specs.Cmp.Lexicographic.{nat_list_cmp_total}
use Rattle.std.specs.FinMap as map
use Rattle.cc_library.proofs.Tables.{get-map, insert-map}
use Rattle.cc_library.proofs.units.UnitMap.put.Goals as goal

pub returns-clause-ok : goal.returns-clause-ok
returns-clause-ok c =
    insert-map nat_list_cmp_total (map.slice_cmp-IsAntisymmetric map.nat_cmp-IsAntisymmetric) c.self.inside.units c.insert.new.self c.args.name c.args.unit c.in_ok-insert.ensures.updates.0
    ∙ ap (λ m. map.insert m c.args.name c.args.unit) c.self.view_is

pub returns-in_err-insert-clause-replaces : goal.returns-in_err-insert-clause-replaces
returns-in_err-insert-clause-replaces c = λ present.
    absurd (let absent = ap is_some (get-map nat_list_cmp_total c.self.inside.units c.args.name ∙ c.in_err-insert.ensures.absent) in
    let same = ap (λ m. map.contains_key m c.args.name) c.self.view_is in
    cc (present, absent, same))
