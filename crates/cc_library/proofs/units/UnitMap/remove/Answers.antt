-- Removing an entry is a removal from the finite map.
use Rattle.std.proofs.Common.{ap, ◌∙◌}
use Rattle.std.specs.Cmp.Lexicographic.{nat_list_cmp_total}
use Rattle.std.specs.FinMap as map
use Rattle.cc_library.proofs.Tables.{remove-map}
use Rattle.cc_library.proofs.units.UnitMap.remove.Goals as goal

pub returns : goal.returns
returns c =
    remove-map nat_list_cmp_total (map.slice_cmp-IsAntisymmetric map.nat_cmp-IsAntisymmetric) c.self.inside.units c.remove.new.self c.args.name.now c.remove.ensures.updates.0
    ∙ ap (λ m. map.remove m c.args.name.now) c.self.view_is
