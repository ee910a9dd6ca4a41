-- A removal from the map of entries is a removal from the finite map.
use Rattle.std.proofs.Common.{ap, ◌∙◌}
use Rattle.std.specs.Cmp.{nat_cmp_total}
use Rattle.std.specs.FinMap as map
use Rattle.cc_library.proofs.Tables.{remove-map}
use Rattle.cc_core.proofs.table.Table.remove.Goals as goal

pub returns : goal.returns
returns g c =
    remove-map nat_cmp_total map.nat_cmp-IsAntisymmetric c.self.inside.values c.remove.new.self c.args.number c.remove.ensures.updates.0
    ∙ ap (λ m. map.remove m c.args.number) c.self.view_is
