-- An insertion into the map of entries is an insertion into the finite map.
use Rattle.std.proofs.Common.{ap, ◌∙◌}
use Rattle.std.specs.Cmp.{nat_cmp_total}
use Rattle.std.specs.FinMap as map
use Rattle.cc_library.proofs.Tables.{insert-map}
use Rattle.cc_core.proofs.table.Table.put.Goals as goal

pub returns-clause-ok : goal.returns-clause-ok
returns-clause-ok g c =
    insert-map nat_cmp_total map.nat_cmp-IsAntisymmetric c.self.inside.values c.insert.new.self c.args.number c.args.value c.in_ok-insert.ensures.updates.0
    ∙ ap (λ m. map.insert m c.args.number c.args.value) c.self.view_is
