-- A look-up in the map of entries is a look-up in the finite map.
use Rattle.std.proofs.Common.{sym, ap, ◌∙◌}
use Rattle.std.specs.Cmp.{nat_cmp_total}
use Rattle.std.specs.FinMap as map
use Rattle.cc_library.proofs.Tables.{get-map}
use Rattle.cc_core.proofs.table.Table.get.Goals as goal

pub returns : goal.returns
returns g c =
    c.get.ensures.value ∙ sym (get-map nat_cmp_total c.self.inside.values c.args.number)
    ∙ ap (λ m. map.get m c.args.number) c.self.view_is
