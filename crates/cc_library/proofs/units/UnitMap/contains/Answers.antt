-- A key is in the map of entries exactly if it is in the finite map.
use Rattle.std.proofs.Common.{sym, ap, ◌∙◌}
use Rattle.std.specs.Prelude.{is_some}
use Rattle.std.specs.Cmp.Lexicographic.{nat_list_cmp_total}
use Rattle.std.specs.FinMap as map
use Rattle.cc_library.proofs.Tables.{get-map}
use Rattle.cc_library.proofs.units.UnitMap.contains.Goals as goal

pub returns : goal.returns
returns c =
    c.contains_key.ensures ∙ ap is_some (sym (get-map nat_list_cmp_total c.self.inside.units c.args.name.now))
    ∙ ap (λ m. map.contains_key m c.args.name.now) c.self.view_is
