-- A look-up in the map of entries is a look-up in the finite map.
use Rattle.std.proofs.Common.{sym, ap, ◌∙◌, Some}
use Rattle.std.specs.Cmp.Lexicographic.{nat_list_cmp_total}
use Rattle.std.specs.FinMap as map
use Rattle.cc_library.proofs.Tables.{get-map}
use Rattle.cc_library.proofs.units.UnitMap.get.Goals as goal

pub returns-in-Some : goal.returns-in-Some
returns-in-Some c =
    ap Some c.stored.ensures ∙ c.in-Some.ensures.value
    ∙ sym (get-map nat_list_cmp_total c.self.inside.units c.args.name.now)
    ∙ ap (λ m. map.get m c.args.name.now) c.self.view_is

pub returns-in-None : goal.returns-in-None
returns-in-None c =
    c.in-None.ensures.value
    ∙ sym (get-map nat_list_cmp_total c.self.inside.units c.args.name.now)
    ∙ ap (λ m. map.get m c.args.name.now) c.self.view_is
