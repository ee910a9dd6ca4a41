-- At first nothing is chosen, and each name adds its unit.
use Rattle.std.proofs.Common.{◌≡◌, ◌∙◌, ℕ, List, IsTrue, Some, sym, ap, subst, arith}
use Rattle.std.specs.Arc.{arc_value}
use Rattle.std.specs.Ordering.{nat_cmp}
use Rattle.std.specs.Cmp.Lexicographic.{slice_cmp}
use Rattle.std.specs.FinMap as map
use Rattle.std.proofs.lemmas.List.Elements.{All-more}
use Rattle.cc_library.specs.Apply.{Units}
use Rattle.cc_copy.proofs.Chosen.{has, one_more}
use Rattle.cc_copy.proofs.choosing.choose.Goals as goal

pub loop-i-init : goal.loop-i-init
loop-i-init c = record {
  there = λ k d less. absurd (omega arith);
  chosen = λ q. ap (λ (m : Units). map.get m q) c.new-chosen.ensures ∙ map.get-empty (slice_cmp nat_cmp) q;
}

pub loop-i-preserved : goal.loop-i-preserved
loop-i-preserved c =
    let units = c.args.units.now in
    let names = c.args.names.now in
    let i = c.loop-i.i in
    let name = c.index-names-i.result in
    let unit = arc_value c.in-Some.unit.now in
    let found : map.get units name ≡ Some unit = sym c.in-Some.ensures in
    record {
      there = All-more (λ (n : List ℕ). IsTrue (map.contains_key units n)) names i name c.loop-i-test.true c.loop-i.invariant.there (subst (λ (n : List ℕ). IsTrue (map.contains_key units n)) c.index-names-i.is (has units name unit found));
      chosen = λ q. one_more units c.loop-i.chosen c.add.new.self names i q name unit c.loop-i-test.true c.index-names-i.is c.in-Ok.ensures.ok found (c.loop-i.invariant.chosen q);
    }
