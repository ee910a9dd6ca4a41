-- One more range is compared.
use Rattle.std.proofs.Common.{◌+◌, ◌∙◌, drop, sym, ap}
use Rattle.std.specs.Prelude.{◌&&◌}
use Rattle.cc_range.specs.Range.{is_within}
use Rattle.cc_range_table.specs.Table.{at}
use Rattle.cc_range_table.specs.Inductive.{are_within}
use Rattle.cc_range_check.proofs.Lists.{held_true, held_false, within_more}
use Rattle.cc_range_check.proofs.ranges.are_within.Goals as goal
use Rattle.cc_range_check.proofs.ranges.are_within.Goals.{then-within, else-within}

pub loop-i-preserved : goal.loop-i-preserved
loop-i-preserved c =
    let rs = c.args.first.now in
    let ss = c.args.second.now in
    let i = c.loop-i.i in
    let a = c.loop-i.within in
    let b = is_within (at rs i) (at ss i) in
    let rest = are_within (drop (i + 1) rs) (drop (i + 1) ss) in
    let e = ap (λ k. a && k) (within_more rs ss i c.loop-i-test.true) in
    elim c.if-within.branch [
      | then-within w ↦ held_true a b rest (are_within rs ss) c.if-within.within (w.within-is ∙ w.is_within_at-within.ensures) w.if-within.true (sym e ∙ c.loop-i.invariant)
      | else-within w ↦ held_false a b rest (are_within rs ss) c.if-within.within (w.within-is ∙ w.if-within.false) w.if-within.false (sym e ∙ c.loop-i.invariant)
    ]
