-- One more object is compared.
use Rattle.std.proofs.Common.{◌+◌, ◌∙◌, drop, sym, ap}
use Rattle.std.specs.Prelude.{◌&&◌, ◌||◌, not}
use Rattle.cc_range_table.specs.Table.{is_written}
use Rattle.cc_range_table.specs.Inductive.{changes_within}
use Rattle.cc_range_check.proofs.Lists.{held_true, held_false, changes_more}
use Rattle.cc_range_check.proofs.ranges.changes_within.Goals as goal
use Rattle.cc_range_check.proofs.ranges.changes_within.Goals.{then-within, else-within}

pub loop-i-preserved : goal.loop-i-preserved
loop-i-preserved c =
    let ws = c.args.first.now in
    let vs = c.args.second.now in
    let i = c.loop-i.i in
    let a = c.loop-i.within in
    let b = not (is_written ws i) || is_written vs i in
    let rest = changes_within (drop (i + 1) ws) (drop (i + 1) vs) in
    let e = ap (λ k. a && k) (changes_more ws vs i c.loop-i-test.true) in
    elim c.if-within.branch [
      | then-within w ↦ held_true a b rest (changes_within ws vs) c.if-within.within (w.within-is ∙ w.changes_within_at-within.ensures) w.if-within.true (sym e ∙ c.loop-i.invariant)
      | else-within w ↦ held_false a b rest (changes_within ws vs) c.if-within.within (w.within-is ∙ w.if-within.false) w.if-within.false (sym e ∙ c.loop-i.invariant)
    ]
