-- One more object after a call.
use Rattle.std.proofs.Common.{◌≡◌, ◌+◌, ◌<◌, ◌≤◌, ◌⊎◌, inl, inr, ◌++◌, ◌∙◌, ◌∷◌, [], List, length, drop, sym, ap, append-nil, arith}
use Rattle.std.specs.Prelude.{if◌then◌else◌}
use Rattle.cc_range.specs.declared.range.Range.{Range}
use Rattle.cc_range_table.specs.Table.{at, is_written}
use Rattle.cc_range_table.specs.Inductive.{after_changes}
use Rattle.cc_range_check.proofs.Lists.{one_more, changed_more, all_changed}
use Rattle.cc_range_check.proofs.ranges.after_changes.Goals as goal

pub loop-i-preserved : goal.loop-i-preserved
loop-i-preserved c =
    let ws = c.args.writes.now in
    let rs = c.args.before.now in
    let ts = c.args.table.now in
    let i = c.loop-i.i in
    let a = c.shorter.ensures in
    let b = c.shorter-i-end.ensures in
    let t = c.loop-i-test.true in
    one_more c.loop-i.all.items c.push.new.self.items (if is_written ws i then at ts i else at rs i) (after_changes (drop i ws) (drop i rs) (drop i ts)) (after_changes (drop (i + 1) ws) (drop (i + 1) rs) (drop (i + 1) ts)) (after_changes ws rs ts)
    (c.in_ok-push.ensures.items ∙ ap (λ (r : Range). c.loop-i.all.items ++ r ∷ []) c.after_change.ensures)
    (changed_more ws rs ts i (omega (arith, t, a.first, b.first)) (omega (arith, t, a.second, b.first)) (omega (arith, t, b.second))) c.loop-i.invariant

pub returns : goal.returns
returns c =
    let ws = c.args.writes.now in
    let rs = c.args.before.now in
    let ts = c.args.table.now in
    let i = c.loop-i.i in
    let f = c.loop-i-test.false in
    let items = c.loop-i.all.items in
    let past : (length ws ≤ i) ⊎ ((length rs ≤ i) ⊎ (length ts ≤ i)) =
    elim c.shorter-i-end.ensures.one [
      | inl e ↦ elim c.shorter.ensures.one [ inl d ↦ inl (omega (arith, d, e, f)) | inr d ↦ inr (inl (omega (arith, d, e, f))) ]
      | inr e ↦ inr (inr (omega (arith, e, f)))
    ] in
    sym (append-nil items) ∙ ap (λ (l : List Range). items ++ l) (sym (all_changed ws rs ts i past)) ∙ c.loop-i.invariant
