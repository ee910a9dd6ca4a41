-- One more join is appended.
use Rattle.std.proofs.Common.{◌≡◌, ◌+◌, ◌≤◌, ◌⊎◌, inl, inr, ◌++◌, ◌∙◌, ◌∷◌, [], List, length, drop, sym, ap, append-nil, arith}
use Rattle.cc_range.specs.declared.range.Range.{Range}
use Rattle.cc_range.specs.Range.{joined}
use Rattle.cc_range_table.specs.Table.{at}
use Rattle.cc_range_table.specs.Inductive.{joined_all}
use Rattle.cc_range_check.proofs.Lists.{one_more, joined_more, all_joined}
use Rattle.cc_range_check.proofs.ranges.joined_all.Goals as goal

pub loop-i-preserved : goal.loop-i-preserved
loop-i-preserved c =
    let rs = c.args.first.now in
    let ss = c.args.second.now in
    let i = c.loop-i.i in
    one_more c.loop-i.all.items c.push.new.self.items (joined (at rs i) (at ss i)) (joined_all (drop i rs) (drop i ss)) (joined_all (drop (i + 1) rs) (drop (i + 1) ss)) (joined_all rs ss)
    (c.in_ok-push.ensures.items ∙ ap (λ (r : Range). c.loop-i.all.items ++ r ∷ []) c.joined_at.ensures)
    (joined_more rs ss i (omega (arith, c.loop-i-test.true, c.shorter-i-end.ensures.first)) (omega (arith, c.loop-i-test.true, c.shorter-i-end.ensures.second))) c.loop-i.invariant

pub returns : goal.returns
returns c =
    let rs = c.args.first.now in
    let ss = c.args.second.now in
    let i = c.loop-i.i in
    let items = c.loop-i.all.items in
    let past : (length rs ≤ i) ⊎ (length ss ≤ i) = elim c.shorter-i-end.ensures.one [ inl e ↦ inl (omega (arith, e, c.loop-i-test.false)) | inr e ↦ inr (omega (arith, e, c.loop-i-test.false)) ] in
    sym (append-nil items) ∙ ap (λ (l : List Range). items ++ l) (sym (all_joined rs ss i past)) ∙ c.loop-i.invariant
