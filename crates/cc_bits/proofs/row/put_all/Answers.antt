-- One more word is joined in.
use Rattle.std.proofs.Common.{◌+◌, ◌<◌, get_or, length, refl, ap, subst, sym, arith, List, ℕ}
use Rattle.cc_bits.proofs.Bits.{PutFirst, one_put}
use Rattle.cc_bits.proofs.Written.{written}
use Rattle.cc_bits.proofs.row.put_all.Goals as goal

pub loop-at-preserved : goal.loop-at-preserved
loop-at-preserved c =
    let at = c.loop-at.at in
    let into = c.loop-at.into.items in
    let lt : at < length into = (let l = c.loop-at.invariant.long in let r = c.requires in let t = c.loop-at-test.true in omega (arith, l, r, t)) in
    let same = c.deref_mut.ensures.value in
    subst (λ (x : List ℕ). PutFirst (at + 1) c.args.into.now.items c.args.from.now x) (sym (written c.loop-at.into c.deref_mut.result.now at _ same))
    (one_put c.args.into.now.items c.args.from.now into at (get_or c.deref_mut.result.now at 0) (get_or c.args.from.now at 0)
    (ap (λ (x : List ℕ). get_or x at 0) same) refl lt c.loop-at.invariant)
