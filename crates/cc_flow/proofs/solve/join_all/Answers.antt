-- Each turn joins the facts of one more node.
use Rattle.std.proofs.Common.{◌≡◌, suc, ◌-◌, ◌<◌, length, sym, ap, ◌∙◌, subst, get_or, drop, ◌∷◌, arith, drop-cons}
use Rattle.std.proofs.lemmas.List.{get_or_read}
use Rattle.cc_flow.specs.Lattice.{Equivalent}
use Rattle.cc_flow.specs.Flow.{facts_at, joined}
use Rattle.cc_flow.proofs.Joins.{lub_more}
use Rattle.cc_flow.proofs.solve.join_all.Goals as goal

pub loop-n-preserved : goal.loop-n-preserved
loop-n-preserved g c =
    let s = c.args.nodes.now in
    let n = c.loop-n.n in
    let f = g.F.Facts in
    let here : n - 1 < length s = omega arith in
    let again : suc (n - 1) ≡ n = omega arith in
    let e : drop (n - 1) s ≡ get_or s (n - 1) 0 ∷ drop n s = drop-cons s (n - 1) 0 here ∙ ap (λ k. get_or s (n - 1) 0 ∷ drop k s) again in
    let within : get_or s (n - 1) 0 < length c.args.facts.now = c.requires (n - 1) 0 here in
    let read : c.index-facts-nodes.result ≡ facts_at f.bottom c.args.facts.now (get_or s (n - 1) 0) = get_or_read c.args.facts.now (get_or s (n - 1) 0) c.index-facts-nodes.result within c.index-facts-nodes.is f.bottom in
    let more = lub_more f.below f.bottom f.lub g.met.F.Facts.laws c.join.new.self c.loop-n.behind (joined f.bottom f.lub (facts_at f.bottom c.args.facts.now) (drop n s)) c.index-facts-nodes.result c.in_ok-join.ensures.joined c.loop-n.invariant.so_far in
    let more' = subst (λ x. Equivalent f.below c.join.new.self (f.lub x (joined f.bottom f.lub (facts_at f.bottom c.args.facts.now) (drop n s)))) read more in
    record {
      within = omega arith;
      so_far = subst (λ xs. Equivalent f.below c.join.new.self (joined f.bottom f.lub (facts_at f.bottom c.args.facts.now) xs)) (sym e) more';
    }
