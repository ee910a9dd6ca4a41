use Rattle.std.proofs.Common.{arith, sym, ap, ◌∙◌, subst, ◌≤◌, length, get_or}
use Rattle.std.proofs.lemmas.List.{get_or_default}
use Rattle.cc_linear.specs.internal.Reached.{Found, Leaves}
use Rattle.cc_linear.proofs.Finding.{all_false, found_none, closed_more, still_found, grew_long}
use Rattle.cc_linear.proofs.tracing.reached.reached.Goals as goal

pub find-requires-clause-found : goal.find-requires-clause-found
find-requires-clause-found c = subst (Found c.in_ok-seen.seen.items) (sym c.in_ok-found.ensures.items) (found_none c.in_ok-seen.seen.items (all_false (length c.args.graph.now) c.in_ok-seen.seen.items (c.in_ok-seen.ensures.items_if_clones_equal (λ y e. e))))

pub loop-at-preserved : goal.loop-at-preserved
loop-at-preserved c =
    let old = c.loop-at.found.items in
    let new = c.find_ways.new.found.items in
    let grew = c.in_ok-find_ways.ensures.grew in
    let more : length old ≤ length new = grew_long old new grew in
    record {
      long = c.in_ok-find_ways.ensures.long ∙ c.loop-at.invariant.long;
      found = c.in_ok-find_ways.ensures.found;
      entry = still_found old new c.args.entry grew c.loop-at.invariant.entry;
      closed = closed_more c.args.graph.now old new c.loop-at.at _ (let t = c.loop-at-test.true in let e = c.len.ensures in omega arith) grew (ap (λ x. get_or c.args.graph.now x Leaves) (c.index.ensures ∙ get_or_default old c.loop-at.at c.index.result.now 0 (let t = c.loop-at-test.true in let e = c.len.ensures in omega arith))) c.in_ok-find_ways.ensures.there c.loop-at.invariant.closed;
      within = omega arith;
    }
