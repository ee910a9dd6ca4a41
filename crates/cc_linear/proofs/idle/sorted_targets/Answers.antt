use Rattle.std.proofs.Common.{subst, arith}
use Rattle.std.specs.List.Sorted.{IsPermutation}
use Rattle.std.proofs.lemmas.List.Sorted.{Contains-permutation, IsPermutation-sym, IsNonDecreasingBy-from_sort}
use Rattle.cc_linear.specs.Targets.{targets}
use Rattle.cc_linear.proofs.WithoutLabels.{all_put}
use Rattle.cc_linear.proofs.idle.sorted_targets.Goals as goal

pub returns-clause-same : goal.returns-clause-same
returns-clause-same c =
    let items = c.args.items.now in
    let led = c.sort_unstable.new.self.items in
    let all = all_put c.loop-item.led.items items c.loop-item.item-index (let z = c.loop-item-test.false in omega arith) c.loop-item.invariant in
    let moved : IsPermutation (targets items) led = subst (λ xs. IsPermutation xs led) all c.sort_unstable.ensures.permutation in
    λ l. (Contains-permutation led (targets items) l (IsPermutation-sym (targets items) led moved), Contains-permutation (targets items) led l moved)

pub returns-clause-rising : goal.returns-clause-rising
returns-clause-rising c =
    let up = IsNonDecreasingBy-from_sort (λ x. x) c.sort_unstable.new.self.items c.sort_unstable.ensures.sorted in
    λ i j le below. up i j 0 le below
