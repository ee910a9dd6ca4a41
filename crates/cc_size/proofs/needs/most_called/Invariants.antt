use Rattle.std.proofs.Common.{◌≡◌, drop}
use Rattle.std.specs.Prelude.{get_or}
use Rattle.cc_link.specs.Stack.{larger, most_called}
use Rattle.cc_size.proofs.needs.most_called.Given as goal

-- the largest entry so far or among the items that are left is the largest of all
abbrev pub invariant-loop-item : goal.invariant-loop-item
invariant-loop-item l = larger l.most (most_called (λ g. get_or l.table g 0) (drop l.item-index l.items)) ≡ most_called (λ g. get_or l.table g 0) l.items
