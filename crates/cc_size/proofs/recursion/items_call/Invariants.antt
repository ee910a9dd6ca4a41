use Rattle.std.proofs.Common.{◌≡◌, drop, false}
use Rattle.std.specs.Prelude.{get_or}
use Rattle.cc_size.specs.internal.Reached.{items_call}
use Rattle.cc_size.proofs.recursion.items_call.Given as goal

-- no item so far calls a function in the table
abbrev pub invariant-loop-item : goal.invariant-loop-item
invariant-loop-item l = items_call (λ g. get_or l.table g false) (drop l.item-index l.items) ≡ items_call (λ g. get_or l.table g false) l.items
