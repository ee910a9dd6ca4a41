use Rattle.std.proofs.Common.{◌≡◌, drop}
use Rattle.std.specs.Prelude.{◌==◌}
use Rattle.cc_size.specs.internal.Reached.{items_call}
use Rattle.cc_size.proofs.recursion.call.Given as goal

-- no item so far calls the function
abbrev pub invariant-loop-item : goal.invariant-loop-item
invariant-loop-item l = items_call (λ g. g == l.function) (drop l.item-index l.items) ≡ items_call (λ g. g == l.function) l.items
