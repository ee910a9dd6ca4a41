-- The items so far, followed by those still to be emitted, are all the items.
use Rattle.std.proofs.Common.{◌≡◌, ◌++◌, drop, map}
use Rattle.cc_emit.specs.Function.{shifted}
use Rattle.cc_emit.proofs.emission.put_behind.Given as goal

abbrev pub invariant-loop-item : goal.invariant-loop-item
invariant-loop-item l = l.items.items ++ map (shifted l.before) (drop l.item-index l.rest) ≡ l.initial.items.items ++ map (shifted l.before) l.rest
