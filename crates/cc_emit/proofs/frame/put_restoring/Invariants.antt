-- The items so far, followed by those still to be emitted, are all the items.
use Rattle.std.proofs.Common.{◌≡◌, ◌<◌, ◌+◌, ◌*◌, ◌++◌, drop}
use Rattle.std.specs.List.{AllByRecursion}
use Rattle.cc_emit.specs.Emission.{restoring}
use Rattle.cc_emit.proofs.frame.put_restoring.Given as goal

abbrev pub invariant-loop-register : goal.invariant-loop-register
invariant-loop-register l =
    (l.at ≡ l.offset + 4 * l.register-index)
    × (l.items.items ++ restoring l.at (drop l.register-index l.saved) ≡ l.initial.items.items ++ restoring l.offset l.saved)
    × AllByRecursion (λ r. r < 32) (drop l.register-index l.saved)
