use Rattle.std.proofs.Common.{◌≡◌, ◌++◌, drop}
use Rattle.cc_guard.specs.Guard.{still}
use Rattle.cc_guard.proofs.heads.still.Given as goal

-- the bounds so far, followed by those for the rest, are the bounds for all
abbrev pub invariant-loop-limit : goal.invariant-loop-limit
invariant-loop-limit l = l.limits.items ++ still l.after (drop l.limit-index l.head) ≡ still l.after l.head
