use Rattle.std.proofs.Common.{◌≡◌, ◌++◌, drop}
use Rattle.cc_guard.specs.Guard.{joined}
use Rattle.cc_guard.proofs.heads.joined.Given as goal

-- the bounds so far, followed by those for the rest, are the bounds for all
abbrev pub invariant-loop-limit : goal.invariant-loop-limit
invariant-loop-limit l = l.limits.items ++ joined (drop l.limit-index l.one) l.other ≡ joined l.one l.other
