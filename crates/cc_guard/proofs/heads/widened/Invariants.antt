use Rattle.std.proofs.Common.{◌≡◌, ◌++◌, drop}
use Rattle.cc_guard.specs.Guard.{widened}
use Rattle.cc_guard.proofs.heads.widened.Given as goal

-- the bounds so far, followed by those for the rest, are the bounds for all
abbrev pub invariant-loop-limit : goal.invariant-loop-limit
invariant-loop-limit l = l.limits.items ++ widened l.after (drop l.limit-index l.before) ≡ widened l.after l.before
