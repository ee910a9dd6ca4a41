use Rattle.std.proofs.Common.{◌≡◌, drop}
use Rattle.std.specs.Option.{option_or}
use Rattle.cc_guard.specs.Guard.{most_in}
use Rattle.cc_guard.proofs.known.most_in.Given as goal

-- the variable's last bound is its last one in the rest of the list; if it has none there, it is the one
-- found so far
abbrev pub invariant-loop-limit : goal.invariant-loop-limit
invariant-loop-limit l = option_or (most_in (drop l.limit-index l.known) l.variable) l.found ≡ most_in l.known l.variable
