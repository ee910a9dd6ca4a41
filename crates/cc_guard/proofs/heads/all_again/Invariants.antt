use Rattle.std.proofs.Common.{◌≡◌, drop}
use Rattle.std.specs.Prelude.{◌&&◌}
use Rattle.cc_guard.specs.Guard.{all_again}
use Rattle.cc_guard.proofs.heads.all_again.Given as goal

-- all bounds are known again if those so far are and those of the rest are
abbrev pub invariant-loop-limit : goal.invariant-loop-limit
invariant-loop-limit l = (l.again && all_again l.after (drop l.limit-index l.head)) ≡ all_again l.after l.head
