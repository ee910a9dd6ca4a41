use Rattle.std.proofs.Common.{◌≡◌, ◌++◌, drop}
use Rattle.cc_journal.proofs.log.told.Given as goal

-- the bodies handed out so far, followed by those that are left, are all the bodies
abbrev pub invariant-loop-body : goal.invariant-loop-body
invariant-loop-body l = l.history.items ++ drop l.body-index l.bodies ≡ l.bodies
