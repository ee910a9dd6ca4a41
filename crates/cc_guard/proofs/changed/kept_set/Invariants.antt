use Rattle.std.proofs.Common.{◌≡◌, ◌++◌, drop}
use Rattle.cc_cminor_language.specs.Code.{statement_of}
use Rattle.cc_guard.specs.Guard.{unset, kept}
use Rattle.cc_guard.proofs.changed.kept_set.Given as goal

-- the bounds so far, followed by those kept from the rest, are all the bounds that are kept
abbrev pub invariant-loop-limit : goal.invariant-loop-limit
invariant-loop-limit l = l.limits.items ++ kept l.first (unset (statement_of l.s)) (drop l.limit-index l.known) ≡ kept l.first (unset (statement_of l.s)) l.known
