use Rattle.std.proofs.Common.{◌≡◌, ◌≤◌, length, drop}
use Rattle.cc_scope.proofs.scope.Scope.close.Given as goal

-- what is left of the innermost scope precedes the names of the scopes around it
abbrev pub invariant-loop-self : goal.invariant-loop-self
invariant-loop-self l = record {
  fits : l.self-inside.inner ≤ length l.self-inside.bindings;
  outer : drop l.self-inside.inner l.self-inside.bindings ≡ drop l.initial.self-inside.inner l.initial.self-inside.bindings;
}

abbrev pub decreases-loop-self : goal.decreases-loop-self
decreases-loop-self l = l.self-inside.inner
