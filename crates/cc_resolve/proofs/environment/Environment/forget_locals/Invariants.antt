use Rattle.std.proofs.Common.{◌≡◌, length}
use Rattle.cc_resolve.proofs.environment.Environment.forget_locals.Given as goal

-- only the locals change
abbrev pub invariant-loop-self : goal.invariant-loop-self
invariant-loop-self l = (l.self-inside.visible ≡ l.initial.self-inside.visible) × (l.self-inside.layout ≡ l.initial.self-inside.layout)

abbrev pub decreases-loop-self : goal.decreases-loop-self
decreases-loop-self l = length l.self-inside.locals
