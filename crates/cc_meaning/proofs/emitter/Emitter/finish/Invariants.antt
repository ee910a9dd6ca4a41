use Rattle.std.proofs.Common.{◌≡◌, ◌++◌, reverse, vec_len}
use Rattle.cc_meaning.proofs.emitter.Emitter.finish.Given as goal

-- the instructions appended so far, followed by those that are left, are all that must be appended
abbrev pub invariant-loop-instruction : goal.invariant-loop-instruction
invariant-loop-instruction l = l.code.items ++ reverse l.self-inside.items.items ≡ l.initial.code.items ++ reverse l.initial.self-inside.items.items

abbrev pub decreases-loop-instruction : goal.decreases-loop-instruction
decreases-loop-instruction l = vec_len l.self-inside.items
