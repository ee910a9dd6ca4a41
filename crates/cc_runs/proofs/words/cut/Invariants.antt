-- No byte so far is a space.
use Rattle.std.specs.Prelude.{◌≡◌, ◌==◌, false, All, take}
use Rattle.cc_runs.proofs.words.cut.Given as goal

abbrev pub invariant-loop-i : goal.invariant-loop-i
invariant-loop-i l = All (λ b. (b == 32) ≡ false) (take l.i l.line)
