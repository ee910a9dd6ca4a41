-- No byte so far is a space.
use Rattle.std.specs.Prelude.{◌≡◌, ◌==◌, false, All, take}
use Rattle.cc_script.proofs.command.cut.Given as goal

abbrev pub invariant-loop-i : goal.invariant-loop-i
invariant-loop-i l = All (λ b. (b == 32) ≡ false) (take l.i l.line)
