-- No byte so far is a space or a newline.
use Rattle.std.specs.Prelude.{◌≢◌, All, take}
use Rattle.cc_short.proofs.script.is_name.Given as goal

abbrev pub invariant-loop-i : goal.invariant-loop-i
invariant-loop-i l = All (λ byte. (byte ≢ 32) × (byte ≢ 10)) (take l.i l.name)
