-- What has been written, and what will be written for the rest, is the whole.
use Rattle.std.proofs.Common.{◌≡◌, ◌++◌, drop}
use Rattle.cc_wide_text.specs.Plain.{plain, plain_from}
use Rattle.cc_wide_text.proofs.plain.plain.Given as goal

abbrev pub invariant-loop-i : goal.invariant-loop-i
invariant-loop-i l = l.written.items ++ plain_from l.state (drop l.i l.text) ≡ plain l.text
