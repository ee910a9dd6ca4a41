-- The registers so far were added.
use Rattle.std.proofs.Common.{◌≡◌, ◌||◌, ℕ, take}
use Rattle.cc_rtl_language.specs.Live.{among}
use Rattle.cc_bits.specs.Rows.{holds}
use Rattle.cc_live.proofs.transfer.add_all.Given as goal

abbrev pub invariant-loop-register : goal.invariant-loop-register
invariant-loop-register l = (r : ℕ) → holds l.before r ≡ (among (take l.register-index l.registers) r || holds l.initial.before r)
