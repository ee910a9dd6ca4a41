-- The digits so far are the highest ones.
use Rattle.std.proofs.Common.{◌≡◌, ◌-◌, ◌*◌, ◌/◌, ◌^◌, ◌++◌, string_bytes}
use Rattle.cc_rv32.specs.Listing.{hexadecimal}
use Rattle.cc_rv32.proofs.listing.push_hexadecimal.Given as goal

abbrev pub invariant-loop-index : goal.invariant-loop-index
invariant-loop-index l = string_bytes l.text ≡ string_bytes l.initial.text ++ hexadecimal l.index (l.word / 2 ^ (32 - 4 * l.index))
