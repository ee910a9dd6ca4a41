-- The lines so far, followed by those of the words still to come, are the listing.
use Rattle.std.proofs.Common.{◌≡◌, ◌+◌, ◌*◌, ◌++◌, drop, string_bytes}
use Rattle.cc_rv32.specs.Listing.{lines_from}
use Rattle.cc_rv32.proofs.listing.listed.Given as goal

abbrev pub invariant-loop-word : goal.invariant-loop-word
invariant-loop-word l = (l.address ≡ 65536 + 4 * l.word-index) × (string_bytes l.text ++ lines_from l.address (drop l.word-index l.code) ≡ lines_from 65536 l.code)
