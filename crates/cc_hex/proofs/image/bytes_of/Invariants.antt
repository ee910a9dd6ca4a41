-- The bytes so far, with those of the words still to come, are all bytes.
use Rattle.std.proofs.Common.{◌≡◌, ◌*◌, ◌++◌, drop, length}
use Rattle.cc_hex.specs.Contents.{bytes_of_words}
use Rattle.cc_hex.proofs.image.bytes_of.Given as goal

abbrev pub invariant-loop-word : goal.invariant-loop-word
invariant-loop-word l = (l.bytes.items ++ bytes_of_words (drop l.word-index l.words) ≡ bytes_of_words l.words) × (length l.bytes.items ≡ 4 * l.word-index)
